-- The lines of a schedule, and their text.
use Rattle.std.specs.Prelude.{◌≡◌, ◌≢◌, ℕ, ◌+◌, ◌<◌, Bool, true, if◌then◌else◌, List, [], ◌∷◌, ◌++◌, length, map, codes}
use Rattle.world_face.specs.declared.Io.TheVariants.{Done}
use Rattle.world_face.specs.Limits.{most_name, most_to_flow, most_to_link, most_to_udp}
use Rattle.world_face.specs.Journal.{Entry, LinkWrite, TcpWrite, call_of}
use Rattle.replay.specs.declared.CallName.{CallName}
use Rattle.replay.specs.declared.CallName.TheVariants.{Now, Wait, LinkOpen, LinkWrite as NameLinkWrite, TcpWrite as NameTcpWrite, UdpSend, FileLen, FileRead}
use Rattle.replay.specs.Names.{name_of, name_text}
use Rattle.replay.specs.Range.{IsSayable}
use Rattle.replay.specs.Text.{call_text, answer_text}

-- A line: a call and its answer. A star may stand for the call's arguments, and `all` for the count of a write.
-- In their places the entry has what the call that fitted brought, and before that nothing of meaning.
pub record Row : Type 0 where
  pub entry : Entry
  pub starred : Bool
  pub all : Bool

-- how the call stands in the line, and how the answer
abbrev pub said_call : Row → List ℕ
said_call row = if row.starred then name_text (name_of (call_of row.entry)) ++ codes " *" else call_text (call_of row.entry)

abbrev pub said_answer : Row → List ℕ
said_answer row = if row.all then codes "all" else answer_text row.entry

-- a call and its answer, and a line feed
abbrev pub row_text : Row → List ℕ
row_text row = said_call row ++ codes " = " ++ said_answer row ++ 10 ∷ []

-- the text of a schedule's lines, in their order
abbrev pub schedule_text : List Row → List ℕ
schedule_text [] = []
schedule_text (row ∷ rows) = row_text row ++ schedule_text rows

-- a write of which all that was offered was taken
abbrev pub TakesAll : Entry → Type 0
TakesAll (LinkWrite octets answer) = answer ≡ Done (length octets)
TakesAll (TcpWrite socket octets answer) = answer ≡ Done (length octets)
TakesAll _ = ⊥

-- A line can say this: the entry is in range; a star stands for some arguments; and `all` is the answer of a write.
pub record IsReadable (row : Row) : Type 0 where
  pub range : IsSayable row.entry
  pub star : row.starred ≡ true → name_of (call_of row.entry) ≢ Now
  pub all : row.all ≡ true → TakesAll row.entry

abbrev pub AreReadable : List Row → Type 0
AreReadable [] = Unit {0}
AreReadable (row ∷ rows) = IsReadable row × AreReadable rows

abbrev pub entries_of : List Row → List Entry
entries_of rows = map (λ (row : Row). row.entry) rows

-- the text of lines that stand newest first, in the order of their calls
abbrev pub turned_text : List Row → List ℕ
turned_text [] = []
turned_text (row ∷ rows) = turned_text rows ++ row_text row

-- The calls of a trace, which is newest first, fit the lines of a schedule one to one from the first, and this is left.
pub record FitsBefore (past : List Entry) (schedule rest : List ℕ) : Type 0 where
  pub rows : List Row
  pub readable : AreReadable rows
  pub entries : entries_of rows ≡ past
  pub is : schedule ≡ turned_text rows ++ rest

-- whatever is left
pub record Fits (past : List Entry) (schedule : List ℕ) : Type 0 where
  pub rest : List ℕ
  pub before : FitsBefore past schedule rest

-- the room that a star takes, in octets: as much as the arguments of such a call may need; a wait's is that of its 5,155 items
abbrev pub room_of : CallName → ℕ
room_of Wait = 82480
room_of LinkOpen = most_name
room_of NameLinkWrite = most_to_link
room_of NameTcpWrite = most_to_flow
room_of UdpSend = most_to_udp
room_of FileLen = most_name
room_of FileRead = most_name
room_of _ = 0

abbrev pub row_room : Row → ℕ
row_room row = if row.starred then room_of (name_of (call_of row.entry)) else 0

abbrev pub rooms : List Row → ℕ
rooms [] = 0
rooms (row ∷ rows) = row_room row + rooms rows

-- the octets of room that all stars may take: 1 GiB; ours
abbrev pub most_room : ℕ
most_room = 1073741824

-- Each line has a reading, and the stars take more room than they may.
pub record TakesTooMuch (schedule : List ℕ) : Type 0 where
  pub rows : List Row
  pub readable : AreReadable rows
  pub is : schedule ≡ schedule_text rows
  pub over : most_room < rooms rows

-- How a World that answers by a schedule goes on at a call.
use Rattle.std.specs.Prelude.{◌≡◌, ℕ, ◌+◌, ◌<◌, ◌||◌, Bool, true, false, List, length, Option, Some, min, max, slice_get, if◌then◌else◌, [], ◌∷◌}
use Rattle.std.specs.Option.{option_map}
use Rattle.world_face.specs.declared.Io.{Io}
use Rattle.world_face.specs.declared.Io.TheVariants.{Done}
use Rattle.world_face.specs.Journal.{Entry, Now as EntryNow, Wait as EntryWait, LinkOpen as EntryLinkOpen, LinkRead as EntryLinkRead, LinkWrite as EntryLinkWrite, Connect as EntryConnect}
use Rattle.world_face.specs.Journal.{Connected as EntryConnected, Listen as EntryListen, Accept as EntryAccept, TcpRead as EntryTcpRead, TcpWrite as EntryTcpWrite, TcpEnd as EntryTcpEnd}
use Rattle.world_face.specs.Journal.{Close as EntryClose, UdpOpen as EntryUdpOpen, UdpSend as EntryUdpSend, UdpRecv as EntryUdpRecv, FileLen as EntryFileLen, FileRead as EntryFileRead}
use Rattle.world_face.specs.Journal.{Call, CallNow, CallWait, CallLinkOpen, CallLinkRead, CallLinkWrite, CallConnect, CallConnected, CallListen, CallAccept, CallTcpRead, CallTcpWrite}
use Rattle.world_face.specs.Journal.{CallTcpEnd, CallClose, CallUdpOpen, CallUdpSend, CallUdpRecv, CallFileLen, CallFileRead, call_of, Allowed}
use Rattle.world_face.specs.Tells.{Counts}
use Rattle.world_face.specs.Faults.{link_failed, wait_failed, socket_failed, file_failed}
use Rattle.world_face.specs.Limits.{last_count}
use Rattle.replay.specs.Rows.{Row, schedule_text}
use Rattle.replay.specs.Script.{Script, kept_of}
use Rattle.replay.specs.Names.{name_of}
use Rattle.replay.specs.declared.Divergence.{Divergence}
use Rattle.replay.specs.declared.CallName.{CallName}
use Rattle.replay.specs.declared.CallName.TheVariants.{Now, Wait, LinkOpen, LinkRead, LinkWrite, Connect, Connected, Listen, Accept, TcpRead, TcpWrite, TcpEnd, Close, UdpOpen, UdpSend}
use Rattle.replay.specs.declared.CallName.TheVariants.{UdpRecv, FileLen, FileRead}

-- a line of this call: of its name, and with its arguments where no star stands for them
pub record IsOf (row : Row) (call : Call) : Type 0 where
  pub name : name_of (call_of row.entry) ≡ name_of call
  pub same : row.starred ≡ false → call_of row.entry ≡ call

-- what a write answers: that all was taken, or as the line says
abbrev pub wrote : Bool → List ℕ → Io → Io
wrote all octets answer = if all then Done (length octets) else answer

-- a call with the answer of a line of its name
abbrev pub with_answer : Bool → Call → Entry → Entry
with_answer all CallNow (EntryNow moment) = EntryNow moment
with_answer all (CallWait wants timeout) (EntryWait _ _ answer ready) = EntryWait wants timeout answer ready
with_answer all (CallLinkOpen at) (EntryLinkOpen _ answer) = EntryLinkOpen at answer
with_answer all (CallLinkRead asked) (EntryLinkRead _ answer octets) = EntryLinkRead asked answer octets
with_answer all (CallLinkWrite octets) (EntryLinkWrite _ answer) = EntryLinkWrite octets (wrote all octets answer)
with_answer all (CallConnect socket to) (EntryConnect _ _ answer) = EntryConnect socket to answer
with_answer all (CallConnected socket) (EntryConnected _ answer) = EntryConnected socket answer
with_answer all (CallListen socket at) (EntryListen _ _ answer) = EntryListen socket at answer
with_answer all (CallAccept listener socket) (EntryAccept _ _ answer) = EntryAccept listener socket answer
with_answer all (CallTcpRead socket asked) (EntryTcpRead _ _ answer octets) = EntryTcpRead socket asked answer octets
with_answer all (CallTcpWrite socket octets) (EntryTcpWrite _ _ answer) = EntryTcpWrite socket octets (wrote all octets answer)
with_answer all (CallTcpEnd socket) (EntryTcpEnd _ answer) = EntryTcpEnd socket answer
with_answer all (CallClose socket) (EntryClose _) = EntryClose socket
with_answer all (CallUdpOpen socket at) (EntryUdpOpen _ _ answer) = EntryUdpOpen socket at answer
with_answer all (CallUdpSend socket to octets) (EntryUdpSend _ _ _ answer) = EntryUdpSend socket to octets answer
with_answer all (CallUdpRecv socket asked) (EntryUdpRecv _ _ answer octets) = EntryUdpRecv socket asked answer octets
with_answer all (CallFileLen name) (EntryFileLen _ answer) = EntryFileLen name answer
with_answer all (CallFileRead name place asked) (EntryFileRead _ _ _ answer octets) = EntryFileRead name place asked answer octets
with_answer all call e = e

-- what a line makes of a call that it is of
abbrev pub answered : Row → Call → Entry
answered row call = with_answer row.all call row.entry

-- the line stands for this entry, which a World may answer
pub record FitsRow (row : Row) (e : Entry) : Type 0 where
  pub of : IsOf row (call_of e)
  pub is : answered row (call_of e) ≡ e
  pub allowed : Allowed e

-- it is of this call, with an answer that a World may give
pub record Serves (row : Row) (call : Call) : Type 0 where
  pub of : IsOf row call
  pub asks : call_of (answered row call) ≡ call
  pub allowed : Allowed (answered row call)

-- it isn't of this call, or not with an answer that a World may give
abbrev pub Refuses : Row → Call → Type 0
Refuses row call = IsOf row call → ¬ Allowed (answered row call)

-- it is live, and the next line stands for this entry
pub record FitsNext (script : Script) (e : Entry) : Type 0 where
  pub live : script.live ≡ true
  pub within : script.used < length script.lines
  pub fits : (row : Row) → slice_get script.lines script.used ≡ Some row → FitsRow row e
  pub allowed : Allowed e

-- no line there is of this call, with an answer that a World may give
abbrev pub FitsNone : List Row → ℕ → Call → Type 0
FitsNone lines used call = (row : Row) → slice_get lines used ≡ Some row → Refuses row call

-- where it has stopped, the call fitted no line
abbrev pub StopsRightly : List Row → ℕ → Option Call → Type 0
StopsRightly lines used stop = (call : Call) → stop ≡ Some call → FitsNone lines used call

-- one more, up to the last count
abbrev pub raise : ℕ → ℕ
raise count = max count (min last_count (count + 1))

-- the counts after a failure of such a call
abbrev pub raised : CallName → Counts → Counts
raised Now faults = faults
raised Wait faults = record faults { wait = raise faults.wait }
raised LinkOpen faults = record faults { link = raise faults.link }
raised LinkRead faults = record faults { link = raise faults.link }
raised LinkWrite faults = record faults { link = raise faults.link }
raised Close faults = faults
raised FileLen faults = record faults { file = raise faults.file }
raised FileRead faults = record faults { file = raise faults.file }
raised Connect faults = record faults { socket = raise faults.socket }
raised Connected faults = record faults { socket = raise faults.socket }
raised Listen faults = record faults { socket = raise faults.socket }
raised Accept faults = record faults { socket = raise faults.socket }
raised TcpRead faults = record faults { socket = raise faults.socket }
raised TcpWrite faults = record faults { socket = raise faults.socket }
raised TcpEnd faults = record faults { socket = raise faults.socket }
raised UdpOpen faults = record faults { socket = raise faults.socket }
raised UdpSend faults = record faults { socket = raise faults.socket }
raised UdpRecv faults = record faults { socket = raise faults.socket }

-- the answer is a failure
abbrev pub has_failed : Entry → Bool
has_failed e = link_failed e || wait_failed e || socket_failed e || file_failed e

-- the counts after an entry
abbrev pub counted : Entry → Counts → Counts
counted e faults = if has_failed e then raised (name_of (call_of e)) faults else faults

-- it goes on to the line after the one that this entry fitted
pub record Advances (old new : Script) (e : Entry) : Type 0 where
  pub source : schedule_text new.lines ≡ schedule_text old.lines
  pub kept : kept_of new ≡ e ∷ kept_of old
  pub live : new.live ≡ old.live
  pub stop : new.stop ≡ old.stop
  pub faults : new.faults ≡ counted e old.faults

-- the next line is now this entry's, and the schedule's text and what was kept are the same
pub record IsCompleted (old new : Script) (e : Entry) : Type 0 where
  pub next : (row : Row) → slice_get new.lines old.used ≡ Some row → row.entry ≡ e
  pub source : schedule_text new.lines ≡ schedule_text old.lines
  pub count : length new.lines ≡ length old.lines
  pub kept : kept_of new ≡ kept_of old
  pub used : new.used ≡ old.used
  pub live : new.live ≡ old.live
  pub stop : new.stop ≡ old.stop
  pub faults : new.faults ≡ old.faults

-- it ceases at this call, or had ceased before; the call has failed
pub record Ceases (old new : Script) (call : Call) : Type 0 where
  pub lines : new.lines ≡ old.lines
  pub used : new.used ≡ old.used
  pub dead : new.live ≡ false
  pub first : old.live ≡ true → new.stop ≡ Some call
  pub later : old.live ≡ false → new.stop ≡ old.stop
  pub faults : new.faults ≡ raised (name_of call) old.faults

-- where the schedule was left: the line after those used up, the call that fitted none, and the call of that line
abbrev pub divergence_of : Script → Option Divergence
divergence_of script = option_map (λ call. record {
  line = script.used + 1;
  made = name_of call;
  wanted = option_map (λ (row : Row). name_of (call_of row.entry))
      (slice_get script.lines script.used);
}) script.stop

-- the moment after an entry, and after a trace of calls
abbrev pub moment_after : Entry → ℕ → ℕ
moment_after (EntryNow moment) before = moment
moment_after _ before = before

abbrev pub last_moment : List Entry → ℕ
last_moment [] = 0
last_moment (e ∷ past) = moment_after e (last_moment past)

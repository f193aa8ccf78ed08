-- The frames of a run as a classic pcap file.
use Rattle.std.specs.Prelude.{◌≡◌, ◌==◌, ◌+◌, ◌-◌, ◌*◌, ◌/◌, ◌%◌, ◌^◌, ◌≤◌, ℕ, Bool, true, false, List, [], ◌∷◌, ◌++◌, length, drop, Option, Some, None, if◌then◌else◌}
use Rattle.std.specs.Int.{w32, to_be_bytes}
use Rattle.world_face.specs.declared.Io.{Io}
use Rattle.world_face.specs.declared.Io.TheVariants.{Done, End, NotYet, Failed}
use Rattle.world_face.specs.Journal.{Entry, LinkRead, LinkWrite}
use Rattle.world_face.specs.Frames.{partial, is_whole, arrives, goes_out, begun_by, tail}
use Rattle.world_face.specs.Limits.{most_from_link}
use Rattle.world_face.specs.Puts.{added}
use Rattle.world_face.specs.Tells.{Rose}
use Rattle.spec_trace.specs.Moments.{moment}

-- the magic number, version 2.4, no zone, no accuracy, frames of up to 69,632 octets, and Ethernet; the most significant octet of each number first
abbrev pub file_head : List ℕ
file_head =
    161 ∷ 178 ∷ 195 ∷ 212 ∷ 0 ∷ 2 ∷ 0 ∷ 4 ∷ 0 ∷ 0 ∷ 0 ∷ 0 ∷ 0 ∷ 0 ∷ 0 ∷ 0 ∷ 0 ∷ 1 ∷ 16 ∷ 0 ∷ 0 ∷ 0 ∷ 0 ∷ 1 ∷ []

-- a number in four octets, the most significant first
unfoldable pub number_text : ℕ → List ℕ
number_text number = to_be_bytes w32 number

-- a moment, which is in milliseconds: its seconds, as many as four octets hold, and the rest in microseconds
unfoldable pub moment_text : ℕ → List ℕ
moment_text moment = number_text (moment / 1000 % 2 ^ 32) ++ number_text (moment % 1000 * 1000)

-- how many octets of a frame stand here, and how many it had
unfoldable pub counts_text : ℕ → List ℕ
counts_text octets = number_text octets ++ number_text octets

-- a frame at a moment
unfoldable pub frame_text : ℕ → List ℕ → List ℕ
frame_text moment frame = moment_text moment ++ counts_text (length frame) ++ frame

abbrev pub seen_text : ℕ → Option (List ℕ) → List ℕ
seen_text moment None = []
seen_text moment (Some frame) = frame_text moment frame

-- what arrives or goes out by an entry, at the moment in force before it
abbrev pub entry_text : Entry → List Entry → List ℕ
entry_text e past = seen_text (moment past) (arrives e past) ++ seen_text (moment past) (goes_out e past)

-- The trace is kept newest first; its capture has the frames in the order in which they came whole or began to go out.
abbrev pub capture : List Entry → List ℕ
capture [] = file_head
capture (e ∷ past) = capture past ++ entry_text e past

-- no length or frame was longer than one that may come, by an entry and by each
abbrev pub FitsBy : Entry → List Entry → Type 0
FitsBy (LinkRead asked answer octets) past = length (partial past) + length octets ≤ 4 + most_from_link
FitsBy (LinkWrite octets answer) past = length octets ≤ 4 + most_from_link
FitsBy _ past = Unit {0}

abbrev pub Fits : List Entry → Type 0
Fits [] = Unit {0}
Fits (e ∷ past) = FitsBy e past × Fits past

-- The sink got the capture of these calls behind what it held, unless it failed; and where it failed its count rose, where each frame was of a length that may be.
pub record IsCaptured (old new : Option (List ℕ)) (faults faults_new : ℕ) (made : List Entry) (failed : Bool) : Type 0 where
  pub put : failed ≡ false → new ≡ added (capture made) old
  pub fault : failed ≡ true → Fits made → Rose faults faults_new
  pub later : faults ≤ faults_new

-- the octets of the length or frame that isn't whole, how many are left of the frame that went out last, and the moment in force
pub record Sight : Type 0 where
  pub octets : List ℕ
  pub left : ℕ
  pub moment : ℕ

pub record Tracks (sight : Sight) (past : List Entry) : Type 0 where
  pub octets : sight.octets ≡ partial past
  pub left : sight.left ≡ length (tail past)
  pub moment : sight.moment ≡ moment past

-- The same with what is tracked.
pub record IsWatched (old new : Option (List ℕ)) (faults faults_new : ℕ) (sight : Sight) (made : List Entry) (failed : Bool) : Type 0 where
  pub put : failed ≡ false → new ≡ added (capture made) old
  pub tracks : failed ≡ false → Tracks sight made
  pub fault : failed ≡ true → Fits made → Rose faults faults_new
  pub later : faults ≤ faults_new

-- the frame that octets come to, and what is under way after them
abbrev pub whole_frame : List ℕ → Option (List ℕ)
whole_frame octets = if is_whole octets then Some (drop 4 octets) else None

abbrev pub under_way : List ℕ → List ℕ
under_way octets = if is_whole octets then [] else octets

-- the frame that a write begins where so many octets are left of the one before, and how many are left after it
abbrev pub begins : ℕ → Io → List ℕ → Option (List ℕ)
begins left answer octets = if left == 0 then begun_by answer octets else None

abbrev pub left_by : ℕ → Io → List ℕ → ℕ
left_by left (Done n) octets = length octets - n
left_by left End octets = left
left_by left NotYet octets = left
left_by left Failed octets = left

-- What an outcome tells of the calls on the outer World, of the schedule, and of what was put.
use Rattle.std.specs.Prelude.{◌≡◌, ◌↔◌, ◌⊎◌, ℕ, IsTrue, List, ◌∷◌, Option, Bool, true, false, nat_lt}
use Rattle.world_face.specs.Journal.{Entry, FileLen, FileRead}
use Rattle.world_face.specs.declared.FileSize.{FileSize}
use Rattle.world_face.specs.declared.FileSize.TheVariants.{Length, Missing, Failed}
use Rattle.world_face.specs.declared.Io.{Io}
use Rattle.world_face.specs.declared.Io.TheVariants.{End}
use Rattle.slirp_settings.specs.Addresses.{Config}
use Rattle.replay.specs.Rows.{TakesTooMuch}
use Rattle.replay.specs.Unread.{IsFirstUnread}
use Rattle.world_face.specs.Tells.{Telling, Makes, Rose}
use Rattle.app_edges.specs.Fetching.{IsWhole, IsUnreadable, is_read, octets_read}
use Rattle.slirp_app.specs.Ran.{Replayed, Ceased}
use Rattle.slirp_app.specs.Serving.{ComesTo}
use Rattle.app_edges.specs.Statuses.{code_of}
use Rattle.app_edges.specs.declared.outcome.Outcome.{Outcome}
use Rattle.app_edges.specs.declared.outcome.Outcome.TheVariants.{Done, Usage, BadConfig, ScheduleRead, ScheduleTooLarge, ScheduleLine, Diverged, FrameTooLong, FrameCut, LinkFault}
use Rattle.app_edges.specs.declared.outcome.Outcome.TheVariants.{WaitFault, TurnsSpent, ListenRefused, SinkFault, NoMemory, ControlRefused}

-- Where a run was made, a trace of it was put. It diverged, or came to its end.
abbrev pub Came : Config → Outcome → (schedule : List ℕ) → (old new : Option (List ℕ)) → Type 0
Came config Done schedule old new = Replayed config 0 schedule old new (ComesTo config Done)
Came config (Usage stop) schedule old new = Unit {0}
Came config (BadConfig field) schedule old new = Unit {0}
Came config ScheduleRead schedule old new = Unit {0}
Came config ScheduleTooLarge schedule old new = Unit {0}
Came config (ScheduleLine line) schedule old new = Unit {0}
Came config (Diverged divergence) schedule old new = Replayed config 5 schedule old new (Ceased config schedule divergence)
Came config (FrameTooLong length) schedule old new = Replayed config 6 schedule old new (ComesTo config (FrameTooLong length))
Came config (FrameCut octets) schedule old new = Replayed config 7 schedule old new (ComesTo config (FrameCut octets))
Came config LinkFault schedule old new = Replayed config 8 schedule old new (ComesTo config LinkFault)
Came config WaitFault schedule old new = Replayed config 9 schedule old new (ComesTo config WaitFault)
Came config (TurnsSpent turns) schedule old new = Replayed config 10 schedule old new (ComesTo config (TurnsSpent turns))
Came config (ListenRefused forward) schedule old new = Replayed config 11 schedule old new (ComesTo config (ListenRefused forward))
Came config SinkFault schedule old new = Unit {0}
Came config NoMemory schedule old new = Unit {0}
Came config ControlRefused schedule old new = Replayed config 14 schedule old new (ComesTo config ControlRefused)

-- FILE was read whole, each line has a reading, and its stars take over 1 GiB of room
abbrev pub IsTooLarge : List Entry → Type 0
IsTooLarge made = IsWhole made × TakesTooMuch (octets_read made)

pub record Caused (config : Config) (outcome : Outcome) (made : List Entry) (old new : Option (List ℕ)) : Type 0 where
  pub unreadable : (outcome ≡ ScheduleRead) ↔ IsUnreadable made
  pub large : outcome ≡ ScheduleTooLarge → IsTooLarge made
  pub whole : IsTrue (is_read (code_of outcome)) → IsWhole made
  pub came : IsTrue (is_read (code_of outcome)) → Came config outcome (octets_read made) old new
  pub first : (line : ℕ) → outcome ≡ ScheduleLine line → IsFirstUnread (octets_read made) line
  pub misencoded : IsTrue (is_read (code_of outcome)) → (line : ℕ) → IsFirstUnread (octets_read made) line → outcome ≡ ScheduleLine line

-- FILE is missing, has over 64 MiB, 67,108,864 octets, which is ours, or ended before its length
abbrev pub is_unfit : FileSize → Bool
is_unfit (Length n) = nat_lt 67108864 n
is_unfit Missing = true
is_unfit Failed = false

abbrev pub has_ended : Io → Bool
has_ended End = true
has_ended _ = false

abbrev pub is_short : List Entry → Bool
is_short (FileLen name answer ∷ past) = is_unfit answer
is_short (FileRead name place asked answer octets ∷ past) = has_ended answer
is_short _ = false

-- or the count of the files' faults rose
abbrev pub CannotRead : (old new : Telling) (made : List Entry) → Type 0
CannotRead old new made = Rose old.faults.file new.faults.file ⊎ (is_short made ≡ true)

-- A run was made with these settings on what was read of FILE, and P holds of the schedule and of the run's trace.
abbrev pub RanOn : (config : Config) (world world_new : Telling) (status : ℕ) (old new : Option (List ℕ)) (P : List ℕ → List Entry → Type 0) → Type 0
RanOn config world world_new status old new P = Makes world world_new (λ made. IsWhole made × Replayed config status (octets_read made) old new (P (octets_read made)))

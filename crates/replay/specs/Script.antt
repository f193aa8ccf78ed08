-- What contracts see of a World that answers by a schedule.
use Rattle.std.specs.Prelude.{◌≡◌, ℕ, zero, suc, Bool, true, List, [], ◌∷◌, Option, None}
use Rattle.world_face.specs.Journal.{Entry, Call}
use Rattle.world_face.specs.Tells.{Telling, Counts}
use Rattle.replay.specs.Rows.{Row, schedule_text, entries_of}

-- the lines of a schedule, the first one first; how many are used up; whether it still answers by them; the call that fitted none; the faults so far
pub record Script : Type 0 where
  pub lines : List Row
  pub used : ℕ
  pub live : Bool
  pub stop : Option Call
  pub faults : Counts

-- the first n of these, newest first, before the older ones
abbrev pub newest_onto : {X : Type 0} → ℕ → List X → List X → List X
newest_onto zero lines older = older
newest_onto (suc n) [] older = older
newest_onto (suc n) (line ∷ lines) older = newest_onto n lines (line ∷ older)

-- the entries of the lines that are used up, newest first
abbrev pub kept_of : Script → List Entry
kept_of script = newest_onto script.used (entries_of script.lines) []

abbrev pub script_tells : Script → Telling
script_tells script = record { source = schedule_text script.lines; kept = kept_of script; live = script.live; stop = script.stop; faults = script.faults }

-- nothing is used up, and it answers
pub record IsFresh (script : Script) : Type 0 where
  pub used : script.used ≡ 0
  pub live : script.live ≡ true
  pub stop : script.stop ≡ None

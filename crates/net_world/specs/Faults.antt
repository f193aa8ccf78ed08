-- What the World of real sockets tells: how often calls of each kind failed, and no more.
use Rattle.std.specs.Prelude.{Bool, false, cond, ℕ, ◌+◌, ◌≤◌, [], None, min, max}
use Rattle.world_face.specs.Tells.{Telling, Counts}
use Rattle.world_face.specs.Limits.{last_count}

-- a count rises by each failure, up to the last
abbrev pub raised : Bool → ℕ → ℕ
raised failed count = cond failed (min last_count (count + 1)) count

-- a count is at least what it was, and one more after a failure, up to the last
abbrev pub Rises : Bool → (old new : ℕ) → Type 0
Rises failed old new = max old (min last_count (old + cond failed 1 0)) ≤ new

abbrev pub no_faults : Counts
no_faults = record { link = 0; wait = 0; socket = 0; file = 0 }

abbrev pub tells_faults : Counts → Telling
tells_faults counts = record { source = []; kept = []; live = false; stop = None; faults = counts }

-- Moments and waits.
use Rattle.std.specs.Prelude.{ℕ, ◌+◌, min, max, List, [], ◌∷◌}
use Rattle.world_face.specs.Journal.{Entry, Now, Wait}
use Rattle.world_face.specs.Limits.{last_moment}

-- the moment in force: the greatest that the clock has told, cut at the last moment
abbrev pub moment_after : Entry → ℕ → ℕ
moment_after (Now told) moment = max (min told last_moment) moment
moment_after _ moment = moment

abbrev pub moment : List Entry → ℕ
moment [] = 0
moment (e ∷ past) = moment_after e (moment past)

-- how often the run has waited
abbrev pub waits_after : Entry → ℕ → ℕ
waits_after (Wait wants timeout answer ready) waits = waits + 1
waits_after _ waits = waits

abbrev pub waits : List Entry → ℕ
waits [] = 0
waits (e ∷ past) = waits_after e (waits past)

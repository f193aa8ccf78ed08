-- How long it may be waited, and how long it is waited at least: a moment or none, against the moments of a story.
use Rattle.std.specs.Prelude.{ℕ, ◌≤◌, List, [], ◌∷◌, Option, None, Some, ◌⊎◌}

-- it is waited no longer than to each of these moments
abbrev pub IsBy : Option ℕ → List ℕ → Type 0
IsBy due [] = Unit {0}
IsBy None (m ∷ ms) = ⊥
IsBy (Some at) (m ∷ ms) = (at ≤ m) × IsBy (Some at) ms

-- it is waited at least to the earliest of these moments: without end where there is none
abbrev pub IsFrom : Option ℕ → List ℕ → Type 0
IsFrom None ms = Unit {0}
IsFrom (Some at) [] = ⊥
IsFrom (Some at) (m ∷ ms) = (m ≤ at) ⊎ IsFrom (Some at) ms

-- Moments, and how long to wait.
use Rattle.std.specs.Prelude.{ℕ, Option, None, Some, min}

-- the sooner of two; None is later than any
abbrev pub sooner : Option ℕ → Option ℕ → Option ℕ
sooner None other = other
sooner (Some one) None = Some one
sooner (Some one) (Some other) = Some (min one other)

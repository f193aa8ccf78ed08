-- How long a socket that isn't used stays open.
use Rattle.std.specs.Prelude.{ℕ, ◌+◌, nat_le, Bool}

-- the idle life, so many milliseconds, of what was last used at one moment is over at another
abbrev pub is_life_over : (life used now : ℕ) → Bool
is_life_over life used now = nat_le (used + life) now

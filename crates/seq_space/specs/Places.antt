-- Sequence numbers of 32 bits (RFC 9293, 3.4), and the places in a stream for which they stand.
use Rattle.std.specs.Prelude.{◌≡◌, Bool, ◌&&◌, nat_lt, ℕ, ◌+◌, ◌-◌, ◌%◌, ◌^◌, ℤ, pos, ◌+ℤ◌, ◌-ℤ◌, ◌*ℤ◌, ◌≤ℤ◌, ◌<ℤ◌}

-- a multiple of 2^32
abbrev pub IsWhole : ℤ → Type 0
IsWhole z = (k : ℤ) × (z ≡ k *ℤ pos (2 ^ 32))

-- d is how far the number a is ahead of the number b, the short way round
pub record IsAhead (a b : ℕ) (d : ℤ) : Type 0 where
  pub wraps : IsWhole (pos a -ℤ pos b -ℤ d)
  pub low : pos 0 ≤ℤ (d +ℤ pos (2 ^ 31))
  pub high : d <ℤ pos (2 ^ 31)

-- o is a place for which the number may stand in a stream whose SYN has the number first, and the one nearest to top;
-- the first octet after the SYN has the place 0
pub record IsPlace (number first top : ℕ) (o : ℤ) : Type 0 where
  pub wraps : IsWhole (pos number -ℤ pos first -ℤ pos 1 -ℤ o)
  pub low : pos top ≤ℤ (o +ℤ pos (2 ^ 31))
  pub high : o <ℤ pos (top + 2 ^ 31)

-- the number at a place
abbrev pub number_of : ℕ → ℕ → ℕ
number_of first place = (first + 1 + place) % 2 ^ 32

-- how far b has to go up to come to a, modulo 2^32
abbrev pub steps_up : ℕ → ℕ → ℕ
steps_up a b = (a + 2 ^ 32 - b) % 2 ^ 32

-- the number a is ahead of the number b, the short way round
abbrev pub is_ahead : ℕ → ℕ → Bool
is_ahead a b = nat_lt 0 (steps_up a b) && nat_lt (steps_up a b) (2 ^ 31)

-- the nearest place, by numbers from 0 on: 2^31 more than it
abbrev pub shifted_place : ℕ → ℕ → ℕ → ℕ
shifted_place number first top = top + (steps_up number (number_of first top) + 2 ^ 31) % 2 ^ 32

-- the one place of IsPlace
abbrev pub place : ℕ → ℕ → ℕ → ℤ
place number first top = pos (shifted_place number first top) -ℤ pos (2 ^ 31)

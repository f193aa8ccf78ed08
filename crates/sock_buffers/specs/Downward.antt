-- What a contract sees of a buffer of octets on their way down, from a host socket to a guest.
use Rattle.std.specs.Prelude.{ℕ, List}

-- the octets of the stream from the first place on that the guest has not acknowledged, that place, and how many octets
-- may be held at most
pub record Downward : Type 0 where
  pub octets : List ℕ
  pub first : ℕ
  pub size : ℕ

abbrev pub downward : List ℕ → ℕ → ℕ → Downward
downward octets first size = record { octets = octets; first = first; size = size }

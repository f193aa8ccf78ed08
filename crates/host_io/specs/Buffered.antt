-- What is on its way in a buffer, and what room there is for more.
use Rattle.std.specs.Prelude.{ℕ, [], List}

-- the octets, how many more can be put at their end, and how many the buffer has memory for
pub record Buffered : Type 0 where
  pub octets : List ℕ
  pub room : ℕ
  pub size : ℕ

abbrev pub buffered : List ℕ → ℕ → ℕ → Buffered
buffered octets room size = record { octets = octets; room = room; size = size }

abbrev pub nothing_in : ℕ → Buffered
nothing_in size = buffered [] size size

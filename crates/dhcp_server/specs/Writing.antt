-- Octets that are written behind others.
use Rattle.std.specs.Prelude.{◌≡◌, ℕ, ◌+◌, ◌++◌, List, length, take, drop}

-- behind the first octets, up to a place, come these, up to another; all behind it stays
pub record Adds (old : List ℕ) (at : ℕ) (new : List ℕ) (end : ℕ) (octets : List ℕ) : Type 0 where
  pub front : take end new ≡ take at old ++ octets
  pub rest : drop end new ≡ drop end old
  pub end_is : end ≡ at + length octets

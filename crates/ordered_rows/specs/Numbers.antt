-- A number for each of some slots, or none.
use Rattle.std.specs.Prelude.{◌≡◌, ℕ, ◌<◌, ◌≤◌, List, Option, Some, slice_get}

-- this is the number of a slot
abbrev pub IsNumberAt : List (Option ℕ) → (slot n : ℕ) → Type 0
IsNumberAt numbers slot n = slice_get numbers slot ≡ Some (Some n)

-- no slot has one
abbrev pub NoNumbers : List (Option ℕ) → Type 0
NoNumbers numbers = (slot n : ℕ) → IsNumberAt numbers slot n → ⊥

-- each that a slot has is above this one
abbrev pub AllAbove : List (Option ℕ) → ℕ → Type 0
AllAbove numbers most = (slot n : ℕ) → IsNumberAt numbers slot n → most < n

-- this slot has the least number, and is the lowest of those that have it
pub record IsLeast (numbers : List (Option ℕ)) (slot n : ℕ) : Type 0 where
  pub has : IsNumberAt numbers slot n
  pub least : (other m : ℕ) → IsNumberAt numbers other m → n ≤ m
  pub lowest : (other m : ℕ) → other < slot → IsNumberAt numbers other m → n < m

-- this slot has the least number, which is at most this one
abbrev pub IsLeastUpTo : List (Option ℕ) → (most slot : ℕ) → Type 0
IsLeastUpTo numbers most slot = (n : ℕ) × (IsLeast numbers slot n × (n ≤ most))

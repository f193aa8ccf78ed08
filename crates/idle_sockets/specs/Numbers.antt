-- Numbers that rise, and how often each stands in a list.
use Rattle.std.specs.Prelude.{◌≡◌, ℕ, ◌+◌, ◌<◌, ◌≤◌, ◌==◌, not, Bool, true, false, List, [], ◌∷◌, length, filter, Option, Some, None, slice_index}
use Rattle.std.specs.List.{remove}

-- how often a number stands in a list, and the list without it
abbrev pub one : Bool → ℕ
one true = 1
one false = 0

abbrev pub times : ℕ → List ℕ → ℕ
times n [] = 0
times n (m ∷ ms) = one (m == n) + times n ms

abbrev pub gone : ℕ → List ℕ → List ℕ
gone n ms = filter (λ m. not (m == n)) ms

-- each number is less than the next one
abbrev pub AreAbove : ℕ → List ℕ → Type 0
AreAbove n [] = Unit {0}
AreAbove n (m ∷ ms) = (n < m) × AreAbove n ms

abbrev pub Rise : List ℕ → Type 0
Rise [] = Unit {0}
Rise (n ∷ ns) = AreAbove n ns × Rise ns

-- the place of a number, where it is there
abbrev pub IsPlace : ℕ → List ℕ → Option ℕ → Type 0
IsPlace n ns None = times n ns ≡ 0
IsPlace n ns (Some place) = (place < length ns) × (slice_index ns place ≡ n)

-- where a number fits among numbers that rise
pub record IsRoomFor (n : ℕ) (ns : List ℕ) (place : ℕ) : Type 0 where
  pub fits : place ≤ length ns
  pub below : (k : ℕ) → k < place → slice_index ns k < n
  pub above : (k : ℕ) → place ≤ k → k < length ns → n < slice_index ns k

-- a number was taken out of a list, and what stood at the same place out of the other
pub record IsTakenOut (key : ℕ) (keys owners new_keys new_owners : List ℕ) : Type 0 where
  pub place : ℕ
  pub few : place < length keys
  pub here : slice_index keys place ≡ key
  pub keys_left : new_keys ≡ remove keys place
  pub owners_left : new_owners ≡ remove owners place

-- The row in which the slots stand that have a number, the least first.
use Rattle.std.specs.Prelude.{◌≡◌, ℕ, ◌<◌, ◌≤◌, ◌⊎◌, List, Option, length, slice_get, Some}
use Rattle.ordered_rows.specs.declared.Queued.{Queued}
use Rattle.ordered_rows.specs.Numbers.{IsNumberAt}

-- a slot with its number
abbrev pub queued_as : (slot n : ℕ) → Queued
queued_as slot n = record { slot = slot; number = n }

-- one stands before another: its number is less, or the same and its slot is lower
abbrev pub IsBefore : Queued → Queued → Type 0
IsBefore a b = (a.number < b.number) ⊎ ((a.number ≡ b.number) × (a.slot < b.slot))

-- each stands before those after it
abbrev pub Rise : List Queued → Type 0
Rise row = (i j : ℕ) (a b : Queued) → i < j → slice_get row i ≡ Some a → slice_get row j ≡ Some b → IsBefore a b

-- the place of one: those before the place stand before it, and those from the place on don't
pub record BelongsAt (row : List Queued) (place : ℕ) (one : Queued) : Type 0 where
  pub within : place ≤ length row
  pub before : (i : ℕ) (x : Queued) → i < place → slice_get row i ≡ Some x → IsBefore x one
  pub after : (i : ℕ) (x : Queued) → place ≤ i → slice_get row i ≡ Some x → IsBefore x one → ⊥

-- each slot that has a number stands once in the row
pub record AreQueued (numbers : List (Option ℕ)) (row : List Queued) : Type 0 where
  pub have : (i : ℕ) (x : Queued) → slice_get row i ≡ Some x → IsNumberAt numbers x.slot x.number
  pub all : (slot n : ℕ) → IsNumberAt numbers slot n → (i : ℕ) × (slice_get row i ≡ Some (queued_as slot n))
  pub rise : Rise row

-- and there is room for each slot
pub record IsRow (numbers : List (Option ℕ)) (row : List Queued) (room : ℕ) : Type 0 where
  pub queued : AreQueued numbers row
  pub fits : length numbers ≤ room

-- A step of the search among tuples that rise.
use Rattle.std.proofs.Common.{◌≡◌, ℕ, ◌<◌, ◌≤◌, ◌+◌, ◌*◌, ◌^◌, inl, inr, List, length, get_or, Some, None, zero, suc, refl, sym, ap, ◌∙◌, subst, arith, Less, Equal, Greater}
use Rattle.std.specs.Prelude.{slice_get, Result, Ok, Err}
use Rattle.std.specs.Ordering.{ordering_reverse}
use Rattle.std.proofs.Math.Nat.{pow-succ'}
use Rattle.std.proofs.lemmas.Bool.{cases_eq, cases_lt}
use Rattle.std.proofs.lemmas.Option.{same_Some, slice_get-get_or, get_or_from_slice_get, slice_get_within}
use Rattle.flow_table.specs.declared.Entry.{Entry}
use Rattle.spec_flows.specs.declared.Tuple.{Tuple}
use Rattle.flow_table.specs.Rows.{AreAbove, AreBelow, BelongsAt, IsPlaceOf, IsSlotIn, Rise, StandsAt, entry_of, tuple_cmp}
use Rattle.flow_table.proofs.Tuples.{tuple_total, same_tuple, flipped, not_below_itself}

found_at : (entries : List Entry) (place : ℕ) (e : Entry) (t : Tuple) → slice_get entries place ≡ Some e → Equal ≡ tuple_cmp e.tuple t → StandsAt entries place t
found_at entries place e t is order = (e.slot, is ∙ ap (λ (u : Tuple). Some (entry_of u e.slot)) (same_tuple e.tuple t (sym order)))

below_past : (entries : List Entry) (m : ℕ) (e : Entry) (t : Tuple) → Rise entries → slice_get entries m ≡ Some e → Less ≡ tuple_cmp e.tuple t → AreBelow entries (m + 1) t
below_past entries m e t rise is order i x small h =
    elim (cases_eq i m) [
      | inl same ↦ subst (λ (y : Entry). tuple_cmp y.tuple t ≡ Less) (same_Some e x (sym is ∙ ap (slice_get entries) (sym same) ∙ h)) (sym order)
      | inr other ↦ tuple_total.trans x.tuple e.tuple t (rise i m x e (omega (arith, small, other)) h is) (sym order)
    ]

above_from : (entries : List Entry) (m : ℕ) (e : Entry) (t : Tuple) → Rise entries → slice_get entries m ≡ Some e → Greater ≡ tuple_cmp e.tuple t → AreAbove entries m t
above_from entries m e t rise is order i x large h =
    elim (cases_eq i m) [
      | inl same ↦ subst (λ (y : Entry). tuple_cmp y.tuple t ≡ Greater) (same_Some e x (sym is ∙ ap (slice_get entries) (sym same) ∙ h)) (sym order)
      | inr other ↦
          let less = tuple_total.trans t e.tuple x.tuple (flipped e.tuple t (sym order)) (rise m i e x (omega (arith, large, other)) is h) in
          tuple_total.antisymm x.tuple t ∙ ap ordering_reverse less
    ]

-- the same of what was read at a place
pub found_read : (entries : List Entry) (m : ℕ) (d : Entry) (t : Tuple) → m < length entries → Equal ≡ tuple_cmp (get_or entries m d).tuple t → StandsAt entries m t
found_read entries m d t within order = found_at entries m (get_or entries m d) t (slice_get-get_or entries m d within) order

pub below_read : (entries : List Entry) (m : ℕ) (d : Entry) (t : Tuple) → Rise entries → m < length entries → Less ≡ tuple_cmp (get_or entries m d).tuple t → AreBelow entries (m + 1) t
below_read entries m d t rise within order = below_past entries m (get_or entries m d) t rise (slice_get-get_or entries m d within) order

pub above_read : (entries : List Entry) (m : ℕ) (d : Entry) (t : Tuple) → Rise entries → m < length entries → Greater ≡ tuple_cmp (get_or entries m d).tuple t → AreAbove entries m t
above_read entries m d t rise within order = above_from entries m (get_or entries m d) t rise (slice_get-get_or entries m d within) order

-- what is left after a step is at most half of what was left before
abbrev pub Halved : ℕ → ℕ → ℕ → ℕ → Type 0
Halved size k before after = (m : ℕ) × ((k + before ≡ after + m) × (size < 2 ^ m))

pub halved_more : (size left k start taken next : ℕ) → 0 < size → 2 * left ≤ size → next ≡ taken + 1 → Halved size k start taken → Halved left k start next
halved_more size left k start taken next some half step (zero, told) = absurd (omega (arith, some, told.1))
halved_more size left k start taken next some half step (suc m, told) = let p = pow-succ' 2 m in (m, (omega (arith, told.0, step), omega (arith, p, told.1, half)))

pub nothing_left : (entries : List Entry) (low size : ℕ) (t : Tuple) → size ≡ 0 → low + size ≤ length entries → AreBelow entries low t → AreAbove entries (low + size) t → BelongsAt entries low t
nothing_left entries low size t none within below above = record { within = omega (arith, within); below = below; above = λ i e le h. above i e (omega (arith, le, none)) h }

-- a tuple that stands in the row is found
pub is_found : (entries : List Entry) (r : Result ℕ ℕ) (t : Tuple) (i : ℕ) → StandsAt entries i t → IsPlaceOf entries t r → ((x : ℕ) → r ≡ Ok x → ⊥) → ⊥
is_found entries (Ok x) t i stands is never = never x refl
is_found entries (Err x) t i stands is never =
    elim (cases_lt i x) [
      | inl less ↦ not_below_itself t (is.below i (entry_of t stands.0) less stands.1)
      | inr more ↦ not_below_itself t (flipped t t (is.above i (entry_of t stands.0) more stands.1))
    ]

-- and one that doesn't isn't
pub is_not_found : (entries : List Entry) (r : Result ℕ ℕ) (t : Tuple) → ((i k : ℕ) → slice_get entries i ≡ Some (entry_of t k) → ⊥) → IsPlaceOf entries t r → ((x : ℕ) → r ≡ Err x → ⊥) → ⊥
is_not_found entries (Ok x) t none is never = none x is.0 is.1
is_not_found entries (Err x) t none is never = never x refl

pub slot_read : (entries : List Entry) (place : ℕ) (d : Entry) (t : Tuple) → StandsAt entries place t → IsSlotIn entries t (Some (get_or entries place d).slot)
slot_read entries place d t stands = (place, stands.1 ∙ ap (λ (k : ℕ). Some (entry_of t k)) (sym (ap (λ (e : Entry). e.slot) (get_or_from_slice_get entries place (entry_of t stands.0) d stands.1))))

pub no_slot : (entries : List Entry) (place : ℕ) (t : Tuple) → BelongsAt entries place t → IsSlotIn entries t None
no_slot entries place t is i k stands = is_found entries (Err place) t i (k, stands) is (λ x same. cc)

pub place_within : (entries : List Entry) (place : ℕ) (t : Tuple) → StandsAt entries place t → place < length entries
place_within entries place t stands = slice_get_within entries place (entry_of t stands.0) stands.1

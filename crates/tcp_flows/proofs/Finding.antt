-- What stands at a place of the sockets whose numbers rise, and what is left without it.
use Rattle.std.proofs.Common.{◌≡◌, ℕ, zero, suc, ◌<◌, ◌≤◌, ◌==◌, not, nat_lt, leb, Bool, cond, true, false, List, [], ◌∷◌, length, get_or, Option, None, Some, Result, Ok, Err, Less, Equal}
use Rattle.std.proofs.Common.{Greater, IfNone, IfSome, is_some, Bor, inl, inr, refl, sym, ap, subst, ◌∙◌, arith}
use Rattle.std.specs.Prelude.{slice_get, find}
use Rattle.std.specs.List.{remove}
use Rattle.std.specs.List.Sorted.{IsBinarySearchResult, IsNonDecreasingBy, IsPartitionPoint, IsSearchInRange}
use Rattle.std.specs.Option.{option_copied, option_map}
use Rattle.std.specs.Ordering.{nat_cmp, ordering_index}
use Rattle.std.specs.Result.{result_ok}
use Rattle.std.proofs.lemmas.Bool.Decides.{nat_tests}
use Rattle.std.proofs.lemmas.Bool.{cases_lt}
use Rattle.std.proofs.lemmas.Cmp.{ranked}
use Rattle.std.proofs.lemmas.Option.{same_Some, get_or_from_slice_get, slice_get-get_or, slice_get_past, slice_get_read}
use Rattle.tcp_flows.specs.declared.sockets.Numbered.{Numbered}
use Rattle.tcp_flows.specs.SocketPlaces.{HasNumber}
use Rattle.tcp_flows.specs.Sockets.{AreAbove, Rise, after, slot_of, without}
use Rattle.tcp_flows.proofs.Rising.{above_there, never_fall}

-- what a test of two numbers says where they are the same
pub equal : (a b : ℕ) → a ≡ b → (a == b) ≡ true
equal a b is = grind (arith, nat_tests, is)

-- and where they aren't
pub differ : (a b : ℕ) → (a ≡ b → ⊥) → (a == b) ≡ false
differ a b other = grind (arith, nat_tests, other)

higher : (a n : ℕ) → leb a n ≡ false → nat_lt n a ≡ true
higher a n is = grind (arith, nat_tests, is)

no_higher : (a n : ℕ) → leb a n ≡ true → nat_lt n a ≡ false
no_higher a n is = grind (arith, nat_tests, is)

-- what the first row gives to the slot of a number, to what is left without it, and to the first above it, by the test on that row
abbrev pub first_or : Numbered → ℕ → List Numbered → Bool → Option ℕ
first_or r n rows is = option_map (λ (x : Numbered). x.slot) (cond is (Some r) (find (λ (x : Numbered). x.number == n) rows))

abbrev pub kept_or : Numbered → ℕ → List Numbered → Bool → List Numbered
kept_or r n rows is = cond (not is) (r ∷ without n rows) (without n rows)

abbrev pub next_or : Numbered → ℕ → List Numbered → Bool → Option Numbered
next_or r n rows is = cond is (Some r) (after (Some n) rows)

-- none of those above a number has it
pub none_above : (n : ℕ) (rows : List Numbered) → AreAbove n rows → without n rows ≡ rows
none_above n [] above = refl
none_above n (r ∷ rows) above = ap (kept_or r n rows) (differ r.number n (λ is. omega (arith, is, above.0))) ∙ ap (λ (l : List Numbered). r ∷ l) (none_above n rows above.1)

-- the one with a number stands at this place
found_at : (n : ℕ) (rows : List Numbered) (i : ℕ) (r : Numbered) → Rise rows → slice_get rows i ≡ Some r → r.number ≡ n → slot_of n rows ≡ Some r.slot
found_at n [] i r rise here is = cc
found_at n (x ∷ rows) zero r rise here is =
    let same = same_Some x r here in
    ap (first_or x n rows) (equal x.number n (ap (λ (y : Numbered). y.number) same ∙ is)) ∙ ap (λ (y : Numbered). Some y.slot) same
found_at n (x ∷ rows) (suc i) r rise here is =
    let less = above_there x.number rows i r rise.0 here in
    ap (first_or x n rows) (differ x.number n (λ same. omega (arith, less, same, is))) ∙ found_at n rows i r rise.1 here is

removed_at : (n : ℕ) (rows : List Numbered) (i : ℕ) (r : Numbered) → Rise rows → slice_get rows i ≡ Some r → r.number ≡ n → remove rows i ≡ without n rows
removed_at n [] i r rise here is = cc
removed_at n (x ∷ rows) zero r rise here is =
    let same = ap (λ (y : Numbered). y.number) (same_Some x r here) ∙ is in
    sym (ap (kept_or x n rows) (equal x.number n same) ∙ none_above n rows (subst (λ m. AreAbove m rows) same rise.0))
removed_at n (x ∷ rows) (suc i) r rise here is =
    let less = above_there x.number rows i r rise.0 here in
    ap (λ (l : List Numbered). x ∷ l) (removed_at n rows i r rise.1 here is) ∙ sym (ap (kept_or x n rows) (differ x.number n (λ same. omega (arith, less, same, is))))

pub found_slot : (n : ℕ) (rows : List Numbered) (i : ℕ) (d : Numbered) → Rise rows → HasNumber n rows i → slot_of n rows ≡ Some (get_or rows i d).slot
found_slot n rows i d rise has = found_at n rows i has.0 rise has.1.0 has.1.1 ∙ ap (λ (r : Numbered). Some r.slot) (sym (get_or_from_slice_get rows i has.0 d has.1.0))

pub removed_slot : (n : ℕ) (rows : List Numbered) (i : ℕ) → Rise rows → HasNumber n rows i → remove rows i ≡ without n rows
removed_slot n rows i rise has = removed_at n rows i has.0 rise has.1.0 has.1.1

-- where none has the number
pub all_kept : (n : ℕ) (rows : List Numbered) → slot_of n rows ≡ None → without n rows ≡ rows
all_kept n [] none = refl
all_kept n (r ∷ rows) none = by (r.number == n) none (λ rest. all_kept n rows rest)
  where
    by : (is : Bool) → first_or r n rows is ≡ None → (slot_of n rows ≡ None → without n rows ≡ rows) → kept_or r n rows is ≡ r ∷ rows
    by true none rest = cc
    by false none rest = ap (λ (l : List Numbered). r ∷ l) (rest none)

nowhere : (n : ℕ) (rows : List Numbered) → ((i : ℕ) (d : Numbered) → i < length rows → (get_or rows i d).number ≡ n → ⊥) → slot_of n rows ≡ None
nowhere n [] never = refl
nowhere n (r ∷ rows) never = ap (first_or r n rows) (differ r.number n (never 0 r (omega arith))) ∙ nowhere n rows (λ i d few is. never (suc i) d (omega (arith, few)) is)

-- what a binary search answers
stands : (n : ℕ) (rows : List Numbered) (i : ℕ) → i < length rows → ((d : Numbered) → (get_or rows i d).number ≡ n) → HasNumber n rows i
stands n [] i few is = absurd (omega (arith, few))
stands n (r ∷ rows) i few is = (get_or (r ∷ rows) i r, (slice_get-get_or (r ∷ rows) i r few, is r))

module _ (n : ℕ) (rows : List Numbered) (rise : Rise rows) where
  tests_rise : IsNonDecreasingBy (λ (r : Numbered). ordering_index (nat_cmp r.number n)) rows
  tests_rise i j d up few = let le = never_fall rows rise i j d up few in grind (arith, nat_tests, le)

  apart : (i : ℕ) → IsPartitionPoint (λ (r : Numbered). nat_cmp r.number n ≡ Less) (λ (r : Numbered). nat_cmp r.number n ≡ Greater) rows i → slot_of n rows ≡ None
  apart i point = nowhere n rows (λ k d few is. elim (cases_lt k i) [
    | inl less ↦ let low = ranked (get_or rows k d).number n Less (sym (point.0 k d (omega arith) less)) in omega (arith, low, is)
    | inr more ↦ let high = ranked (get_or rows k d).number n Greater (sym (point.1 k d more few)) in omega (arith, high, is)
  ])

  pub searched : (answer : Result ℕ ℕ) → IsSearchInRange answer (length rows) → IsBinarySearchResult (λ (r : Numbered). nat_cmp r.number n) rows answer
      → IfSome (result_ok answer) (HasNumber n rows) × IfNone (result_ok answer) (slot_of n rows ≡ None)
  searched (Ok i) few here = (stands n rows i few (λ d. ranked (get_or rows i d).number n Equal (sym (here d))), tt)
  searched (Err i) few point = (tt, apart i (point tests_rise))

-- the first whose number is above
pub first_is : (n : ℕ) (rows : List Numbered) (i : ℕ) → i ≤ length rows → IsPartitionPoint (λ (r : Numbered). leb r.number n ≡ true)
    (λ (r : Numbered). leb r.number n ≡ false) rows i → slice_get rows i ≡ after (Some n) rows
first_is n [] i within point = refl
first_is n (r ∷ rows) zero within point = sym (ap (next_or r n rows) (higher r.number n (point.1 0 r (omega arith) (omega arith))))
first_is n (r ∷ rows) (suc i) within point =
    first_is n rows i (omega (arith, within)) (λ k d from less. point.0 (suc k) d (omega arith) (omega (arith, less)), λ k d from few. point.1 (suc k) d (omega (arith, from)) (omega (arith, few)))
    ∙ sym (ap (next_or r n rows) (no_higher r.number n (point.0 0 r (omega arith) (omega arith))))

-- the one at a place, where there is one
pub read_at : (rows : List Numbered) (i : ℕ) (read : Option (Bor Numbered)) → is_some read ≡ nat_lt i (length rows) → IfSome read (λ r. r.now ≡ get_or rows i r.now) →
    option_copied read ≡ slice_get rows i
read_at rows i None past here = sym (slice_get_past rows i (grind (arith, nat_tests, past)))
read_at rows i (Some r) within here = sym (slice_get_read rows (length rows) i r.now refl (grind (arith, nat_tests, within)) here)

-- Lists whose keys rise: what a search in one finds, and what stays where an element is put in or taken out.
use Rattle.std.proofs.Common.{◌≡◌, ℕ, zero, suc, ◌<◌, ◌≤◌, ◌+◌, false, List, [], ◌∷◌, length, get_or, Err, Less, Equal, Greater, inl, inr, refl, sym, ap, subst, ◌∙◌, arith, ◌⊎◌}
use Rattle.std.specs.List.{Contains, insert, remove}
use Rattle.std.specs.List.Sorted.{IsBinarySearchResult, IsPartitionPoint, IsSortedByKey}
use Rattle.std.specs.Ordering.{is_lt, ordering_reverse}
use Rattle.std.specs.declared.cmp.Ordering.{Ordering}
use Rattle.std.specs.Cmp.{IsTotalOrder}
use Rattle.std.proofs.lemmas.Bool.{cases_eq}
use Rattle.std.proofs.lemmas.List.Sorted.{searchable_from_sorted}
use Rattle.net_world.specs.Tables.{AreAbove, Rise}

-- membership by recursion
abbrev pub Has : {X : Type 0} → List X → X → Type 0
Has [] x = ⊥
Has (y ∷ ys) x = (y ≡ x) ⊎ Has ys x

pub has_from : {X : Type 0} (xs : List X) (x : X) → Contains xs x → Has xs x
has_from [] x (k, below, is) = absurd (omega arith)
has_from (y ∷ ys) x (zero, below, is) = inl is
has_from (y ∷ ys) x (suc k, below, is) = inr (has_from ys x (k, omega arith, is))

pub to_contains : {X : Type 0} (xs : List X) (x : X) → Has xs x → Contains xs x
to_contains [] x h = absurd h
to_contains (y ∷ ys) x (inl is) = (0, omega arith, is)
to_contains (y ∷ ys) x (inr h) = let r : Contains ys x = to_contains ys x h in (suc r.0, omega arith, r.2)

-- the element at a place
pub has_at : {X : Type 0} (xs : List X) (i : ℕ) (d : X) → i < length xs → Has xs (get_or xs i d)
has_at [] i d below = absurd (omega arith)
has_at (x ∷ xs) zero d below = inl refl
has_at (x ∷ xs) (suc i) d below = inr (has_at xs i d (omega arith))

-- put in at a place
pub has_put : {X : Type 0} (xs : List X) (i : ℕ) (y : X) → Has (insert xs i y) y
has_put xs zero y = inl refl
has_put [] (suc i) y = inl refl
has_put (x ∷ xs) (suc i) y = inr (has_put xs i y)

pub has_kept : {X : Type 0} (xs : List X) (i : ℕ) (y x : X) → Has xs x → Has (insert xs i y) x
has_kept xs zero y x h = inr h
has_kept [] (suc i) y x h = absurd h
has_kept (z ∷ xs) (suc i) y x (inl is) = inl is
has_kept (z ∷ xs) (suc i) y x (inr h) = inr (has_kept xs i y x h)

pub has_either : {X : Type 0} (xs : List X) (i : ℕ) (y x : X) → Has (insert xs i y) x → (y ≡ x) ⊎ Has xs x
has_either xs zero y x h = h
has_either [] (suc i) y x h = h
has_either (z ∷ xs) (suc i) y x (inl is) = inr (inl is)
has_either (z ∷ xs) (suc i) y x (inr h) = elim (has_either xs i y x h) [ inl is ↦ inl is | inr had ↦ inr (inr had) ]

-- taken out of a place
pub had : {X : Type 0} (xs : List X) (i : ℕ) (x : X) → Has (remove xs i) x → Has xs x
had [] zero x h = h
had [] (suc i) x h = h
had (z ∷ xs) zero x h = inr h
had (z ∷ xs) (suc i) x (inl is) = inl is
had (z ∷ xs) (suc i) x (inr h) = inr (had xs i x h)

pub has_still : {X : Type 0} (xs : List X) (i : ℕ) (x d : X) → Has xs x → (get_or xs i d ≡ x) ⊎ Has (remove xs i) x
has_still [] i x d h = absurd h
has_still (z ∷ xs) zero x d (inl is) = inl is
has_still (z ∷ xs) zero x d (inr h) = inr h
has_still (z ∷ xs) (suc i) x d (inl is) = inr (inl is)
has_still (z ∷ xs) (suc i) x d (inr h) = elim (has_still xs i x d h) [ inl is ↦ inl is | inr still ↦ inr (inr still) ]

pub length_put : {X : Type 0} (xs : List X) (i : ℕ) (y : X) → length (insert xs i y) ≡ length xs + 1
length_put xs zero y = omega arith
length_put [] (suc i) y = refl
length_put (x ∷ xs) (suc i) y = omega (arith, length_put xs i y)

pub length_taken : {X : Type 0} (xs : List X) (i : ℕ) → i < length xs → length (remove xs i) + 1 ≡ length xs
length_taken [] i below = absurd (omega arith)
length_taken (x ∷ xs) zero below = omega arith
length_taken (x ∷ xs) (suc i) below = omega (arith, length_taken xs i (omega arith))

module _ {K X : Type 0} (cmp : K → K → Ordering) (o : IsTotalOrder cmp) (key : X → K) where
  -- nothing is below itself
  pub not_below_itself : (a : K) → cmp a a ≡ Less → ⊥
  not_below_itself a less = let swapped : cmp a a ≡ ordering_reverse (cmp a a) = o.antisymm a a in absurd (cc)

  pub above_is : (a b : K) → cmp a b ≡ Less → cmp b a ≡ Greater
  above_is a b less = o.antisymm b a ∙ ap ordering_reverse less

  pub below_is : (a b : K) → cmp a b ≡ Greater → cmp b a ≡ Less
  below_is a b greater = o.antisymm b a ∙ ap ordering_reverse greater

  pub above_each : (low : K) (xs : List X) (x : X) → AreAbove cmp key low xs → Has xs x → cmp low (key x) ≡ Less
  above_each low [] x above h = absurd h
  above_each low (y ∷ xs) x above (inl is) = subst (λ (z : X). cmp low (key z) ≡ Less) is above.0
  above_each low (y ∷ xs) x above (inr h) = above_each low xs x above.1 h

  above_lower : (low lower : K) (xs : List X) → cmp lower low ≡ Less → AreAbove cmp key low xs → AreAbove cmp key lower xs
  above_lower low lower [] less above = tt
  above_lower low lower (x ∷ xs) less above = (o.trans lower low (key x) less above.0, above_lower low lower xs less above.1)

  -- each key stands once
  pub stands_once : (xs : List X) (a b : X) → Rise cmp key xs → Has xs a → Has xs b → cmp (key a) (key b) ≡ Equal → a ≡ b
  stands_once [] a b rise ha hb same = absurd ha
  stands_once (x ∷ xs) a b rise (inl is) (inl also) same = sym is ∙ also
  stands_once (x ∷ xs) a b rise (inl is) (inr hb) same =
      let less : cmp (key x) (key b) ≡ Less = above_each (key x) xs b rise.0 hb in
      let less' : cmp (key a) (key b) ≡ Less = subst (λ (z : X). cmp (key z) (key b) ≡ Less) is less in absurd (cc)
  stands_once (x ∷ xs) a b rise (inr ha) (inl is) same =
      let less : cmp (key x) (key a) ≡ Less = above_each (key x) xs a rise.0 ha in
      let more : cmp (key a) (key x) ≡ Greater = above_is (key x) (key a) less in
      let more' : cmp (key a) (key b) ≡ Greater = subst (λ (z : X). cmp (key a) (key z) ≡ Greater) is more in absurd (cc)
  stands_once (x ∷ xs) a b rise (inr ha) (inr hb) same = stands_once xs a b rise.1 ha hb same

  -- what is left without one has no other of its key
  pub gone : (xs : List X) (i : ℕ) (d b : X) → i < length xs → Rise cmp key xs → Has (remove xs i) b → cmp (key (get_or xs i d)) (key b) ≡ Equal → ⊥
  gone [] i d b below rise h same = absurd (omega arith)
  gone (x ∷ xs) zero d b below rise h same = let less : cmp (key x) (key b) ≡ Less = above_each (key x) xs b rise.0 h in absurd (cc)
  gone (x ∷ xs) (suc i) d b below rise (inl is) same =
      let less : cmp (key x) (key (get_or xs i d)) ≡ Less = above_each (key x) xs (get_or xs i d) rise.0 (has_at xs i d (omega arith)) in
      let more : cmp (key (get_or xs i d)) (key x) ≡ Greater = above_is (key x) (key (get_or xs i d)) less in
      let more' : cmp (key (get_or xs i d)) (key b) ≡ Greater = subst (λ (z : X). cmp (key (get_or xs i d)) (key z) ≡ Greater) is more in absurd (cc)
  gone (x ∷ xs) (suc i) d b below rise (inr h) same = gone xs i d b (omega arith) rise.1 h same

  above_left : (low : K) (xs : List X) (i : ℕ) → AreAbove cmp key low xs → AreAbove cmp key low (remove xs i)
  above_left low [] zero above = tt
  above_left low [] (suc i) above = tt
  above_left low (x ∷ xs) zero above = above.1
  above_left low (x ∷ xs) (suc i) above = (above.0, above_left low xs i above.1)

  pub rise_left : (xs : List X) (i : ℕ) → Rise cmp key xs → Rise cmp key (remove xs i)
  rise_left [] zero rise = tt
  rise_left [] (suc i) rise = tt
  rise_left (x ∷ xs) zero rise = rise.1
  rise_left (x ∷ xs) (suc i) rise = (above_left (key x) xs i rise.0, rise_left xs i rise.1)

  above_with : (low : K) (xs : List X) (i : ℕ) (y : X) → cmp low (key y) ≡ Less → AreAbove cmp key low xs → AreAbove cmp key low (insert xs i y)
  above_with low xs zero y less above = (less, above)
  above_with low [] (suc i) y less above = (less, tt)
  above_with low (x ∷ xs) (suc i) y less above = (above.0, above_with low xs i y less above.1)

  -- put in between what is below it and what is above
  pub rise_with : (xs : List X) (i : ℕ) (y : X) → i ≤ length xs → Rise cmp key xs → ((k : ℕ) (d : X) → k < i → cmp (key (get_or xs k d)) (key y) ≡ Less)
      → ((k : ℕ) (d : X) → i ≤ k → k < length xs → cmp (key (get_or xs k d)) (key y) ≡ Greater) → Rise cmp key (insert xs i y)
  rise_with [] zero y fits rise lower higher = (tt, tt)
  rise_with (x ∷ xs) zero y fits rise lower higher =
      let first : cmp (key y) (key x) ≡ Less = below_is (key x) (key y) (higher 0 x (omega arith) (omega arith)) in
      ((first, above_lower (key x) (key y) xs first rise.0), rise)
  rise_with [] (suc i) y fits rise lower higher = absurd (omega arith)
  rise_with (x ∷ xs) (suc i) y fits rise lower higher = (
    above_with (key x) xs i y (lower 0 x (omega arith)) rise.0,
    rise_with xs i y (omega arith) rise.1 (λ k d below. lower (suc k) d (omega arith)) (λ k d from below. higher (suc k) d (omega arith) (omega arith)),
  )

  adjacent : (xs : List X) (k : ℕ) (d : X) → suc k < length xs → Rise cmp key xs → cmp (key (get_or xs k d)) (key (get_or xs (suc k) d)) ≡ Less
  adjacent [] k d below rise = absurd (omega arith)
  adjacent (x ∷ []) k d below rise = absurd (omega arith)
  adjacent (x ∷ (y ∷ xs)) zero d below rise = rise.0.0
  adjacent (x ∷ (y ∷ xs)) (suc k) d below rise = adjacent (y ∷ xs) k d (omega arith) rise.1

  sorted : (xs : List X) → Rise cmp key xs → IsSortedByKey key cmp xs
  sorted xs rise k d from below =
      let less : cmp (key (get_or xs k d)) (key (get_or xs (suc k) d)) ≡ Less = adjacent xs k d (omega arith) rise in
      let more : cmp (key (get_or xs (suc k) d)) (key (get_or xs k d)) ≡ Greater = above_is (key (get_or xs k d)) (key (get_or xs (suc k) d)) less in
      let after : k + 1 ≡ suc k = omega arith in
      subst (λ (n : ℕ). is_lt (cmp (key (get_or xs n d)) (key (get_or xs k d))) ≡ false) (sym after) (ap is_lt more)

  -- where a search found none, what stands before its place is below, and the rest is above
  pub parted : (xs : List X) (x : K) (at : ℕ) → Rise cmp key xs → IsBinarySearchResult (λ y. cmp (key y) x) xs (Err at)
      → IsPartitionPoint (λ y. cmp (key y) x ≡ Less) (λ y. cmp (key y) x ≡ Greater) xs at
  parted xs x at rise found = found (searchable_from_sorted o key xs x (sorted xs rise))

  pub apart : (xs : List X) (i j : ℕ) (d : X) → i < j → j < length xs → Rise cmp key xs → cmp (key (get_or xs i d)) (key (get_or xs j d)) ≡ Less
  apart [] i j d before below rise = absurd (omega arith)
  apart (x ∷ xs) zero zero d before below rise = absurd (omega arith)
  apart (x ∷ xs) zero (suc j) d before below rise = above_each (key x) xs (get_or xs j d) rise.0 (has_at xs j d (omega arith))
  apart (x ∷ xs) (suc i) zero d before below rise = absurd (omega arith)
  apart (x ∷ xs) (suc i) (suc j) d before below rise = apart xs i j d (omega arith) (omega arith) rise.1

  -- what stands up to a place that was found isn't above it, and the rest is
  pub past : (xs : List X) (x : K) (at : ℕ) → at < length xs → Rise cmp key xs → ((d : X) → cmp (key (get_or xs at d)) x ≡ Equal)
      → IsPartitionPoint (λ y. cmp (key y) x ≡ Greater → ⊥) (λ y. cmp (key y) x ≡ Greater) xs (at + 1)
  past xs x at below rise is = (
    λ k d from low greater. elim (cases_eq k at) [
      | inl same ↦
          let e : cmp (key (get_or xs k d)) x ≡ Equal = subst (λ (i : ℕ). cmp (key (get_or xs i d)) x ≡ Equal) (sym same) (is d) in
          let clash : Greater ≡ Equal = sym greater ∙ e in absurd (cc)
      | inr other ↦
          let less : cmp (key (get_or xs k d)) (key (get_or xs at d)) ≡ Less = apart xs k at d (omega (arith, other)) below rise in
          let more : cmp x (key (get_or xs k d)) ≡ Greater = sym (o.congr (key (get_or xs at d)) x (key (get_or xs k d)) (is d)) ∙ above_is (key (get_or xs k d)) (key (get_or xs at d)) less in
          let clash : Greater ≡ Less = sym greater ∙ below_is x (key (get_or xs k d)) more in absurd (cc)
    ],
    λ k d from low.
        let less : cmp (key (get_or xs at d)) (key (get_or xs k d)) ≡ Less = apart xs at k d (omega arith) low rise in
        let more : cmp x (key (get_or xs k d)) ≡ Less = sym (o.congr (key (get_or xs at d)) x (key (get_or xs k d)) (is d)) ∙ less in
        above_is x (key (get_or xs k d)) more,
  )

  pub past_none : (xs : List X) (x : K) (at : ℕ) → Rise cmp key xs → IsBinarySearchResult (λ y. cmp (key y) x) xs (Err at)
      → IsPartitionPoint (λ y. cmp (key y) x ≡ Greater → ⊥) (λ y. cmp (key y) x ≡ Greater) xs at
  past_none xs x at rise found =
      let both = parted xs x at rise found in
      (λ k d from low greater. (let clash : Greater ≡ Less = sym greater ∙ both.0 k d from low in absurd (cc)), both.1)

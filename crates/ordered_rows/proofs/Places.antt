-- What a row has, place by place, after one of its items is written, taken out or put in.
use Rattle.std.proofs.Common.{◌≡◌, ◌≢◌, ℕ, ◌<◌, ◌≤◌, ◌+◌, ◌⊎◌, inl, inr, List, [], ◌∷◌, length, Some, zero, suc, refl, sym, ap, arith}
use Rattle.std.specs.Prelude.{slice_get, slice_set}
use Rattle.std.specs.List.{insert, remove}
use Rattle.std.proofs.lemmas.Option.{same_Some}

pub set_from : {X : Type 0} (xs : List X) (k j : ℕ) (s x : X) → slice_get (slice_set xs k s) j ≡ Some x → ((j ≡ k) × (x ≡ s)) ⊎ ((j ≢ k) × (slice_get xs j ≡ Some x))
set_from [] k j s x h = cc
set_from (z ∷ xs) zero zero s x h = inl (refl, sym (same_Some s x h))
set_from (z ∷ xs) zero (suc j) s x h = inr (λ e. cc, h)
set_from (z ∷ xs) (suc k) zero s x h = inr (λ e. cc, h)
set_from (z ∷ xs) (suc k) (suc j) s x h = elim (set_from xs k j s x h) [ inl p ↦ inl (ap suc p.0, p.1) | inr p ↦ inr (λ e. p.0 (omega (arith, e)), p.1) ]

pub set_to : {X : Type 0} (xs : List X) (k j : ℕ) (s x : X) → slice_get xs j ≡ Some x → j ≢ k → slice_get (slice_set xs k s) j ≡ Some x
set_to [] k j s x h o = cc
set_to (z ∷ xs) zero zero s x h o = absurd (o refl)
set_to (z ∷ xs) zero (suc j) s x h o = h
set_to (z ∷ xs) (suc k) zero s x h o = h
set_to (z ∷ xs) (suc k) (suc j) s x h o = set_to xs k j s x h (λ e. o (ap suc e))

pub set_at : {X : Type 0} (xs : List X) (k : ℕ) (s : X) → k < length xs → slice_get (slice_set xs k s) k ≡ Some s
set_at [] k s h = absurd (omega (arith, h))
set_at (z ∷ xs) zero s h = refl
set_at (z ∷ xs) (suc k) s h = set_at xs k s (omega (arith, h))

pub set_twice : {X : Type 0} (xs : List X) (k : ℕ) (s u : X) → slice_set (slice_set xs k s) k u ≡ slice_set xs k u
set_twice [] k s u = refl
set_twice (z ∷ xs) zero s u = refl
set_twice (z ∷ xs) (suc k) s u = ap (λ ys. z ∷ ys) (set_twice xs k s u)

pub set_same : {X : Type 0} (xs : List X) (k : ℕ) (s : X) → slice_get xs k ≡ Some s → slice_set xs k s ≡ xs
set_same [] k s h = refl
set_same (z ∷ xs) zero s h = ap (λ y. y ∷ xs) (sym (same_Some z s h))
set_same (z ∷ xs) (suc k) s h = ap (λ ys. z ∷ ys) (set_same xs k s h)

-- a place of what is left, and where it was before
abbrev pub Shifted : ℕ → ℕ → ℕ → Type 0
Shifted n i j = ((i < n) × (j ≡ i)) ⊎ ((n ≤ i) × (j ≡ i + 1))

pub removed_from : {X : Type 0} (xs : List X) (n i : ℕ) (x : X) → slice_get (remove xs n) i ≡ Some x → (j : ℕ) × ((slice_get xs j ≡ Some x) × Shifted n i j)
removed_from [] zero i x h = cc
removed_from [] (suc n) i x h = cc
removed_from (z ∷ xs) zero i x h = (suc i, (h, inr (omega arith, omega arith)))
removed_from (z ∷ xs) (suc n) zero x h = (zero, (h, inl (omega arith, refl)))
removed_from (z ∷ xs) (suc n) (suc i) x h = let r = removed_from xs n i x h in
    (suc r.0, (r.1.0, elim r.1.1 [ inl p ↦ inl (omega (arith, p.0), ap suc p.1) | inr p ↦ inr (omega (arith, p.0), omega (arith, p.1)) ]))

pub removed_to : {X : Type 0} (xs : List X) (n j : ℕ) (x : X) → slice_get xs j ≡ Some x → j ≢ n → (i : ℕ) × ((slice_get (remove xs n) i ≡ Some x) × Shifted n i j)
removed_to [] n j x h o = cc
removed_to (z ∷ xs) zero zero x h o = absurd (o refl)
removed_to (z ∷ xs) zero (suc j) x h o = (j, (h, inr (omega arith, omega arith)))
removed_to (z ∷ xs) (suc n) zero x h o = (zero, (h, inl (omega arith, refl)))
removed_to (z ∷ xs) (suc n) (suc j) x h o = let r = removed_to xs n j x h (λ e. o (ap suc e)) in
    (suc r.0, (r.1.0, elim r.1.1 [ inl p ↦ inl (omega (arith, p.0), ap suc p.1) | inr p ↦ inr (omega (arith, p.0), omega (arith, p.1)) ]))

pub inserted_from : {X : Type 0} (xs : List X) (n i : ℕ) (y x : X) → n ≤ length xs → slice_get (insert xs n y) i ≡ Some x → ((i ≡ n) × (x ≡ y)) ⊎
    ((j : ℕ) × ((slice_get xs j ≡ Some x) × (((i < n) × (j ≡ i)) ⊎ ((n < i) × (i ≡ j + 1)))))
inserted_from [] zero zero y x le h = inl (refl, sym (same_Some y x h))
inserted_from [] zero (suc i) y x le h = cc
inserted_from [] (suc n) i y x le h = absurd (omega (arith, le))
inserted_from (z ∷ xs) zero zero y x le h = inl (refl, sym (same_Some y x h))
inserted_from (z ∷ xs) zero (suc i) y x le h = inr (i, (h, inr (omega arith, omega arith)))
inserted_from (z ∷ xs) (suc n) zero y x le h = inr (zero, (h, inl (omega arith, refl)))
inserted_from (z ∷ xs) (suc n) (suc i) y x le h =
    elim (inserted_from xs n i y x (omega (arith, le)) h) [
      | inl p ↦ inl (ap suc p.0, p.1)
      | inr r ↦ inr (suc r.0, (r.1.0, elim r.1.1 [ inl p ↦ inl (omega (arith, p.0), ap suc p.1) | inr p ↦ inr (omega (arith, p.0), omega (arith, p.1)) ]))
    ]

pub inserted_at : {X : Type 0} (xs : List X) (n : ℕ) (y : X) → n ≤ length xs → slice_get (insert xs n y) n ≡ Some y
inserted_at [] zero y le = refl
inserted_at [] (suc n) y le = absurd (omega (arith, le))
inserted_at (z ∷ xs) zero y le = refl
inserted_at (z ∷ xs) (suc n) y le = inserted_at xs n y (omega (arith, le))

pub inserted_to : {X : Type 0} (xs : List X) (n j : ℕ) (y x : X) → n ≤ length xs → slice_get xs j ≡ Some x → (i : ℕ) × (slice_get (insert xs n y) i ≡ Some x)
inserted_to [] n j y x le h = cc
inserted_to (z ∷ xs) zero j y x le h = (suc j, h)
inserted_to (z ∷ xs) (suc n) zero y x le h = (zero, h)
inserted_to (z ∷ xs) (suc n) (suc j) y x le h = let r = inserted_to xs n j y x (omega (arith, le)) h in (suc r.0, r.1)

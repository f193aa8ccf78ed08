-- How many items a row has whose numbers differ and are below a bound.
use Rattle.std.proofs.Common.{◌≡◌, ◌≢◌, ℕ, ◌<◌, List, [], ◌∷◌, length, get_or, Some, inl, inr, zero, suc, refl, sym, ap, ◌∙◌, arith, true, false, eqb}
use Rattle.std.specs.Prelude.{slice_get, map}
use Rattle.std.specs.List.{list_any}
use Rattle.std.proofs.lemmas.Bool.Decides.{eqb_tells, Decides-eqb}
use Rattle.std.proofs.lemmas.List.{length-map}
use Rattle.std.proofs.lemmas.Map.Made.{IsDistinct-from_AllPairs}
use Rattle.std.proofs.lemmas.Map.Steps.{length-le_from_distinct_below}
use Rattle.std.proofs.lemmas.Option.{same_Some, slice_get-get_or}

-- where a number of the row comes from
map_at : {X : Type 0} (number : X → ℕ) (row : List X) (i n : ℕ) → slice_get (map number row) i ≡ Some n → (x : X) × ((slice_get row i ≡ Some x) × (number x ≡ n))
map_at number [] i n h = cc
map_at number (x ∷ row) zero n h = (x, (refl, same_Some (number x) n h))
map_at number (x ∷ row) (suc i) n h = map_at number row i n h

any_at : (q : ℕ) (xs : List ℕ) → list_any (eqb q) xs ≡ true → (i : ℕ) × (slice_get xs i ≡ Some q)
any_at q [] h = cc
any_at q (x ∷ xs) h = elim (eqb_tells q x) [ inl p ↦ (0, ap Some (sym p.1)) | inr p ↦ let r = any_at q xs (rest q x xs p.0 h) in (suc r.0, r.1) ]
  where
    rest : (q x : ℕ) (xs : List ℕ) → eqb q x ≡ false → list_any (eqb q) (x ∷ xs) ≡ true → list_any (eqb q) xs ≡ true
    rest q x xs other h = rw other at h

-- items whose numbers differ from one another, and from one number below a bound, are fewer than the bound where all numbers are below it
pub fewer_than : {X : Type 0} (number : X → ℕ) (row : List X) (bound k : ℕ) → k < bound → ((i : ℕ) (x : X) → slice_get row i ≡ Some x → number x < bound)
    → ((i : ℕ) (x : X) → slice_get row i ≡ Some x → number x ≢ k) → ((i j : ℕ) (a b : X) → i < j → slice_get row i ≡ Some a → slice_get row j ≡ Some b → number a ≢ number b)
    → length row < bound
fewer_than number row bound k fits within apart other =
    let all = k ∷ map number row in
    let differ = all_differ number row k apart other in
    let few = length-le_from_distinct_below all bound (IsDistinct-from_AllPairs Decides-eqb all (λ i j d less inside e. differ i j less (get_or all i d)
    (slice_get-get_or all i d (omega (arith, less, inside))) (slice_get-get_or all j d inside ∙ ap Some (sym e))))
    (λ q h. let w = any_at q all h in all_within number row bound k fits within w.0 q w.1) in
    let same = length-map row number in
    omega (arith, few, same)
  where
    all_within : {X : Type 0} (number : X → ℕ) (row : List X) (bound k : ℕ) → k < bound → ((i : ℕ) (x : X) → slice_get row i ≡ Some x → number x < bound) → (i n : ℕ) → slice_get
        (k ∷ map number row) i ≡ Some n → n < bound
    all_within number row bound k fits within zero n h = omega (arith, fits, same_Some k n h)
    all_within number row bound k fits within (suc i) n h = let w = map_at number row i n h in let small = within i w.0 w.1.0 in omega (arith, small, w.1.1)

    all_differ : {X : Type 0} (number : X → ℕ) (row : List X) (k : ℕ) → ((i : ℕ) (x : X) → slice_get row i ≡ Some x → number x ≢ k) →
        ((i j : ℕ) (a b : X) → i < j → slice_get row i ≡ Some a → slice_get row j ≡ Some b → number a ≢ number b)
        → (i j : ℕ) → i < j → (n : ℕ) → slice_get (k ∷ map number row) i ≡ Some n → slice_get (k ∷ map number row) j ≡ Some n → ⊥
    all_differ number row k apart other i zero less n h g = omega (arith, less)
    all_differ number row k apart other zero (suc j) less n h g = let w = map_at number row j n g in apart j w.0 w.1.0 (w.1.1 ∙ sym (same_Some k n h))
    all_differ number row k apart other (suc i) (suc j) less n h g =
        let v = map_at number row i n h in
        let w = map_at number row j n g in
        other i j v.0 w.0 (omega (arith, less)) v.1.0 w.1.0 (v.1.1 ∙ sym w.1.1)

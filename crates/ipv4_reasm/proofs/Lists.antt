-- Lists of which a front counts: a write, a removal, a filter in place.
use Rattle.std.proofs.Common.{◌≡◌, ◌+◌, ◌<◌, ◌≤◌, List, ℕ, Bool, true, false, cond, zero, suc, [], ◌∷◌, ◌++◌, length, take, drop, filter, get_or, set, Some, refl, ap, sym, ◌∙◌, arith, subst, add-one}
use Rattle.std.specs.Prelude.{slice_get}
use Rattle.std.specs.List.{remove}
use Rattle.std.proofs.lemmas.List.{length-take-le, take-append-le}
use Rattle.std.proofs.lemmas.List.Edits.{length-remove}
use Rattle.std.proofs.lemmas.Option.{slice_get_within}

-- what is read within the front
pub front_get : {X : Type 0} (xs : List X) (n i : ℕ) (x y : X) → slice_get (take n xs) i ≡ Some x → y ≡ get_or xs i y → y ≡ x
front_get [] zero i x y h e = cc
front_get [] (suc n) i x y h e = cc
front_get (z ∷ xs) zero i x y h e = cc
front_get (z ∷ xs) (suc n) zero x y h e = let s : z ≡ x = cc in e ∙ s
front_get (z ∷ xs) (suc n) (suc i) x y h e = front_get xs n i x y h e

-- a write
pub front_set : {X : Type 0} (xs : List X) (n i : ℕ) (y : X) → take n (set xs i y) ≡ set (take n xs) i y
front_set [] zero i y = refl
front_set [] (suc n) i y = refl
front_set (z ∷ xs) zero i y = refl
front_set (z ∷ xs) (suc n) zero y = refl
front_set (z ∷ xs) (suc n) (suc i) y = ap (λ ys. z ∷ ys) (front_set xs n i y)

-- one that is taken out of the front
pub front_removed : {X : Type 0} (xs : List X) (m i : ℕ) (y : X) → i ≤ m → suc m ≤ length xs → take m (remove xs i ++ y ∷ []) ≡ remove (take (suc m) xs) i
front_removed [] m i y low high = absurd (omega arith)
front_removed (z ∷ xs) zero zero y low high = refl
front_removed (z ∷ xs) zero (suc i) y low high = absurd (omega arith)
front_removed (z ∷ xs) (suc m) zero y low high = let h : suc m ≤ length xs = omega arith in rw take-append-le refl
front_removed (z ∷ xs) (suc m) (suc i) y low high = ap (λ ys. z ∷ ys) (front_removed xs m i y (omega arith) (omega arith))

-- a filter in place has come to this place
pub record IsDropped {X : Type 0} (p : X → Bool) (before now : List X) (i : ℕ) : Type 0 where
  pub left : filter p before ≡ take i now ++ filter p (drop i now)
  pub within : i ≤ length now

pub keep_step : {X : Type 0} (p : X → Bool) (xs : List X) (i : ℕ) (x : X) → slice_get xs i ≡ Some x → p x ≡ true → take i xs ++ filter p (drop i xs) ≡ take (suc i) xs ++ filter p (drop (suc i) xs)
keep_step p [] i x h passes = cc
keep_step p (z ∷ xs) zero x h passes = let s : z ≡ x = cc in ap (λ b. cond b (z ∷ filter p xs) (filter p xs)) (ap p s ∙ passes)
keep_step p (z ∷ xs) (suc i) x h passes = ap (λ ys. z ∷ ys) (keep_step p xs i x h passes)

pub drop_step : {X : Type 0} (p : X → Bool) (xs : List X) (i : ℕ) (x : X) → slice_get xs i ≡ Some x → p x ≡ false → take i xs ++ filter p (drop i xs) ≡ take i (remove xs i)
    ++ filter p (drop i (remove xs i))
drop_step p [] i x h passes = cc
drop_step p (z ∷ xs) zero x h passes = let s : z ≡ x = cc in ap (λ b. cond b (z ∷ filter p xs) (filter p xs)) (ap p s ∙ passes)
drop_step p (z ∷ xs) (suc i) x h passes = ap (λ ys. z ∷ ys) (drop_step p xs i x h passes)

-- an element at each place
pub there : {X : Type 0} (xs : List X) (i : ℕ) → i < length xs → (x : X) × (slice_get xs i ≡ Some x)
there [] i h = absurd (omega arith)
there (x ∷ xs) zero h = (x, refl)
there (x ∷ xs) (suc i) h = there xs i (omega arith)

pub keep_on : {X : Type 0} (p : X → Bool) (before now : List X) (i : ℕ) (x : X) → IsDropped p before now i → slice_get now i ≡ Some x → p x ≡ true → IsDropped p before now (i + 1)
keep_on p before now i x so_far at passes = subst (IsDropped p before now) (sym (add-one i)) (record {
  left = so_far.left ∙ keep_step p now i x at passes;
  within = let w = slice_get_within now i x at in omega arith;
})

pub drop_on : {X : Type 0} (p : X → Bool) (before now : List X) (i : ℕ) (x : X) → IsDropped p before now i → slice_get now i ≡ Some x → p x ≡ false → IsDropped p before (remove now i) i
drop_on p before now i x so_far at passes = record {
  left = so_far.left ∙ drop_step p now i x at passes;
  within = let w = slice_get_within now i x at in let r = length-remove now i w in omega arith;
}

-- a place within the front
pub front_long : {X : Type 0} (xs now : List X) (n i : ℕ) → take n xs ≡ now → n ≤ length xs → i < n → i < length now
front_long xs now n i view fits less = let held = length-take-le n xs fits in let same = ap length view in omega arith

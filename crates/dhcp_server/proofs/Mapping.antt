-- A list that is changed from the front on, one element after another.
use Rattle.std.proofs.Common.{◌≡◌, ℕ, zero, suc, ◌+◌, ◌<◌, List, [], ◌∷◌, ◌++◌, length, map, take, drop, set, get_or, refl, ap, ◌∙◌, arith}

module _ {X : Type 0} (f : X → X) (d : X) where
  -- the first so many are changed
  pub changed : List X → ℕ → List X
  changed xs i = map f (take i xs) ++ drop i xs

  -- the next is as it was
  next_is : (xs : List X) (i : ℕ) → i < length xs → get_or (map f (take i xs) ++ drop i xs) i d ≡ get_or xs i d
  next_is [] i lt = absurd (omega (arith, lt))
  next_is (x ∷ xs) zero lt = refl
  next_is (x ∷ xs) (suc i) lt = next_is xs i (omega (arith, lt))

  next_changed : (xs : List X) (i : ℕ) → i < length xs → set (map f (take i xs) ++ drop i xs) i (f (get_or xs i d)) ≡ map f (take (i + 1) xs) ++ drop (i + 1) xs
  next_changed [] i lt = absurd (omega (arith, lt))
  next_changed (x ∷ xs) zero lt = refl
  next_changed (x ∷ xs) (suc i) lt =
      ap (λ ys. f x ∷ ys) (next_changed xs i (omega (arith, lt)))
      ∙ ap (λ n. map f (take n (x ∷ xs)) ++ drop n (x ∷ xs)) (let next : suc (i + 1) ≡ suc i + 1 = omega arith in next)

  -- a change of the next one, where it is by the function
  pub goes_on : (xs now : List X) (i : ℕ) (y : X) → i < length xs → now ≡ map f (take i xs) ++ drop i xs → y ≡ f (get_or now i d) → set now i y ≡ map f (take (i + 1) xs) ++ drop (i + 1) xs
  goes_on xs now i y lt is made =
      ap (λ zs. set zs i y) is
      ∙ ap (λ z. set (map f (take i xs) ++ drop i xs) i z) (made ∙ ap (λ zs. f (get_or zs i d)) is ∙ ap f (next_is xs i lt))
      ∙ next_changed xs i lt

  -- all of them
  pub all_changed : (xs : List X) → map f (take (length xs) xs) ++ drop (length xs) xs ≡ map f xs
  all_changed [] = refl
  all_changed (x ∷ xs) = ap (λ ys. f x ∷ ys) (all_changed xs)

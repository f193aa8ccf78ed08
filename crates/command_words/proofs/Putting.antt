-- A list of which the first are held.
use Rattle.std.proofs.Common.{◌≡◌, ℕ, ◌<◌, ◌≤◌, List, [], ◌∷◌, ◌++◌, length, take, sym, ◌∙◌, ap, arith, length-append}
use Rattle.std.proofs.lemmas.List.{length-take, take_all, take-append-le}

module _ {X : Type 0} (n : ℕ) (all : List X) (x : X) (old : List X) (is : old ≡ take n all) where
  pub put_more : length old < n → old ++ x ∷ [] ≡ take n (all ++ x ∷ [])
  put_more room =
      let few : length all < n = omega (arith, ap length is, length-take n all, room) in
      let whole : take n all ≡ all = take_all n all (omega (arith, few)) in
      let fits : length (all ++ x ∷ []) ≤ n = omega (arith, few, length-append all (x ∷ [])) in
      ap (λ (t : List X). t ++ x ∷ []) (is ∙ whole) ∙ sym (take_all n (all ++ x ∷ []) fits)

  pub put_none : length old ≡ n → old ≡ take n (all ++ x ∷ [])
  put_none full =
      let enough : n ≤ length all = omega (arith, ap length is, length-take n all, full) in
      is ∙ sym (take-append-le n all (x ∷ []) enough)

-- The numbers of associations of which one was used.
use Rattle.std.proofs.Common.{◌≡◌, ℕ, Bool, cond, true, false, List, [], ◌∷◌, ◌++◌, ap, sym, subst, ◌∙◌}
use Rattle.std.specs.List.Sorted.{IsPermutation}
use Rattle.std.proofs.lemmas.List.{map-append}
use Rattle.std.proofs.lemmas.List.Sorted.{IsPermutation-refl, IsPermutation-append_comm, IsPermutation-append_right}
use Rattle.rules_udp.specs.Associations.{numbers, moved_last, is_numbered}
use Rattle.rules_udp.specs.declared.Association.{Association}

-- they are the same, in another order
pub moved_numbers : (change : Association → Association) → ((a : Association) → (change a).number ≡ a.number) → (number : ℕ) (list : List Association)
    → IsPermutation (numbers list) (numbers (moved_last change number list))
moved_numbers change keeps number [] = IsPermutation-refl []
moved_numbers change keeps number (a ∷ list) = by_test (is_numbered number a) (moved_numbers change keeps number list)
  where
    last : numbers (list ++ (change a ∷ [])) ≡ numbers list ++ (a.number ∷ [])
    last = map-append (λ (x : Association). x.number) list (change a ∷ []) ∙ ap (λ n. numbers list ++ (n ∷ [])) (keeps a)

    by_test : (b : Bool) → IsPermutation (numbers list) (numbers (moved_last change number list))
        → IsPermutation (a.number ∷ numbers list) (numbers (cond b (list ++ (change a ∷ [])) (a ∷ moved_last change number list)))
    by_test true rest = subst (λ l. IsPermutation (a.number ∷ numbers list) l) (sym last) (IsPermutation-append_comm (a.number ∷ []) (numbers list))
    by_test false rest = IsPermutation-append_right (a.number ∷ []) (numbers list) (numbers (moved_last change number list)) rest

-- The numbers of questions of which one was used.
use Rattle.std.proofs.Common.{◌≡◌, ℕ, Bool, true, false, cond, List, [], ◌∷◌, ◌++◌, sym, ◌∙◌, ap, subst}
use Rattle.std.specs.List.Sorted.{IsPermutation}
use Rattle.std.proofs.lemmas.List.{map-append}
use Rattle.std.proofs.lemmas.List.Sorted.{IsPermutation-append_comm, IsPermutation-append_right, IsPermutation-refl}
use Rattle.rules_dns.specs.Questions.{is_numbered, moved_last, numbers}
use Rattle.rules_dns.specs.declared.Question.{Question}

-- they are the same, in another order
pub moved_numbers : (change : Question → Question) → ((q : Question) → (change q).number ≡ q.number) → (number : ℕ) (list : List Question)
    → IsPermutation (numbers list) (numbers (moved_last change number list))
moved_numbers change keeps number [] = IsPermutation-refl []
moved_numbers change keeps number (q ∷ list) = by (is_numbered number q) (moved_numbers change keeps number list)
  where
    last : numbers (list ++ (change q ∷ [])) ≡ numbers list ++ (q.number ∷ [])
    last = map-append (λ (x : Question). x.number) list (change q ∷ []) ∙ ap (λ n. numbers list ++ (n ∷ [])) (keeps q)

    by : (b : Bool) → IsPermutation (numbers list) (numbers (moved_last change number list))
        → IsPermutation (q.number ∷ numbers list) (numbers (cond b (list ++ (change q ∷ [])) (q ∷ moved_last change number list)))
    by true rest = subst (λ l. IsPermutation (q.number ∷ numbers list) l) (sym last) (IsPermutation-append_comm (q.number ∷ []) (numbers list))
    by false rest = IsPermutation-append_right (q.number ∷ []) (numbers list) (numbers (moved_last change number list)) rest

-- When the questions that wait have waited for long enough, by the list in the order of use.
use Rattle.std.proofs.Common.{◌≡◌, ℕ, suc, ◌+◌, ◌-◌, ◌<◌, ◌≤◌, ◌==◌, ◌||◌, nat_le, Bool, true, false, List, [], ◌∷◌, ◌++◌, All, Some, refl, sym, ap, ◌∙◌, subst, arith}
use Rattle.std.proofs.lemmas.Bool.Decides.{nat_tests}
use Rattle.world_face.specs.Journal.{Entry}
use Rattle.slirp_settings.specs.Addresses.{Config}
use Rattle.rules_dns.specs.Questions.{is_over, numbers, question_life}
use Rattle.rules_dns.specs.declared.Question.{Question}
use Rattle.spec_trace.specs.Sockets.{is_among}
use Rattle.spec_flow.specs.Dutiful.{AreAhead}
use Rattle.spec_flow.specs.Bounds.{IsBy, IsFrom}
use Rattle.spec_run.specs.Laws.{Lawful}
use Rattle.spec_run.specs.Names.{questions}
use Rattle.spec_run.specs.Ports.{used_at}
use Rattle.spec_run.specs.Questions.{questions_open}
use Rattle.spec_run.specs.Said.{AreByLastUse}
use Rattle.spec_run.proofs.Bools.{equal}
use Rattle.spec_run.proofs.Listed.{AllQuestions}
use Rattle.spec_run.proofs.Waiting.{IsUsed, are_waiting, same_waiting}
use Rattle.spec_duties.specs.Times.{association_lives, lives, question_lives}
use Rattle.spec_duties.proofs.Lives.{ahead_each, at_front, by_each, from_each, used_last}

-- what the trace says of one with a number, and what holds of all
has_one : (past : List Entry) (P : Question → Type 0) (n : ℕ) (list : List Question) → AllQuestions (IsUsed past) list → All P list → is_among n (numbers list) ≡ true →
    (q : Question) × (used_at n past ≡ q.used) × P q
has_one past P n [] used all among = absurd cc
has_one past P n (x ∷ list) used all among = by (n == x.number) refl among (has_one past P n list used.1 (λ k d low. all (suc k) d (omega (arith, low)))) (all 0 x (omega arith))
  where
    by : (b : Bool) → (n == x.number) ≡ b → (b || is_among n (numbers list)) ≡ true → (is_among n (numbers list) ≡ true → (q : Question) × (used_at n past ≡ q.used) × P q) → P x
        → (q : Question) × (used_at n past ≡ q.used) × P q
    by true is one rest here = (x, ap (λ m. used_at m past) (equal n x.number is) ∙ used.0.used, here)
    by false is one rest here = rest one

ahead_both : (now : ℕ) (one other : List ℕ) → AreAhead now one → AreAhead now other → AreAhead now (one ++ other)
ahead_both now [] other is_one is_other = is_other
ahead_both now (m ∷ one) other is_one is_other = (is_one.0, ahead_both now one other is_one.1 is_other)

module _ (config : Config) (past : List Entry) (lawful : Lawful config past) (now : ℕ) (young : All (λ q. is_over now q ≡ false) (questions config past)) where
  of_question : (n : ℕ) → is_among n (questions_open config past) ≡ true → now < used_at n past + question_life
  of_question n among =
      let w = are_waiting config past lawful in
      let one = has_one past (λ q. is_over now q ≡ false) n (questions config past) w.used young (sym (same_waiting config past (questions config past) w n) ∙ among) in
      let used : used_at n past ≡ one.0.used = one.1 in
      let over : nat_le (one.0.used + question_life) now ≡ false = one.2 in
      let later : now < one.0.used + question_life = grind (arith, nat_tests, over) in
      omega (arith, used, later)

  pub questions_ahead : AreAhead now (question_lives config past)
  questions_ahead = ahead_each now (λ n. used_at n past + question_life) (questions_open config past) of_question

  -- so no socket for datagrams is to be closed, where those of associations aren't
  pub all_ahead : AreAhead now (association_lives config past) → AreAhead now (lives config past)
  all_ahead of_associations = ahead_both now (association_lives config past) (question_lives config past) of_associations questions_ahead

  oldest_young : (o : Question) (rest : List Question) → questions config past ≡ o ∷ rest → now < o.used + question_life
  oldest_young o rest is =
      let all = subst (λ l. All (λ q. is_over now q ≡ false) l) is young in
      let over : nat_le (o.used + question_life) now ≡ false = all 0 o (omega arith) in
      grind (arith, nat_tests, over)

  used_first : (o : Question) (rest : List Question) → questions config past ≡ o ∷ rest → used_at o.number past ≡ o.used
  used_first o rest is = let all = subst (AllQuestions (IsUsed past)) is (are_waiting config past lawful).used in all.0.used

  -- the one that is the longest unused has waited for long enough first
  pub questions_by : (o : Question) (rest : List Question) → questions config past ≡ o ∷ rest → o.used ≤ now → IsBy (Some (now + (question_life - (now - o.used)))) (question_lives config past)
  questions_by o rest is soon = by_each (now + (question_life - (now - o.used))) (λ n. used_at n past + question_life) (questions_open config past) of_each
    where
      order : AreByLastUse past (o.number ∷ numbers rest)
      order = subst (λ l. AreByLastUse past (numbers l)) is (are_waiting config past lawful).order

      of_each : (n : ℕ) → is_among n (questions_open config past) ≡ true → now + (question_life - (now - o.used)) ≤ used_at n past + question_life
      of_each n among =
          by (n == o.number) refl (sym (ap (λ l. is_among n (numbers l)) is) ∙ sym (same_waiting config past (questions config past) (are_waiting config past lawful) n) ∙ among)
        where
          by : (b : Bool) → (n == o.number) ≡ b → (b || is_among n (numbers rest)) ≡ true → now + (question_life - (now - o.used)) ≤ used_at n past + question_life
          by true at one =
              let here : used_at n past ≡ o.used = ap (λ m. used_at m past) (equal n o.number at) ∙ used_first o rest is in
              let later = oldest_young o rest is in
              omega (arith, here, later, soon)
          by false at one =
              let low = used_last past n o.number (numbers rest) order one in
              let mine = used_first o rest is in
              let later = oldest_young o rest is in
              omega (arith, low, mine, later, soon)

  -- and a wait that ends with it isn't too short
  pub questions_from : (o : Question) (rest : List Question) → questions config past ≡ o ∷ rest → o.used ≤ now → IsFrom (Some (now + (question_life - (now - o.used)))) (question_lives config past)
  questions_from o rest is soon =
      from_each (now + (question_life - (now - o.used))) (λ n. used_at n past + question_life) (questions_open config past) o.number
      (same_waiting config past (questions config past) (are_waiting config past lawful) o.number ∙ ap (λ l. is_among o.number (numbers l)) is ∙ at_front o.number (numbers rest)) low
    where
      low : used_at o.number past + question_life ≤ now + (question_life - (now - o.used))
      low = let mine = used_first o rest is in omega (arith, mine, soon)

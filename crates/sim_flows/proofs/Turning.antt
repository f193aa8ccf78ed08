-- A slot that enters TIME-WAIT is the last in the order, and the others keep their order.
use Rattle.std.proofs.Common.{◌≡◌, ℕ, suc, ◌+◌, ◌==◌, ◌||◌, Bool, true, false, not, cond, List, [], ◌∷◌, ◌++◌, Option, Some, None, refl, sym, ◌∙◌, ap, subst, arith}
use Rattle.std.proofs.lemmas.Bool.Decides.{nat_tests}
use Rattle.std.specs.Prelude.{filter_map}
use Rattle.std.specs.List.{remove, position_or_len, cons_option}
use Rattle.flow_table.specs.Slots.{moved_last}
use Rattle.spec_trace.specs.Sockets.{is_among}
use Rattle.sim_flows.specs.Seats.{Once}

at_one : (x k : ℕ) → (x == k) ≡ true → x ≡ k
at_one x k is = grind (arith, nat_tests, is)

back : (x k : ℕ) → (x == k) ≡ false → (k == x) ≡ false
back x k is = grind (arith, nat_tests, is)

-- the list without the first k
abbrev pub without_one : ℕ → List ℕ → List ℕ
without_one k xs = remove xs (position_or_len (λ other. other == k) xs)

pub without_head : (k x : ℕ) (xs : List ℕ) → (x == k) ≡ true → without_one k (x ∷ xs) ≡ xs
without_head k x xs is = ap (λ b. remove (x ∷ xs) (cond (not b) (1 + position_or_len (λ other. other == k) xs) 0)) is

pub without_tail : (k x : ℕ) (xs : List ℕ) → (x == k) ≡ false → without_one k (x ∷ xs) ≡ x ∷ without_one k xs
without_tail k x xs is =
    ap (λ b. remove (x ∷ xs) (cond (not b) (1 + position_or_len (λ other. other == k) xs) 0)) is ∙ ap (remove (x ∷ xs)) (one_more (position_or_len (λ other. other == k) xs))
  where
    one_more : (n : ℕ) → 1 + n ≡ suc n
    one_more n = omega arith

-- where k gives nothing, nothing is missed
pub nothing_missed : (F : ℕ → Option ℕ) (k : ℕ) → F k ≡ None → (xs : List ℕ) → filter_map F (without_one k xs) ≡ filter_map F xs
nothing_missed F k none [] = refl
nothing_missed F k none (x ∷ xs) = by_test (x == k) refl (nothing_missed F k none xs)
  where
    by_test : (b : Bool) → (x == k) ≡ b → filter_map F (without_one k xs) ≡ filter_map F xs → filter_map F (without_one k (x ∷ xs)) ≡ filter_map F (x ∷ xs)
    by_test true is rest =
        ap (filter_map F) (without_head k x xs is) ∙ sym (ap (λ o. cons_option o (filter_map F xs)) (ap F (at_one x k is) ∙ none))
    by_test false is rest = ap (filter_map F) (without_tail k x xs is) ∙ ap (cons_option (F x)) rest

-- where k stands once, it is gone
pub gone : (k : ℕ) (xs : List ℕ) → Once xs → is_among k (without_one k xs) ≡ false
gone k [] once = refl
gone k (x ∷ xs) once = by_test (x == k) refl (gone k xs once.1)
  where
    by_test : (b : Bool) → (x == k) ≡ b → is_among k (without_one k xs) ≡ false → is_among k (without_one k (x ∷ xs)) ≡ false
    by_test true is rest = ap (is_among k) (without_head k x xs is) ∙ subst (λ n. is_among n xs ≡ false) (at_one x k is) once.0
    by_test false is rest = ap (is_among k) (without_tail k x xs is) ∙ (ap (λ b. b || is_among k (without_one k xs)) (back x k is) ∙ rest)

-- two functions that agree but at k
pub agree : (F G : ℕ → Option ℕ) (k : ℕ) → ((j : ℕ) → (j == k) ≡ false → F j ≡ G j) → (xs : List ℕ) → is_among k xs ≡ false → filter_map F xs ≡ filter_map G xs
agree F G k same [] none = refl
agree F G k same (x ∷ xs) none =
    let parts = neither (k == x) (is_among k xs) none in
    (λ i. cons_option (same x (back k x parts.0) i) (agree F G k same xs parts.1 i))
  where
    neither : (a b : Bool) → (a || b) ≡ false → (a ≡ false) × (b ≡ false)
    neither true b is = cc
    neither false b is = (refl, is)

added : (F : ℕ → Option ℕ) (xs : List ℕ) (k n : ℕ) → F k ≡ Some n → filter_map F (xs ++ k ∷ []) ≡ filter_map F xs ++ n ∷ []
added F [] k n is = ap (λ o. cons_option o []) is
added F (x ∷ xs) k n is = ap (cons_option (F x)) (added F xs k n is) ∙ by_option (F x)
  where
    by_option : (o : Option ℕ) → cons_option o (filter_map F xs ++ n ∷ []) ≡ cons_option o (filter_map F xs) ++ n ∷ []
    by_option None = refl
    by_option (Some y) = refl

-- k gave nothing, and gives n now; all others give what they gave
pub comes_last : (F G : ℕ → Option ℕ) (k n : ℕ) (turns : List ℕ) → Once turns → F k ≡ None → G k ≡ Some n → ((j : ℕ) → (j == k) ≡ false → G j ≡ F j)
    → filter_map G (moved_last k turns) ≡ filter_map F turns ++ n ∷ []
comes_last F G k n turns once none some same =
    added G (without_one k turns) k n some ∙ ap (λ l. l ++ n ∷ []) (agree G F k same (without_one k turns) (gone k turns once) ∙ nothing_missed F k none turns)

-- The list of the ends of a guest's stream has exactly these.
use Rattle.std.proofs.Common.{refl, ◌≡◌, ℕ, ◌≤◌, List, [], ◌∷◌, length, Option, None, Some, ◌⊎◌, inl, inr, arith, subst, sym, ap, Bool, true, false, ◌&&◌, ◌||◌, if◌then◌else◌, IsTrue}
use Rattle.std.proofs.Common.{nat_eq, nat_le, ℤ, pos, negsuc, ◌+◌}
use Rattle.std.specs.List.{list_any}
use Rattle.std.proofs.lemmas.Bool.Decides.{nat_tests}
use Rattle.spec_flow.specs.Guest.{Up, Known, Came, Acked, Wrote, Ended, EndsAt, Conforming, HasCome, IsAcknowledged, ackd, ends, front}
use Rattle.spec_flow.specs.Flow.{push}
use Rattle.spec_flow.specs.Computed.{all_ends, end_if, ends_at, has_come, least_end, acknowledged}
use Rattle.spec_flow.proofs.Computing.{both, either, nat_same, nat_within}

-- ---- of lists

pub contains_first : (x : ℕ) (xs : List ℕ) → IsTrue (list_any (nat_eq x) (x ∷ xs))
contains_first x xs = let same : nat_eq x x ≡ true = grind (arith, nat_tests) in rw same refl

pub contains_later : (x y : ℕ) (xs : List ℕ) → IsTrue (list_any (nat_eq x) xs) → IsTrue (list_any (nat_eq x) (y ∷ xs))
contains_later x y xs is = or_later (nat_eq x y) (list_any (nat_eq x) xs) is
  where
    or_later : (a b : Bool) → IsTrue b → IsTrue (a || b)
    or_later true b is = refl
    or_later false b is = is

pub push_has : (x : ℕ) (o : Option ℕ) (xs : List ℕ) → IsTrue (list_any (nat_eq x) xs) → IsTrue (list_any (nat_eq x) (push o xs))
push_has x None xs is = is
push_has x (Some y) xs is = contains_later x y xs is

pub push_is : (x : ℕ) (o : Option ℕ) (xs : List ℕ) → o ≡ Some x → IsTrue (list_any (nat_eq x) (push o xs))
push_is x o xs is = rw is (contains_first x xs)

push_cases : (i : ℕ) (o : Option ℕ) (xs : List ℕ) → IsTrue (list_any (nat_eq i) (push o xs)) → (o ≡ Some i) ⊎ IsTrue (list_any (nat_eq i) xs)
push_cases i None xs has = inr has
push_cases i (Some k) xs has = elim (either (nat_eq i k) (list_any (nat_eq i) xs) has) [ inl here ↦ inl (ap (λ (j : ℕ). Some j) (sym (nat_same i k here))) | inr there ↦ inr there ]

-- ---- an end is in the list

pub when_le : (a i : ℕ) (o : Option ℕ) (x : ℕ) → a ≤ i → o ≡ Some x → (if nat_le a i then o else None) ≡ Some x
when_le a i o x low is = let yes_it : nat_le a i ≡ true = grind (arith, nat_tests) in rw yes_it is

end_if_is : (fin : Bool) (a : ℕ) (z : ℤ) (i : ℕ) → IsTrue fin → z ≡ pos i → a ≤ i → end_if fin a z ≡ Some i
end_if_is true a z i is same low = rw same (when_le a i (Some i) i low refl)
end_if_is false a z i is same low = absurd cc

pub ends_has : (past : List Up) (i : ℕ) → EndsAt past i → IsTrue (list_any (nat_eq i) (all_ends past))
ends_has [] i c = absurd c
ends_has (Came n xs fin heeded ∷ past) i (inl (is, same, low)) = push_is i (end_if fin (ackd past) (ends past n xs)) (all_ends past) (end_if_is fin (ackd past) (ends past n xs) i is same low)
ends_has (Came n xs fin heeded ∷ past) i (inr c) = push_has i (end_if fin (ackd past) (ends past n xs)) (all_ends past) (ends_has past i c)
ends_has (Known f ∷ past) i c = ends_has past i c
ends_has (Acked n ∷ past) i c = ends_has past i c
ends_has (Wrote xs n ∷ past) i c = ends_has past i c
ends_has (Ended ∷ past) i c = ends_has past i c

-- ---- and what is in the list is an end

end_if_says : (fin : Bool) (a : ℕ) (z : ℤ) (i : ℕ) → end_if fin a z ≡ Some i → IsTrue fin × (z ≡ pos i) × (a ≤ i)
end_if_says false a z i is = absurd cc
end_if_says true a (negsuc n) i is = absurd cc
end_if_says true a (pos e) i is = by (nat_le a e) refl is
  where
    by : (b : Bool) → nat_le a e ≡ b → (if b then Some e else None) ≡ Some i → IsTrue true × (pos e ≡ pos i) × (a ≤ i)
    by true low is = let same : e ≡ i = cc in (refl, ap (λ (k : ℕ). pos k) same, subst (λ (k : ℕ). a ≤ k) same (nat_within a e low))
    by false low is = absurd cc

pub ends_at_is : (past : List Up) (i : ℕ) → IsTrue (ends_at past i) → EndsAt past i
ends_at_is [] i has = absurd cc
ends_at_is (Came n xs fin heeded ∷ past) i has =
    elim (push_cases i (end_if fin (ackd past) (ends past n xs)) (all_ends past) has) [
      | inl here ↦ inl (end_if_says fin (ackd past) (ends past n xs) i here)
      | inr there ↦ inr (ends_at_is past i there)
    ]
ends_at_is (Known f ∷ past) i has = ends_at_is past i has
ends_at_is (Acked n ∷ past) i has = ends_at_is past i has
ends_at_is (Wrote xs n ∷ past) i has = ends_at_is past i has
ends_at_is (Ended ∷ past) i has = ends_at_is past i has

-- ---- what came, and what was acknowledged

pub has_come_is : (past : List Up) (n : ℕ) → IsTrue (has_come past n) → HasCome past n
has_come_is past n is =
    elim (either (nat_le n (length (front past))) (ends_at past (length (front past)) && nat_eq n (length (front past) + 1)) is) [
      | inl within ↦ inl (nat_within n (length (front past)) within)
      | inr all ↦ let parts = both (ends_at past (length (front past))) (nat_eq n (length (front past) + 1)) all in
          inr (ends_at_is past (length (front past)) parts.0, nat_same n (length (front past) + 1) parts.1)
    ]

-- the acknowledged octets of a conforming guest
pub acknowledged_is : (past : List Up) (a : ℕ) → Conforming past → IsAcknowledged past a → a ≡ acknowledged past
acknowledged_is past a h (inl (is, low)) =
    by (all_ends past) (λ i has. ends_at_is past i has)
  where
    by : (es : List ℕ) → ((i : ℕ) → IsTrue (list_any (nat_eq i) es) → EndsAt past i) → a ≡ least_end (ackd past) es
    by [] ends_here = is
    by (e ∷ es) ends_here = let least = low e (ends_here e (contains_first e es)) in omega (arith, is, least)
acknowledged_is past a h (inr (end, low)) =
    by (all_ends past) (λ i has. ends_at_is past i has) (ends_has past a end)
  where
    by : (es : List ℕ) → ((i : ℕ) → IsTrue (list_any (nat_eq i) es) → EndsAt past i) → IsTrue (list_any (nat_eq a) es) → a ≡ least_end (ackd past) es
    by [] ends_here has = absurd cc
    by (e ∷ es) ends_here has = let same = h.ends a e end (ends_here e (contains_first e es)) in omega (arith, same, low)

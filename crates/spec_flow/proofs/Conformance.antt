-- Where the test of a guest's stream holds, the guest is conforming.
use Rattle.std.proofs.Common.{refl, ◌≡◌, ℕ, zero, suc, ◌+◌, ◌^◌, ◌<◌, List, [], ◌∷◌, length, None, ◌⊎◌, inl, inr, arith, subst, Bool, true, false, ◌&&◌, if◌then◌else◌, IsTrue, ℤ, pos}
use Rattle.std.proofs.Common.{negsuc, ◌+ℤ◌, ◌≤ℤ◌, nat_le, nat_lt, nat_eq, ◌∙◌, sym}
use Rattle.std.specs.List.{list_any}
use Rattle.std.proofs.lemmas.Bool.Decides.{nat_tests}
use Rattle.std.proofs.lemmas.Int.{ints}
use Rattle.spec_flow.specs.Guest.{Up, Known, Came, Acked, Wrote, Ended, Carries, IsNear, Conforming, octet_at, begins, ackd, top}
use Rattle.spec_flow.specs.Computed.{all_are, are_same, every_below, octets_of, all_ends, is_under, is_near, none_past, is_conforming}
use Rattle.spec_flow.proofs.Computing.{both, nat_same, nat_within, either}
use Rattle.spec_flow.proofs.Ends.{ends_has, push_has, push_is, when_le}
use Rattle.spec_flow.proofs.Streams.{carries_below}

-- ---- of lists of numbers

all_are_is : (x y : ℕ) (ys : List ℕ) → IsTrue (all_are x ys) → IsTrue (list_any (nat_eq y) ys) → x ≡ y
all_are_is x y [] is has = absurd cc
all_are_is x y (z ∷ ys) is has =
    let p = both (nat_eq x z) (all_are x ys) is in
    elim (either (nat_eq y z) (list_any (nat_eq y) ys) has) [ inl here ↦ nat_same x z p.0 ∙ sym (nat_same y z here) | inr there ↦ all_are_is x y ys p.1 there ]

are_same_is : (xs : List ℕ) (x y : ℕ) → IsTrue (are_same xs) → IsTrue (list_any (nat_eq x) xs) → IsTrue (list_any (nat_eq y) xs) → x ≡ y
are_same_is [] x y is hx hy = absurd cc
are_same_is (z ∷ zs) x y is hx hy = sym (to x hx) ∙ to y hy
  where
    to : (w : ℕ) → IsTrue (list_any (nat_eq w) (z ∷ zs)) → z ≡ w
    to w h = elim (either (nat_eq w z) (list_any (nat_eq w) zs) h) [ inl here ↦ sym (nat_same w z here) | inr there ↦ all_are_is z w zs is there ]

every_below_is : (n : ℕ) (f : ℕ → Bool) (i : ℕ) → IsTrue (every_below n f) → i < n → IsTrue (f i)
every_below_is zero f i is low = absurd (omega arith)
every_below_is (suc n) f i is low =
    let p = both (f n) (every_below n f) is in
    elim (last n i low) [ inl same ↦ subst (λ (k : ℕ). IsTrue (f k)) (sym same) p.0 | inr less ↦ every_below_is n f i p.1 less ]
  where
    last : (n i : ℕ) → i < suc n → (i ≡ n) ⊎ (i < n)
    last n i low = by (nat_lt i n) refl
      where
        by : (b : Bool) → nat_lt i n ≡ b → (i ≡ n) ⊎ (i < n)
        by true is = inr (grind (arith, nat_tests))
        by false is = inl (grind (arith, nat_tests))

-- ---- of the stream

carries_has : (past : List Up) (i x : ℕ) → Carries past i x → IsTrue (list_any (nat_eq x) (octets_of past i))
carries_has [] i x c = absurd c
carries_has (Came n xs fin heeded ∷ past) i x (inl (low, at)) =
    push_is x (if nat_le (ackd past) i then octet_at (begins past n) xs i else None) (octets_of past i) (when_le (ackd past) i (octet_at (begins past n) xs i) x low at)
carries_has (Came n xs fin heeded ∷ past) i x (inr c) = push_has x (if nat_le (ackd past) i then octet_at (begins past n) xs i else None) (octets_of past i) (carries_has past i x c)
carries_has (Known f ∷ past) i x c = carries_has past i x c
carries_has (Acked n ∷ past) i x c = carries_has past i x c
carries_has (Wrote xs n ∷ past) i x c = carries_has past i x c
carries_has (Ended ∷ past) i x c = carries_has past i x c

under_is : (z : ℤ) (m : ℕ) → IsTrue (is_under z m) → z ≤ℤ pos m
under_is (pos n) m is = let low = nat_within n m is in omega (arith, ints)
under_is (negsuc n) m is = omega (arith, ints)

near_is : (past : List Up) → IsTrue (is_near past) → IsNear past
near_is [] is = tt
near_is (Came n xs fin heeded ∷ past) is =
    let p = both (is_under (begins past n +ℤ pos (length xs + (if fin then 1 else 0))) (ackd past + 2 ^ 31)) (is_near past) is in
    (under_is (begins past n +ℤ pos (length xs + (if fin then 1 else 0))) (ackd past + 2 ^ 31) p.0, near_is past p.1)
near_is (Known f ∷ past) is = near_is past is
near_is (Acked n ∷ past) is = near_is past is
near_is (Wrote xs n ∷ past) is = near_is past is
near_is (Ended ∷ past) is = near_is past is

none_past_is : (i : ℕ) (es xs : List ℕ) (e x : ℕ) → IsTrue (none_past i es xs) → IsTrue (list_any (nat_eq e) es) → IsTrue (list_any (nat_eq x) xs) → i < e
none_past_is i es [] e x is he hx = absurd cc
none_past_is i [] (y ∷ ys) e x is he hx = absurd cc
none_past_is i (d ∷ ds) (y ∷ ys) e x is he hx =
    let p = both (nat_lt i d) (none_past i ds (y ∷ ys)) is in
    elim (either (nat_eq e d) (list_any (nat_eq e) ds) he) [
      | inl here ↦ let same = nat_same e d here in rw same (low i d p.0)
      | inr there ↦ none_past_is i ds (y ∷ ys) e x p.1 there hx
    ]
  where
    low : (i d : ℕ) → IsTrue (nat_lt i d) → i < d
    low i d is = grind (arith, nat_tests)

-- Where the test holds, the guest is conforming.
pub conforming : (past : List Up) → IsTrue (is_conforming past) → Conforming past
conforming past is =
    let p = both (every_below (top past) (λ i. are_same (octets_of past i) && none_past i (all_ends past) (octets_of past i))) (are_same (all_ends past) && is_near past) is in
    let q = both (are_same (all_ends past)) (is_near past) p.1 in
    let at : (i x : ℕ) → Carries past i x → IsTrue (are_same (octets_of past i)) × IsTrue (none_past i (all_ends past) (octets_of past i)) =
    λ i x c. both (are_same (octets_of past i)) (none_past i (all_ends past) (octets_of past i))
    (every_below_is (top past) (λ j. are_same (octets_of past j) && none_past j (all_ends past) (octets_of past j)) i p.0 (carries_below past i x c)) in
    record {
      octets = λ i x y c d. are_same_is (octets_of past i) x y (at i x c).0 (carries_has past i x c) (carries_has past i y d);
      ends = λ i j c d. are_same_is (all_ends past) i j q.0 (ends_has past i c) (ends_has past j d);
      within = λ i j x e c. none_past_is j (all_ends past) (octets_of past j) i x (at j x c).1 (ends_has past i e) (carries_has past j x c);
      near = near_is past q.1;
    }

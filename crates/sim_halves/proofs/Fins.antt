-- The numbers that acknowledge FINs, and the ends for which they stand.
use Rattle.std.proofs.Common.{refl, ◌≡◌, ℕ, ◌+◌, ◌-◌, ◌/◌, ◌%◌, ◌^◌, ◌≤◌, List, [], ◌∷◌, length, arith, Option, Some, None, is_some, Bool, true, false, not, ◌&&◌, ◌||◌, if◌then◌else◌}
use Rattle.std.proofs.Common.{IsTrue, ℤ, pos, negsuc, ◌+ℤ◌, ◌-ℤ◌, ◌*ℤ◌, ◌≤ℤ◌, int_le, nat_le, nat_eq, inl, inr, sym, subst}
use Rattle.std.specs.List.{list_any}
use Rattle.std.proofs.lemmas.Int.{ints}
use Rattle.std.proofs.lemmas.Bool.Decides.{nat_tests}
use Rattle.seq_space.specs.Places.{IsPlace, number_of, place, steps_up}
use Rattle.spec_flow.specs.Event.{Segment, Connects, Arrives, Departs, At, Story}
use Rattle.spec_flow.specs.Guest.{Up, Known, Came, Acked, EndsAt, IsNear, top, ackd, ends, begins}
use Rattle.spec_flow.specs.Flow.{guest, their_number, is_closed, is_plain, acknowledges}
use Rattle.spec_flow.specs.Close.{after_fins}
use Rattle.spec_flow.proofs.Computing.{either, nat_same}
use Rattle.spec_flow.proofs.Grows.{their_number_stays}
use Rattle.spec_flow.proofs.GuestLaws.{arrived, departed}
use Rattle.spec_flow.proofs.Scaled.{OpensOnce}
use Rattle.spec_flow.proofs.Sides.{guest_came, their_first}

-- a place, of any number
pub place_any : (number first top : ℕ) → IsPlace number first top (place number first top)
place_any number first top = record {
  wraps = (pos ((number + 2 ^ 32 - number_of first top) / 2 ^ 32 + (steps_up number (number_of first top) + 2 ^ 31) / 2 ^ 32) -ℤ pos ((first + 1 + top) / 2 ^ 32 + 1), omega (arith, ints));
  low = omega (arith, ints);
  high = omega (arith, ints);
}

fin_number : (n first t k e : ℕ) → place n first t +ℤ pos k ≡ pos e → (n + k + 1) % 2 ^ 32 ≡ number_of first (e + 1)
fin_number n first t k e at = let here = place_any n first t in by (place n first t) here.wraps.0 here.wraps.1 at
  where
    by : (o i : ℤ) → pos n -ℤ pos first -ℤ pos 1 -ℤ o ≡ i *ℤ pos (2 ^ 32) → o +ℤ pos k ≡ pos e → (n + k + 1) % 2 ^ 32 ≡ number_of first (e + 1)
    by o i is at = omega (arith, ints, is, at)

-- the number acknowledges an end of the guest's stream
abbrev pub IsOfEnd : Story → ℕ → Type 0
IsOfEnd past x = (f : ℕ) × (their_number past ≡ Some f) × (e : ℕ) × EndsAt (guest past) e × (x ≡ number_of f (e + 1))

known_is : (o : Option ℕ) → is_some o ≡ true → (f : ℕ) × (o ≡ Some f)
known_is None is = absurd cc
known_is (Some f) is = (f, refl)

all_parts : (f a b c d g : Bool) → (f && a && b && c && d && g) ≡ true → (f ≡ true) × (a ≡ true) × (b ≡ true) × (c ≡ true) × (d ≡ true) × (g ≡ true)
all_parts true true true true true true is = (refl, refl, refl, refl, refl, refl)
all_parts true true true true true false is = absurd cc
all_parts true true true true false g is = absurd cc
all_parts true true true false d g is = absurd cc
all_parts true true false c d g is = absurd cc
all_parts true false b c d g is = absurd cc
all_parts false a b c d g is = absurd cc

not_false : (b : Bool) → not b ≡ true → b ≡ false
not_false true is = absurd cc
not_false false is = refl

at_or_past : (a : ℕ) (z : ℤ) → int_le (pos a) z ≡ true → (e : ℕ) × (z ≡ pos e) × (a ≤ e)
at_or_past a (pos e) is = (e, refl, low a e is)
  where
    low : (a e : ℕ) → nat_le a e ≡ true → a ≤ e
    low a e is = grind (arith, nat_tests)
at_or_past a (negsuc n) is = absurd cc

-- the FIN that arrives
new_fin : (m : ℕ) (past : Story) (seg : Segment) → (seg.fin && not seg.syn && not seg.rst && is_some (their_number past) && not (is_closed past) && int_le (pos (ackd (guest past)))
    (ends (guest past) seg.number seg.octets)) ≡ true
    → IsOfEnd (At m (Arrives seg) ∷ past) ((seg.number + length seg.octets + 1) % 2 ^ 32)
new_fin m past seg is =
    let p = all_parts seg.fin (not seg.syn) (not seg.rst) (is_some (their_number past)) (not (is_closed past)) (int_le (pos (ackd (guest past))) (ends (guest past) seg.number seg.octets)) is in
    let f = known_is (their_number past) p.3 in
    let e = at_or_past (ackd (guest past)) (ends (guest past) seg.number seg.octets) p.5 in
    let plain : is_plain seg ≡ true = plain_fin seg.syn seg.rst seg.ack seg.fin _ p.1 p.2 p.0 in
    let came = guest_came m past seg (not_false (is_closed past) p.4) p.3 plain in
    let at : place seg.number f.0 (top (guest past)) +ℤ pos (length seg.octets) ≡ pos e.0 = subst (λ (g : ℕ). place seg.number g (top (guest past)) +ℤ pos
    (length seg.octets) ≡ pos e.0) (their_first past f.0 f.1) e.1 in (
      f.0,
      their_number_stays m seg past f.0 f.1,
      e.0,
      subst (λ (g : List Up). EndsAt g e.0) (sym came) (inl (p.0, e.1, e.2)),
      fin_number seg.number f.0 (top (guest past)) (length seg.octets) e.0 at,
    )
  where
    plain_fin : (s r a f g : Bool) → not s ≡ true → not r ≡ true → f ≡ true → (not s && not r && (a || f || g)) ≡ true
    plain_fin s r true f g ss rs fs = rw (ss, rs) refl
    plain_fin s r false f g ss rs fs = rw (ss, rs, fs) refl

-- the numbers that acknowledge FINs acknowledge ends
pub of_end : (past : Story) → OpensOnce past → (x : ℕ) → IsTrue (list_any (nat_eq x) (after_fins past)) → IsOfEnd past x
of_end [] once x is = absurd cc
of_end (At m (Connects ours syn) ∷ past) once x is = absurd (none past once is)
  where
    none : (past : Story) → past ≡ [] → IsTrue (list_any (nat_eq x) (after_fins past)) → ⊥
    none [] same is = absurd cc
    none (b ∷ past) same is = absurd cc
of_end (At m (Arrives seg) ∷ past) once x is =
    by (seg.fin && not seg.syn && not seg.rst && is_some (their_number past) && not (is_closed past) && int_le (pos (ackd (guest past))) (ends (guest past) seg.number seg.octets)) (new_fin m past seg)
    (λ old. let o = of_end past once x old in (o.0, their_number_stays m seg past o.0 o.1, o.2, arrived (λ g. EndsAt g o.2) m past seg o.3 (inr o.3) o.3, o.4)) is
  where
    by : (b : Bool) → (b ≡ true → IsOfEnd (At m (Arrives seg) ∷ past) ((seg.number + length seg.octets + 1) % 2 ^ 32)) → (IsTrue (list_any (nat_eq x) (after_fins past)) → IsOfEnd (At m
        (Arrives seg) ∷ past) x) → IsTrue (list_any (nat_eq x) (if b then (seg.number + length seg.octets + 1) % 2 ^ 32 ∷ after_fins past else after_fins past)) → IsOfEnd (At m (Arrives seg) ∷ past) x
    by true new old is = elim (either (nat_eq x ((seg.number + length seg.octets + 1) % 2 ^ 32)) (list_any (nat_eq x) (after_fins past)) is) [
      | inl here ↦ subst (λ (y : ℕ). IsOfEnd (At m (Arrives seg) ∷ past) y) (sym (nat_same x ((seg.number + length seg.octets + 1) % 2 ^ 32) here)) (new refl)
      | inr there ↦ old there
    ]
    by false new old is = old is
of_end (At m (Departs seg) ∷ past) once x is =
    let o = of_end past once x is in (o.0, o.1, o.2, departed (λ g. EndsAt g o.2) (guest past) seg.acknowledgement (acknowledges past seg) o.3 (λ it. o.3), o.4)
of_end (At m _ ∷ past) once x is = of_end past once x is

-- no end is far past what was acknowledged
pub near_end : (past : List Up) (e : ℕ) → IsNear past → EndsAt past e → e + 1 ≤ ackd past + 2 ^ 31
near_end [] e near at = absurd at
near_end (Came n xs fin heeded ∷ past) e near (inl (is, at, low)) = end_near (begins past n) (length xs) fin (ackd past) e is at near.0
  where
    end_near : (z : ℤ) (k : ℕ) (fin : Bool) (a e : ℕ) → IsTrue fin → z +ℤ pos k ≡ pos e → (z +ℤ pos (k + (if fin then 1 else 0))) ≤ℤ pos (a + 2 ^ 31) → e + 1 ≤ a + 2 ^ 31
    end_near z k true a e is at near = omega (arith, ints, at)
    end_near z k false a e is at near = absurd cc
near_end (Came n xs fin heeded ∷ past) e near (inr at) = near_end past e near.1 at
near_end (Acked n ∷ past) e near at = let before = near_end past e near at in omega (arith, before)
near_end (Known f ∷ past) e near at = near_end past e near at
near_end (_ ∷ past) e near at = near_end past e near at

-- What a flow knows of the two ends, where a segment goes out.
use Rattle.std.proofs.Common.{refl, ◌≡◌, ℕ, zero, suc, ◌+◌, ◌^◌, ◌<◌, ◌≤◌, List, ◌∷◌, arith, Option, Some, None, is_some, Bool, true, false, not, ◌&&◌, ◌||◌, if◌then◌else◌, IsTrue, nat_lt}
use Rattle.std.proofs.Common.{nat_eq, ap, sym, ◌∙◌, subst}
use Rattle.std.specs.List.{list_any}
use Rattle.std.proofs.lemmas.Bool.Decides.{nat_tests}
use Rattle.seq_space.specs.Places.{number_of, steps_up}
use Rattle.spec_flow.specs.Event.{Segment, Departs, At, Story}
use Rattle.spec_flow.specs.Guest.{Up, Acked, Conforming, first_of, ackd}
use Rattle.spec_flow.specs.Flow.{guest, their_number, acknowledges, push}
use Rattle.spec_flow.specs.Close.{after_fins, fin_was_acknowledged, ended_first, fin_is_out}
use Rattle.spec_flow.proofs.GuestLaws.{conforming_before}
use Rattle.spec_flow.proofs.Scaled.{OpensOnce}
use Rattle.spec_flow.proofs.Sides.{guest_acked}
use Rattle.spec_flow.proofs.Streams.{length_within}
use Rattle.sim_halves.specs.Received.{places_taken}
use Rattle.sim_halves.specs.Part.{Part}
use Rattle.sim_halves.specs.Follows.{Follows, so_far}
use Rattle.sim_halves.specs.Ends.{Ends}
use Rattle.sim_halves.proofs.Fins.{of_end, near_end}

-- ---- numbers

number_after : (f a n : ℕ) → n < 2 ^ 32 → number_of f (a + steps_up n (number_of f a)) ≡ n
number_after f a n fits = omega (arith, fits)

moves_if : (f a n : ℕ) → n < 2 ^ 32 → nat_lt a (a + steps_up n (number_of f a)) ≡ not (nat_eq n (number_of f a))
moves_if f a n fits = by (nat_eq n (number_of f a)) refl
  where
    by : (b : Bool) → nat_eq n (number_of f a) ≡ b → nat_lt a (a + steps_up n (number_of f a)) ≡ not b
    by true is = let same : n ≡ number_of f a = grind (arith, nat_tests) in let none : steps_up n (number_of f a) ≡ 0 = omega (arith, same) in still a (steps_up n (number_of f a)) none
      where
        still : (a s : ℕ) → s ≡ 0 → nat_lt a (a + s) ≡ false
        still a s none = grind (arith, nat_tests)
    by false is = let apart : n ≡ number_of f a → ⊥ = not_same is in let some : 0 < steps_up n (number_of f a) = up f a n fits apart in more a (steps_up n (number_of f a)) some
      where
        not_same : nat_eq n (number_of f a) ≡ false → n ≡ number_of f a → ⊥
        not_same is same = absurd (grind (arith, nat_tests))

        up : (f a n : ℕ) → n < 2 ^ 32 → (n ≡ number_of f a → ⊥) → 0 < steps_up n (number_of f a)
        up f a n fits apart = positive (steps_up n (number_of f a)) (λ none. apart (omega (arith, fits, none)))
          where
            positive : (s : ℕ) → (s ≡ 0 → ⊥) → 0 < s
            positive zero not_zero = absurd (not_zero refl)
            positive (suc s) not_zero = omega arith

        more : (a s : ℕ) → 0 < s → nat_lt a (a + s) ≡ true
        more a s some = grind (arith, nat_tests)

last_number : (f t e a : ℕ) → number_of f t ≡ number_of f (e + 1) → a ≤ t → t ≤ e → e + 1 ≤ a + 2 ^ 31 → ⊥
last_number f t e a same low high near = absurd (omega (arith, same, low, high, near))

pub all_true : (a b c : Bool) → a ≡ true → b ≡ true → c ≡ true → (a && b && c) ≡ true
all_true a b c x y z = rw (x, y, z) refl

or_left : (a b : Bool) → IsTrue a → IsTrue (a || b)
or_left true b x = refl
or_left false b x = absurd cc

or_right : (a b : Bool) → IsTrue b → IsTrue (a || b)
or_right true b y = refl
or_right false b y = y

or_none : (a : Bool) → (a || true) ≡ true
or_none true = refl
or_none false = refl

module _ (past : Story) (p : Part) (sure ours_first : Bool) (last m : ℕ) (seg : Segment) where
  -- ---- a segment that acknowledges what was taken

  module _ (ring : ℕ) (once : OpensOnce past) (ack : seg.ack ≡ true) (rst : seg.rst ≡ false) (known : their_number past ≡ Some p.received.first)
      (number : seg.acknowledgement ≡ number_of p.received.first (places_taken p.received)) (f : Follows ring p (guest past)) (e : Ends past p sure ours_first last) where
    is_known : is_some (their_number past) ≡ true
    is_known = ap (λ (o : Option ℕ). is_some o) known

    acked_now : guest (At m (Departs seg) ∷ past) ≡ Acked seg.acknowledgement ∷ guest past
    acked_now = guest_acked m past seg ack rst is_known

    -- where the end is among what was taken, it is sure
    sure_now : p.received.ended ≡ true → IsTrue (fin_was_acknowledged (At m (Departs seg) ∷ past))
    sure_now ended =
        or_left (seg.ack && not seg.rst && list_any (nat_eq seg.acknowledgement) (after_fins past)) (fin_was_acknowledged past)
        (all_true seg.ack (not seg.rst) (list_any (nat_eq seg.acknowledgement) (after_fins past)) ack (rw rst refl)
        (subst (λ (n : ℕ). IsTrue (list_any (nat_eq n) (after_fins past))) (sym here) (e.fin ended)))
      where
        all_places : (b : Bool) → b ≡ true → (if b then p.received.taken + 1 else p.received.taken) ≡ p.received.taken + 1
        all_places b is = rw is refl

        here : seg.acknowledgement ≡ number_of p.received.first (p.received.taken + 1)
        here = number ∙ ap (λ (t : ℕ). number_of p.received.first t) (all_places p.received.ended ended)

    -- and where it isn't, a conforming guest's end isn't acknowledged now
    not_sure : Conforming (guest past) → p.received.ended ≡ false → IsTrue (list_any (nat_eq seg.acknowledgement) (after_fins past)) → ⊥
    not_sure conforming ended is =
        let o = of_end past once seg.acknowledgement is in
        let same_first : o.0 ≡ p.received.first = some_same o.0 p.received.first (sym o.1 ∙ known) in
        let low = near_end (guest past) o.2 conforming.near o.3 in
        let within = length_within (so_far p (guest past)) o.2 (λ i x at. conforming.within o.2 i x o.3 (f.carried conforming i x at)) in
        let taken = open_places p.received.ended ended in
        let a = f.acknowledged in
        last_number p.received.first p.received.taken o.2 (ackd (guest past))
        (ap (λ (t : ℕ). number_of p.received.first t) (sym taken) ∙ sym number ∙ o.4 ∙ ap (λ (g : ℕ). number_of g (o.2 + 1)) same_first)
        (omega (arith, a, taken)) (omega (arith, within, f.taken)) low
      where
        some_same : (g h : ℕ) → Some g ≡ Some h → g ≡ h
        some_same g h is = cc

        open_places : (b : Bool) → b ≡ false → (if b then p.received.taken + 1 else p.received.taken) ≡ p.received.taken
        open_places b is = rw is refl

    pub acknowledges_ends : Ends (At m (Departs seg) ∷ past) p (sure || p.received.ended) (if nat_eq seg.acknowledgement last then ours_first else fin_is_out past) seg.acknowledgement
    acknowledges_ends = record {
      low = rw acked_now e.low;
      kept_low = λ i x is. rw acked_now (e.kept_low i x is);
      fin = e.fin;
      was_sure = λ is. by_sure sure p.received.ended is (λ before. or_right (seg.ack && not seg.rst && list_any (nat_eq seg.acknowledgement) (after_fins past)) (fin_was_acknowledged past)
          (e.was_sure before)) sure_now;
      is_sure = λ conforming is. by_ended p.received.ended refl (conforming_before (At m (Departs seg)) past conforming) is;
      at = ap (λ (g : List Up). number_of (first_of g) (ackd g)) acked_now ∙ number_after (first_of (guest past)) (ackd (guest past)) seg.acknowledgement small;
      order = order_now;
    }
      where
        small : seg.acknowledgement < 2 ^ 32
        small = rw number (below p.received.first (places_taken p.received))
          where
            below : (f t : ℕ) → number_of f t < 2 ^ 32
            below f t = omega arith

        by_sure : {A : Type 0} (s b : Bool) → (s || b) ≡ true → (s ≡ true → A) → (b ≡ true → A) → A
        by_sure true b is g h = g refl
        by_sure false b is g h = h is

        split : {A : Type 0} (x y : Bool) → IsTrue (x || y) → (IsTrue x → A) → (IsTrue y → A) → A
        split true y is g h = g refl
        split false y is g h = h is

        last_part : (x y z : Bool) → IsTrue (x && y && z) → IsTrue z
        last_part true true z is = is
        last_part true false z is = absurd cc
        last_part false y z is = absurd cc

        by_ended : (b : Bool) → p.received.ended ≡ b → Conforming (guest past) → IsTrue (fin_was_acknowledged (At m (Departs seg) ∷ past)) → (sure || b) ≡ true
        by_ended true ended conforming is = or_none sure
        by_ended false ended conforming is = split (seg.ack && not seg.rst && list_any (nat_eq seg.acknowledgement) (after_fins past)) (fin_was_acknowledged past) is
            (λ here. absurd (not_sure conforming ended (last_part seg.ack (not seg.rst) (list_any (nat_eq seg.acknowledgement) (after_fins past)) here)))
            (λ there. or_left sure false (e.is_sure conforming there))

        moved : nat_lt (ackd (guest past)) (ackd (guest (At m (Departs seg) ∷ past))) ≡ not (nat_eq seg.acknowledgement last)
        moved = ap (λ (g : List Up). nat_lt (ackd (guest past)) (ackd g)) acked_now ∙ moves_if (first_of (guest past)) (ackd (guest past)) seg.acknowledgement small ∙ ap
            (λ (n : ℕ). not (nat_eq seg.acknowledgement n)) e.at

        order_now : (if nat_lt (ackd (guest past)) (ackd (guest (At m (Departs seg) ∷ past))) then fin_is_out past else ended_first past) ≡
            (if nat_eq seg.acknowledgement last then ours_first else fin_is_out past)
        order_now = ap (λ (b : Bool). if b then fin_is_out past else ended_first past) moved ∙ turn (nat_eq seg.acknowledgement last) (fin_is_out past) (ended_first past) ∙ ap
            (λ (b : Bool). if nat_eq seg.acknowledgement last then b else fin_is_out past) e.order
          where
            turn : (b x y : Bool) → (if not b then x else y) ≡ (if b then y else x)
            turn true x y = refl
            turn false x y = refl

  -- ---- a reset, or our SYN before the guest's is known

  pub no_ack_ends : (seg.ack && not seg.rst) ≡ false → Ends past p sure ours_first last → Ends (At m (Departs seg) ∷ past) p sure ours_first last
  no_ack_ends none e = record {
    low = rw same e.low;
    kept_low = λ i x is. rw same (e.kept_low i x is);
    fin = e.fin;
    was_sure = λ is. or_right (seg.ack && not seg.rst && list_any (nat_eq seg.acknowledgement) (after_fins past)) (fin_was_acknowledged past) (e.was_sure is);
    is_sure = λ conforming is. e.is_sure (conforming_before (At m (Departs seg)) past conforming) (only_old seg.ack (not seg.rst) (list_any (nat_eq seg.acknowledgement) (after_fins past))
        (fin_was_acknowledged past) none is);
    at = rw same e.at;
    order = ap (λ (g : List Up). if nat_lt (ackd (guest past)) (ackd g) then fin_is_out past else ended_first past) same ∙ still (ackd (guest past)) (fin_is_out past) (ended_first past) ∙ e.order;
  }
    where
      none_of : (a b c : Bool) → (a && b) ≡ false → (a && b && c) ≡ false
      none_of true true c is = absurd cc
      none_of true false c is = refl
      none_of false b c is = refl

      same : guest (At m (Departs seg) ∷ past) ≡ guest past
      same = by (acknowledges past seg) (none_of seg.ack (not seg.rst) (is_some (their_number past)) none)
        where
          by : (b : Bool) → b ≡ false → push (if b then Some (Acked seg.acknowledgement) else None) (guest past) ≡ guest past
          by b is = rw is refl

      only_old : (a b c d : Bool) → (a && b) ≡ false → IsTrue ((a && b && c) || d) → IsTrue d
      only_old true true c d is either = absurd cc
      only_old true false c d is either = either
      only_old false b c d is either = either

      still : (n : ℕ) (x y : Bool) → (if nat_lt n n then x else y) ≡ y
      still n x y = let not_it : nat_lt n n ≡ false = grind (arith, nat_tests) in rw not_it refl

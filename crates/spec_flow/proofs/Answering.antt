-- Where the tests of what has to be sent and acknowledged hold, it was.
use Rattle.std.proofs.Common.{refl, ◌≡◌, ℕ, ◌+◌, ◌<◌, ◌≤◌, List, [], ◌∷◌, length, min, is_some, ◌⊎◌, inl, inr, arith, Bool, true, false, not, ◌&&◌, ◌||◌, IsTrue, ℤ, pos, negsuc, ◌+ℤ◌}
use Rattle.std.proofs.Common.{◌≤ℤ◌, ◌<ℤ◌, nat_le, nat_lt}
use Rattle.std.proofs.lemmas.Bool.Decides.{nat_tests}
use Rattle.std.proofs.lemmas.Int.{ints}
use Rattle.spec_flow.specs.Settings.{Settings}
use Rattle.spec_flow.specs.Event.{Story}
use Rattle.spec_flow.specs.Guest.{Up, Known, Came, Acked, Wrote, Ended, is_empty, AckIsDue, Asks, IsAsked, was_acked, Conforming, ackd, begins, ends, written, from_zero}
use Rattle.spec_flow.specs.Host.{answered, sent, owned}
use Rattle.spec_flow.specs.Flow.{guest, host, their_number, is_accepted, is_closed, has_connected, syn_is_out}
use Rattle.spec_flow.specs.Windows.{edge}
use Rattle.spec_flow.specs.Close.{owes_reset, times_asked}
use Rattle.spec_flow.specs.Dutiful.{HasSent, fin_is_answered, HasAcknowledged}
use Rattle.spec_flow.specs.Computed.{is_before, is_under}
use Rattle.spec_flow.specs.CheckDuty.{has_sent, asks_for_ack, all_answered, asks_within, all_within, has_acknowledged}
use Rattle.spec_flow.proofs.Computing.{both, imply, is_false, nat_within}

never : {A : Type 0} → false ≡ true → A
never is = absurd cc

pub nat_less : (m n : ℕ) → IsTrue (nat_lt m n) → m < n
nat_less m n is = grind (arith, nat_tests)

-- ---- sends

pub sent_is : (s : Settings) (past : Story) (known : Bool) → IsTrue (has_sent s past known) → HasSent s past known
sent_is s past known is =
    let halves = both (not (owes_reset past) && (not (has_connected past && not (is_closed past)) || syn_is_out past)) _ is in
    let p = both (not (owes_reset past)) (not (has_connected past && not (is_closed past)) || syn_is_out past) halves.0 in
    let q = both (not (is_accepted past && not (is_closed past)) || (syn_is_out past || (not known && nat_lt 0 (times_asked past))))
    (not (answered (host past) && not (is_closed past)) || nat_le (min (edge s past) (owned (host past))) (sent (host past))) halves.1 in
    record {
      reset = is_false (owes_reset past) p.0;
      syn_ack = λ of. imply (has_connected past && not (is_closed past)) (syn_is_out past) p.1 of;
      syn = λ of. imply (is_accepted past && not (is_closed past)) (syn_is_out past || (not known && nat_lt 0 (times_asked past))) q.0 of;
      octets = λ of. nat_within (min (edge s past) (owned (host past))) (sent (host past))
          (imply (answered (host past) && not (is_closed past)) (nat_le (min (edge s past) (owned (host past))) (sent (host past))) q.1 of);
    }

-- ---- acknowledgements

before_is : (z : ℤ) (m : ℕ) → z <ℤ pos m → IsTrue (is_before z m)
before_is (pos n) m is = let low : n < m = omega (arith, ints) in grind (arith, nat_tests)
before_is (negsuc n) m is = refl

under_is : (z : ℤ) (m : ℕ) → z ≤ℤ pos m → IsTrue (is_under z m)
under_is (pos n) m is = let low : n ≤ m = omega (arith, ints) in grind (arith, nat_tests)
under_is (negsuc n) m is = refl

is_under_is : (z : ℤ) (m a : ℕ) → IsTrue (is_under z m) → pos a ≡ z → a ≤ m
is_under_is (pos n) m a is same = let low = nat_within n m is in omega (arith, ints)
is_under_is (negsuc n) m a is same = absurd (omega (arith, ints))

and_true : (a b : Bool) → IsTrue a → IsTrue b → IsTrue (a && b)
and_true true b x y = y
and_true false b x y = never x

or_left : (a b : Bool) → IsTrue a → IsTrue (a || b)
or_left true b x = refl
or_left false b x = never x

or_right : (a b : Bool) → IsTrue b → IsTrue (a || b)
or_right true b y = refl
or_right false b y = y

contradicts : (a : Bool) → IsTrue (not a) → IsTrue a → ⊥
contradicts true x y = never x
contradicts false x y = never y

or_false : (a b : Bool) → a ≡ false → IsTrue (a || b) → IsTrue b
or_false true b is x = absurd cc
or_false false b is x = x

asks_is : (past : List Up) (n : ℕ) (xs : List ℕ) (fin heeded : Bool) → IsTrue heeded → IsTrue (fin || not (is_empty xs)) ⊎ (Conforming past × (begins past n <ℤ pos (ackd past)))
    → IsTrue (asks_for_ack past n xs fin heeded)
asks_is past n xs fin heeded is (inl some) =
    and_true heeded ((fin || not (is_empty xs)) || is_before (begins past n) (ackd past)) is (or_left (fin || not (is_empty xs)) (is_before (begins past n) (ackd past)) some)
asks_is past n xs fin heeded is (inr (conforming, low)) =
    and_true heeded ((fin || not (is_empty xs)) || is_before (begins past n) (ackd past)) is
    (or_right (fin || not (is_empty xs)) (is_before (begins past n) (ackd past)) (before_is (begins past n) (ackd past) low))

answered_is : (past : List Up) → IsTrue (all_answered past) → AckIsDue past → ⊥
answered_is [] is due = due
answered_is (Acked n ∷ past) is due = due
answered_is (Came n xs fin heeded ∷ past) is due =
    let p = both (not (asks_for_ack past n xs fin heeded)) (all_answered past) is in
    elim due [ inl (heard, asks) ↦ contradicts (asks_for_ack past n xs fin heeded) p.0 (asks_is past n xs fin heeded heard asks) | inr older ↦ answered_is past p.1 older ]
answered_is (Known f ∷ past) is due = answered_is past is due
answered_is (Wrote xs n ∷ past) is due = answered_is past is due
answered_is (Ended ∷ past) is due = answered_is past is due

asked_is : (ring : ℕ) (past : List Up) (n : ℕ) (xs : List ℕ) (fin heeded : Bool) (m a : ℕ) → IsTrue (asks_within ring past n xs fin heeded m)
    → IsTrue heeded → begins past n ≤ℤ pos (ackd past) → IsAsked ring past n xs fin a → a ≤ m
asked_is ring past n xs fin heeded m a is heard low what =
    let rest = imply (heeded && is_under (begins past n) (ackd past)) (nat_le (min (from_zero (ends past n xs)) (length (written past) + ring)) m
    && (not (fin && is_under (ends past n xs) (length (written past) + ring)) || is_under (ends past n xs +ℤ pos 1) m))
    is (and_true heeded (is_under (begins past n) (ackd past)) heard (under_is (begins past n) (ackd past) low)) in
    let p = both (nat_le (min (from_zero (ends past n xs)) (length (written past) + ring)) m) _ rest in
    elim what [
      | inl same ↦ rw same (nat_within (min (from_zero (ends past n xs)) (length (written past) + ring)) m p.0)
      | inr (has, fits, same) ↦ is_under_is (ends past n xs +ℤ pos 1) m a
          (imply (fin && is_under (ends past n xs) (length (written past) + ring)) (is_under (ends past n xs +ℤ pos 1) m) p.1
          (and_true fin (is_under (ends past n xs) (length (written past) + ring)) has (under_is (ends past n xs) (length (written past) + ring) fits))) same
    ]

within_is : (ring : ℕ) (past : List Up) (m a : ℕ) → IsTrue (all_within ring past m) → Asks ring past a → a ≤ m
within_is ring [] m a is asks = absurd asks
within_is ring (Came n xs fin heeded ∷ past) m a is asks =
    let p = both (asks_within ring past n xs fin heeded m) (all_within ring past m) is in
    elim asks [ inl (heard, low, what) ↦ asked_is ring past n xs fin heeded m a p.0 heard low what | inr older ↦ within_is ring past m a p.1 older ]
within_is ring (Known f ∷ past) m a is asks = within_is ring past m a is asks
within_is ring (Acked n ∷ past) m a is asks = within_is ring past m a is asks
within_is ring (Wrote xs n ∷ past) m a is asks = within_is ring past m a is asks
within_is ring (Ended ∷ past) m a is asks = within_is ring past m a is asks

pub acknowledged_is : (s : Settings) (past : Story) (time_waits : Bool) → IsTrue (has_acknowledged s past time_waits) → HasAcknowledged s past time_waits
acknowledged_is s past time_waits is =
    let halves = both ((not (is_accepted past && is_some (their_number past) && not (is_closed past)) || was_acked (guest past)) && (is_closed past || all_answered (guest past))) _ is in
    let p = both (not (is_accepted past && is_some (their_number past) && not (is_closed past)) || was_acked (guest past)) (is_closed past || all_answered (guest past)) halves.0 in
    let q = both (is_closed past || all_within s.ring (guest past) (ackd (guest past))) (not time_waits || fin_is_answered past) halves.1 in
    record {
      opening = λ of. imply (is_accepted past && is_some (their_number past) && not (is_closed past)) (was_acked (guest past)) p.0 of;
      each = λ open_yet due. answered_is (guest past) (or_false (is_closed past) (all_answered (guest past)) open_yet p.1) due;
      all = λ open_yet conforming a was. within_is s.ring (guest past) (ackd (guest past)) a (or_false (is_closed past) (all_within s.ring (guest past) (ackd (guest past))) open_yet q.0) was;
      in_time_wait = λ of. imply time_waits (fin_is_answered past) q.1 of;
    }

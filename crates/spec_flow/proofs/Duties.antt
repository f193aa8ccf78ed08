-- Where the test of what is done holds, it was done as it must be: sentence by sentence.
use Rattle.std.proofs.Common.{refl, ◌≡◌, ℕ, ◌+◌, ◌-◌, List, [], ◌∷◌, length, min, Option, None, Some, is_some, ◌⊎◌, inl, inr, arith, Bool, true, false, not, ◌&&◌, if◌then◌else◌, IsTrue}
use Rattle.std.proofs.Common.{MatchOption, nat_eq, nat_le, nat_lt}
use Rattle.std.specs.Option.{unwrap_or}
use Rattle.seq_space.specs.Places.{number_of}
use Rattle.spec_flow.specs.Settings.{Settings}
use Rattle.spec_flow.specs.Event.{Segment, Departs, At, Story}
use Rattle.spec_flow.specs.Guest.{Up, Acked, EndsAt, Conforming, ackd, front, written, has_ended}
use Rattle.spec_flow.specs.Flow.{guest, push, acknowledges, their_number, is_closed, is_connecting}
use Rattle.spec_flow.specs.Windows.{field, our_shift}
use Rattle.spec_flow.specs.Close.{before, newest_rst}
use Rattle.spec_flow.specs.Lawful.{Act, AskConnected, Write, EndHost, Read, Send, Close, act_of}
use Rattle.spec_flow.specs.Dutiful.{MayWaitToWrite, TellsRoom, MustClose, SendsItsRoom, OffersWhatWasAcknowledged, ClosesAfterReset, Must, IsDutiful}
use Rattle.spec_flow.specs.Computed.{acknowledged, ends_at}
use Rattle.spec_flow.specs.CheckDuty.{may_wait_to_write, tells_room, sends_its_room, offers_what_was_acknowledged, is_all_acked, resets_at_next, must_close, closes_after_reset, must}
use Rattle.spec_flow.specs.CheckDuty.{must_happen, is_dutiful}
use Rattle.spec_flow.proofs.Computing.{both, either, imply, is_false, nat_same, nat_within, three_parts}
use Rattle.spec_flow.proofs.Ends.{acknowledged_is, ends_at_is, ends_has}
use Rattle.spec_flow.proofs.Answering.{nat_less}
use Rattle.spec_flow.proofs.Holding.{and_true, or_left, or_right, same_nat, three_true}

-- ---- what may be waited for

-- Where the test holds, the host may be waited for to take octets.
pub may_wait_to_write_is : (past : Story) → IsTrue (may_wait_to_write past) → MayWaitToWrite past
may_wait_to_write_is past is =
    let p = both (not (is_closed past)) _ is in (
      is_false (is_closed past) p.0,
      λ conforming. elim (either (is_connecting past) _ p.1) [
        | inl connecting ↦ inl connecting
        | inr rest ↦ elim (either (nat_lt (length (written (guest past))) (length (front (guest past)))) _ rest) [
          | inl more ↦ inr (inl (nat_less (length (written (guest past))) (length (front (guest past))) more))
          | inr end ↦ let q = both (ends_at (guest past) (length (front (guest past)))) (not (has_ended (guest past))) end in
              inr (inr (ends_at_is (guest past) (length (front (guest past))) q.0, is_false (has_ended (guest past)) q.1))
        ]
      ],
    )

-- ---- the room that is told

pub conforming_departs : (now : ℕ) (past : Story) (seg : Segment) → Conforming (guest past) → Conforming (guest (At now (Departs seg) ∷ past))
conforming_departs now past seg h = by (acknowledges past seg)
  where
    by : (b : Bool) → Conforming (push (if b then Some (Acked seg.acknowledgement) else None) (guest past))
    by true = record { octets = h.octets; ends = h.ends; within = h.within; near = h.near }
    by false = h

pub tells_is : (s : Settings) (past : Story) (now : ℕ) (seg : Segment) → IsTrue (tells_room s past now seg) → TellsRoom s past now seg
tells_is s past now seg is plain conforming a acked =
    let n : ℕ = acknowledged (guest (At now (Departs seg) ∷ past)) in
    let p = both (nat_le n (length (written (guest past)) + s.ring)) (nat_eq seg.window (field (our_shift s past seg.syn) (length (written (guest past)) + s.ring - n)))
    (imply (not seg.rst) _ is plain) in
    let low = nat_within n (length (written (guest past)) + s.ring) p.0 in
    let same = acknowledged_is (guest (At now (Departs seg) ∷ past)) a (conforming_departs now past seg conforming) acked in (
      length (written (guest past)) + s.ring - n,
      omega (arith, low, same),
      nat_same seg.window (field (our_shift s past seg.syn) (length (written (guest past)) + s.ring - n)) p.1,
    )

room_is : (s : Settings) (past : Story) (now : ℕ) (act : Act) → IsTrue (sends_its_room s past now act) → SendsItsRoom s past now act
room_is s past now (Send seg) is = tells_is s past now seg is
room_is s past now _ is = tt

-- ---- what is offered

offers_is : (past : Story) (act : Act) → IsTrue (offers_what_was_acknowledged past act) → OffersWhatWasAcknowledged past act
offers_is past (Write octets) is =
    let p = both (nat_le (length octets) 16384) (nat_le (min 16384 (acknowledged (guest past) - length (written (guest past)))) (length octets)) is in (
      nat_within (length octets) 16384 p.0,
      λ conforming a acked.
          let same = acknowledged_is (guest past) a conforming acked in
          let low = nat_within (min 16384 (acknowledged (guest past) - length (written (guest past)))) (length octets) p.1 in
          omega (arith, same, low),
    )
offers_is past _ is = tt

-- ---- the close after a reset

no_test : (b : Bool) → (IsTrue b → ⊥) → IsTrue (not b)
no_test true f = absurd (f refl)
no_test false f = refl

all_acked_is : (past : List Up) → ((ackd past ≡ length (front past)) × (EndsAt past (length (front past)) → ⊥)) ⊎
    (EndsAt past (length (front past)) × (ackd past ≡ length (front past) + 1)) → IsTrue (is_all_acked past)
all_acked_is past (inl (all, no_end)) =
    or_left (nat_eq (ackd past) (length (front past)) && not (ends_at past (length (front past)))) (ends_at past (length (front past)) && nat_eq (ackd past) (length (front past) + 1))
    (and_true (nat_eq (ackd past) (length (front past))) (not (ends_at past (length (front past)))) (same_nat (ackd past) (length (front past)) all)
    (no_test (ends_at past (length (front past))) (λ has. no_end (ends_at_is past (length (front past)) has))))
all_acked_is past (inr (end, all)) =
    or_right (nat_eq (ackd past) (length (front past)) && not (ends_at past (length (front past)))) (ends_at past (length (front past)) && nat_eq (ackd past) (length (front past) + 1))
    (and_true (ends_at past (length (front past))) (nat_eq (ackd past) (length (front past) + 1)) (ends_has past (length (front past)) end) (same_nat (ackd past) (length (front past) + 1) all))

-- where the close must come, the test says so
pub must_close_is : (past : Story) → MustClose past → IsTrue (must_close past)
must_close_is past (seg, newest, open_yet, conforming, known, number, all) =
    and_true (not (is_closed past)) (resets_at_next (before past) (newest_rst past)) (rw open_yet refl)
    (rw newest (three_true (is_some (their_number (before past))) (nat_eq seg.number (number_of (unwrap_or (their_number (before past)) 0) (ackd (guest (before past)))))
    (is_all_acked (guest (before past)))
    known (same_nat seg.number (number_of (unwrap_or (their_number (before past)) 0) (ackd (guest (before past)))) number) (all_acked_is (guest (before past)) all)))

no_close : (past : Story) → IsTrue (not (must_close past)) → MustClose past → ⊥
no_close past none close = contradicts (must_close past) none (must_close_is past close)
  where
    contradicts : (a : Bool) → IsTrue (not a) → IsTrue a → ⊥
    contradicts true x y = absurd cc
    contradicts false x y = absurd cc

closes_is : (past : Story) (act : Act) → IsTrue (closes_after_reset past act) → ClosesAfterReset past act
closes_is past (Close directly ended known) is = tt
closes_is past AskConnected is = no_close past is
closes_is past (Write octets) is = no_close past is
closes_is past EndHost is = no_close past is
closes_is past Read is = no_close past is
closes_is past (Send seg) is = no_close past is

-- ---- all

pub must_is : (s : Settings) (past : Story) (now : ℕ) (act : Act) → IsTrue (must s past now act) → Must s past now act
must_is s past now act is =
    let p = three_parts (sends_its_room s past now act) (offers_what_was_acknowledged past act) (closes_after_reset past act) is in
    record { sends_its_room = room_is s past now act p.0; offers_what_was_acknowledged = offers_is past act p.1; closes_after_reset = closes_is past act p.2 }

happens : (s : Settings) (past : Story) (now : ℕ) (o : Option Act) → IsTrue (must_happen s past now o) → MatchOption o (MustClose past → ⊥) (λ act. Must s past now act)
happens s past now None is = no_close past is
happens s past now (Some act) is = must_is s past now act is

-- Where the test holds, the story is dutiful.
pub dutiful : (s : Settings) (story : Story) → IsTrue (is_dutiful s story) → IsDutiful s story
dutiful s [] is = tt
dutiful s (At m e ∷ past) is = let p = both (must_happen s past m (act_of e)) (is_dutiful s past) is in (happens s past m (act_of e) p.0, dutiful s past p.1)

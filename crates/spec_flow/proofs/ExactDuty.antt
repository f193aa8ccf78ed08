-- Of a conforming guest the test of what is done misses nothing either.
use Rattle.std.proofs.Common.{refl, ◌≡◌, ℕ, ◌+◌, ◌-◌, List, [], ◌∷◌, length, min, Option, None, Some, is_some, inl, inr, arith, subst, ap, ◌∙◌, ◌⊎◌, Bool, true, false, not, ◌&&◌, IsTrue}
use Rattle.std.proofs.Common.{nat_eq, nat_le}
use Rattle.std.specs.List.{list_any}
use Rattle.std.proofs.lemmas.Bool.{cases_lt}
use Rattle.std.specs.Option.{unwrap_or}
use Rattle.seq_space.specs.Places.{number_of}
use Rattle.spec_flow.specs.Settings.{Settings}
use Rattle.spec_flow.specs.Event.{Segment, Departs, At, Story}
use Rattle.spec_flow.specs.Guest.{Up, EndsAt, Conforming, IsAcknowledged, ackd, front, written}
use Rattle.spec_flow.specs.Flow.{guest, their_number, is_closed}
use Rattle.spec_flow.specs.Windows.{field, our_shift}
use Rattle.spec_flow.specs.Close.{before, newest_rst}
use Rattle.spec_flow.specs.Lawful.{Act, AskConnected, Write, EndHost, Read, Send, Close}
use Rattle.spec_flow.specs.Dutiful.{TellsRoom, MustClose, SendsItsRoom, OffersWhatWasAcknowledged, ClosesAfterReset, Must}
use Rattle.spec_flow.specs.Computed.{acknowledged, all_ends, least_end, ends_at, is_conforming}
use Rattle.spec_flow.specs.CheckDuty.{tells_room, sends_its_room, offers_what_was_acknowledged, is_all_acked, resets_at_next, must_close, closes_after_reset, must}
use Rattle.spec_flow.proofs.Computing.{both, either, is_false, nat_same, three_parts}
use Rattle.spec_flow.proofs.Ends.{contains_first, ends_at_is, ends_has}
use Rattle.spec_flow.proofs.Conformance.{conforming}
use Rattle.spec_flow.proofs.Duties.{conforming_departs}
use Rattle.spec_flow.proofs.GuestLaws.{conforming_before}
use Rattle.spec_flow.proofs.Holding.{and_true, three_true, implied, same_nat, low_nat}

-- ---- the acknowledged octets

acknowledged_holds : (past : List Up) → Conforming past → IsAcknowledged past (acknowledged past)
acknowledged_holds past fair = by (all_ends past) (λ i has. ends_at_is past i has) (λ i end. ends_has past i end)
  where
    by : (es : List ℕ) → ((i : ℕ) → IsTrue (list_any (nat_eq i) es) → EndsAt past i) → ((i : ℕ) → EndsAt past i → IsTrue (list_any (nat_eq i) es)) → IsAcknowledged past (least_end (ackd past) es)
    by [] says has = inl (refl, λ i end. absurd (let none = has i end in cc))
    by (e ∷ es) says has =
        let end = says e (contains_first e es) in
        elim (cases_lt e (ackd past)) [
          | inl less ↦ let same : e ≡ min (ackd past) e = omega (arith, less) in inr (subst (λ (n : ℕ). EndsAt past n) same end, omega (arith, less))
          | inr more ↦ inl (omega (arith, more), λ i other. let same = fair.ends i e other end in omega (arith, more, same))
        ]

-- ---- the sentences

tells_holds : (s : Settings) (past : Story) (now : ℕ) (seg : Segment) → Conforming (guest past) → TellsRoom s past now seg → IsTrue (tells_room s past now seg)
tells_holds s past now seg fair is =
    let n : ℕ = acknowledged (guest (At now (Departs seg) ∷ past)) in
    implied (not seg.rst) (nat_le n (length (written (guest past)) + s.ring) && nat_eq seg.window (field (our_shift s past seg.syn) (length (written (guest past)) + s.ring - n)))
    (λ plain.
    let told = is plain fair n (acknowledged_holds (guest (At now (Departs seg) ∷ past)) (conforming_departs now past seg fair)) in
    let room : told.0 ≡ length (written (guest past)) + s.ring - n = omega (arith, told.1) in
    and_true (nat_le n (length (written (guest past)) + s.ring)) (nat_eq seg.window (field (our_shift s past seg.syn) (length (written (guest past)) + s.ring - n)))
    (low_nat n (length (written (guest past)) + s.ring) (omega (arith, told.1)))
    (same_nat seg.window (field (our_shift s past seg.syn) (length (written (guest past)) + s.ring - n)) (told.2 ∙ ap (λ (r : ℕ). field (our_shift s past seg.syn) r) room)))

room_holds : (s : Settings) (past : Story) (now : ℕ) → Conforming (guest past) → (act : Act) → SendsItsRoom s past now act → IsTrue (sends_its_room s past now act)
room_holds s past now fair (Send seg) is = tells_holds s past now seg fair is
room_holds s past now fair _ is = refl

offers_hold : (past : Story) → Conforming (guest past) → (act : Act) → OffersWhatWasAcknowledged past act → IsTrue (offers_what_was_acknowledged past act)
offers_hold past fair (Write octets) is =
    and_true (nat_le (length octets) 16384) (nat_le (min 16384 (acknowledged (guest past) - length (written (guest past)))) (length octets))
    (low_nat (length octets) 16384 is.0)
    (low_nat (min 16384 (acknowledged (guest past) - length (written (guest past)))) (length octets) (is.1 fair (acknowledged (guest past)) (acknowledged_holds (guest past) fair)))
offers_hold past fair _ is = refl

all_acked_says : (past : List Up) → IsTrue (is_all_acked past)
    → ((ackd past ≡ length (front past)) × (EndsAt past (length (front past)) → ⊥)) ⊎ (EndsAt past (length (front past)) × (ackd past ≡ length (front past) + 1))
all_acked_says past is =
    elim (either (nat_eq (ackd past) (length (front past)) && not (ends_at past (length (front past)))) (ends_at past (length (front past)) && nat_eq (ackd past) (length (front past) + 1)) is) [
      | inl one ↦ let p = both (nat_eq (ackd past) (length (front past))) (not (ends_at past (length (front past)))) one in
          inl (nat_same (ackd past) (length (front past)) p.0, λ end. contradicts (ends_at past (length (front past))) p.1 (ends_has past (length (front past)) end))
      | inr two ↦ let p = both (ends_at past (length (front past))) (nat_eq (ackd past) (length (front past) + 1)) two in
          inr (ends_at_is past (length (front past)) p.0, nat_same (ackd past) (length (front past) + 1) p.1)
    ]
  where
    contradicts : (a : Bool) → IsTrue (not a) → IsTrue a → ⊥
    contradicts true x y = absurd cc
    contradicts false x y = absurd cc

conforming_was : (past : Story) → Conforming (guest past) → Conforming (guest (before past))
conforming_was [] fair = fair
conforming_was (b ∷ past) fair = conforming_before b past fair

must_close_says : (past : Story) → Conforming (guest past) → IsTrue (must_close past) → MustClose past
must_close_says past fair is = let p = both (not (is_closed past)) (resets_at_next (before past) (newest_rst past)) is in by (newest_rst past) refl p.0 p.1
  where
    by : (o : Option Segment) → newest_rst past ≡ o → IsTrue (not (is_closed past)) → IsTrue (resets_at_next (before past) o) → MustClose past
    by None newest open_yet at = absurd cc
    by (Some seg) newest open_yet at =
        let q = three_parts (is_some (their_number (before past))) (nat_eq seg.number (number_of (unwrap_or (their_number (before past)) 0) (ackd (guest (before past)))))
        (is_all_acked (guest (before past))) at in (
          seg,
          newest,
          is_false (is_closed past) open_yet,
          conforming_was past fair,
          q.0,
          nat_same seg.number (number_of (unwrap_or (their_number (before past)) 0)
              (ackd (guest (before past)))) q.1,
          all_acked_says (guest (before past)) q.2,
        )

no_close : (a : Bool) → (IsTrue a → ⊥) → IsTrue (not a)
no_close true f = absurd (f refl)
no_close false f = refl

closes_hold : (past : Story) → Conforming (guest past) → (act : Act) → ClosesAfterReset past act → IsTrue (closes_after_reset past act)
closes_hold past fair (Close directly ended known) is = refl
closes_hold past fair AskConnected is = no_close (must_close past) (λ close. is (must_close_says past fair close))
closes_hold past fair (Write octets) is = no_close (must_close past) (λ close. is (must_close_says past fair close))
closes_hold past fair EndHost is = no_close (must_close past) (λ close. is (must_close_says past fair close))
closes_hold past fair Read is = no_close (must_close past) (λ close. is (must_close_says past fair close))
closes_hold past fair (Send seg) is = no_close (must_close past) (λ close. is (must_close_says past fair close))

-- ---- all

-- What is done for a conforming guest as it must be passes the test.
pub must_holds : (s : Settings) (past : Story) (now : ℕ) (act : Act) → Conforming (guest past) → Must s past now act → IsTrue (must s past now act)
must_holds s past now act fair m =
    three_true (sends_its_room s past now act) (offers_what_was_acknowledged past act) (closes_after_reset past act)
    (room_holds s past now fair act m.sends_its_room) (offers_hold past fair act m.offers_what_was_acknowledged) (closes_hold past fair act m.closes_after_reset)

not_both : (b : Bool) → b ≡ true → b ≡ false → ⊥
not_both true x y = absurd cc
not_both false x y = absurd cc

-- So what fails it is refuted.
pub refutes_duty : (s : Settings) (past : Story) (now : ℕ) (act : Act) → IsTrue (is_conforming (guest past)) → must s past now act ≡ false → Must s past now act → ⊥
refutes_duty s past now act fair fails m = not_both (must s past now act) (must_holds s past now act (conforming (guest past) fair) m) fails

-- A test beside each sentence on what has to be done, which computes: where it holds, the sentence does.
use Rattle.std.specs.Prelude.{ℕ, ◌+◌, ◌-◌, List, [], ◌∷◌, length, min, Option, None, Some, is_some, Bool, true, false, not, ◌&&◌, ◌||◌, pos, ◌+ℤ◌, nat_le, nat_lt, nat_eq}
use Rattle.std.specs.Option.{unwrap_or}
use Rattle.seq_space.specs.Places.{number_of}
use Rattle.spec_flow.specs.Settings.{Settings}
use Rattle.spec_flow.specs.Event.{Segment, Departs, At, Story}
use Rattle.spec_flow.specs.Guest.{Up, Came, Acked, is_empty, was_acked, ackd, begins, ends, front, written, has_ended, from_zero}
use Rattle.spec_flow.specs.Host.{answered, sent, owned}
use Rattle.spec_flow.specs.Flow.{guest, host, their_number, is_accepted, is_closed, is_connecting, has_connected, syn_is_out}
use Rattle.spec_flow.specs.Windows.{our_shift, field, right_edge, next_edge, edge}
use Rattle.spec_flow.specs.Close.{is_done, owes_reset, times_asked, newest_rst, before}
use Rattle.spec_flow.specs.Lawful.{Act, Write, Send, Close, act_of}
use Rattle.spec_flow.specs.Dutiful.{fin_is_answered, resend_deadline, close_deadline, is_called_enough}
use Rattle.spec_flow.specs.Computed.{acknowledged, ends_at, is_before, is_under}

-- ---- what is waited for

abbrev pub may_wait_to_write : Story → Bool
may_wait_to_write past =
    not (is_closed past)
    && (is_connecting past || (nat_lt (length (written (guest past))) (length (front (guest past)))
    || (ends_at (guest past) (length (front (guest past))) && not (has_ended (guest past)))))

-- ---- sends

abbrev pub has_sent : Settings → Story → Bool → Bool
has_sent s past known =
    (not (owes_reset past) && (not (has_connected past && not (is_closed past)) || syn_is_out past))
    && ((not (is_accepted past && not (is_closed past)) || (syn_is_out past || (not known && nat_lt 0 (times_asked past))))
    && (not (answered (host past) && not (is_closed past)) || nat_le (min (edge s past) (owned (host past))) (sent (host past))))

-- ---- acknowledgements

abbrev pub asks_for_ack : List Up → ℕ → List ℕ → Bool → Bool → Bool
asks_for_ack past n xs fin heeded = heeded && ((fin || not (is_empty xs)) || is_before (begins past n) (ackd past))

abbrev pub all_answered : List Up → Bool
all_answered [] = true
all_answered (Acked n ∷ past) = true
all_answered (Came n xs fin heeded ∷ past) = not (asks_for_ack past n xs fin heeded) && all_answered past
all_answered (_ ∷ past) = all_answered past

-- the segment asks for no more than the place m
abbrev pub asks_within : ℕ → List Up → ℕ → List ℕ → Bool → Bool → ℕ → Bool
asks_within ring past n xs fin heeded m =
    not (heeded && is_under (begins past n) (ackd past))
    || (nat_le (min (from_zero (ends past n xs)) (length (written past) + ring)) m
    && (not (fin && is_under (ends past n xs) (length (written past) + ring)) || is_under (ends past n xs +ℤ pos 1) m))

abbrev pub all_within : ℕ → List Up → ℕ → Bool
all_within ring [] m = true
all_within ring (Came n xs fin heeded ∷ past) m = asks_within ring past n xs fin heeded m && all_within ring past m
all_within ring (_ ∷ past) m = all_within ring past m

abbrev pub has_acknowledged : Settings → Story → Bool → Bool
has_acknowledged s past time_waits =
    ((not (is_accepted past && is_some (their_number past) && not (is_closed past)) || was_acked (guest past))
    && (is_closed past || all_answered (guest past)))
    && ((is_closed past || all_within s.ring (guest past) (ackd (guest past)))
    && (not time_waits || fin_is_answered past))

-- ---- windows

abbrev pub is_told : Option ℕ → ℕ → Bool
is_told None n = true
is_told (Some e) n = nat_lt n (e + 2920)

abbrev pub told_room : Settings → Story → Bool
told_room s past =
    not (answered (host past) && not (is_closed past))
    || ((nat_lt 0 (ackd (guest past)) && ends_at (guest past) (ackd (guest past) - 1)) || is_told (right_edge s past) (next_edge s past))

-- ---- times

abbrev pub all_ahead : ℕ → List ℕ → Bool
all_ahead now [] = true
all_ahead now (m ∷ ms) = nat_lt now m && all_ahead now ms

-- ---- a wait

abbrev pub is_settled : Settings → Story → Bool → Bool → ℕ → Bool
is_settled s past known time_waits now = (has_sent s past known && has_acknowledged s past time_waits) && (told_room s past && all_ahead now (resend_deadline past))

abbrev pub may_wait : Story → ℕ → Bool
may_wait past now = (not (is_done past) || is_closed past) && all_ahead now (close_deadline past) && is_called_enough past

-- ---- what is done

abbrev pub tells_room : Settings → Story → ℕ → Segment → Bool
tells_room s past now seg = not (not seg.rst) || (nat_le (acknowledged (guest (At now (Departs seg) ∷ past))) (length (written (guest past)) + s.ring)
    && nat_eq seg.window (field (our_shift s past seg.syn) (length (written (guest past)) + s.ring - acknowledged (guest (At now (Departs seg) ∷ past)))))

abbrev pub sends_its_room : Settings → Story → ℕ → Act → Bool
sends_its_room s past now (Send seg) = tells_room s past now seg
sends_its_room s past now _ = true

abbrev pub offers_what_was_acknowledged : Story → Act → Bool
offers_what_was_acknowledged past (Write octets) =
    nat_le (length octets) 16384 && nat_le (min 16384 (acknowledged (guest past) - length (written (guest past)))) (length octets)
offers_what_was_acknowledged past _ = true

-- all that came was acknowledged
abbrev pub is_all_acked : List Up → Bool
is_all_acked past =
    (nat_eq (ackd past) (length (front past)) && not (ends_at past (length (front past))))
    || (ends_at past (length (front past)) && nat_eq (ackd past) (length (front past) + 1))

abbrev pub resets_at_next : Story → Option Segment → Bool
resets_at_next past None = false
resets_at_next past (Some seg) =
    is_some (their_number past) && nat_eq seg.number (number_of (unwrap_or (their_number past) 0) (ackd (guest past))) && is_all_acked (guest past)

abbrev pub must_close : Story → Bool
must_close past = not (is_closed past) && resets_at_next (before past) (newest_rst past)

abbrev pub closes_after_reset : Story → Act → Bool
closes_after_reset past (Close directly ended known) = true
closes_after_reset past _ = not (must_close past)

abbrev pub must : Settings → Story → ℕ → Act → Bool
must s past now act = sends_its_room s past now act && offers_what_was_acknowledged past act && closes_after_reset past act

abbrev pub must_happen : Settings → Story → ℕ → Option Act → Bool
must_happen s past now None = not (must_close past)
must_happen s past now (Some act) = must s past now act

-- the test
abbrev pub is_dutiful : Settings → Story → Bool
is_dutiful s [] = true
is_dutiful s (At m e ∷ past) = must_happen s past m (act_of e) && is_dutiful s past

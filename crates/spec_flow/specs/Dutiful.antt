-- What has to be done for a flow: its part of what holds whenever the program waits, and of the calls between two waits.
use Rattle.std.specs.Prelude.{◌≡◌, ℕ, ◌+◌, ◌-◌, ◌*◌, ◌^◌, ◌<◌, ◌≤◌, List, [], ◌∷◌, ◌++◌, length, min, max, Bool, true, false, not, ◌&&◌, ◌||◌, Some, is_some, if◌then◌else◌, nat_le, nat_lt, IsTrue, MatchOption, ◌⊎◌}
use Rattle.std.specs.Option.{unwrap_or}
use Rattle.seq_space.specs.Places.{number_of}
use Rattle.spec_flow.specs.Settings.{Settings}
use Rattle.spec_flow.specs.Event.{Segment, Arrives, Departs, Beat, At, Story, newest_moment}
use Rattle.spec_flow.specs.Lawful.{Act, Write, Send, Close, act_of, is_prompted}
use Rattle.spec_flow.specs.Guest.{AckIsDue, Asks, was_acked, ackd, Conforming, IsAcknowledged, EndsAt, front, written, has_ended}
use Rattle.spec_flow.specs.Host.{answered, acked, got, got_end, sent, owned}
use Rattle.spec_flow.specs.Flow.{guest, host, their_number, is_accepted, is_closed, is_connecting, has_connected, holds, opened_at, syn_is_out, newest_of, oldest_sendings, acknowledged_at, is_under_way}
use Rattle.spec_flow.specs.Windows.{our_shift, field, right_edge, next_edge, edge}
use Rattle.spec_flow.specs.Close.{is_deserted, is_done, last_at, owes_reset, asked_at, patience_end, times_asked, renews, newest_rst, before}

-- ---- what the program waits for

-- the host's octets are waited for exactly where there is room for them
abbrev pub waits_to_read : Settings → Story → Bool
waits_to_read s past =
    (has_connected past || is_accepted past) && not (is_closed past) && not (got_end (host past))
    && nat_lt (length (got (host past))) (acked (host past) + s.ring)

-- the host is waited for to take octets or the end, where it connects or something was acknowledged that it hasn't
abbrev pub must_wait_to_write : Story → Bool
must_wait_to_write past =
    not (is_closed past)
    && (is_connecting past || (nat_lt (length (written (guest past))) (ackd (guest past)) && not (has_ended (guest past))))

-- and only where something came that it hasn't
abbrev pub MayWaitToWrite : Story → Type 0
MayWaitToWrite past =
    (is_closed past ≡ false)
    × (Conforming (guest past) →
    IsTrue (is_connecting past)
    ⊎ ((length (written (guest past)) < length (front (guest past)))
    ⊎ (EndsAt (guest past) (length (front (guest past))) × (has_ended (guest past) ≡ false))))

-- ---- sends

-- all that can go out is out: the reset that is owed, our SYN or a request for the guest's address, octets as far as the guest takes them
pub record HasSent (s : Settings) (past : Story) (known : Bool) : Type 0 where
  pub reset : owes_reset past ≡ false
  pub syn_ack : IsTrue (has_connected past && not (is_closed past)) → IsTrue (syn_is_out past)
  pub syn : IsTrue (is_accepted past && not (is_closed past)) → IsTrue (syn_is_out past || (not known && nat_lt 0 (times_asked past)))
  pub octets : IsTrue (answered (host past) && not (is_closed past)) → min (edge s past) (owned (host past)) ≤ sent (host past)

-- ---- acknowledgements (RFC 9293, 3.8.6.3 and 3.10.7.4)

-- since the last segment with FIN and ACK came, one with ACK went out
abbrev pub fin_is_answered : Story → Bool
fin_is_answered [] = true
fin_is_answered (At m (Departs seg) ∷ past) = (seg.ack && not seg.rst) || fin_is_answered past
fin_is_answered (At m (Arrives seg) ∷ past) = not (renews seg) && fin_is_answered past
fin_is_answered (_ ∷ past) = fin_is_answered past

-- what came is acknowledged: the SYN of a guest that we called; each segment and probe that asks for it; of a conforming guest all that was asked for; and,
-- in TIME-WAIT, the last end (RFC 9293, 3.8.6.1, 3.8.6.3)
pub record HasAcknowledged (s : Settings) (past : Story) (time_waits : Bool) : Type 0 where
  pub opening : IsTrue (is_accepted past && is_some (their_number past) && not (is_closed past)) → IsTrue (was_acked (guest past))
  pub each : is_closed past ≡ false → AckIsDue (guest past) → ⊥
  pub all : is_closed past ≡ false → Conforming (guest past) → (a : ℕ) → Asks s.ring (guest past) a → a ≤ ackd (guest past)
  pub in_time_wait : IsTrue time_waits → IsTrue (fin_is_answered past)

-- ---- closing

-- a flow of which both ends passed is closed
abbrev pub ClosesWhenDone : Story → Type 0
ClosesWhenDone past = Conforming (guest past) → IsTrue (is_done past) → IsTrue (is_closed past)

-- a reset at the next number is followed at once by a close
abbrev pub MustClose : Story → Type 0
MustClose past = (seg : Segment) × (newest_rst past ≡ Some seg) × (is_closed past ≡ false) × Conforming (guest (before past))
    × IsTrue (is_some (their_number (before past)))
    × (seg.number ≡ number_of (unwrap_or (their_number (before past)) 0) (ackd (guest (before past))))
    × ((ackd (guest (before past)) ≡ length (front (guest (before past)))) × (EndsAt (guest (before past)) (length (front (guest (before past)))) → ⊥)
    ⊎ (EndsAt (guest (before past)) (length (front (guest (before past)))) × (ackd (guest (before past)) ≡ length (front (guest (before past))) + 1)))

-- ---- windows (RFC 9293, 3.8.6)

-- each segment that goes out has the room that is left as its window
abbrev pub TellsRoom : Settings → Story → ℕ → Segment → Type 0
TellsRoom s past now seg = IsTrue (not seg.rst) → Conforming (guest past) → (a : ℕ) → IsAcknowledged (guest (At now (Departs seg) ∷ past)) a
    → (room : ℕ) × (room + a ≡ length (written (guest past)) + s.ring) × (seg.window ≡ field (our_shift s past seg.syn) room)

-- the guest was told of the room, but for less than 2,920 octets, two segments of 1,460 (RFC 9293, 3.8.6.2.2)
abbrev pub ToldRoom : Settings → Story → Type 0
ToldRoom s past = Conforming (guest past) → IsTrue (answered (host past) && not (is_closed past))
    → ((i : ℕ) → EndsAt (guest past) i → ackd (guest past) ≤ i)
    → (edge : ℕ) → right_edge s past ≡ Some edge → next_edge s past < edge + 2920

-- ---- times

-- since when the oldest number that isn't acknowledged is under way
abbrev pub waits_since : Story → ℕ
waits_since past = max (newest_of (oldest_sendings past)) (acknowledged_at past)

abbrev pub moment_if : Bool → ℕ → List ℕ
moment_if true m = m ∷ []
moment_if false m = []

-- the moment at which the flow may be closed: the host's time to connect, 75,000 ms, is over, or that of the guest of a peer that is gone
abbrev pub closing_moments : Story → List ℕ
closing_moments past = moment_if (is_connecting past) (opened_at past + 75000) ++ moment_if (is_deserted past) (patience_end past)

-- and by which it is: the second not while a segment of the guest may be answered, nor at the moment of the last sign of life
abbrev pub close_deadline : Story → List ℕ
close_deadline past =
    moment_if (is_connecting past) (opened_at past + 75000)
    ++ moment_if (is_deserted past && not (is_prompted past)) (max (patience_end past) (last_at past + 1))

-- a flow was accepted whose guest isn't called yet: its hardware address is asked for in place of our SYN (RFC 826)
abbrev pub resolves_guest : Story → Bool
resolves_guest past = is_accepted past && not (syn_is_out past) && not (is_closed past)

-- octets or an end are left, and nothing is under way: the guest's window is closed, and it is asked again whether it is (RFC 9293, 3.8.6.1)
abbrev pub waits_for_window : Story → Bool
waits_for_window past = answered (host past) && not (is_closed past) && not (is_under_way past) && nat_lt (sent (host past)) (owned (host past))

-- the moment before which what is under way goes out again, a request for the guest's hardware address, or a question about a closed window: 60,000 ms after
-- it did last (RFC 6298, 2.5)
abbrev pub resend_deadline : Story → List ℕ
resend_deadline past =
    moment_if (is_under_way past && not (is_closed past)) (waits_since past + 60000)
    ++ moment_if (resolves_guest past && nat_lt 0 (times_asked past)) (asked_at past + 60000)
    ++ moment_if (waits_for_window past) (newest_moment past + 60000)

-- how often the place i went out since a segment of the guest came, and how often our SYN
abbrev pub unheard : Story → ℕ → ℕ
unheard [] i = 0
unheard (At m (Arrives seg) ∷ past) i = 0
unheard (At m (Departs seg) ∷ past) i = (if holds past seg i then 1 else 0) + unheard past i
unheard (_ ∷ past) i = unheard past i

abbrev pub syn_unheard : Story → ℕ
syn_unheard [] = 0
syn_unheard (At m (Arrives seg) ∷ past) = 0
syn_unheard (At m (Departs seg) ∷ past) = (if seg.syn && not seg.rst then 1 else 0) + syn_unheard past
syn_unheard (_ ∷ past) = syn_unheard past

-- how often the oldest number that isn't acknowledged did
abbrev pub oldest_unheard : Story → ℕ
oldest_unheard past = if answered (host past) then unheard past (acked (host past)) else syn_unheard past

-- a guest that says nothing is called nine times, and no more
abbrev pub is_called_enough : Story → Bool
is_called_enough past = is_closed past || nat_le (oldest_unheard past) 9

-- how long it is waited at least after so many times that nothing answered: a second, twice as long each time, a minute at most (RFC 6298, 2.4 and 5.5)
abbrev pub back_off : ℕ → ℕ
back_off times = min 60000 (1000 * 2 ^ (times - 1))

-- the moments that a wait may not pass; those of the second kind only while the link isn't blocked
abbrev pub AreAhead : ℕ → List ℕ → Type 0
AreAhead now [] = Unit {0}
AreAhead now (m ∷ ms) = (now < m) × AreAhead now ms

-- the moments for which a wait may be cut short: the end of connecting or of patience, a second after the accept, and after the last sending as long as so
-- many that nothing answered ask for (`back_off`); the core adds the end of a TIME-WAIT
abbrev pub wakes : Story → List ℕ
wakes past =
    closing_moments past
    ++ moment_if (resolves_guest past) (opened_at past + 1000)
    ++ moment_if (syn_is_out past && not (is_closed past) && (is_under_way past || nat_lt (sent (host past)) (owned (host past))))
    (max (opened_at past) (waits_since past) + back_off (oldest_unheard past))

-- ---- sizes

-- a read asks for all that there is room for, at most 16,384 octets, those of one call
abbrev pub read_size : Settings → Story → ℕ
read_size s past = min 16384 (acked (host past) + s.ring - length (got (host past)))

-- a write offers all that was acknowledged, at most 16,384 octets
abbrev pub OffersEnough : Story → List ℕ → Type 0
OffersEnough past octets = (length octets ≤ 16384)
    × (Conforming (guest past) → (a : ℕ) → IsAcknowledged (guest past) a → min 16384 (a - length (written (guest past))) ≤ length octets)

-- ---- the sentences on what is done

-- each segment that goes out tells the room that is left
abbrev pub SendsItsRoom : Settings → Story → ℕ → Act → Type 0
SendsItsRoom s past now (Send seg) = TellsRoom s past now seg
SendsItsRoom s past now _ = Unit {0}

-- the host is offered all that was acknowledged
abbrev pub OffersWhatWasAcknowledged : Story → Act → Type 0
OffersWhatWasAcknowledged past (Write octets) = OffersEnough past octets
OffersWhatWasAcknowledged past _ = Unit {0}

-- after a reset at the next number the close comes next
abbrev pub ClosesAfterReset : Story → Act → Type 0
ClosesAfterReset past (Close directly ended known) = Unit {0}
ClosesAfterReset past _ = MustClose past → ⊥

-- an act is made as it must be
pub record Must (s : Settings) (past : Story) (now : ℕ) (act : Act) : Type 0 where
  pub sends_its_room : SendsItsRoom s past now act
  pub offers_what_was_acknowledged : OffersWhatWasAcknowledged past act
  pub closes_after_reset : ClosesAfterReset past act

-- whatever was done was done as it must be, and nothing came between a reset and the close
abbrev pub MustHappen : Settings → Story → Beat → Type 0
MustHappen s past (At m e) = MatchOption (act_of e) (MustClose past → ⊥) (λ act. Must s past m act)

-- whatever was done for a flow was done as it must be
abbrev pub IsDutiful : Settings → Story → Type 0
IsDutiful s [] = Unit {0}
IsDutiful s (b ∷ past) = MustHappen s past b × IsDutiful s past

-- ---- one flow's part of a wait

-- Unless the link is blocked; known: the guest's hardware address is; is in TIME-WAIT: the flow is in TIME-WAIT.
pub record IsSettled (s : Settings) (past : Story) (known time_waits : Bool) (now : ℕ) : Type 0 where
  pub sends : HasSent s past known
  pub acknowledges : HasAcknowledged s past time_waits
  pub window : ToldRoom s past
  pub resends : AreAhead now (resend_deadline past)

-- always
pub record MayWait (past : Story) (now : ℕ) : Type 0 where
  pub closes : ClosesWhenDone past
  pub connects : AreAhead now (close_deadline past)
  pub calls : IsTrue (is_called_enough past)

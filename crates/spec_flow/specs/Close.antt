-- Why a flow may be closed, what it owes afterwards, and how long it is in TIME-WAIT (RFC 9293, 3.6 and 3.10.7).
use Rattle.std.specs.Prelude.{◌≡◌, ℕ, ◌+◌, ◌^◌, ◌%◌, ◌≤◌, List, [], ◌∷◌, length, max, Bool, true, false, not, ◌&&◌, ◌||◌, Option, None, Some, is_some, if◌then◌else◌, nat_le, nat_lt, nat_eq}
use Rattle.std.specs.Prelude.{IsTrue, MatchOption, pos, int_le}
use Rattle.std.specs.List.{list_any}
use Rattle.std.specs.Option.{option_map_or, unwrap_or}
use Rattle.seq_space.specs.Places.{is_ahead, number_of}
use Rattle.spec_flow.specs.Event.{Segment, Event, Arrives, Departs, ConnectsYet, Writes, Reads, EndsHost, AsksAddress, Closes, At, Story, is_failure}
use Rattle.spec_flow.specs.Guest.{ack_is_due, ackd, ends, is_empty, was_acked, written, HasCome, Conforming}
use Rattle.spec_flow.specs.Host.{acked, answered, got, got_end, sent}
use Rattle.spec_flow.specs.Flow.{guest, host, their_number, our_number, next_number, is_accepted, is_closed, is_connecting, opened_at, syn_is_out, syn_sendings, oldest_sendings, oldest_sent_again, newest_of, oldest}

-- ---- both ends passed

-- the numbers that acknowledge the FINs that came
abbrev pub after_fins : Story → List ℕ
after_fins [] = []
after_fins (At m (Arrives seg) ∷ past) =
    if seg.fin && not seg.syn && not seg.rst && is_some (their_number past) && not (is_closed past)
    && int_le (pos (ackd (guest past))) (ends (guest past) seg.number seg.octets)
    then (seg.number + length seg.octets + 1) % 2 ^ 32 ∷ after_fins past else after_fins past
after_fins (_ ∷ past) = after_fins past

-- the guest's end was acknowledged
abbrev pub fin_was_acknowledged : Story → Bool
fin_was_acknowledged [] = false
fin_was_acknowledged (At m (Departs seg) ∷ past) = (seg.ack && not seg.rst && list_any (nat_eq seg.acknowledgement) (after_fins past)) || fin_was_acknowledged past
fin_was_acknowledged (_ ∷ past) = fin_was_acknowledged past

-- the host was told the guest's end
abbrev pub host_was_ended : Story → Bool
host_was_ended [] = false
host_was_ended (At m EndsHost ∷ past) = true
host_was_ended (_ ∷ past) = host_was_ended past

-- our FIN was acknowledged
abbrev pub our_fin_is_acked : Story → Bool
our_fin_is_acked past = nat_eq (acked (host past)) (length (got (host past)) + 1)

-- both ends passed: the host has the guest's end, the guest has ours, and both know it
abbrev pub is_done : Story → Bool
is_done past = host_was_ended past && our_fin_is_acked past && fin_was_acknowledged past

-- ---- causes

-- the newest event is the arrival of a segment with RST
abbrev pub newest_rst : Story → Option Segment
newest_rst (At m (Arrives seg) ∷ past) = if seg.rst then Some seg else None
newest_rst _ = None

-- what came before the newest event
abbrev pub before : Story → Story
before [] = []
before (_ ∷ past) = past

-- the guest reset the flow: the number is one that it might send next, or, before its SYN, it acknowledges ours (RFC 9293, 3.10.7.3 and 3.5.3)
abbrev pub IsReset : Story → Segment → Type 0
IsReset past seg = MatchOption (their_number past)
    (IsTrue (seg.ack && nat_eq seg.acknowledgement (next_number (our_number past))))
    (λ f. Conforming (guest past) → (x : ℕ) × (ackd (guest past) ≤ x) × HasCome (guest past) x × (seg.number ≡ number_of f x))

-- it is at the number that was acknowledged last, or what came since is still to be acknowledged
abbrev pub is_fatal : Story → Segment → Bool
is_fatal past seg = elim (their_number past) [
  | None ↦ seg.ack && nat_eq seg.acknowledgement (next_number (our_number past))
  | Some f ↦ nat_eq seg.number (number_of f (ackd (guest past))) || ack_is_due (guest past)
]

-- the close comes directly after a reset that was fatal
abbrev pub follows_reset : Bool → Story → Bool
follows_reset directly past = directly && option_map_or (is_fatal (before past)) (newest_rst past) false

-- a call on the host's socket failed, and nothing happened since
abbrev pub host_failed : Story → Bool
host_failed [] = false
host_failed (At m e ∷ past) = is_failure e

-- the oldest number that isn't acknowledged went out at least nine times, first 243,000 ms ago, and eight times since anything was acknowledged (RFC 9293,
-- 3.8.3; the time is ours: nine least timeouts in sum, from a second, doubled up to a minute)
abbrev pub gives_up : ℕ → Story → Bool
gives_up now past =
    nat_le 9 (length (oldest_sendings past)) && nat_le 8 (oldest_sent_again past)
    && nat_le (unwrap_or (oldest (oldest_sendings past)) now + 243000) now

-- the host didn't connect in 75,000 ms; ours
abbrev pub connects_too_long : ℕ → Story → Bool
connects_too_long now past = is_connecting past && nat_le (opened_at past + 75000) now

-- the guest's SYN is known and not acknowledged
abbrev pub syn_is_due : Story → Bool
syn_is_due past = is_some (their_number past) && not (was_acked (guest past))

-- a peer ended without an octet before the guest answered our SYN, and nothing is to be acknowledged
abbrev pub is_deserted : Story → Bool
is_deserted past = is_accepted past && not (is_closed past) && not (answered (host past)) && got_end (host past) && is_empty (got (host past)) && not (syn_is_due past)

-- until then the guest may answer: for 1,000 ms since the accept, and since our SYN went out last; ours
abbrev pub patience_end : Story → ℕ
patience_end past = max (opened_at past) (newest_of (syn_sendings past)) + 1000

-- the host didn't connect in time, or the guest of a peer that is gone didn't answer
abbrev pub waits_too_long : ℕ → Story → Bool
waits_too_long now past = connects_too_long now past || (is_deserted past && nat_le (patience_end past) now)

-- a sign of life: the flow is opened or connected, octets or an end pass, or a segment does
abbrev pub is_alive : Event → Bool
is_alive ConnectsYet = false
is_alive (Writes xs n) = nat_lt 0 n && not (is_empty xs)
is_alive (Reads xs) = not (is_empty xs)
is_alive AsksAddress = false
is_alive (Closes directly ended known) = false
is_alive e = not (is_failure e)

-- the moment of the last one
abbrev pub last_at : Story → ℕ
last_at [] = 0
last_at (At m e ∷ past) = if is_alive e then m else last_at past

-- The host's end was read, or it was told the guest's, or nothing was ever read and nothing ever taken. By the end that it was told and not the one
-- acknowledged, which is known exactly of conforming guests alone.
abbrev pub is_short : Story → Bool
is_short past = got_end (host past) || host_was_ended past || (is_empty (got (host past)) && is_empty (written (guest past)))

-- how many milliseconds a flow without a sign of life keeps its place from a guest that asks for one: 240,000 where it is short, and else 7,440,000 (RFC
-- 5382, REQ-5); 10,000 while its host connects, which is ours
abbrev pub quiet_time : Story → ℕ
quiet_time past = if is_connecting past then 10000 else (if is_short past then 240000 else 7440000)

-- A flow of which not both ends passed may give way to a guest's SYN. One of which both ends passed is open only until its last acknowledgement goes out.
abbrev pub may_give_way : ℕ → Story → Bool
may_give_way now past = not (is_closed past) && not (host_was_ended past && our_fin_is_acked past) && nat_le (last_at past + quiet_time past) now

-- a call on its socket failed, or it gives way
abbrev pub must_part : ℕ → Story → Bool
must_part now past = host_failed past || may_give_way now past

-- how often the guest's hardware address was asked for
abbrev pub times_asked : Story → ℕ
times_asked [] = 0
times_asked (At m AsksAddress ∷ past) = 1 + times_asked past
times_asked (_ ∷ past) = times_asked past

-- when it was asked for last
abbrev pub asked_at : Story → ℕ
asked_at [] = 0
asked_at (At m AsksAddress ∷ past) = m
asked_at (_ ∷ past) = asked_at past

-- the guest's hardware address wasn't found in nine requests and 243,000 ms; both ours, as for a segment that nothing answers
abbrev pub finds_no_guest : Bool → ℕ → Story → Bool
finds_no_guest known now past =
    is_accepted past && not (syn_is_out past) && not known && nat_le 9 (times_asked past) && nat_le (opened_at past + 243000) now

-- ---- what is owed afterwards

-- Closed at this moment, the flow owes a reset: the host failed, it gave way or was waited for too long, and there is a guest that knows of it.
abbrev pub owes_at_close : Bool → Bool → ℕ → Story → Bool
owes_at_close directly ended now past =
    not (is_done past) && not (follows_reset directly past)
    && (must_part now past || (not ended && (gives_up now past || waits_too_long now past)))
    && not (is_accepted past && not (syn_is_out past))

-- The reset that a flow owes has RST and ACK, and the number after all that went out; a guest that connects and got no SYN-ACK is answered by
-- number 0 and the acknowledgement of its SYN.
abbrev pub is_owed_reset : Story → Segment → Bool
is_owed_reset past seg = seg.rst && seg.ack && not seg.syn && not seg.fin && (
    if syn_is_out past || is_accepted past then nat_eq seg.number (number_of (our_number past) (sent (host past)))
    else (nat_eq seg.number 0 && nat_eq seg.acknowledgement (next_number (unwrap_or (their_number past) 0))))

abbrev pub owes_reset : Story → Bool
owes_reset [] = false
owes_reset (At m (Closes directly ended known) ∷ past) = owes_at_close directly ended m past
owes_reset (At m (Departs seg) ∷ past) = owes_reset past && not (is_owed_reset past seg)
owes_reset (_ ∷ past) = owes_reset past

-- the flow has its tuple
abbrev pub is_in_use : Story → Bool
is_in_use past = not (is_closed past) || owes_reset past

-- ---- TIME-WAIT (RFC 9293, 3.6)

abbrev pub fin_is_out : Story → Bool
fin_is_out [] = false
fin_is_out (At m (Departs seg) ∷ past) = (seg.fin && not seg.syn && not seg.rst) || fin_is_out past
fin_is_out (_ ∷ past) = fin_is_out past

-- our FIN went out before the last acknowledgement that moved: we ended first, or both at once
abbrev pub ended_first : Story → Bool
ended_first [] = false
ended_first (At m (Departs seg) ∷ past) =
    if nat_lt (ackd (guest past)) (ackd (guest (At m (Departs seg) ∷ past))) then fin_is_out past else ended_first past
ended_first (_ ∷ past) = ended_first past

-- a segment with FIN and ACK, without SYN and RST, starts a TIME-WAIT anew
abbrev pub renews : Segment → Bool
renews seg = seg.fin && seg.ack && not seg.syn && not seg.rst

-- A segment ends a TIME-WAIT: RST at the next number, or a SYN ahead of it.
abbrev pub ends_time_wait : Story → Segment → Bool
ends_time_wait past seg = ends_at (number_of (unwrap_or (their_number past) 0) (ackd (guest past)))
  where
    ends_at : ℕ → Bool
    ends_at next = (seg.rst && nat_eq seg.number next) || (seg.syn && not seg.ack && not seg.rst && is_ahead seg.number next)

abbrev pub renewed : Bool → ℕ → Option ℕ → Option ℕ
renewed b m None = None
renewed true m (Some since) = Some m
renewed false m (Some since) = Some since

-- Since when a closed flow is in TIME-WAIT, as far as its own events tell: time, crowding and a later flow on its tuple end a TIME-WAIT, too.
abbrev pub in_time_wait_since : Story → Option ℕ
in_time_wait_since [] = None
in_time_wait_since (At m (Closes directly ended known) ∷ past) = if is_done past && not (follows_reset directly past) && ended_first past then Some m else None
in_time_wait_since (At m (Arrives seg) ∷ past) = if ends_time_wait past seg then None else renewed (renews seg) m (in_time_wait_since past)
in_time_wait_since (_ ∷ past) = in_time_wait_since past

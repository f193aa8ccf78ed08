-- A test beside each sentence of the law, which computes: where it holds, the sentence does. It asks of each guest what the law asks of a conforming one,
-- so an act that fails the test may still be allowed.
use Rattle.std.specs.Prelude.{ℕ, ◌+◌, ◌^◌, List, [], ◌∷◌, ◌++◌, length, Option, None, Some, is_some, Bool, true, false, not, ◌&&◌, ◌||◌, pos, ◌+ℤ◌, nat_le, nat_lt, nat_eq}
use Rattle.seq_space.specs.Places.{number_of, steps_up}
use Rattle.spec_flow.specs.Settings.{Settings}
use Rattle.spec_flow.specs.Event.{Segment, At, Story}
use Rattle.spec_flow.specs.Guest.{Up, is_empty, Acked, front, written, has_ended, ackd}
use Rattle.spec_flow.specs.Host.{answered, got, got_end, our_place, sent}
use Rattle.spec_flow.specs.Flow.{guest, host, their_number, our_number, next_number, is_closed, is_accepted, is_connecting, has_connected, syn_is_out}
use Rattle.spec_flow.specs.Close.{is_done, newest_rst, before, follows_reset, host_failed, gives_up, waits_too_long, may_give_way, finds_no_guest, owes_reset, is_owed_reset, in_time_wait_since}
use Rattle.spec_flow.specs.Lawful.{our_mss, our_scale, Act, AskConnected, Write, EndHost, Read, Send, Close, act_of, is_ack_alone, is_prompted, is_overdue, repeats}
use Rattle.spec_flow.specs.Windows.{mss}
use Rattle.spec_flow.specs.Computed.{begins_with, brings_all, ends_at, has_come, is_at, is_number, same_bool, sends_read}

-- ---- streams

abbrev pub writes_what_the_guest_sent : Story → Act → Bool
writes_what_the_guest_sent past (Write xs) = begins_with (written (guest past) ++ xs) (front (guest past))
writes_what_the_guest_sent past _ = true

abbrev pub writes_what_came : Story → Act → Bool
writes_what_came past (Write xs) = brings_all (guest past) 0 (written (guest past) ++ xs)
writes_what_came past _ = true

abbrev pub sends_what_the_host_sent : Story → Act → Bool
sends_what_the_host_sent past (Send seg) = sends_read (seg.syn || seg.rst) past seg
sends_what_the_host_sent past _ = true

abbrev pub sends_within_mss : Settings → Story → Act → Bool
sends_within_mss s past (Send seg) = nat_le (length seg.octets) (mss s past)
sends_within_mss s past _ = true

abbrev pub sends_again_with_reason : Story → ℕ → Act → Bool
sends_again_with_reason past now (Send seg) = seg.rst || not (repeats past seg) || is_prompted past || is_overdue now past seg
sends_again_with_reason past now _ = true

-- ---- ends

abbrev pub ends_after_all : Story → Act → Bool
ends_after_all past EndHost = not (has_ended (guest past)) && ends_at (guest past) (length (written (guest past)))
ends_after_all past _ = true

abbrev pub sends_end_after_all : Story → Act → Bool
sends_end_after_all past (Send seg) =
    not (seg.fin && not seg.rst) || (got_end (host past) && is_at (our_place (host past) seg.number +ℤ pos (length seg.octets)) (length (got (host past))))
sends_end_after_all past _ = true

abbrev pub reads_to_the_end : Story → Act → Bool
reads_to_the_end past Read = not (got_end (host past))
reads_to_the_end past _ = true

-- ---- keeping

abbrev pub acknowledges_what_came : Story → Act → Bool
acknowledges_what_came past (Send seg) =
    not (not seg.rst) || (same_bool seg.ack (is_some (their_number past)) && (not seg.ack || has_come (guest past) (ackd (Acked seg.acknowledgement ∷ guest past))))
acknowledges_what_came past _ = true

abbrev pub has_number_that_came : List Up → Option ℕ → ℕ → Bool
has_number_that_came past None n = nat_eq n 0
has_number_that_came past (Some f) n = has_come past (ackd (Acked n ∷ past))

abbrev pub resets_at_what_came : Story → Act → Bool
resets_at_what_came past (Send seg) = not seg.rst || has_number_that_came (guest past) (their_number past) seg.acknowledgement
resets_at_what_came past _ = true

-- the reset comes at a number that the guest may send next
abbrev pub is_reset_at : List Up → Option ℕ → Story → Segment → Bool
is_reset_at past None story seg = seg.ack && nat_eq seg.acknowledgement (next_number (our_number story))
is_reset_at past (Some f) story seg = has_come past (ackd past + steps_up seg.number (number_of f (ackd past))) && nat_lt seg.number (2 ^ 32)

abbrev pub is_reset : Story → Option Segment → Bool
is_reset past None = false
is_reset past (Some seg) = is_reset_at (guest past) (their_number past) past seg

abbrev pub has_own_cause : Bool → Bool → Bool → ℕ → Story → Bool
has_own_cause directly ended known now past =
    (is_done past || ended || host_failed past || finds_no_guest known now past)
    || ((not (follows_reset directly past) && (gives_up now past || waits_too_long now past))
    || (directly && is_reset (before past) (newest_rst past)))

abbrev pub has_cause : Bool → Bool → Bool → ℕ → Story → Bool
has_cause directly ended known now past = has_own_cause directly ended known now past || may_give_way now past

abbrev pub closes_with_cause : Story → ℕ → Act → Bool
closes_with_cause past now (Close directly ended known) = has_cause directly ended known now past
closes_with_cause past now _ = true

abbrev pub closes_after_failure : Story → Act → Bool
closes_after_failure past (Close directly ended known) = true
closes_after_failure past _ = not (host_failed past)

abbrev pub calls_open_socket : Story → Act → Bool
calls_open_socket past (Send seg) = true
calls_open_socket past _ = not (is_closed past)

abbrev pub resets_where_owed : Story → Act → Bool
resets_where_owed past (Send seg) = not seg.rst || (owes_reset past && is_owed_reset past seg)
resets_where_owed past _ = true

abbrev pub sends_nothing_after_close : Story → Act → Bool
sends_nothing_after_close past (Send seg) = not (is_closed past) || (is_empty seg.octets && not seg.syn && not seg.fin && (seg.rst || is_some (in_time_wait_since past)))
sends_nothing_after_close past _ = true

-- ---- opening

abbrev pub opens_after_host : Story → Act → Bool
opens_after_host past (Send seg) = not (not seg.rst) || (has_connected past || is_accepted past)
opens_after_host past _ = true

abbrev pub acks_syn : Option ℕ → Segment → Bool
acks_syn None seg = true
acks_syn (Some f) seg = nat_eq seg.acknowledgement (next_number f)

abbrev pub opens_with_syn : Story → Act → Bool
opens_with_syn past (Send seg) =
    (not (not seg.rst && not (syn_is_out past)) || seg.syn)
    && (not (seg.syn && not seg.rst) || (nat_eq seg.number (our_number past) && acks_syn (their_number past) seg))
opens_with_syn past _ = true

abbrev pub sends_its_options : Settings → Story → Act → Bool
sends_its_options s past (Send seg) = is_number seg.mss (our_mss s seg) && is_number seg.scale (our_scale s past seg)
sends_its_options s past _ = true

abbrev pub asks_until_connected : Story → Act → Bool
asks_until_connected past AskConnected = is_connecting past
asks_until_connected past (Write octets) = not (is_connecting past)
asks_until_connected past EndHost = not (is_connecting past)
asks_until_connected past Read = not (is_connecting past)
asks_until_connected past _ = true

abbrev pub has_header_of : Story → Segment → Bool
has_header_of past seg =
    (not (not seg.rst && (seg.fin || not (is_empty seg.octets))) || answered (host past))
    && ((not (not seg.rst && not seg.syn) || seg.ack) && (seg.ack || nat_eq seg.acknowledgement 0))
    && (not (is_ack_alone seg) || is_at (our_place (host past) seg.number) (sent (host past)))
    && (not seg.rst || nat_eq seg.window 0)

abbrev pub sends_its_header : Story → Act → Bool
sends_its_header past (Send seg) = has_header_of past seg
sends_its_header past _ = true

-- ---- all sentences

abbrev pub may_stream : Story → ℕ → Act → Bool
may_stream past now act =
    writes_what_the_guest_sent past act && writes_what_came past act && sends_what_the_host_sent past act && sends_again_with_reason past now act

abbrev pub may_end : Story → Act → Bool
may_end past act = ends_after_all past act && sends_end_after_all past act && reads_to_the_end past act && acknowledges_what_came past act

abbrev pub may_be_sent : Settings → Story → Act → Bool
may_be_sent s past act = sends_within_mss s past act && resets_at_what_came past act && sends_nothing_after_close past act && sends_its_options s past act

abbrev pub may_close : Story → ℕ → Act → Bool
may_close past now act = closes_with_cause past now act && closes_after_failure past act && calls_open_socket past act && resets_where_owed past act

abbrev pub may_open : Story → Act → Bool
may_open past act = (opens_after_host past act && opens_with_syn past act) && (asks_until_connected past act && sends_its_header past act)

abbrev pub may : Settings → Story → ℕ → Act → Bool
may s past now act = may_stream past now act && may_end past act && may_close past now act && (may_open past act && may_be_sent s past act)

abbrev pub may_happen : Settings → Story → ℕ → Option Act → Bool
may_happen s past now None = not (host_failed past)
may_happen s past now (Some act) = may s past now act

-- the test
abbrev pub is_lawful : Settings → Story → Bool
is_lawful s [] = true
is_lawful s (At m e ∷ past) = may_happen s past m (act_of e) && is_lawful s past

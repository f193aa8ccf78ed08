-- Where the test of a story holds, the story is lawful: sentence by sentence.
use Rattle.std.proofs.Common.{◌≡◌, ℕ, ◌+◌, ◌^◌, ◌<◌, ◌≤◌, [], ◌∷◌, ◌++◌, length, Option, None, Some, is_some, inl, inr, arith, Bool, true, false, not, ◌&&◌, ◌||◌, IsTrue, MatchOption}
use Rattle.std.proofs.Common.{IfSome, pos, ◌+ℤ◌, nat_lt, nat_eq}
use Rattle.std.proofs.lemmas.Bool.Decides.{nat_tests}
use Rattle.seq_space.specs.Places.{number_of, steps_up}
use Rattle.spec_flow.specs.Settings.{Settings}
use Rattle.spec_flow.specs.Event.{Segment, At, Story}
use Rattle.spec_flow.specs.Guest.{is_empty, Acked, Conforming, HasCome, front, written, has_ended, ackd}
use Rattle.spec_flow.specs.Host.{answered, got, got_end, our_place, sent}
use Rattle.spec_flow.specs.Flow.{guest, host, their_number, our_number, next_number, is_closed, is_accepted, is_connecting, has_connected, syn_is_out}
use Rattle.spec_flow.specs.Close.{is_done, IsReset, newest_rst, before, follows_reset, host_failed, gives_up, may_give_way, waits_too_long, finds_no_guest, owes_reset, is_owed_reset, in_time_wait_since}
use Rattle.spec_flow.specs.Lawful.{our_mss, our_scale, Act, AskConnected, Write, EndHost, Read, Send, Close, act_of, HasCause, HasOwnCause, May, IsLawful, WritesWhatTheGuestSent, WritesWhatCame}
use Rattle.spec_flow.specs.Lawful.{SendsWhatTheHostSent, SendsAgainWithReason, EndsAfterAll, SendsEndAfterAll, ReadsToTheEnd, AcknowledgesWhatCame, ClosesWithCause, ClosesAfterFailure}
use Rattle.spec_flow.specs.Lawful.{CallsOpenSocket, ResetsWhereOwed, SendsNothingAfterClose, OpensAfterHost, OpensWithSyn, AsksUntilConnected, HasHeaderOf, SendsItsHeader, is_ack_alone}
use Rattle.spec_flow.specs.Lawful.{SendsItsOptions, SendsWithinMss, ResetsAtWhatCame}
use Rattle.spec_flow.specs.Computed.{ends_at, has_come, is_at, is_number, same_bool}
use Rattle.spec_flow.specs.Check.{writes_what_the_guest_sent, writes_what_came, sends_what_the_host_sent, sends_again_with_reason, ends_after_all, sends_end_after_all, reads_to_the_end}
use Rattle.spec_flow.specs.Check.{acknowledges_what_came, closes_with_cause, closes_after_failure, calls_open_socket, resets_where_owed, sends_nothing_after_close, opens_after_host}
use Rattle.spec_flow.specs.Check.{opens_with_syn, asks_until_connected, has_header_of, sends_its_header, sends_its_options, acks_syn, has_cause, has_own_cause, is_reset, is_reset_at, may_stream, may_end}
use Rattle.spec_flow.specs.Check.{may_close, may_open, may, may_happen, is_lawful, sends_within_mss, has_number_that_came, resets_at_what_came, may_be_sent}
use Rattle.spec_flow.proofs.Computing.{all_brought, at_is, begins_prefix, both, either, empty_is, imply, is_false, nat_same, number_is, same_bool_is, sends_read_is, four_parts}
use Rattle.spec_flow.proofs.Ends.{ends_at_is, has_come_is}

-- ---- streams

writes_guest_is : (past : Story) (act : Act) → IsTrue (writes_what_the_guest_sent past act) → WritesWhatTheGuestSent past act
writes_guest_is past (Write xs) is = λ conforming. begins_prefix (written (guest past) ++ xs) (front (guest past)) is
writes_guest_is past _ is = tt

writes_came_is : (past : Story) (act : Act) → IsTrue (writes_what_came past act) → WritesWhatCame past act
writes_came_is past (Write xs) is = λ i x at. all_brought (guest past) 0 (written (guest past) ++ xs) is i i x (omega arith) at
writes_came_is past _ is = tt

sends_host_is : (past : Story) (act : Act) → IsTrue (sends_what_the_host_sent past act) → SendsWhatTheHostSent past act
sends_host_is past (Send seg) is = sends_read_is (seg.syn || seg.rst) past seg is
sends_host_is past _ is = tt

within_is : (s : Settings) (past : Story) (act : Act) → IsTrue (sends_within_mss s past act) → SendsWithinMss s past act
within_is s past (Send seg) is = grind (arith, nat_tests, is)
within_is s past _ is = tt

sends_again_is : (past : Story) (now : ℕ) (act : Act) → IsTrue (sends_again_with_reason past now act) → SendsAgainWithReason past now act
sends_again_is past now (Send seg) is = is
sends_again_is past now _ is = tt

-- ---- ends

ends_host_is : (past : Story) (act : Act) → IsTrue (ends_after_all past act) → EndsAfterAll past act
ends_host_is past EndHost is =
    let p = both (not (has_ended (guest past))) (ends_at (guest past) (length (written (guest past)))) is in
    (is_false (has_ended (guest past)) p.0, λ conforming. ends_at_is (guest past) (length (written (guest past))) p.1)
ends_host_is past _ is = tt

sends_end_is : (past : Story) (act : Act) → IsTrue (sends_end_after_all past act) → SendsEndAfterAll past act
sends_end_is past (Send seg) is = λ fin.
    let p = both (got_end (host past)) (is_at (our_place (host past) seg.number +ℤ pos (length seg.octets)) (length (got (host past)))) (imply (seg.fin && not seg.rst) _ is fin) in
    (p.0, at_is (our_place (host past) seg.number +ℤ pos (length seg.octets)) (length (got (host past))) p.1)
sends_end_is past _ is = tt

reads_is : (past : Story) (act : Act) → IsTrue (reads_to_the_end past act) → ReadsToTheEnd past act
reads_is past Read is = is_false (got_end (host past)) is
reads_is past _ is = tt

-- ---- keeping

acknowledges_is : (past : Story) (act : Act) → IsTrue (acknowledges_what_came past act) → AcknowledgesWhatCame past act
acknowledges_is past (Send seg) is = λ plain.
    let p = both (same_bool seg.ack (is_some (their_number past))) (not seg.ack || has_come (guest past) (ackd (Acked seg.acknowledgement ∷ guest past))) (imply (not seg.rst) _ is plain) in (
      same_bool_is seg.ack (is_some (their_number past)) p.0,
      λ ack conforming. has_come_is (guest past) (ackd (Acked seg.acknowledgement ∷ guest past)) (imply seg.ack (has_come (guest past) (ackd (Acked seg.acknowledgement ∷ guest past))) p.1 ack),
    )
acknowledges_is past _ is = tt

came_is : (past : Story) (n : ℕ) (o : Option ℕ) → IsTrue (has_number_that_came (guest past) o n) → MatchOption o (n ≡ 0) (λ f. Conforming (guest past) → HasCome (guest past) (ackd (Acked n ∷ guest past)))
came_is past n None is = nat_same n 0 is
came_is past n (Some f) is = λ conforming. has_come_is (guest past) (ackd (Acked n ∷ guest past)) is

resets_at_is : (past : Story) (act : Act) → IsTrue (resets_at_what_came past act) → ResetsAtWhatCame past act
resets_at_is past (Send seg) is = λ rst. came_is past seg.acknowledgement (their_number past) (imply seg.rst _ is rst)
resets_at_is past _ is = tt

number_back : (f a n : ℕ) → IsTrue (nat_lt n (2 ^ 32)) → n ≡ number_of f (a + steps_up n (number_of f a))
number_back f a n is = let low : n < 2 ^ 32 = grind (arith, nat_tests) in omega arith

reset_at : (past : Story) (seg : Segment) (o : Option ℕ) → IsTrue (is_reset_at (guest past) o past seg)
    → MatchOption o (IsTrue (seg.ack && nat_eq seg.acknowledgement (next_number (our_number past))))
    (λ f. Conforming (guest past) → (x : ℕ) × (ackd (guest past) ≤ x) × HasCome (guest past) x × (seg.number ≡ number_of f x))
reset_at past seg None is = is
reset_at past seg (Some f) is =
    let p = both (has_come (guest past) (ackd (guest past) + steps_up seg.number (number_of f (ackd (guest past))))) (nat_lt seg.number (2 ^ 32)) is in
    λ conforming. (
      ackd (guest past) + steps_up seg.number (number_of f (ackd (guest past))),
      omega arith,
      has_come_is (guest past) (ackd (guest past) + steps_up seg.number (number_of f (ackd (guest past)))) p.0,
      number_back f (ackd (guest past)) seg.number p.1,
    )

reset_of : (past : Story) (o : Option Segment) → IsTrue (is_reset past o) → MatchOption o ⊥ (λ seg. IsReset past seg)
reset_of past None is = absurd cc
reset_of past (Some seg) is = reset_at past seg (their_number past) is

own_cause_is : (directly ended known : Bool) (now : ℕ) (past : Story) → IsTrue (has_own_cause directly ended known now past) → HasOwnCause directly ended known now past
own_cause_is directly ended known now past is =
    elim (either (is_done past || ended || host_failed past || finds_no_guest known now past) _ is) [
      | inl one ↦ inl one
      | inr rest ↦ elim (either (not (follows_reset directly past) && (gives_up now past || waits_too_long now past)) (directly && is_reset (before past) (newest_rst past)) rest) [
        | inl two ↦ inr (inl two)
        | inr three ↦ let p = both directly (is_reset (before past) (newest_rst past)) three in inr (inr (p.0, reset_of (before past) (newest_rst past) p.1))
      ]
    ]

cause_is : (directly ended known : Bool) (now : ℕ) (past : Story) → IsTrue (has_cause directly ended known now past) → HasCause directly ended known now past
cause_is directly ended known now past is = elim (either (has_own_cause directly ended known now past) (may_give_way now past) is) [
  | inl own ↦ inl (own_cause_is directly ended known now past own)
  | inr way ↦ inr way
]

closes_is : (past : Story) (now : ℕ) (act : Act) → IsTrue (closes_with_cause past now act) → ClosesWithCause past now act
closes_is past now (Close directly ended known) is = cause_is directly ended known now past is
closes_is past now _ is = tt

after_failure_is : (past : Story) (act : Act) → IsTrue (closes_after_failure past act) → ClosesAfterFailure past act
after_failure_is past (Close directly ended known) is = tt
after_failure_is past AskConnected is = is_false (host_failed past) is
after_failure_is past (Write xs) is = is_false (host_failed past) is
after_failure_is past EndHost is = is_false (host_failed past) is
after_failure_is past Read is = is_false (host_failed past) is
after_failure_is past (Send seg) is = is_false (host_failed past) is

open_socket_is : (past : Story) (act : Act) → IsTrue (calls_open_socket past act) → CallsOpenSocket past act
open_socket_is past (Send seg) is = tt
open_socket_is past AskConnected is = is_false (is_closed past) is
open_socket_is past (Write xs) is = is_false (is_closed past) is
open_socket_is past EndHost is = is_false (is_closed past) is
open_socket_is past Read is = is_false (is_closed past) is
open_socket_is past (Close directly ended known) is = is_false (is_closed past) is

resets_is : (past : Story) (act : Act) → IsTrue (resets_where_owed past act) → ResetsWhereOwed past act
resets_is past (Send seg) is = λ rst. imply seg.rst (owes_reset past && is_owed_reset past seg) is rst
resets_is past _ is = tt

nothing_is : (past : Story) (act : Act) → IsTrue (sends_nothing_after_close past act) → SendsNothingAfterClose past act
nothing_is past (Send seg) is = λ closed.
    let p = four_parts (is_empty seg.octets) (not seg.syn) (not seg.fin) (seg.rst || is_some (in_time_wait_since past)) (imply (is_closed past) _ is closed) in
    (empty_is seg.octets p.0, is_false seg.syn p.1, is_false seg.fin p.2, p.3)
nothing_is past _ is = tt

-- ---- opening

opens_after_is : (past : Story) (act : Act) → IsTrue (opens_after_host past act) → OpensAfterHost past act
opens_after_is past (Send seg) is = λ plain. imply (not seg.rst) (has_connected past || is_accepted past) is plain
opens_after_is past _ is = tt

syn_acks : (o : Option ℕ) (seg : Segment) → IsTrue (acks_syn o seg) → IfSome o (λ f. seg.acknowledgement ≡ next_number f)
syn_acks None seg is = tt
syn_acks (Some f) seg is = nat_same seg.acknowledgement (next_number f) is

opens_with_is : (past : Story) (act : Act) → IsTrue (opens_with_syn past act) → OpensWithSyn past act
opens_with_is past (Send seg) is =
    let p = both (not (not seg.rst && not (syn_is_out past)) || seg.syn) _ is in (
      λ first. imply (not seg.rst && not (syn_is_out past)) seg.syn p.0 first,
      λ syn.
          let q = both (nat_eq seg.number (our_number past)) (acks_syn (their_number past) seg) (imply (seg.syn && not seg.rst) _ p.1 syn) in
          (nat_same seg.number (our_number past) q.0, syn_acks (their_number past) seg q.1),
    )
opens_with_is past _ is = tt

options_is : (s : Settings) (past : Story) (act : Act) → IsTrue (sends_its_options s past act) → SendsItsOptions s past act
options_is s past (Send seg) is =
    let o = both (is_number seg.mss (our_mss s seg)) (is_number seg.scale (our_scale s past seg)) is in
    (number_is seg.mss (our_mss s seg) o.0, number_is seg.scale (our_scale s past seg) o.1)
options_is s past _ is = tt

asks_is : (past : Story) (act : Act) → IsTrue (asks_until_connected past act) → AsksUntilConnected past act
asks_is past AskConnected is = is
asks_is past (Write xs) is = is_false (is_connecting past) is
asks_is past EndHost is = is_false (is_connecting past) is
asks_is past Read is = is_false (is_connecting past) is
asks_is past (Send seg) is = tt
asks_is past (Close directly ended known) is = tt

or_else : (a b : Bool) → IsTrue (a || b) → a ≡ false → IsTrue b
or_else true b is none = absurd cc
or_else false b is none = is

header_of : (past : Story) (seg : Segment) → IsTrue (has_header_of past seg) → HasHeaderOf past seg
header_of past seg is =
    let all = four_parts (not (not seg.rst && (seg.fin || not (is_empty seg.octets))) || answered (host past)) ((not (not seg.rst && not seg.syn) || seg.ack) &&
    (seg.ack || nat_eq seg.acknowledgement 0))
    (not (is_ack_alone seg) || is_at (our_place (host past) seg.number) (sent (host past))) (not seg.rst || nat_eq seg.window 0) is in
    let acks = both (not (not seg.rst && not seg.syn) || seg.ack) (seg.ack || nat_eq seg.acknowledgement 0) all.1 in
    record {
      carries = λ some. imply (not seg.rst && (seg.fin || not (is_empty seg.octets))) (answered (host past)) all.0 some;
      acknowledges = (
        (λ plain. imply (not seg.rst && not seg.syn) seg.ack acks.0 plain),
        (λ none. nat_same seg.acknowledgement 0 (or_else seg.ack (nat_eq seg.acknowledgement 0) acks.1 none)),
      );
      next = λ alone. at_is (our_place (host past) seg.number) (sent (host past)) (imply (is_ack_alone seg) (is_at (our_place (host past) seg.number) (sent (host past))) all.2 alone);
      window = λ rst. nat_same seg.window 0 (imply seg.rst (nat_eq seg.window 0) all.3 rst);
    }

header_is : (past : Story) (act : Act) → IsTrue (sends_its_header past act) → SendsItsHeader past act
header_is past (Send seg) is = header_of past seg is
header_is past _ is = tt

-- ---- all

pub may_is : (s : Settings) (past : Story) (now : ℕ) (act : Act) → IsTrue (may s past now act) → May s past now act
may_is s past now act is =
    let all = four_parts (may_stream past now act) (may_end past act) (may_close past now act) (may_open past act && may_be_sent s past act) is in
    let streams = four_parts (writes_what_the_guest_sent past act) (writes_what_came past act) (sends_what_the_host_sent past act) (sends_again_with_reason past now act) all.0 in
    let ends = four_parts (ends_after_all past act) (sends_end_after_all past act) (reads_to_the_end past act) (acknowledges_what_came past act) all.1 in
    let closes = four_parts (closes_with_cause past now act) (closes_after_failure past act) (calls_open_socket past act) (resets_where_owed past act) all.2 in
    let last = both (may_open past act) (may_be_sent s past act) all.3 in
    let opening = both (opens_after_host past act && opens_with_syn past act) (asks_until_connected past act && sends_its_header past act) last.0 in
    let opens = both (opens_after_host past act) (opens_with_syn past act) opening.0 in
    let heads = both (asks_until_connected past act) (sends_its_header past act) opening.1 in
    let sent = four_parts (sends_within_mss s past act) (resets_at_what_came past act) (sends_nothing_after_close past act) (sends_its_options s past act) last.1 in
    record {
      writes_what_the_guest_sent = writes_guest_is past act streams.0;
      writes_what_came = writes_came_is past act streams.1;
      sends_what_the_host_sent = sends_host_is past act streams.2;
      sends_within_mss = within_is s past act sent.0;
      sends_again_with_reason = sends_again_is past now act streams.3;
      ends_after_all = ends_host_is past act ends.0;
      sends_end_after_all = sends_end_is past act ends.1;
      reads_to_the_end = reads_is past act ends.2;
      acknowledges_what_came = acknowledges_is past act ends.3;
      resets_at_what_came = resets_at_is past act sent.1;
      closes_with_cause = closes_is past now act closes.0;
      closes_after_failure = after_failure_is past act closes.1;
      calls_open_socket = open_socket_is past act closes.2;
      resets_where_owed = resets_is past act closes.3;
      sends_nothing_after_close = nothing_is past act sent.2;
      opens_after_host = opens_after_is past act opens.0;
      opens_with_syn = opens_with_is past act opens.1;
      asks_until_connected = asks_is past act heads.0;
      sends_its_header = header_is past act heads.1;
      sends_its_options = options_is s past act sent.3;
    }

happens : (s : Settings) (past : Story) (now : ℕ) (o : Option Act) → IsTrue (may_happen s past now o) → MatchOption o (host_failed past ≡ false) (λ act. May s past now act)
happens s past now None is = is_false (host_failed past) is
happens s past now (Some act) is = may_is s past now act is

-- Where the test holds, the story is lawful.
pub lawful : (s : Settings) (story : Story) → IsTrue (is_lawful s story) → IsLawful s story
lawful s [] is = tt
lawful s (At m e ∷ past) is = let p = both (may_happen s past m (act_of e)) (is_lawful s past) is in (happens s past m (act_of e) p.0, lawful s past p.1)

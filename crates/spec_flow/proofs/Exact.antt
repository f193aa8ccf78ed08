-- Of a conforming guest the test misses nothing: what the law allows passes it, sentence by sentence.
use Rattle.std.proofs.Common.{refl, ◌≡◌, ℕ, ◌+◌, ◌^◌, ◌<◌, ◌≤◌, List, [], ◌∷◌, ◌++◌, length, Option, None, Some, is_some, inl, inr, arith, Bool, true, false, not, ◌&&◌, ◌||◌, IsTrue}
use Rattle.std.proofs.Common.{MatchOption, IfSome, pos, ◌+ℤ◌, nat_lt, nat_eq}
use Rattle.std.proofs.lemmas.Bool.Decides.{nat_tests}
use Rattle.seq_space.specs.Places.{number_of, steps_up}
use Rattle.spec_flow.specs.Settings.{Settings}
use Rattle.spec_flow.specs.Event.{Segment, Story}
use Rattle.spec_flow.specs.Guest.{Up, Acked, is_empty, Conforming, HasCome, front, written, has_ended, ackd}
use Rattle.spec_flow.specs.Host.{answered, got, got_end, our_place, sent}
use Rattle.spec_flow.specs.Flow.{guest, host, their_number, our_number, next_number, is_closed, is_accepted, is_connecting, has_connected, syn_is_out}
use Rattle.spec_flow.specs.Close.{is_done, IsReset, newest_rst, before, follows_reset, host_failed, gives_up, may_give_way, waits_too_long, finds_no_guest, owes_reset, is_owed_reset, in_time_wait_since}
use Rattle.spec_flow.specs.Lawful.{our_mss, our_scale, Act, AskConnected, Write, EndHost, Read, Send, Close, May, WritesWhatTheGuestSent, WritesWhatCame, SendsWhatTheHostSent}
use Rattle.spec_flow.specs.Lawful.{EndsAfterAll, SendsEndAfterAll, ReadsToTheEnd, AcknowledgesWhatCame, ClosesWithCause, ClosesAfterFailure, CallsOpenSocket, ResetsWhereOwed}
use Rattle.spec_flow.specs.Lawful.{SendsNothingAfterClose, OpensAfterHost, OpensWithSyn, AsksUntilConnected, SendsItsHeader, is_ack_alone, SendsItsOptions}
use Rattle.spec_flow.specs.Lawful.{HasOwnCause, SendsAgainWithReason, SendsWithinMss, ResetsAtWhatCame}
use Rattle.spec_flow.specs.Computed.{are_sized, ends_at, has_come, is_at, is_number, same_bool}
use Rattle.spec_flow.specs.Check.{writes_what_the_guest_sent, writes_what_came, sends_what_the_host_sent, sends_again_with_reason, ends_after_all, sends_end_after_all, reads_to_the_end}
use Rattle.spec_flow.specs.Check.{acknowledges_what_came, closes_with_cause, closes_after_failure, calls_open_socket, resets_where_owed, sends_nothing_after_close, opens_after_host}
use Rattle.spec_flow.specs.Check.{opens_with_syn, asks_until_connected, sends_its_header, sends_its_options, acks_syn, has_own_cause, is_reset, is_reset_at, may_stream, may_end, may_close}
use Rattle.spec_flow.specs.Check.{may_open, may, sends_within_mss, has_number_that_came, resets_at_what_came, may_be_sent}
use Rattle.spec_flow.proofs.Streams.{carried_length, front_carried, near_top}
use Rattle.spec_flow.proofs.Acks.{acked_exact}
use Rattle.spec_flow.proofs.GuestLaws.{conforming_before}
use Rattle.spec_flow.proofs.Conformance.{conforming}
use Rattle.spec_flow.proofs.Ends.{ends_has}
use Rattle.spec_flow.proofs.Refuting.{prefix_begins}
use Rattle.spec_flow.proofs.Holding.{or_left, or_right, and_true, four_true, implied, not_true, same_nat, same_bools, same_numbers, empty_holds, at_holds, all_hold, come_holds, read_holds}

-- ---- streams and ends

module _ (past : Story) (fair : Conforming (guest past)) where
  writes_holds : (act : Act) → WritesWhatTheGuestSent past act → IsTrue (writes_what_the_guest_sent past act)
  writes_holds (Write xs) is = prefix_begins (written (guest past) ++ xs) (front (guest past)) (is fair)
  writes_holds _ is = refl

  came_holds : IsTrue (are_sized (guest past)) → (act : Act) → WritesWhatCame past act → IsTrue (writes_what_came past act)
  came_holds sized (Write xs) is = all_hold (guest past) 0 (written (guest past) ++ xs) sized (λ k i x same at. let here : i ≡ k = omega (arith, same) in is i x (rw here at))
  came_holds sized _ is = refl

  ends_holds : (act : Act) → EndsAfterAll past act → IsTrue (ends_after_all past act)
  ends_holds EndHost is =
      and_true (not (has_ended (guest past))) (ends_at (guest past) (length (written (guest past)))) (not_true (has_ended (guest past)) is.0)
      (ends_has (guest past) (length (written (guest past))) (is.1 fair))
  ends_holds _ is = refl

  acks_holds : (act : Act) → AcknowledgesWhatCame past act → IsTrue (acknowledges_what_came past act)
  acks_holds (Send seg) is =
      implied (not seg.rst) (same_bool seg.ack (is_some (their_number past)) && (not seg.ack || has_come (guest past) (ackd (Acked seg.acknowledgement ∷ guest past))))
      (λ plain. and_true (same_bool seg.ack (is_some (their_number past))) (not seg.ack || has_come (guest past) (ackd (Acked seg.acknowledgement ∷ guest past)))
      (same_bools seg.ack (is_some (their_number past)) (is plain).0)
      (implied seg.ack (has_come (guest past) (ackd (Acked seg.acknowledgement ∷ guest past))) (λ ack. come_holds (guest past) (ackd (Acked seg.acknowledgement ∷ guest past))
      ((is plain).1 ack fair))))
  acks_holds _ is = refl

sends_holds : (past : Story) (act : Act) → SendsWhatTheHostSent past act → IsTrue (sends_what_the_host_sent past act)
sends_holds past (Send seg) is = read_holds (seg.syn || seg.rst) past seg is
sends_holds past _ is = refl

again_holds : (past : Story) (now : ℕ) (act : Act) → SendsAgainWithReason past now act → IsTrue (sends_again_with_reason past now act)
again_holds past now (Send seg) is = is
again_holds past now _ is = refl

fin_holds : (past : Story) (act : Act) → SendsEndAfterAll past act → IsTrue (sends_end_after_all past act)
fin_holds past (Send seg) is =
    implied (seg.fin && not seg.rst) (got_end (host past) && is_at (our_place (host past) seg.number +ℤ pos (length seg.octets)) (length (got (host past))))
    (λ fin. and_true (got_end (host past)) (is_at (our_place (host past) seg.number +ℤ pos (length seg.octets)) (length (got (host past)))) (is fin).0
    (at_holds (our_place (host past) seg.number +ℤ pos (length seg.octets)) (length (got (host past))) (is fin).1))
fin_holds past _ is = refl

reads_holds : (past : Story) (act : Act) → ReadsToTheEnd past act → IsTrue (reads_to_the_end past act)
reads_holds past Read is = not_true (got_end (host past)) is
reads_holds past _ is = refl

-- ---- the close

-- a number that the guest may send next is near what was acknowledged
near_next : (past : List Up) → Conforming past → (x : ℕ) → HasCome past x → x < ackd past + 2 ^ 32
near_next past conforming x come =
    let seen = carried_length past (front past) (front_carried past) in
    let near = near_top past conforming.near in
    by come (omega (arith, seen, near))
  where
    by : HasCome past x → length (front past) ≤ ackd past + 2 ^ 31 → x < ackd past + 2 ^ 32
    by (inl within) low = omega (arith, within, low)
    by (inr (end, is)) low = omega (arith, is, low)

reset_at_holds : (past : Story) (seg : Segment) (o : Option ℕ) → Conforming (guest past)
    → MatchOption o (IsTrue (seg.ack && nat_eq seg.acknowledgement (next_number (our_number past))))
    (λ f. Conforming (guest past) → (x : ℕ) × (ackd (guest past) ≤ x) × HasCome (guest past) x × (seg.number ≡ number_of f x))
    → IsTrue (is_reset_at (guest past) o past seg)
reset_at_holds past seg None conforming is = is
reset_at_holds past seg (Some f) conforming is =
    let r = is conforming in
    let near = near_next (guest past) conforming r.0 r.2 in
    let same : ackd (guest past) + steps_up seg.number (number_of f (ackd (guest past))) ≡ r.0 = rw r.3 (acked_exact f (ackd (guest past)) r.0 r.1 near) in
    and_true (has_come (guest past) (ackd (guest past) + steps_up seg.number (number_of f (ackd (guest past))))) (nat_lt seg.number (2 ^ 32))
    (rw same (come_holds (guest past) r.0 r.2)) (rw r.3 (small f r.0))
  where
    small : (f x : ℕ) → IsTrue (nat_lt (number_of f x) (2 ^ 32))
    small f x = let low : number_of f x < 2 ^ 32 = omega arith in less (number_of f x) (2 ^ 32) low
      where
        less : (m n : ℕ) → m < n → IsTrue (nat_lt m n)
        less m n is = grind (arith, nat_tests)

conforming_was : (past : Story) → Conforming (guest past) → Conforming (guest (before past))
conforming_was [] conforming = conforming
conforming_was (b ∷ past) conforming = conforming_before b past conforming

cause_holds : (past : Story) → Conforming (guest past) → (now : ℕ) (act : Act) → ClosesWithCause past now act → IsTrue (closes_with_cause past now act)
cause_holds past conforming now (Close directly ended known) (inr way) = or_right (has_own_cause directly ended known now past) (may_give_way now past) way
cause_holds past conforming now (Close directly ended known) (inl own) = or_left (has_own_cause directly ended known now past) (may_give_way now past) (own_holds own)
  where
    by : (o : Option Segment) → MatchOption o ⊥ (λ seg. IsReset (before past) seg) → IsTrue (is_reset (before past) o)
    by None is = absurd is
    by (Some seg) is = reset_at_holds (before past) seg (their_number (before past)) (conforming_was past conforming) is

    own_holds : HasOwnCause directly ended known now past → IsTrue (has_own_cause directly ended known now past)
    own_holds (inl one) =
        or_left (is_done past || ended || host_failed past || finds_no_guest known now past)
        ((not (follows_reset directly past) && (gives_up now past || waits_too_long now past)) || (directly && is_reset (before past) (newest_rst past))) one
    own_holds (inr (inl two)) =
        or_right (is_done past || ended || host_failed past || finds_no_guest known now past)
        ((not (follows_reset directly past) && (gives_up now past || waits_too_long now past)) || (directly && is_reset (before past) (newest_rst past)))
        (or_left (not (follows_reset directly past) && (gives_up now past || waits_too_long now past)) (directly && is_reset (before past) (newest_rst past)) two)
    own_holds (inr (inr (after, reset))) =
        or_right (is_done past || ended || host_failed past || finds_no_guest known now past)
        ((not (follows_reset directly past) && (gives_up now past || waits_too_long now past)) || (directly && is_reset (before past) (newest_rst past)))
        (or_right (not (follows_reset directly past) && (gives_up now past || waits_too_long now past)) (directly && is_reset (before past) (newest_rst past))
        (and_true directly (is_reset (before past) (newest_rst past)) after (by (newest_rst past) reset)))
cause_holds past conforming now AskConnected is = refl
cause_holds past conforming now (Write xs) is = refl
cause_holds past conforming now EndHost is = refl
cause_holds past conforming now Read is = refl
cause_holds past conforming now (Send seg) is = refl

failure_holds : (past : Story) (act : Act) → ClosesAfterFailure past act → IsTrue (closes_after_failure past act)
failure_holds past (Close directly ended known) is = refl
failure_holds past AskConnected is = not_true (host_failed past) is
failure_holds past (Write xs) is = not_true (host_failed past) is
failure_holds past EndHost is = not_true (host_failed past) is
failure_holds past Read is = not_true (host_failed past) is
failure_holds past (Send seg) is = not_true (host_failed past) is

socket_holds : (past : Story) (act : Act) → CallsOpenSocket past act → IsTrue (calls_open_socket past act)
socket_holds past (Send seg) is = refl
socket_holds past AskConnected is = not_true (is_closed past) is
socket_holds past (Write xs) is = not_true (is_closed past) is
socket_holds past EndHost is = not_true (is_closed past) is
socket_holds past Read is = not_true (is_closed past) is
socket_holds past (Close directly ended known) is = not_true (is_closed past) is

owed_holds : (past : Story) (act : Act) → ResetsWhereOwed past act → IsTrue (resets_where_owed past act)
owed_holds past (Send seg) is = implied seg.rst (owes_reset past && is_owed_reset past seg) is
owed_holds past _ is = refl

within_holds : (s : Settings) (past : Story) (act : Act) → SendsWithinMss s past act → IsTrue (sends_within_mss s past act)
within_holds s past (Send seg) is = grind (arith, nat_tests, is)
within_holds s past _ is = refl

number_came : (past : Story) → Conforming (guest past) → (n : ℕ) (o : Option ℕ) → MatchOption o (n ≡ 0) (λ f. Conforming (guest past) → HasCome (guest past)
    (ackd (Acked n ∷ guest past))) → IsTrue (has_number_that_came (guest past) o n)
number_came past conforming n None is = same_nat n 0 is
number_came past conforming n (Some f) is = come_holds (guest past) (ackd (Acked n ∷ guest past)) (is conforming)

reset_holds : (past : Story) → Conforming (guest past) → (act : Act) → ResetsAtWhatCame past act → IsTrue (resets_at_what_came past act)
reset_holds past conforming (Send seg) is = implied seg.rst (has_number_that_came (guest past) (their_number past) seg.acknowledgement)
    (λ rst. number_came past conforming seg.acknowledgement (their_number past) (is rst))
reset_holds past conforming _ is = refl

-- ---- opening

quiet_holds : (past : Story) (act : Act) → SendsNothingAfterClose past act → IsTrue (sends_nothing_after_close past act)
quiet_holds past (Send seg) is =
    implied (is_closed past) (is_empty seg.octets && not seg.syn && not seg.fin && (seg.rst || is_some (in_time_wait_since past)))
    (λ closed. let n = is closed in four_true (is_empty seg.octets) (not seg.syn) (not seg.fin) (seg.rst || is_some (in_time_wait_since past)) (empty_holds seg.octets n.0)
    (not_true seg.syn n.1) (not_true seg.fin n.2) n.3)
quiet_holds past _ is = refl

after_holds : (past : Story) (act : Act) → OpensAfterHost past act → IsTrue (opens_after_host past act)
after_holds past (Send seg) is = implied (not seg.rst) (has_connected past || is_accepted past) is
after_holds past _ is = refl

acks_syn_holds : (o : Option ℕ) (seg : Segment) → IfSome o (λ f. seg.acknowledgement ≡ next_number f) → IsTrue (acks_syn o seg)
acks_syn_holds None seg is = refl
acks_syn_holds (Some f) seg is = same_nat seg.acknowledgement (next_number f) is

syn_holds : (past : Story) (act : Act) → OpensWithSyn past act → IsTrue (opens_with_syn past act)
syn_holds past (Send seg) is =
    and_true (not (not seg.rst && not (syn_is_out past)) || seg.syn) (not (seg.syn && not seg.rst) || (nat_eq seg.number (our_number past) && acks_syn (their_number past) seg))
    (implied (not seg.rst && not (syn_is_out past)) seg.syn is.0)
    (implied (seg.syn && not seg.rst) (nat_eq seg.number (our_number past) && acks_syn (their_number past) seg)
    (λ syn. let p = is.1 syn in and_true (nat_eq seg.number (our_number past)) (acks_syn (their_number past) seg) (same_nat seg.number (our_number past) p.0)
    (acks_syn_holds (their_number past) seg p.1)))
syn_holds past _ is = refl

options_hold : (s : Settings) (past : Story) (act : Act) → SendsItsOptions s past act → IsTrue (sends_its_options s past act)
options_hold s past (Send seg) is = and_true (is_number seg.mss (our_mss s seg)) (is_number seg.scale (our_scale s past seg)) (same_numbers seg.mss (our_mss s seg) is.0)
    (same_numbers seg.scale (our_scale s past seg) is.1)
options_hold s past _ is = refl

asks_hold : (past : Story) (act : Act) → AsksUntilConnected past act → IsTrue (asks_until_connected past act)
asks_hold past AskConnected is = is
asks_hold past (Write xs) is = not_true (is_connecting past) is
asks_hold past EndHost is = not_true (is_connecting past) is
asks_hold past Read is = not_true (is_connecting past) is
asks_hold past (Send seg) is = refl
asks_hold past (Close directly ended known) is = refl

else_holds : (a b : Bool) → (a ≡ false → IsTrue b) → IsTrue (a || b)
else_holds true b f = refl
else_holds false b f = f refl

header_holds : (past : Story) (act : Act) → SendsItsHeader past act → IsTrue (sends_its_header past act)
header_holds past (Send seg) is =
    four_true (not (not seg.rst && (seg.fin || not (is_empty seg.octets))) || answered (host past)) ((not (not seg.rst && not seg.syn) || seg.ack) && (seg.ack || nat_eq seg.acknowledgement 0))
    (not (is_ack_alone seg) || is_at (our_place (host past) seg.number) (sent (host past))) (not seg.rst || nat_eq seg.window 0)
    (implied (not seg.rst && (seg.fin || not (is_empty seg.octets))) (answered (host past)) is.carries)
    (and_true (not (not seg.rst && not seg.syn) || seg.ack) (seg.ack || nat_eq seg.acknowledgement 0) (implied (not seg.rst && not seg.syn) seg.ack is.acknowledges.0)
    (else_holds seg.ack (nat_eq seg.acknowledgement 0) (λ none. same_nat seg.acknowledgement 0 (is.acknowledges.1 none))))
    (implied (is_ack_alone seg) (is_at (our_place (host past) seg.number) (sent (host past))) (λ alone. at_holds (our_place (host past) seg.number) (sent (host past)) (is.next alone)))
    (implied seg.rst (nat_eq seg.window 0) (λ rst. same_nat seg.window 0 (is.window rst)))
header_holds past _ is = refl

-- ---- all

-- What may be done for a conforming guest passes the test.
pub may_holds : (s : Settings) (past : Story) (now : ℕ) (act : Act) → Conforming (guest past) → IsTrue (are_sized (guest past)) → May s past now act → IsTrue (may s past now act)
may_holds s past now act conforming sized m =
    four_true (may_stream past now act) (may_end past act) (may_close past now act) (may_open past act && may_be_sent s past act)
    (four_true (writes_what_the_guest_sent past act) (writes_what_came past act) (sends_what_the_host_sent past act) (sends_again_with_reason past now act)
    (writes_holds past conforming act m.writes_what_the_guest_sent) (came_holds past conforming sized act m.writes_what_came) (sends_holds past act m.sends_what_the_host_sent)
    (again_holds past now act m.sends_again_with_reason))
    (four_true (ends_after_all past act) (sends_end_after_all past act) (reads_to_the_end past act) (acknowledges_what_came past act)
    (ends_holds past conforming act m.ends_after_all) (fin_holds past act m.sends_end_after_all) (reads_holds past act m.reads_to_the_end) (acks_holds past conforming act m.acknowledges_what_came))
    (four_true (closes_with_cause past now act) (closes_after_failure past act) (calls_open_socket past act) (resets_where_owed past act)
    (cause_holds past conforming now act m.closes_with_cause) (failure_holds past act m.closes_after_failure) (socket_holds past act m.calls_open_socket) (owed_holds past act m.resets_where_owed))
    (and_true (may_open past act) (may_be_sent s past act)
    (and_true (opens_after_host past act && opens_with_syn past act) (asks_until_connected past act && sends_its_header past act)
    (and_true (opens_after_host past act) (opens_with_syn past act) (after_holds past act m.opens_after_host) (syn_holds past act m.opens_with_syn))
    (and_true (asks_until_connected past act) (sends_its_header past act) (asks_hold past act m.asks_until_connected) (header_holds past act m.sends_its_header)))
    (four_true (sends_within_mss s past act) (resets_at_what_came past act) (sends_nothing_after_close past act) (sends_its_options s past act)
    (within_holds s past act m.sends_within_mss) (reset_holds past conforming act m.resets_at_what_came) (quiet_holds past act m.sends_nothing_after_close) (options_hold s past act m.sends_its_options)))

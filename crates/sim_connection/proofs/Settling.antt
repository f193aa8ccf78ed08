-- Where nothing is owed, all holds that is to hold while the program waits.
use Rattle.std.proofs.Common.{List, refl, ◌≡◌, ℕ, ◌+◌, ◌-◌, ◌<◌, ◌≤◌, [], ◌∷◌, length, Bool, true, false, not, ◌&&◌, ◌||◌, Option, None, Some, is_some, if◌then◌else◌, IsTrue, min, nat_le}
use Rattle.std.proofs.Common.{nat_lt, arith, ap, subst, sym, ◌∙◌, inl, inr, ◌⊎◌}
use Rattle.std.proofs.lemmas.Bool.Decides.{nat_tests}
use Rattle.cwnd.specs.Congestion.{Congestion}
use Rattle.retransmit.specs.Resending.{Resending, is_expired, is_off, due_by as due_by_timer, due_of as resend_due}
use Rattle.retransmit.specs.declared.Timer.{Timer}
use Rattle.retransmit.specs.declared.Timer.TheVariants as timer
use Rattle.sock_buffers.specs.Downward.{Downward}
use Rattle.sock_buffers.specs.Upward.{Upward, room_of}
use Rattle.tcp_transmit.specs.Pieces.{OwesNothing, piece_owed}
use Rattle.tcp_transmit.specs.Transmission.{IsOfSegments, edge_of, end_places, is_closed as is_shut, places, reach, reach_by}
use Rattle.tcp_transmit.specs.declared.End.{End}
use Rattle.tcp_transmit.specs.declared.End.TheVariants as our_end
use Rattle.tcp_transmit.specs.declared.Piece.{Piece}
use Rattle.tcp_transmit.specs.declared.Window.{Window}
use Rattle.tcp_transmit.proofs.Owed.{next_none}
use Rattle.tcp_connection.specs.Connection.{Connection, has_gone, is_opening, is_synchronized}
use Rattle.tcp_connection.specs.Hosts.{is_open}
use Rattle.tcp_connection.specs.Owing.{owed_of, piece_or_ack}
use Rattle.tcp_connection.specs.Timing.{due_of}
use Rattle.tcp_connection.specs.Windows.{is_update_owed, moves_far, our_shift, told_edge}
use Rattle.tcp_connection.specs.declared.Owed.TheVariants.{Ack}
use Rattle.spec_flow.specs.Settings.{Settings}
use Rattle.spec_flow.specs.Event.{Departs, Closes, At, Story, newest_moment}
use Rattle.spec_flow.specs.Host.{answered, owned, sent}
use Rattle.spec_flow.specs.Guest.{AckIsDue, Asks, Up}
use Rattle.spec_flow.specs.Flow.{has_connected, host, is_accepted, is_closed, is_under_way, syn_is_out, their_number}
use Rattle.spec_flow.specs.Windows.{edge_of as edge_told, mss, our_shift as shift_told, told}
use Rattle.spec_flow.specs.Close.{is_owed_reset, owes_reset, times_asked}
use Rattle.spec_flow.specs.Dutiful.{HasAcknowledged, HasSent, waits_for_window}
use Rattle.sim_halves.specs.Resends.{Expired, Until}
use Rattle.sim_halves.specs.Settled.{IsSettledIf}
use Rattle.sim_halves.proofs.Edges.{edge_is, owned_is, window_known}
use Rattle.sim_halves.proofs.InTime.{HasCalled, all_in_time}
use Rattle.sim_halves.proofs.Waiting.{acknowledged_is, settled_is}
use Rattle.sim_connection.specs.Holding.{Holds, is_calls, is_at_connecting}
use Rattle.sim_connection.specs.Seen.{count_of, outward_of, part_of, resending_of, timer_by, timer_of, window_by}
use Rattle.sim_connection.proofs.Acking.{piece_none}
use Rattle.sim_connection.proofs.Telling.{shift_is}
use Rattle.sim_connection.proofs.Watching.{opening_is, syn_under_way, under_way_is}

-- an open flow owes no reset
pub open_owes_none : (past : Story) → is_closed past ≡ false → owes_reset past ≡ false
open_owes_none [] is = refl
open_owes_none (At m (Closes directly ended known) ∷ past) is = absurd cc
open_owes_none (At m (Departs seg) ∷ past) is = ap (λ (b : Bool). b && not (is_owed_reset past seg)) (open_owes_none past is)
open_owes_none (At m _ ∷ past) is = open_owes_none past is

-- a timer that isn't due yet
waits_for : (tm : Timer) (w now at : ℕ) → timer_by tm w ≡ Until at → ((d : ℕ) → due_by_timer tm w ≡ Some d → now < d) → now < at
waits_for timer.Off w now at is early = absurd cc
waits_for (timer.Since base) w now at is early = let same : base + w ≡ at = cc in let less = early (base + w) refl in omega (arith, same, less)
waits_for (timer.Expired base) w now at is early = absurd cc

expires_by : (tm : Timer) (w : ℕ) → timer_by tm w ≡ Expired → is_expired tm ≡ true
expires_by timer.Off w is = absurd cc
expires_by (timer.Since base) w is = absurd cc
expires_by (timer.Expired base) w is = refl

-- ---- all that may go out is out

edges_same : (o : Option Window) → edge_told (window_by o) ≡ edge_of o
edges_same None = refl
edges_same (Some w) = refl

-- the edge of the definition is no further than that of the sending half
within_reach : (cwnd : Option Congestion) (most acked edge_ : ℕ) (congestion : Bool) → IsOfSegments cwnd most → (congestion ≡ false → cwnd ≡ None)
    → (if congestion then min edge_ (acked + most) else edge_) ≤ reach_by cwnd acked edge_
within_reach None most acked edge_ true segments alone = omega arith
within_reach None most acked edge_ false segments alone = omega arith
within_reach (Some c) most acked edge_ true segments alone = omega (arith, segments.0, segments.1)
within_reach (Some c) most acked edge_ false segments alone = let not_it = alone refl in absurd cc

pub end_is : (e : End) → (if not (is_open e) then 1 else 0) ≡ end_places e
end_is our_end.Open = refl
end_is our_end.Unsent = refl
end_is our_end.Sent = refl

all_out : (e places_ sent_ reach_ : ℕ) → e ≤ reach_ → (places_ ≤ sent_) ⊎ (reach_ ≤ sent_) → min e places_ ≤ sent_
all_out e places_ sent_ reach_ low (inl is) = omega arith
all_out e places_ sent_ reach_ low (inr is) = omega arith

none_or : (a b : Bool) → (if a || b then Some Ack else None) ≡ None → (a ≡ false) × (b ≡ false)
none_or true b is = absurd cc
none_or false true is = absurd cc
none_or false false is = (refl, refl)

nothing_owed : (p : Option Piece) (owed : Bool) → piece_or_ack p owed ≡ None → (p ≡ None) × (owed ≡ false)
nothing_owed None true is = absurd cc
nothing_owed None false is = (refl, refl)
nothing_owed (Some p) owed is = absurd cc

or_both : (a b : Bool) → (a || b) ≡ false → (a ≡ false) × (b ≡ false)
or_both true b is = absurd cc
or_both false b is = (refl, is)

near_enough : (t edge_ r : ℕ) → t ≡ r → moves_far (Some t) edge_ ≡ false → edge_ < r + 2920
near_enough t edge_ r is near = let far : nat_le 2920 (edge_ - t) ≡ false = near in grind (arith, nat_tests)

and_not_true : (a : Bool) → IsTrue (a && not true) → ⊥
and_not_true true is = absurd cc
and_not_true false is = absurd cc

-- until our SYN is acknowledged nothing waits for a window
pub no_window : (past : Story) → answered (host past) ≡ false → waits_for_window past ≡ true → ⊥
no_window past unanswered waits = by (answered (host past)) (is_closed past) (is_under_way past) (nat_lt (sent (host past)) (owned (host past))) unanswered waits
  where
    by : (a b d e : Bool) → a ≡ false → (a && not b && not d && e) ≡ true → ⊥
    by true b d e is so = absurd cc
    by false b d e is so = absurd cc

-- while the guest's SYN isn't known, there's nothing to acknowledge
pub nothing_to_acknowledge : (s : Settings) (c : Connection) (up : Upward) (down : Downward) (past : Story) (now : ℕ) → Holds s c up down past now → is_calls c.stage ≡ true →
    HasAcknowledged s past false
nothing_to_acknowledge s c up down past now h calls =
    let a = h.awaits calls in
    let unknown : is_some (their_number past) ≡ false = ap (λ (o : Option ℕ). is_some o) (h.opened.theirs ∙ ap (λ (b : Bool). if b then None else Some c.received.first) calls) in
    record {
      opening = λ is. absurd (second_none (is_accepted past) (is_some (their_number past)) (not (is_closed past)) unknown is);
      each = λ open_yet due. subst (λ (g : List Up). AckIsDue g) a.guest due;
      all = λ open_yet conforming q asks. absurd (subst (λ (g : List Up). Asks s.ring g q) a.guest asks);
      in_time_wait = λ is. absurd cc;
    }
  where
    second_none : (a b d : Bool) → b ≡ false → IsTrue (a && b && d) → ⊥
    second_none true true d so is = absurd cc
    second_none true false d so is = absurd cc
    second_none false b d so is = absurd cc

module _ (s : Settings) (c : Connection) (up : Upward) (down : Downward) (past : Story) (now : ℕ) (h : Holds s c up down past now) (nothing : owed_of c up down ≡ None) (known : Bool) where
  -- the timer isn't due
  abbrev pub Early : Type 0
  Early = (at : ℕ) → due_of c ≡ Some at → now < at

  e_now : ℕ
  e_now = if s.congestion then min (edge_told (window_by c.transmission.window)) (c.transmission.acked + mss s past) else edge_told (window_by c.transmission.window)

  -- while both SYNs are acknowledged
  module _ (reached : is_calls c.stage ≡ false) (opening : is_opening c.stage ≡ false) (synchronized : is_synchronized c.stage ≡ true)
      (at : (owed_of c up down ≡ piece_or_ack (piece_owed c.transmission down) (c.ack_owed || is_update_owed c up)) × (due_of c ≡ resend_due c.transmission.resend)) where
    two : (piece_owed c.transmission down ≡ None) × ((c.ack_owed || is_update_owed c up) ≡ false)
    two = nothing_owed (piece_owed c.transmission down) (c.ack_owed || is_update_owed c up) (sym at.0 ∙ nothing)

    owes : OwesNothing c.transmission down
    owes = next_none c.transmission down h.buffers.feeds (piece_none c.transmission down two.0)

    apart : (c.ack_owed ≡ false) × (is_update_owed c up ≡ false)
    apart = or_both c.ack_owed (is_update_owed c up) two.1

    pub not_expired : is_expired c.transmission.resend.timer ≡ false
    not_expired = (or_both (is_expired c.transmission.resend.timer) c.transmission.early owes.0).0

    octets_out : min (if s.congestion then min (edge_told (window_by c.transmission.window)) (c.transmission.acked + mss s past) else edge_told (window_by c.transmission.window))
        (down.first + length down.octets + (if not (is_open c.transmission.end) then 1 else 0)) ≤ c.transmission.sent
    octets_out =
        let low : (if s.congestion then min (edge_told (window_by c.transmission.window)) (c.transmission.acked + mss s past) else edge_told (window_by c.transmission.window)) ≤ reach c.transmission =
        subst (λ (x : ℕ). (if s.congestion then min x (c.transmission.acked + mss s past) else x) ≤ reach c.transmission) (sym (edges_same c.transmission.window))
        (subst (λ (most : ℕ). (if s.congestion then min (edge_of c.transmission.window) (c.transmission.acked + most) else edge_of c.transmission.window) ≤ reach c.transmission) (h.opened.mss reached)
        (within_reach c.transmission.cwnd c.transmission.mss c.transmission.acked (edge_of c.transmission.window) s.congestion h.buffers.feeds.sound.segments h.gives.alone)) in
        all_out (if s.congestion then min (edge_told (window_by c.transmission.window)) (c.transmission.acked + mss s past) else edge_told (window_by c.transmission.window))
        (down.first + length down.octets + (if not (is_open c.transmission.end) then 1 else 0)) c.transmission.sent (reach c.transmission) low
        (subst (λ (k : ℕ). (down.first + length down.octets + k ≤ c.transmission.sent) ⊎ (reach c.transmission ≤ c.transmission.sent)) (sym (end_is c.transmission.end)) owes.1)

    -- what waits for the window has a timer that runs
    watches : waits_for_window past ≡ true → (base : ℕ) × (c.transmission.resend.timer ≡ timer.Since base)
    watches waits = by c.transmission.resend.timer refl
      where
        parts : (a b d e : Bool) → (a && not b && not d && e) ≡ true → (d ≡ false) × (e ≡ true)
        parts true false false true is = (refl, refl)
        parts true false false false is = absurd cc
        parts true false true e is = absurd cc
        parts true true d e is = absurd cc
        parts false b d e is = absurd cc

        two_of : (is_under_way past ≡ false) × (nat_lt (sent (host past)) (owned (host past)) ≡ true)
        two_of = parts (answered (host past)) (is_closed past) (is_under_way past) (nat_lt (sent (host past)) (owned (host past))) waits

        tested : nat_lt c.transmission.acked c.transmission.sent ≡ false
        tested = sym (under_way_is s c down past h.opened h.gives.keeps opening) ∙ two_of.0

        even : c.transmission.acked ≡ c.transmission.sent
        even = let order = h.buffers.feeds.sound.order in grind (arith, nat_tests)

        less : sent (host past) < owned (host past)
        less = let is = two_of.1 in grind (arith, nat_tests)

        left : c.transmission.sent < places c.transmission down
        left = let all = owned_is (outward_of c.transmission down) past h.gives.keeps in omega (arith, less, all, end_is c.transmission.end, h.gives.keeps.sent)

        -- where all that the window has room for is out, and nothing is under way, the window is closed
        shut : (cwnd : Option Congestion) (most acked_ edge_ : ℕ) → IsOfSegments cwnd most → 64 ≤ most → reach_by cwnd acked_ edge_ ≤ acked_ → edge_ ≤ acked_
        shut None most acked_ edge_ segments least low = low
        shut (Some g) most acked_ edge_ segments least low = omega (arith, segments.1, least, low)

        full : edge_of c.transmission.window ≤ c.transmission.sent
        full = let low = shut c.transmission.cwnd c.transmission.mss c.transmission.acked (edge_of c.transmission.window) h.buffers.feeds.sound.segments h.buffers.feeds.sound.least
            (reached_end owes.1) in omega (arith, low, even)
          where
            reached_end : (places c.transmission down ≤ c.transmission.sent) ⊎ (reach c.transmission ≤ c.transmission.sent) → reach c.transmission ≤ c.transmission.acked
            reached_end (inl none) = absurd (omega (arith, none, left))
            reached_end (inr all) = omega (arith, all, even)

        some_window : (o : Option Window) → is_some (window_by o) ≡ true → is_some o ≡ true
        some_window None is = absurd cc
        some_window (Some w) is = refl

        known_window : is_some c.transmission.window ≡ true
        known_window = some_window c.transmission.window
            (sym (ap (λ o. is_some o) h.gives.window) ∙ window_known s past (h.opened.answered ∙ synchronized))

        closed : is_shut c.transmission ≡ true
        closed = both_true (is_some c.transmission.window) (edge_of c.transmission.window) c.transmission.sent known_window full
          where
            both_true : (b : Bool) (e n : ℕ) → b ≡ true → e ≤ n → (b && nat_le e n) ≡ true
            both_true b e n is low = grind (arith, nat_tests)

        by : (tm : Timer) → c.transmission.resend.timer ≡ tm → (base : ℕ) × (tm ≡ timer.Since base)
        by timer.Off is = let not_it = sym (ap (λ (t : Timer). is_off t) is) ∙ h.buffers.feeds.waits even closed left in absurd cc
        by (timer.Since base) is = (base, refl)
        by (timer.Expired at_) is = let not_it = sym (ap (λ (t : Timer). is_expired t) is) ∙ not_expired in absurd cc

    -- so it is asked about within a minute
    pub watched_by : waits_for_window past ≡ true → (base : ℕ) × (c.transmission.resend.timer ≡ timer.Since base) × (base + c.transmission.resend.estimate.wait ≤ newest_moment past + 60000)
    watched_by waits =
        let w = watches waits in
        let since = h.gives.counts w.0 w.1 in
        let longest = h.buffers.feeds.sound.steady.longest in
        (w.0, w.1, omega (arith, since.newest, longest))

    window_soon : Early → waits_for_window past ≡ true → now < newest_moment past + 60000
    window_soon early waits =
        let w = watched_by waits in
        let soon = early (w.0 + c.transmission.resend.estimate.wait) (at.1 ∙ ap (λ (t : Timer). due_by_timer t c.transmission.resend.estimate.wait) w.1) in
        omega (arith, soon, w.2)

    update_near : c.received.ended ≡ false → (r : ℕ) → c.told ≡ Some r → c.received.taken + told (shift_told s past false) (s.ring - length up.held) < r + 2920
    update_near yet r is =
        let none : moves_far c.told (told_edge c up (our_shift c)) ≡ false = sym (ap (λ (b : Bool). not b && moves_far c.told (told_edge c up (our_shift c))) yet) ∙ apart.1 in
        let near = near_enough r (told_edge c up (our_shift c)) r refl (sym (ap (λ (o : Option ℕ). moves_far o (told_edge c up (our_shift c))) is) ∙ none) in
        let same : told_edge c up (our_shift c) ≡ c.received.taken + told (our_shift c) (s.ring - length up.held) =
        ap (λ (b : Bool). (if b then c.received.taken + 1 else c.received.taken) + told (our_shift c) (room_of up)) yet ∙ ap (λ (k : ℕ). c.received.taken + told (our_shift c)
        (k - length up.held)) (h.buffers.size ∙ h.suits.ring) in
        let shift : told (shift_told s past false) (s.ring - length up.held) ≡ told (our_shift c) (s.ring - length up.held) = ap (λ (k : ℕ). told k (s.ring - length up.held))
        (shift_is s c past h.suits h.opened) in
        omega (arith, near, same, shift)

    pub synchronized_settled : IsSettledIf Early s past known false now
    synchronized_settled =
        let r = h.receives reached in
        settled_is Early s past (part_of c up) (outward_of c.transmission down) known false now (timer_of (resending_of c)) (count_of (is_under_way past) (resending_of c))
        (resending_of c).estimate.wait
        (if s.congestion then min (edge_told (window_by c.transmission.window)) (c.transmission.acked + mss s past) else edge_told (window_by c.transmission.window)) c.told
        r.follows h.gives.keeps h.gives.resends r.told apart.0 (r.due apart.0)
        (λ is. r.once (first_of (is_accepted past) (is_some (their_number past)) (not (is_closed past)) is) apart.0) (λ is. absurd cc)
        (open_owes_none past h.goes.open_yet)
        (λ is. h.opened.out ∙ h.opened.sent synchronized)
        (λ is. h.opened.out ∙ h.opened.sent synchronized)
        (edge_is s (outward_of c.transmission down) past (window_by c.transmission.window) h.gives.keeps h.gives.window)
        (λ is. octets_out)
        update_near
        (λ under expired. let not_it = sym (expires_by c.transmission.resend.timer c.transmission.resend.estimate.wait (sym (ap (λ (q : Resending). timer_of q) runs) ∙ expired))
        ∙ not_expired in absurd cc)
        (λ early moment is. waits_for c.transmission.resend.timer c.transmission.resend.estimate.wait now moment (sym (ap (λ (q : Resending). timer_of q) runs) ∙ is) (λ d due. early d (at.1 ∙ due)))
        window_soon
      where
        runs : resending_of c ≡ c.transmission.resend
        runs = ap (λ (b : Bool). if b then c.syn else c.transmission.resend) opening

        first_of : (a b d : Bool) → IsTrue (a && b && d) → a ≡ true
        first_of true b d is = refl
        first_of false b d is = absurd cc

  -- until our SYN is acknowledged
  module _ (opening : is_opening c.stage ≡ true) where
    runs_syn : resending_of c ≡ c.syn
    runs_syn = ap (λ (b : Bool). if b then c.syn else c.transmission.resend) opening

    unanswered : answered (host past) ≡ false
    unanswered = h.opened.answered ∙ opening_is c.stage h.opened.live opening

    no_both : (a b : Bool) → a ≡ false → IsTrue (a && b) → ⊥
    no_both true b is so = absurd cc
    no_both false b is so = absurd cc

    none_connected : (a b d : Bool) → not (a || b || d) ≡ true → (a ≡ false) × (b ≡ false)
    none_connected false false false is = (refl, refl)
    none_connected true b d is = absurd (by b d is)
      where
        by : (b d : Bool) → not (true || b || d) ≡ true → ⊥
        by true true is = absurd cc
        by true false is = absurd cc
        by false true is = absurd cc
        by false false is = absurd cc
    none_connected false true d is = absurd (by d is)
      where
        by : (d : Bool) → not (false || true || d) ≡ true → ⊥
        by true is = absurd cc
        by false is = absurd cc
    none_connected false false true is = absurd cc

    connecting_none : is_at_connecting c.stage ≡ true → (is_accepted past ≡ false) × (has_connected past ≡ false)
    connecting_none is = none_connected (is_accepted past) (has_connected past) (is_closed past) (h.opened.connects ∙ is)

    -- where nothing is owed, our SYN went out and isn't owed again, and no acknowledgement is owed
    module _ (unowed : c.ack_owed ≡ false) (gone : is_at_connecting c.stage ≡ false → has_gone c.sendings ≡ true) (no_syn : has_gone c.sendings ≡ true → c.syn_owed ≡ false)
        (soon : Early → (d : ℕ) → resend_due c.syn ≡ Some d → now < d) where
      calls_out : HasCalled past
      calls_out = by (is_at_connecting c.stage) refl
        where
          by : (b : Bool) → is_at_connecting c.stage ≡ b → IsTrue (is_accepted past && not (is_closed past)) → IsTrue (syn_is_out past)
          by true at is = absurd (no_both (is_accepted past) (not (is_closed past)) (connecting_none at).0 is)
          by false at is = h.opened.out ∙ gone at

      sends_all : HasSent s past known
      sends_all = record {
        reset = open_owes_none past h.goes.open_yet;
        syn_ack = λ is. by_connects (is_at_connecting c.stage) refl is;
        syn = λ is. or_first (syn_is_out past) (not known && nat_lt 0 (times_asked past)) (calls_out is);
        octets = λ is. absurd (no_both (answered (host past)) (not (is_closed past)) unanswered is);
      }
        where
          or_first : (a b : Bool) → a ≡ true → IsTrue (a || b)
          or_first a b is = rw is refl

          by_connects : (b : Bool) → is_at_connecting c.stage ≡ b → IsTrue (has_connected past && not (is_closed past)) → IsTrue (syn_is_out past)
          by_connects true at is = absurd (no_both (has_connected past) (not (is_closed past)) (connecting_none at).1 is)
          by_connects false at is = h.opened.out ∙ gone at

      acknowledges_all : HasAcknowledged s past false
      acknowledges_all = by (is_calls c.stage) refl
        where
          first_of : (a b d : Bool) → IsTrue (a && b && d) → a ≡ true
          first_of true b d is = refl
          first_of false b d is = absurd cc

          by : (b : Bool) → is_calls c.stage ≡ b → HasAcknowledged s past false
          by true calls = nothing_to_acknowledge s c up down past now h calls
          by false reached =
              let r = h.receives reached in
              acknowledged_is s past (part_of c up) false r.follows unowed (r.due unowed)
              (λ is. r.once (first_of (is_accepted past) (is_some (their_number past)) (not (is_closed past)) is) unowed) (λ is. absurd cc)

      pub opening_settled : IsSettledIf Early s past known false now
      opening_settled = record {
        sends = sends_all;
        acknowledges = acknowledges_all;
        window = λ conforming is. absurd (no_both (answered (host past)) (not (is_closed past)) unanswered is);
        resends = λ early. all_in_time past now (timer_of (resending_of c)) (count_of (is_under_way past) (resending_of c)) (resending_of c).estimate.wait h.gives.resends
            (λ under over.
            let expired = expires_by c.syn.timer c.syn.estimate.wait (sym (ap (λ (q : Resending). timer_of q) runs_syn) ∙ over) in
            let out = sym (syn_under_way s c past h.opened opening) ∙ under in
            let not_it = sym (h.gives.owes_syn opening expired) ∙ no_syn out in absurd cc)
            (λ moment is. waits_for c.syn.timer c.syn.estimate.wait now moment (sym (ap (λ (q : Resending). timer_of q) runs_syn) ∙ is) (soon early))
            (λ waits. absurd (no_window past unanswered waits)) calls_out;
      }

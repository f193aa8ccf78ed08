-- What is waited for, and how long, by what a connection keeps.
use Rattle.std.proofs.Common.{refl, ◌≡◌, ℕ, ◌+◌, ◌-◌, ◌<◌, length, Bool, true, false, not, ◌&&◌, ◌||◌, max, min, nat_lt, ap, sym, ◌∙◌, inl, inr, ◌⊎◌}
use Rattle.sock_buffers.specs.Downward.{Downward}
use Rattle.sock_buffers.specs.Upward.{Upward}
use Rattle.tcp_connection.specs.Connection.{Connection, is_opening, is_synchronized}
use Rattle.tcp_connection.specs.Hosts.{is_open}
use Rattle.tcp_connection.specs.Segments.{is_done as takes_for_done}
use Rattle.spec_flow.specs.Settings.{Settings}
use Rattle.spec_flow.specs.Event.{Story}
use Rattle.spec_flow.specs.Host.{acked, got, got_end}
use Rattle.spec_flow.specs.Flow.{has_connected, host, is_accepted, is_closed, is_connecting, opened_at}
use Rattle.spec_flow.specs.Close.{is_deserted, last_at, patience_end}
use Rattle.spec_flow.specs.Lawful.{is_prompted}
use Rattle.spec_flow.specs.Dutiful.{AreAhead, MayWait, MayWaitToWrite, moment_if, must_wait_to_write, read_size, waits_to_read}
use Rattle.spec_flow.proofs.HostLaws.{InOrder, in_order}
use Rattle.sim_halves.proofs.Moments.{both_ahead}
use Rattle.sim_halves.proofs.Rests.{our_fin}
use Rattle.sim_halves.proofs.Waiting.{closes_when_done}
use Rattle.sim_halves.proofs.Wanting.{asks_for_room, has_room, may_want, must_want}
use Rattle.sim_connection.specs.Holding.{Holds, is_calls, is_at_connecting}
use Rattle.sim_connection.specs.Seen.{outward_of, part_of}
use Rattle.sim_connection.proofs.Leaving.{granted}
use Rattle.sim_connection.proofs.Watching.{synchronized_is}
use Rattle.sim_connection.proofs.Unanswered.{few_calls}

-- a guest has time to answer
pub patient_ahead : (past : Story) (now : ℕ) → (is_deserted past ≡ true → is_prompted past ≡ false → now < max (patience_end past) (last_at past + 1))
    → AreAhead now (moment_if (is_deserted past && not (is_prompted past)) (max (patience_end past) (last_at past + 1)))
patient_ahead past now patient = by (is_deserted past) (is_prompted past) refl refl
  where
    by : (b d : Bool) → is_deserted past ≡ b → is_prompted past ≡ d → AreAhead now (moment_if (b && not d) (max (patience_end past) (last_at past + 1)))
    by true true is quiet = tt
    by true false is quiet = (patient is quiet, tt)
    by false d is quiet = tt

module _ (s : Settings) (c : Connection) (up : Upward) (down : Downward) (past : Story) (now : ℕ) (h : Holds s c up down past now) where
  order : InOrder (host past)
  order = in_order s past h.goes.lawful

  none_granted : (a b d : Bool) → not (a || b || d) ≡ true → (b || a) ≡ false
  none_granted false false d is = refl
  none_granted true true true is = absurd cc
  none_granted true true false is = absurd cc
  none_granted true false true is = absurd cc
  none_granted true false false is = absurd cc
  none_granted false true true is = absurd cc
  none_granted false true false is = absurd cc

  -- ---- the host's octets

  open_end : is_open c.transmission.end ≡ true → got_end (host past) ≡ false
  open_end is = sym h.gives.keeps.ended ∙ ap not is

  shut_end : is_open c.transmission.end ≡ false → got_end (host past) ≡ true
  shut_end is = sym h.gives.keeps.ended ∙ ap not is

  -- they are waited for while the host may give some and there is room
  pub reads_where_room : waits_to_read s past ≡ (not (is_at_connecting c.stage) && is_open c.transmission.end && nat_lt (length down.octets) s.ring)
  reads_where_room = by (is_at_connecting c.stage) (is_open c.transmission.end) refl refl
    where
      four : (a b d e : Bool) → (a ≡ false) ⊎ (d ≡ true) → (a && not b && not d && e) ≡ false
      four false b d e is = refl
      four true true d e is = refl
      four true false true e is = refl
      four true false false e (inl is) = absurd cc
      four true false false e (inr is) = absurd cc

      all : (a b d e f : Bool) → a ≡ true → b ≡ false → d ≡ false → e ≡ f → (a && not b && not d && e) ≡ f
      all a b d e f a_is b_is d_is e_is = rw (a_is, b_is, d_is, e_is) refl

      by : (b d : Bool) → is_at_connecting c.stage ≡ b → is_open c.transmission.end ≡ d → waits_to_read s past ≡ (not b && d && nat_lt (length down.octets) s.ring)
      by true d at end = four (has_connected past || is_accepted past) (is_closed past) (got_end (host past)) (nat_lt (length (got (host past))) (acked (host past) + s.ring))
          (inl (none_granted (is_accepted past) (has_connected past) (is_closed past) (h.opened.connects ∙ at)))
      by false false at end = four (has_connected past || is_accepted past) (is_closed past) (got_end (host past)) (nat_lt (length (got (host past))) (acked (host past) + s.ring)) (inr (shut_end end))
      by false true at end = all (has_connected past || is_accepted past) (is_closed past) (got_end (host past)) (nat_lt (length (got (host past))) (acked (host past) + s.ring))
          (nat_lt (length down.octets) s.ring)
          (granted s c past h.opened h.goes.open_yet at) h.goes.open_yet (open_end end) (has_room s past (outward_of c.transmission down) h.gives.keeps order (open_end end))

  -- a read asks for all the room, 16,384 octets at most
  pub asks_for_all_room : is_open c.transmission.end ≡ true → read_size s past ≡ min 16384 (s.ring - length down.octets)
  asks_for_all_room is = asks_for_room s past (outward_of c.transmission down) h.gives.keeps order (open_end is)

  -- ---- the guest's octets

  -- what the host is waited for to take: that it connects, octets, or the end

  pub must_write : is_calls c.stage ≡ false → must_wait_to_write past ≡ true → (is_at_connecting c.stage ≡ true) ⊎ ((0 < length up.held) ⊎ ((c.received.ended ≡ true) × (c.host_ended ≡ false)))
  must_write reached is = by (must_want s past (part_of c up) (h.receives reached).follows is)
    where
      by : (is_connecting past ≡ true) ⊎ ((0 < length up.held) ⊎ ((c.received.ended ≡ true) × (c.host_ended ≡ false))) → (is_at_connecting c.stage ≡ true) ⊎
          ((0 < length up.held) ⊎ ((c.received.ended ≡ true) × (c.host_ended ≡ false)))
      by (inl connects) = inl (sym h.opened.connects ∙ connects)
      by (inr more) = inr more

  pub may_write : is_calls c.stage ≡ false → (is_at_connecting c.stage ≡ true) ⊎ ((0 < length up.held) ⊎ ((c.received.ended ≡ true) × (c.host_ended ≡ false))) → MayWaitToWrite past
  may_write reached wants = may_want s past (part_of c up) (h.receives reached).follows h.goes.open_yet (by wants)
    where
      by : (is_at_connecting c.stage ≡ true) ⊎ ((0 < length up.held) ⊎ ((c.received.ended ≡ true) × (c.host_ended ≡ false))) → (is_connecting past ≡ true) ⊎
          ((0 < length up.held) ⊎ ((c.received.ended ≡ true) × (c.host_ended ≡ false)))
      by (inl connects) = inl (h.opened.connects ∙ connects)
      by (inr more) = inr more

  -- ---- whether it may be waited at all

  pub may_wait : is_calls c.stage ≡ false → takes_for_done c ≡ false → (is_at_connecting c.stage ≡ true → now < opened_at past + 75000)
      → (is_deserted past ≡ true → is_prompted past ≡ false → now < max (patience_end past) (last_at past + 1)) → MayWait past now
  may_wait reached not_done early patient = record {
    closes = closes_when_done past (part_of c up) c.end_acknowledged c.ours_first c.acknowledged (h.receives reached).ends
        (λ told acked_fin sure. absurd (all_three (sym (h.receives reached).host_ended ∙ told)
        (h.gives.fin_acked ∙ sym (our_fin (outward_of c.transmission down) past h.gives.keeps) ∙ acked_fin) sure));
    connects = both_ahead now (moment_if (is_connecting past) (opened_at past + 75000)) (moment_if (is_deserted past && not (is_prompted past)) (max (patience_end past) (last_at past + 1)))
        (by (is_connecting past) refl) (patient_ahead past now patient);
    calls = few_calls s c up down past now h;
  }
    where
      four : (a b d e : Bool) → a ≡ true → b ≡ true → d ≡ true → e ≡ true → (a && b && d && e) ≡ true
      four a b d e a_is b_is d_is e_is = rw (a_is, b_is, d_is, e_is) refl

      all_three : c.host_ended ≡ true → c.fin_acked ≡ true → c.end_acknowledged ≡ true → ⊥
      all_three told fin sure = by_stage (is_opening c.stage) refl
        where
          by_stage : (b : Bool) → is_opening c.stage ≡ b → ⊥
          by_stage true opening = let not_it = sym ((h.receives reached).sure sure).0 ∙ h.buffers.sound.unended opening in absurd cc
          by_stage false opening =
              let not_it = sym (four (is_synchronized c.stage) c.host_ended c.fin_acked c.end_acknowledged (synchronized_is c.stage h.opened.live opening) told fin sure) ∙ not_done in absurd cc

      by : (b : Bool) → is_connecting past ≡ b → AreAhead now (moment_if b (opened_at past + 75000))
      by true is = (early (sym h.opened.connects ∙ is), tt)
      by false is = tt

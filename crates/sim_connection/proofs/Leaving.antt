-- A segment without SYN goes out: what is common to an acknowledgement alone and a piece of the host's stream.
use Rattle.std.proofs.Common.{refl, ◌≡◌, ℕ, ◌+◌, ◌-◌, ◌^◌, ◌<◌, ◌≤◌, List, [], ◌∷◌, length, Bool, true, false, not, ◌&&◌, ◌||◌, None, Some, if◌then◌else◌, IsTrue, MatchBool, max, min, pos}
use Rattle.std.proofs.Common.{arith, ap, subst, sym, ◌∙◌, take, drop, length-drop}
use Rattle.seq_space.specs.Places.{number_of}
use Rattle.sock_buffers.specs.Downward.{Downward}
use Rattle.sock_buffers.specs.Upward.{Upward, room_of}
use Rattle.tcp_receive.specs.Received.{next_number}
use Rattle.tcp_transmit.specs.Transmission.{IsSentOf, Transmission, octets_read}
use Rattle.tcp_transmit.specs.declared.End.{End}
use Rattle.tcp_transmit.specs.declared.End.TheVariants as our_end
use Rattle.tcp_connection.specs.Connection.{Connection, has_gone}
use Rattle.tcp_connection.specs.Owing.{told}
use Rattle.tcp_connection.specs.Windows.{field, our_shift}
use Rattle.spec_flow.specs.Settings.{Settings}
use Rattle.spec_flow.specs.Event.{At, Departs, Segment, Story}
use Rattle.spec_flow.specs.Host.{Down, Sent, StandAt, acked, answered, got, our_place, sent}
use Rattle.spec_flow.specs.Flow.{has_connected, host, is_accepted, is_closed, syn_is_out}
use Rattle.spec_flow.specs.Windows.{is_scaled, least_shift as least_told, our_shift as shift_told}
use Rattle.spec_flow.specs.Lawful.{HasHeaderOf, IsPiece, May, Send, SendsAgainWithReason, SendsEndAfterAll, SendsWhatTheHostSent, SendsWithinMss}
use Rattle.spec_flow.proofs.Sides.{host_sent}
use Rattle.sim_halves.specs.Sends.{Keeps}
use Rattle.sim_halves.proofs.Acts.{may_send, must_send}
use Rattle.sim_halves.proofs.SendSteps.{sends, sent_piece}
use Rattle.sim_connection.specs.Holding.{Goes, Holds, IsOpened, Receives, is_calls, is_at_connecting}
use Rattle.sim_connection.specs.Seen.{outward_of}
use Rattle.sim_connection.proofs.Going.{does}
use Rattle.sim_connection.proofs.Telling.{acknowledges, shift_is, tells, tells_room}

either_of : (a b d : Bool) → not (a || b || d) ≡ false → d ≡ false → (b || a) ≡ true
either_of true b false is apart_from = by b
  where
    by : (b : Bool) → (b || true) ≡ true
    by true = refl
    by false = refl
either_of false true false is apart_from = refl
either_of false false false is apart_from = absurd cc
either_of a b true is apart_from = absurd cc

-- a flow whose SYN is out, or that is to open with it, was granted by the host
pub granted : (s : Settings) (c : Connection) (past : Story) → IsOpened s c past → is_closed past ≡ false → is_at_connecting c.stage ≡ false → (has_connected past || is_accepted past) ≡ true
granted s c past o open_yet apart_from = either_of (is_accepted past) (has_connected past) (is_closed past) (o.connects ∙ apart_from) open_yet

and_false : (a b : Bool) → IsTrue (a && not b) → b ≡ true → ⊥
and_false true true is so = absurd cc
and_false true false is so = absurd cc
and_false false b is so = absurd cc

no_scale : (a b c : Bool) (x : ℕ) → (if a && false && b && c then Some x else None) ≡ None
no_scale true b c x = refl
no_scale false b c x = refl

-- ---- the octets of the host's stream

pub read_is : (t : Transmission) (down : Downward) (past : List Down) → Keeps (outward_of t down) past → length (got past) ≡ octets_read down
read_is t down past k =
    let long = ap length k.held ∙ length-drop down.first (got past) in
    let before : down.first ≡ min (acked past) (length (got past)) = k.before in
    omega (arith, long, before)

-- how far is sent is less than 2^31 past what is acknowledged
pub near_sent : (s : Settings) (c : Connection) (up : Upward) (down : Downward) (past : Story) (now : ℕ) → Holds s c up down past now → c.transmission.sent < c.transmission.acked + 2 ^ 31
near_sent s c up down past now h = by c.transmission.end h.buffers.feeds.all
  where
    size : length down.octets ≤ 2 ^ 20
    size = let few = h.suits.few in let within = h.within in omega arith

    low : down.first ≤ c.transmission.acked
    low = let first = h.buffers.feeds.first in omega arith

    by : (e : End) → IsSentOf e c.transmission.sent (octets_read down) → c.transmission.sent < c.transmission.acked + 2 ^ 31
    by our_end.Open all = omega (arith, size, low)
    by our_end.Unsent all = omega (arith, size, low)
    by our_end.Sent all = omega (arith, size, low)

module _ (s : Settings) (c : Connection) (up : Upward) (down : Downward) (past : Story) (now m : ℕ) (seg : Segment) (on : now ≤ m) (h : Holds s c up down past now)
    (known : is_calls c.stage ≡ false) (out : has_gone c.sendings ≡ true)
    (ack : seg.ack ≡ true) (syn : seg.syn ≡ false) (rst : seg.rst ≡ false) (number : seg.acknowledgement ≡ next_number c.received)
    (window : seg.window ≡ field (our_shift c) (room_of up)) (no_mss : seg.mss ≡ None) (no_scale_said : seg.scale ≡ None)
    (place : ℕ) (at : seg.number ≡ number_of c.transmission.first place) (low : down.first ≤ place) (joins : place ≤ c.transmission.sent) (near : c.transmission.sent < place + 2 ^ 31)
    (octets : seg.octets ≡ take (length seg.octets) (drop (place - down.first) down.octets)) where
  unconnecting : is_at_connecting c.stage ≡ false
  unconnecting = by (is_at_connecting c.stage) refl
    where
      by : (b : Bool) → is_at_connecting c.stage ≡ b → b ≡ false
      by true is = let not_it = sym (h.opened.unsent is) ∙ out in absurd cc
      by false is = refl

  shift_same : our_shift c ≡ shift_told s past seg.syn
  shift_same = sym (ap (λ (b : Bool). shift_told s past b) syn ∙ shift_is s c past h.suits h.opened)

  window_told : seg.window ≡ field (shift_told s past seg.syn) (room_of up)
  window_told = window ∙ ap (λ (k : ℕ). field k (room_of up)) shift_same

  -- the guest's stream after it
  pub leaves_received : Receives s (told c up (our_shift c)) up (At m (Departs seg) ∷ past)
  leaves_received = tells s c up past now m seg h.suits h.goes h.opened known h.gives.fin_out (h.receives known) ack rst number (our_shift c) shift_same window (λ is. refl)

  step : (our_place (host past) (number_of c.transmission.first place) ≡ pos place) × (place ≤ sent (host past)) × StandAt (got (host past)) place
      (take (length seg.octets) (drop (place - down.first) down.octets))
  step = sends (outward_of c.transmission down) (host past) place (length seg.octets) seg.fin low joins near h.gives.keeps

  pub stands : our_place (host past) seg.number ≡ pos place
  stands = ap (λ (n : ℕ). our_place (host past) n) at ∙ step.0

  -- the host's stream after it
  pub leaves_kept : Keeps (record (outward_of c.transmission down) { sent = max c.transmission.sent (place + (length seg.octets + (if seg.fin then 1 else 0))) }) (host (At m (Departs seg) ∷ past))
  leaves_kept =
      subst (λ (g : List Down). Keeps (record (outward_of c.transmission down) { sent = max c.transmission.sent (place + (length seg.octets + (if seg.fin then 1 else 0))) }) g)
      (sym (host_sent m past seg syn rst))
      (subst (λ (n : ℕ). Keeps (record (outward_of c.transmission down) { sent = max c.transmission.sent (place + (length seg.octets + (if seg.fin then 1 else 0))) })
      (Sent n seg.octets seg.fin ∷ host past)) (sym at)
      (sent_piece (outward_of c.transmission down) (host past) place seg.octets seg.fin joins near h.gives.keeps))

  carries : SendsWhatTheHostSent past (Send seg)
  carries = subst (λ (b : Bool). MatchBool (b || seg.rst) ((seg.octets ≡ []) × (seg.fin ≡ false)) (IsPiece past seg)) (sym syn)
      (subst (λ (b : Bool). MatchBool b ((seg.octets ≡ []) × (seg.fin ≡ false)) (IsPiece past seg)) (sym rst)
      (place, stands, step.1, subst (λ (xs : List ℕ). StandAt (got (host past)) place xs) (sym octets) step.2))

  none_if : (b : Bool) → b ≡ false → IsTrue b → ⊥
  none_if b is so = let not_it = sym is ∙ so in absurd cc

  and_left : (a b : Bool) → IsTrue (a && b) → a ≡ true
  and_left true b is = refl
  and_left false b is = absurd cc

  -- it may go out
  pub leaves_lawfully : SendsWithinMss s past (Send seg) → SendsAgainWithReason past m (Send seg) → SendsEndAfterAll past (Send seg) → HasHeaderOf past seg → May s past m (Send seg)
  leaves_lawfully within reason end_after header = may_send s past m seg carries within reason end_after
      (acknowledges s c up past now m seg h.suits h.goes h.opened known h.gives.fin_out (h.receives known) ack rst number)
      (λ is. absurd (none_if seg.rst rst is))
      h.goes.well
      (λ is. absurd (none_if seg.rst rst is))
      (λ is. absurd (none_if (is_closed past) h.goes.open_yet is))
      (λ is. granted s c past h.opened h.goes.open_yet unconnecting)
      ((λ is. absurd (and_false (not seg.rst) (syn_is_out past) is (h.opened.out ∙ out))), (λ is. absurd (none_if seg.syn syn (and_left seg.syn (not seg.rst) is)))) header (
        no_mss ∙ sym (ap (λ (b : Bool). if b && not seg.rst then Some (s.mru - 40) else None) syn),
        no_scale_said ∙ sym (ap (λ (b : Bool). if s.scales && b && not seg.rst && (not seg.ack || is_scaled s past) then Some (least_told s.ring) else None) syn ∙ no_scale s.scales
            (not seg.rst) (not seg.ack || is_scaled s past) (least_told s.ring)),
      )

  pub leaves_goes : SendsWithinMss s past (Send seg) → SendsAgainWithReason past m (Send seg) → SendsEndAfterAll past (Send seg) → HasHeaderOf past seg → Goes s (At m (Departs seg) ∷ past) m
  leaves_goes within reason end_after header = does s past now m (Departs seg) (Send seg) h.goes on (λ none. none) refl (leaves_lawfully within reason end_after header)
      (must_send s past m seg (tells_room s c up past now m seg h.suits h.goes h.opened known h.gives.fin_out (h.receives known) ack rst number window_told) h.goes.free)
      h.goes.open_yet refl refl

  none_and : (a b d : Bool) → a ≡ false → ((a && b) || d) ≡ d
  none_and a b d is = rw is refl

  pub still_out : syn_is_out (At m (Departs seg) ∷ past) ≡ syn_is_out past
  still_out = none_and seg.syn (not seg.rst) (syn_is_out past) syn

  pub still_answered : answered (host (At m (Departs seg) ∷ past)) ≡ answered (host past)
  still_answered = ap (λ (g : List Down). answered g) (host_sent m past seg syn rst)

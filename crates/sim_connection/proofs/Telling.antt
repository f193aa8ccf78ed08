-- A segment that acknowledges goes out, and tells the room that is left.
use Rattle.std.proofs.Common.{refl, ◌≡◌, ℕ, zero, suc, ◌+◌, ◌*◌, ◌/◌, ◌^◌, ◌≤◌, List, ◌∷◌, length, Bool, true, false, not, ◌&&◌, ◌||◌, Option, None, Some, is_some, if◌then◌else◌, IsTrue}
use Rattle.std.proofs.Common.{nat_eq, nat_le, arith, ap, subst, sym, ◌∙◌}
use Rattle.sock_buffers.specs.Upward.{Upward, room_of}
use Rattle.tcp_receive.specs.Received.{next_number}
use Rattle.tcp_transmit.specs.Transmission.{is_sent}
use Rattle.tcp_connection.specs.Connection.{Connection, closes_first, is_synchronized, shift_of}
use Rattle.tcp_connection.specs.Owing.{told}
use Rattle.tcp_connection.specs.Windows.{field, least_shift, our_shift, shift_within, told_edge}
use Rattle.spec_flow.specs.Settings.{Settings}
use Rattle.spec_flow.specs.Event.{At, Departs, Segment, Story}
use Rattle.spec_flow.specs.Guest.{AckIsDue, Acked, Conforming, HasCome, IsAcknowledged, Up, ackd, was_acked, written}
use Rattle.spec_flow.specs.Flow.{guest, their_number}
use Rattle.spec_flow.specs.Windows.{is_scaled, least_shift as least_told, our_shift as shift_told, shift_within as told_within, their_scale}
use Rattle.spec_flow.specs.Close.{fin_is_out}
use Rattle.spec_flow.specs.Lawful.{AcknowledgesWhatCame, Send}
use Rattle.spec_flow.specs.Dutiful.{TellsRoom}
use Rattle.spec_flow.proofs.Scaled.{opens_once}
use Rattle.spec_flow.proofs.Sides.{guest_acked}
use Rattle.spec_flow.proofs.Streams.{earlier}
use Rattle.sim_halves.specs.Ends.{Ends, IsCurrent}
use Rattle.sim_halves.specs.Follows.{Follows}
use Rattle.sim_halves.specs.Received.{received as taken_of, places_taken}
use Rattle.sim_halves.proofs.Due.{acked_due}
use Rattle.sim_halves.proofs.EndAcks.{acknowledges_ends}
use Rattle.sim_halves.proofs.Resets.{acked_current}
use Rattle.sim_halves.proofs.Steps.{acked}
use Rattle.sim_halves.proofs.Windows.{tells_edge}
use Rattle.sim_connection.specs.Holding.{Goes, IsOpened, Receives, Suits, is_calls}
use Rattle.sim_connection.specs.Seen.{part_of}

-- ---- the shift of our windows

within_same : (n room : ℕ) → told_within n room ≡ shift_within n room
within_same zero room = refl
within_same (suc n) room = ap (λ (k : ℕ). if nat_le room 65535 then 0 else 1 + k) (within_same n (room / 2))

pub least_same : (room : ℕ) → least_told room ≡ least_shift room
least_same room = within_same 14 room

scaled_some : (o : Option ℕ) → is_some (shift_of o) ≡ is_some o
scaled_some None = refl
scaled_some (Some shift) = refl

pub scaled_is : (s : Settings) (c : Connection) (past : Story) → Suits s c → IsOpened s c past → is_scaled s past ≡ is_some c.scale
scaled_is s c past suits o =
    ap (λ (b : Bool). b && is_some (their_scale past)) suits.scales
    ∙ sym (scaled_some (their_scale past))
    ∙ ap (λ (k : Option ℕ). is_some k) (sym o.scale)

if_not : (b : Bool) (x y : ℕ) → (if not b then x else y) ≡ (if b then y else x)
if_not true x y = refl
if_not false x y = refl

pub shift_is : (s : Settings) (c : Connection) (past : Story) → Suits s c → IsOpened s c past → shift_told s past false ≡ our_shift c
shift_is s c past suits o =
    ap (λ (b : Bool). if not b then 0 else least_told s.ring) (scaled_is s c past suits o)
    ∙ if_not (is_some c.scale) 0 (least_told s.ring)
    ∙ ap (λ (k : ℕ). if is_some c.scale then k else 0) (least_same s.ring ∙ ap least_shift (sym suits.ring))

-- ---- the number that is expected next

-- all before it came
pub came_of : (s : Settings) (c : Connection) (up : Upward) (past : Story) → IsOpened s c past → Receives s c up past → Conforming (guest past) → HasCome (guest past)
    (ackd (Acked (next_number c.received) ∷ guest past))
came_of s c up past o r = (acked s.ring (part_of c up) (guest past) (next_number c.received) (room_of up) whole refl r.follows).1
  where
    whole : room_of up + length up.held ≡ s.ring
    whole = let size : up.size ≡ s.ring = r.follows.size in let within : length up.held ≤ s.ring = r.follows.within in omega (arith, size, within)

-- ---- the segment

module _ (s : Settings) (c : Connection) (up : Upward) (past : Story) (now m : ℕ) (seg : Segment) (suits : Suits s c) (goes : Goes s past now) (o : IsOpened s c past)
    (known : is_calls c.stage ≡ false) (out : fin_is_out past ≡ is_sent c.transmission.end) (r : Receives s c up past)
    (ack : seg.ack ≡ true) (rst : seg.rst ≡ false) (number : seg.acknowledgement ≡ next_number c.received) where
  pub theirs : their_number past ≡ Some c.received.first
  theirs = o.theirs ∙ ap (λ (b : Bool). if b then None else Some c.received.first) known

  is_known : is_some (their_number past) ≡ true
  is_known = ap (λ (n : Option ℕ). is_some n) theirs

  acked_now : guest (At m (Departs seg) ∷ past) ≡ Acked seg.acknowledgement ∷ guest past
  acked_now = guest_acked m past seg ack rst is_known

  whole : room_of up + length up.held ≡ s.ring
  whole = let size : up.size ≡ s.ring = r.follows.size in let within : length up.held ≤ s.ring = r.follows.within in omega (arith, size, within)

  step : Follows s.ring (record (part_of c up) { ack_owed = false }) (Acked seg.acknowledgement ∷ guest past)
      × (Conforming (guest past) → HasCome (guest past) (ackd (Acked seg.acknowledgement ∷ guest past)))
      × (Conforming (guest past) → (a : ℕ) → IsAcknowledged (Acked seg.acknowledgement ∷ guest past) a → room_of up + a ≡ length (written (guest past)) + s.ring)
  step = acked s.ring (part_of c up) (guest past) seg.acknowledgement (room_of up) whole number r.follows

  -- what is acknowledged came
  pub acknowledges : AcknowledgesWhatCame past (Send seg)
  acknowledges = λ sent. (ack ∙ sym is_known, λ yes conforming. step.1 conforming)

  -- the room is told
  pub tells_room : seg.window ≡ field (shift_told s past seg.syn) (room_of up) → TellsRoom s past m seg
  tells_room is = λ sent conforming a acknowledged. (room_of up, step.2 conforming a (subst (λ (g : List Up). IsAcknowledged g a) acked_now acknowledged), is)

  tells_ends : (shift : ℕ) → Ends (At m (Departs seg) ∷ past) (part_of (told c up shift) up) (c.end_acknowledged || c.received.ended) (closes_first c) (next_number c.received)
  tells_ends shift =
      let e : Ends (At m (Departs seg) ∷ past) (part_of c up) (c.end_acknowledged || c.received.ended)
      (if nat_eq seg.acknowledgement c.acknowledged then c.ours_first else fin_is_out past) seg.acknowledgement =
      acknowledges_ends past (part_of c up) c.end_acknowledged c.ours_first c.acknowledged m seg s.ring (opens_once past goes.story) ack rst theirs number r.follows r.ends in
      let e2 : Ends (At m (Departs seg) ∷ past) (part_of c up) (c.end_acknowledged || c.received.ended)
      (if nat_eq seg.acknowledgement c.acknowledged then c.ours_first else is_sent c.transmission.end) seg.acknowledgement =
      subst (λ (b : Bool). Ends (At m (Departs seg) ∷ past) (part_of c up) (c.end_acknowledged || c.received.ended)
      (if nat_eq seg.acknowledgement c.acknowledged then c.ours_first else b) seg.acknowledgement) out e in
      let e3 : Ends (At m (Departs seg) ∷ past) (part_of c up) (c.end_acknowledged || c.received.ended) (closes_first c) (next_number c.received) =
      subst (λ (n : ℕ). Ends (At m (Departs seg) ∷ past) (part_of c up) (c.end_acknowledged || c.received.ended)
      (if nat_eq n c.acknowledged then c.ours_first else is_sent c.transmission.end) n) number e2 in
      record { low = e3.low; kept_low = e3.kept_low; fin = e3.fin; was_sure = e3.was_sure; is_sure = e3.is_sure; at = e3.at; order = e3.order }

  either_ended : (a b : Bool) (A : Type 0) → (a ≡ true → (b ≡ true) × A) → (a || b) ≡ true → b ≡ true
  either_ended true b A sure is = (sure refl).0
  either_ended false b A sure is = is

  -- the guest's stream after it
  pub tells : (shift : ℕ) → shift ≡ shift_told s past seg.syn → seg.window ≡ field shift (room_of up) → (is_synchronized c.stage ≡ true → shift ≡ our_shift c)
      → Receives s (told c up shift) up (At m (Departs seg) ∷ past)
  tells shift shift_same window same = record {
    follows = subst (λ (g : List Up). Follows s.ring (record (part_of c up) { ack_owed = false }) g) (sym acked_now) step.0;
    due = λ none due. acked_due (guest past) seg.acknowledgement (subst (λ (g : List Up). AckIsDue g) acked_now due);
    once = λ is none. subst (λ (g : List Up). IsTrue (was_acked g)) (sym acked_now) refl;
    ends = tells_ends shift;
    current = subst (λ (n : ℕ). IsCurrent (guest (At m (Departs seg) ∷ past)) (taken_of c.received.first c.received.taken c.received.ended) n) number
        (subst (λ (g : List Up). IsCurrent g (taken_of c.received.first c.received.taken c.received.ended) seg.acknowledgement) (sym acked_now)
        (acked_current (guest past) (taken_of c.received.first c.received.taken c.received.ended) seg.acknowledgement number));
    sure = λ is. (either_ended c.end_acknowledged c.received.ended (c.acknowledged ≡ next_number c.received) r.sure is, refl);
    host_ended = r.host_ended;
    told = λ conforming.
        tells_edge s past (part_of c up) m seg ack rst is_known number r.follows (earlier (Acked seg.acknowledgement) (guest past) (subst (λ (g : List Up). Conforming g) acked_now conforming))
        ∙ ap (λ (k : ℕ). Some (places_taken (taken_of c.received.first c.received.taken c.received.ended) + seg.window * 2 ^ k)) (sym shift_same)
        ∙ ap (λ (k : ℕ). Some (places_taken (taken_of c.received.first c.received.taken c.received.ended) + k * 2 ^ shift)) window;
    answered = λ is none. rw (ack, rst) refl;
    prompted = λ is. absurd cc;
    updated = λ none yes. ap (λ (k : ℕ). Some (told_edge c up k)) (same yes);
  }

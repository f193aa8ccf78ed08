-- A flow is in TIME-WAIT: what arrives at it, and what goes out.
use Rattle.std.proofs.Common.{unwrap_or, refl, ◌≡◌, ℕ, ◌+◌, ◌-◌, ◌≤◌, List, ◌∷◌, length, Bool, true, false, not, ◌&&◌, ◌||◌, Option, None, Some, is_some, if◌then◌else◌, IsTrue, nat_eq}
use Rattle.std.proofs.Common.{nat_lt, max, ℤ, pos, ◌+ℤ◌, arith, ap, subst, sym, ◌∙◌, inl, inr, ◌⊎◌}
use Rattle.seq_space.specs.Places.{number_of}
use Rattle.sock_buffers.specs.Downward.{Downward}
use Rattle.sock_buffers.specs.Upward.{Upward, after_join, room_of}
use Rattle.tcp_receive.specs.Received.{Received, next_number, place_in, placed, up_after}
use Rattle.tcp_segment.specs.Tcp.{Tcp}
use Rattle.tcp_transmit.specs.Acks.{after_ack, is_acceptable as is_accepted_ack, octets_acked, without}
use Rattle.tcp_transmit.specs.Timing.{watched_over}
use Rattle.tcp_transmit.specs.Transmission.{Transmission, is_sent, places}
use Rattle.tcp_transmit.specs.declared.AckSeen.{AckSeen}
use Rattle.tcp_transmit.specs.declared.End.{End}
use Rattle.tcp_connection.specs.Connection.{Connection, closes_first, is_syn_received, is_synchronized}
use Rattle.tcp_connection.specs.Checks.{is_ack, is_fin, is_in_window, is_next, is_rst, is_syn, verdict_by, verdict_of}
use Rattle.tcp_connection.specs.Hosts.{numbers_sent}
use Rattle.tcp_connection.specs.Segments.{acknowledged, after_segment, arrived, conn_by, established, is_bare, is_end_taken, is_fin_too, is_past, is_to_acknowledge, is_too_far, opened}
use Rattle.tcp_connection.specs.Segments.{received_after, seen_of, settled, up_after_segment, up_by}
use Rattle.tcp_connection.specs.Owing.{told}
use Rattle.tcp_connection.specs.Windows.{field, our_shift, window_in}
use Rattle.tcp_connection.specs.declared.Stage.{Stage}
use Rattle.tcp_connection.specs.declared.Verdict.{Verdict}
use Rattle.tcp_connection.specs.declared.Verdict.TheVariants.{Ignored, Resets, Challenged, Heeded}
use Rattle.tcp_connection.specs.declared.Owed.TheVariants.{Ack}
use Rattle.tcp_connection.specs.declared.Stage.TheVariants as stage
use Rattle.spec_flow.specs.Settings.{Settings}
use Rattle.spec_flow.specs.Event.{Arrives, At, Departs, Segment, Story}
use Rattle.spec_flow.specs.Guest.{Acked, HasCome, Conforming, IsAcknowledged, Up, ackd, from_zero, written}
use Rattle.spec_flow.specs.Host.{Confirmed, our_first, our_place, sent}
use Rattle.spec_flow.specs.Flow.{confirms, greets, guest, host, push, syn_is_out, their_number, their_syn}
use Rattle.spec_flow.specs.Windows.{is_scaled, least_shift}
use Rattle.spec_flow.specs.Close.{ends_time_wait, fin_is_out, renews}
use Rattle.spec_flow.specs.Lawful.{IsPiece, May, Send, is_overdue, is_prompted, repeats}
use Rattle.spec_flow.specs.Dutiful.{MustClose, TellsRoom, fin_is_answered}
use Rattle.spec_flow.proofs.Scaled.{opens_once}
use Rattle.spec_flow.proofs.Sides.{guest_acked, guest_closed}
use Rattle.spec_flow.specs.Segments.{segment_of}
use Rattle.sim_halves.specs.Ends.{Ends}
use Rattle.sim_halves.specs.Follows.{Follows}
use Rattle.sim_halves.specs.Sends.{Outward}
use Rattle.sim_halves.proofs.Acts.{may_send, must_send}
use Rattle.sim_halves.proofs.EndAcks.{acknowledges_ends}
use Rattle.sim_halves.proofs.EndSteps.{no_part}
use Rattle.sim_halves.proofs.Owed.{plain_owes}
use Rattle.sim_halves.proofs.Rests.{rest_goes_on, rest_next}
use Rattle.sim_halves.proofs.SendSteps.{place_of_number}
use Rattle.sim_halves.proofs.Steps.{acked}
use Rattle.sim_connection.specs.Over.{IsInTimeWait}
use Rattle.sim_connection.specs.Seen.{part_of}
use Rattle.sim_connection.specs.Sending.{segment_out}
use Rattle.sim_connection.proofs.Closing.{runs_on}
use Rattle.sim_connection.proofs.Coming.{none_owed}
use Rattle.sim_connection.proofs.Hearing.{heard_by, heard_stays}
use Rattle.sim_connection.proofs.Watching.{watched_end, watched_outward}
use Rattle.sim_connection.proofs.Going.{longer}
use Rattle.sim_connection.proofs.Quiet.{same_number, same_scale}
use Rattle.sim_connection.proofs.Unheeded.{follows_owed, syn_stays}

-- ---- an acknowledgement goes out

module _ (s : Settings) (c : Connection) (up : Upward) (down : Downward) (past : Story) (now m since : ℕ) (on : now ≤ m) (h : IsInTimeWait s c up down past now since) (owed : c.ack_owed ≡ true) where
  abbrev seg : Segment
  seg = segment_out s.mru c up down Ack

  abbrev after : Story
  after = At m (Departs seg) ∷ past

  is_known : is_some (their_number past) ≡ true
  is_known = ap (λ (n : Option ℕ). is_some n) h.theirs

  acked_now : guest after ≡ Acked (next_number c.received) ∷ guest past
  acked_now = guest_acked m past seg refl refl is_known

  whole : room_of up + length up.held ≡ s.ring
  whole = let size : up.size ≡ s.ring = h.follows.size in let within : length up.held ≤ s.ring = h.follows.within in omega (arith, size, within)

  step : Follows s.ring (record (part_of c up) { ack_owed = false }) (Acked (next_number c.received) ∷ guest past)
      × (Conforming (guest past) → HasCome (guest past) (ackd (Acked (next_number c.received) ∷ guest past)))
      × (Conforming (guest past) → (a : ℕ) → IsAcknowledged (Acked (next_number c.received) ∷ guest past) a → room_of up + a ≡ length (written (guest past)) + s.ring)
  step = acked s.ring (part_of c up) (guest past) (next_number c.received) (room_of up) whole refl h.follows

  at_end : our_place (host past) (numbers_sent c) ≡ pos (sent (host past))
  at_end = ap (λ (f : ℕ). our_place (host past) (number_of f c.transmission.sent)) (sym h.first)
      ∙ ap (λ (n : ℕ). our_place (host past) (number_of (our_first (host past)) n)) (sym h.sent)
      ∙ place_of_number (host past) (sent (host past)) (omega arith) (omega arith)

  carries : IsPiece past seg
  carries = (sent (host past), at_end, omega arith, λ k x is. absurd cc)

  none_if : (b : Bool) → b ≡ true → IsTrue (not b) → ⊥
  none_if true is so = absurd cc
  none_if false is so = absurd cc

  prompted_is : (a b p d : Bool) → p ≡ true → IsTrue (a || b || p || d)
  prompted_is true b p d is = refl
  prompted_is false true p d is = refl
  prompted_is false false true d is = refl
  prompted_is false false false d is = absurd cc

  no_scale : (a b d : Bool) (x : ℕ) → None ≡ (if a && false && b && d then Some x else None)
  no_scale true b d x = refl
  no_scale false b d x = refl

  may : May s past m (Send seg)
  may = may_send s past m seg carries (omega arith) (prompted_is seg.rst (not (repeats past seg)) (is_prompted past) (is_overdue m past seg) (h.prompted owed)) (λ is. absurd cc)
      (λ is. (sym is_known, λ yes_ conforming. step.1 conforming)) (λ is. absurd cc) h.over.well (λ is. absurd cc) (λ is. (refl, refl, refl, ap (λ (o : Option ℕ). is_some o) h.begun)) (λ is. h.granted)
      ((λ is. absurd (none_if (syn_is_out past) h.out is)), (λ is. absurd cc))
      (record { carries = λ is. absurd cc; acknowledges = ((λ is. refl), (λ is. absurd cc)); next = λ is. at_end; window = λ is. absurd cc })
      (refl, no_scale s.scales true (not true || is_scaled s past) (least_shift s.ring))

  none_must : MustClose past → ⊥
  none_must must = let not_it = sym must.2 ∙ h.over.closed in absurd cc

  tells : TellsRoom s past m seg
  tells = λ is conforming a acknowledged. (room_of up, step.2 conforming a (subst (λ (g : List Up). IsAcknowledged g a) acked_now acknowledged), ap (λ (k : ℕ). field k (room_of up)) (sym h.shift))

  ends_now : Ends after (part_of (told c up (our_shift c)) up) (c.end_acknowledged || c.received.ended) (closes_first c) (next_number c.received)
  ends_now =
      let e : Ends after (part_of c up) (c.end_acknowledged || c.received.ended) (if nat_eq (next_number c.received) c.acknowledged then c.ours_first else fin_is_out past) (next_number c.received) =
      acknowledges_ends past (part_of c up) c.end_acknowledged c.ours_first c.acknowledged m seg s.ring (opens_once past h.over.runs.story) refl refl h.theirs refl h.follows h.ends in
      let e2 : Ends after (part_of c up) (c.end_acknowledged || c.received.ended) (closes_first c) (next_number c.received) =
      subst (λ (b : Bool). Ends after (part_of c up) (c.end_acknowledged || c.received.ended) (if nat_eq (next_number c.received) c.acknowledged then c.ours_first else b)
      (next_number c.received)) h.fin_out e in
      record { low = e2.low; kept_low = e2.kept_low; fin = e2.fin; was_sure = e2.was_sure; is_sure = e2.is_sure; at = e2.at; order = e2.order }

  sent_still : sent (host after) ≡ sent (host past)
  sent_still = ap (λ (z : ℤ). max (sent (host past)) (from_zero (z +ℤ pos 0))) at_end ∙ (let same : max (sent (host past)) (sent (host past) + 0) ≡ sent (host past) = omega arith in same)

  pub ack_goes : IsInTimeWait s (told c up (our_shift c)) up down after m since
  ack_goes = record {
    over = record {
      runs = runs_on s past now m (Departs seg) (Send seg) h.over.runs on (λ none. none) refl may (must_send s past m seg tells none_must);
      closed = h.over.closed;
      well = refl;
      over = h.over.over;
      owes = plain_owes past m seg refl ∙ h.over.owes;
      pays = λ seq ack is. let not_it = sym h.at ∙ is in absurd cc;
      came = λ seq ack is. let not_it = sym h.at ∙ is in absurd cc;
    };
    at = h.at;
    begun = h.begun;
    theirs = h.theirs;
    out = h.out;
    shift = h.shift;
    follows = subst (λ (g : List Up). Follows s.ring (record (part_of c up) { ack_owed = false }) g) (sym acked_now) step.0;
    ends = ends_now;
    next = refl;
    ended = h.ended;
    fin_out = h.fin_out;
    first = h.first;
    sent = sent_still ∙ h.sent;
    granted = h.granted;
    prompted = λ is. absurd cc;
    answered = λ is. refl;
  }

-- ---- a segment arrives that doesn't end the rest

module _ (s : Settings) (c : Connection) (up : Upward) (down : Downward) (past : Story) (now m since : ℕ) (tcp : Tcp) (on : now ≤ m) (h : IsInTimeWait s c up down past now since)
    (goes_on : ends_time_wait past (segment_of tcp) ≡ false) where
  abbrev came : Segment
  came = segment_of tcp

  abbrev later : Story
  later = At m (Arrives came) ∷ past

  same_guest : guest later ≡ guest past
  same_guest = guest_closed m past came h.over.closed

  known : is_some (their_number past) ≡ true
  known = ap (λ (n : Option ℕ). is_some n) h.theirs

  same_syn : their_syn later ≡ their_syn past
  same_syn = syn_stays (their_syn past) (if greets past came then Some came else None) known

  same_host : (our_first (host later) ≡ our_first (host past)) × (sent (host later) ≡ sent (host past))
  same_host = by (confirms past came)
    where
      by : (b : Bool) → (our_first (push (if b then Some (Confirmed came.acknowledgement) else None) (host past)) ≡ our_first (host past))
          × (sent (push (if b then Some (Confirmed came.acknowledgement) else None) (host past)) ≡ sent (host past))
      by true = (refl, refl)
      by false = (refl, refl)

  no_close : MustClose past → ⊥
  no_close must = let not_it = sym must.2 ∙ h.over.closed in absurd cc

  -- with what may change of the connection
  rests_as : (t : Transmission) (owed fa : Bool) → t.first ≡ c.transmission.first → t.sent ≡ c.transmission.sent → t.end ≡ c.transmission.end →
      (owed ≡ false → (c.ack_owed ≡ false) × (renews came ≡ false))
      → IsInTimeWait s (record c { transmission = t; ack_owed = owed; fin_acked = fa }) up down later m (if renews came then m else since)
  rests_as t owed fa first_is sent_is end_is only =
      let e = no_part past (part_of c up) c.end_acknowledged c.ours_first c.acknowledged m came same_guest h.ends in
      record {
        over = record {
          runs = record {
            story = longer past m (Arrives came) (λ none. none) (omega (arith, h.over.runs.moment, on)) h.over.runs.story;
            moment = omega arith;
            lawful = (h.over.well, h.over.runs.lawful);
            dutiful = (no_close, h.over.runs.dutiful);
          };
          closed = h.over.closed;
          well = refl;
          over = h.over.over;
          owes = h.over.owes;
          pays = λ seq ack is. let not_it = sym h.at ∙ is in absurd cc;
          came = λ seq ack is. let not_it = sym h.at ∙ is in absurd cc;
        };
        at = h.at;
        begun = rest_goes_on past m since came h.begun ∙ ap (λ (b : Bool). if b then None else Some (if renews came then m else since)) goes_on;
        theirs = same_number past later same_syn ∙ h.theirs;
        out = h.out;
        shift = ap (λ (o : Option ℕ). if not (s.scales && is_some o) then 0 else least_shift s.ring) (same_scale past later same_syn) ∙ h.shift;
        follows = subst (λ (g : List Up). Follows s.ring (record (part_of c up) { ack_owed = owed }) g) (sym same_guest) (follows_owed s.ring (part_of c up) owed (guest past)
            (λ is. (only is).0) h.follows);
        ends = record { low = e.low; kept_low = e.kept_low; fin = e.fin; was_sure = e.was_sure; is_sure = e.is_sure; at = e.at; order = e.order };
        next = h.next;
        ended = h.ended;
        fin_out = h.fin_out ∙ ap (λ (x : End). is_sent x) (sym end_is);
        first = same_host.0 ∙ h.first ∙ sym first_is;
        sent = same_host.1 ∙ h.sent ∙ sym sent_is;
        granted = h.granted;
        prompted = λ is. refl;
        answered = λ is. answers (only is).1 (h.answered (only is).0);
      }
    where
      answers : renews came ≡ false → fin_is_answered past ≡ true → (not (renews came) && fin_is_answered past) ≡ true
      answers is so = rw (is, so) refl

  -- the guest's end is taken: nothing more is
  up_still : up_after c.received tcp.seq tcp.body up ≡ up
  up_still = ap (λ (b : Bool). if b then up else after_join (placed (place_in c.received tcp.seq) c.received.taken tcp.body up)) h.ended

  received_still : received_after c.received tcp.seq tcp.body (is_fin tcp) up ≡ c.received
  received_still =
      ap (λ (u : Upward). record c.received {
        taken = c.received.taken + (length u.held - length up.held);
        ended = c.received.ended || is_end_taken c.received tcp.seq tcp.body (is_fin tcp) (c.received.taken + (length u.held - length up.held));
      }) up_still
      ∙ ap (λ (k : ℕ). record c.received { taken = k; ended = c.received.ended || is_end_taken c.received tcp.seq tcp.body (is_fin tcp) k })
      (let same : c.received.taken + (length up.held - length up.held) ≡ c.received.taken = omega arith in same)
      ∙ ap (λ (b : Bool). record c.received { ended = b }) (by c.received.ended (is_end_taken c.received tcp.seq tcp.body (is_fin tcp) c.received.taken) h.ended)
    where
      by : (a b : Bool) → a ≡ true → (a || b) ≡ a
      by true b is = refl
      by false b is = absurd cc

  -- the sending half after an acknowledgement
  acked_first : (w : ℕ) (bare : Bool) (seen : AckSeen) (d : Downward) → ((after_ack c.transmission d (record { 0 = tcp.seq }) w bare m seen).first ≡ c.transmission.first)
      × ((after_ack c.transmission d (record { 0 = tcp.seq }) w bare m seen).sent ≡ c.transmission.sent) ×
      ((after_ack c.transmission d (record { 0 = tcp.seq }) w bare m seen).end ≡ c.transmission.end)
  acked_first w bare seen d = by (is_accepted_ack seen)
    where
      u : Transmission
      u = heard_by c.transmission (record { 0 = tcp.seq }) w bare m seen

      by : (b : Bool) → ((if b then watched_over (heard_by c.transmission (record { 0 = tcp.seq }) w bare m seen) d m else c.transmission).first ≡ c.transmission.first)
          × ((if b then watched_over (heard_by c.transmission (record { 0 = tcp.seq }) w bare m seen) d m else c.transmission).sent ≡ c.transmission.sent)
          × ((if b then watched_over (heard_by c.transmission (record { 0 = tcp.seq }) w bare m seen) d m else c.transmission).end ≡ c.transmission.end)
      by true =
          let stays = heard_stays c.transmission (record { 0 = tcp.seq }) w bare m seen in
          let same = watched_outward (heard_by c.transmission (record { 0 = tcp.seq }) w bare m seen) d
          (nat_lt (heard_by c.transmission (record { 0 = tcp.seq }) w bare m seen).sent (places (heard_by c.transmission (record { 0 = tcp.seq }) w bare m seen) d)) m in (
            ap (λ (o : Outward). o.first) same ∙ stays.first,
            ap (λ (o : Outward). o.sent) same ∙ stays.sent,
            watched_end (heard_by c.transmission (record { 0 = tcp.seq }) w bare m seen) d (nat_lt (heard_by c.transmission (record { 0 = tcp.seq }) w bare m seen).sent
                (places (heard_by c.transmission (record { 0 = tcp.seq }) w bare m seen) d)) m ∙ stays.end,
          )
      by false = (refl, refl, refl)

  no_renewal : (b d e : Bool) → (b ≡ false) ⊎ ((d ≡ true) ⊎ (e ≡ true)) → (came.fin && b && not d && not e) ≡ false
  no_renewal b d e is = by came.fin b d e is
    where
      by : (a b d e : Bool) → (b ≡ false) ⊎ ((d ≡ true) ⊎ (e ≡ true)) → (a && b && not d && not e) ≡ false
      by false b d e is = refl
      by true false d e is = refl
      by true true true e is = refl
      by true true false e (inl is) = absurd cc
      by true true false e (inr (inl is)) = absurd cc
      by true true false true (inr (inr is)) = refl
      by true true false false (inr (inr is)) = absurd cc

  -- the verdict is one of three
  abbrev Result : Type 0
  Result = IsInTimeWait s (after_segment c up down tcp m) up down later m (if renews came then m else since) × (up_after_segment c up down tcp ≡ up)

  as_ignored : verdict_of c up tcp ≡ Ignored → (came.ack ≡ false) ⊎ ((came.syn ≡ true) ⊎ (came.rst ≡ true)) → Result
  as_ignored is flag = (
    subst (λ (v : Verdict). IsInTimeWait s (conn_by v c up down tcp m) up down later m (if renews came then m else since)) (sym is)
        (rests_as c.transmission c.ack_owed c.fin_acked refl refl refl (λ none. (none, no_renewal came.ack came.syn came.rst flag))),
    ap (λ (v : Verdict). up_by v c up down tcp) is,
  )

  as_challenged : verdict_of c up tcp ≡ Challenged → Result
  as_challenged is = (
    subst (λ (v : Verdict). IsInTimeWait s (conn_by v c up down tcp m) up down later m (if renews came then m else since)) (sym is)
        (rests_as c.transmission true c.fin_acked refl refl refl (λ none. absurd cc)),
    ap (λ (v : Verdict). up_by v c up down tcp) is,
  )

  -- one that is heeded
  abbrev w : ℕ
  w = window_in c tcp

  abbrev seen : AckSeen
  seen = seen_of c.transmission down tcp.ack

  abbrev heard_now : Connection
  heard_now = acknowledged c down tcp w (is_bare tcp) m

  opened_still : opened c ≡ c
  opened_still = ap (λ (b : Bool). if b then established c else c) (ap (λ st. is_syn_received st) h.at)

  far_or : (a b : Bool) → (a || b) ≡ false → (a ≡ false) × (b ≡ false)
  far_or true b is = absurd cc
  far_or false b is = (refl, is)

  as_heeded : verdict_of c up tcp ≡ Heeded → Result
  as_heeded is = (
    subst (λ (v : Verdict). IsInTimeWait s (conn_by v c up down tcp m) up down later m (if renews came then m else since)) (sym is)
        (subst (λ (x : Connection). IsInTimeWait s (if is_past x down tcp then acknowledged x down tcp (window_in x tcp) (is_bare tcp) m else settled
        (arrived (acknowledged x down tcp (window_in x tcp) (is_bare tcp) m) up tcp)) up down later m (if renews came then m else since))
        (sym opened_still) (by (is_too_far seen) refl)),
    ap (λ (v : Verdict). up_by v c up down tcp) is ∙ up_is (is_past (opened c) down tcp),
  )
    where
      up_is : (b : Bool) → (if b then up else up_after c.received tcp.seq tcp.body up) ≡ up
      up_is true = refl
      up_is false = up_still

      acked : (after_ack c.transmission (without (octets_acked seen) down) (record { 0 = tcp.seq }) w (is_bare tcp) m seen).first ≡ c.transmission.first
      acked = (acked_first w (is_bare tcp) seen (without (octets_acked seen) down)).0

      three : ((after_ack c.transmission (without (octets_acked seen) down) (record { 0 = tcp.seq }) w (is_bare tcp) m seen).first ≡ c.transmission.first)
          × ((after_ack c.transmission (without (octets_acked seen) down) (record { 0 = tcp.seq }) w (is_bare tcp) m seen).sent ≡ c.transmission.sent)
          × ((after_ack c.transmission (without (octets_acked seen) down) (record { 0 = tcp.seq }) w (is_bare tcp) m seen).end ≡ c.transmission.end)
      three = acked_first w (is_bare tcp) seen (without (octets_acked seen) down)

      or_on : (a b : Bool) → b ≡ true → (a || b) ≡ false → ⊥
      or_on true b is so = absurd cc
      or_on false b is so = let not_it = sym is ∙ so in absurd cc

      arrived_rests : IsInTimeWait s (arrived heard_now up tcp) up down later m (if renews came then m else since)
      arrived_rests =
          subst (λ (r : Received). IsInTimeWait s (record c {
            received = r;
            transmission = after_ack c.transmission (without (octets_acked seen) down) (record { 0 = tcp.seq }) w (is_bare tcp) m seen;
            ack_owed = (c.ack_owed || is_too_far seen) || is_to_acknowledge c.received tcp.seq tcp.body (is_fin tcp);
            fin_acked = c.fin_acked || is_fin_too seen;
          }) up down later m (if renews came then m else since)) (sym received_still)
          (rests_as (after_ack c.transmission (without (octets_acked seen) down) (record { 0 = tcp.seq }) w (is_bare tcp) m seen)
          ((c.ack_owed || is_too_far seen) || is_to_acknowledge c.received tcp.seq tcp.body (is_fin tcp)) (c.fin_acked || is_fin_too seen) three.0 three.1 three.2
          (λ none.
          let quiet = none_owed c.received tcp.seq tcp.body (is_fin tcp) (c.ack_owed || is_too_far seen) none in
          ((far_or c.ack_owed (is_too_far seen) quiet.0).0, ap (λ (b : Bool). b && came.ack && not came.syn && not came.rst) quiet.2)))

      settled_is : settled (arrived heard_now up tcp) ≡ arrived heard_now up tcp
      settled_is = ap (λ (b : Bool). if b then (if closes_first (arrived heard_now up tcp) then record (arrived heard_now up tcp) { stage = stage.TimeWait } else record
          (arrived heard_now up tcp) { stage = stage.Closed }) else arrived heard_now up tcp)
          (ap (λ (st : Stage). is_synchronized st && (arrived heard_now up tcp).host_ended && (arrived heard_now up tcp).fin_acked && (arrived heard_now up tcp).end_acknowledged) h.at)

      by : (b : Bool) → is_too_far seen ≡ b → IsInTimeWait s (if b then heard_now else settled (arrived heard_now up tcp)) up down later m (if renews came then m else since)
      by true far =
          rests_as (after_ack c.transmission (without (octets_acked seen) down) (record { 0 = tcp.seq }) w (is_bare tcp) m seen) (c.ack_owed || is_too_far seen)
          (c.fin_acked || is_fin_too seen) three.0 three.1 three.2
          (λ none. absurd (or_on c.ack_owed (is_too_far seen) far none))
      by false near = subst (λ (x : Connection). IsInTimeWait s x up down later m (if renews came then m else since)) (sym settled_is) arrived_rests

  -- a reset at the next number would end the rest
  not_reset : came.rst ≡ true → is_next c tcp ≡ true → ⊥
  not_reset rst next =
      let number = rest_next past (part_of c up) c.end_acknowledged c.ours_first c.acknowledged c.received.first h.ends h.theirs (h.follows.first) in
      or_rst came.rst (nat_eq came.number (number_of (unwrap_or (their_number past) 0) (ackd (guest past)))) _ rst
      (ap (λ (n : ℕ). nat_eq came.number n) (number ∙ h.next) ∙ next) goes_on
    where
      or_rst : (a b d : Bool) → a ≡ true → b ≡ true → ((a && b) || d) ≡ false → ⊥
      or_rst true true d a_is b_is so = absurd cc
      or_rst true false d a_is b_is so = absurd cc
      or_rst false b d a_is b_is so = absurd cc

  pub rest_arrives : Result
  rest_arrives = by (is_rst tcp) (is_next c tcp) (is_in_window c up tcp) (is_syn tcp) (is_ack tcp) refl refl refl refl refl
    where
      verdict_is : (a b d e f : Bool) → is_rst tcp ≡ a → is_next c tcp ≡ b → is_in_window c up tcp ≡ d → is_syn tcp ≡ e → is_ack tcp ≡ f
          → verdict_of c up tcp ≡ (if a then (if b then Resets else (if d then Challenged else Ignored)) else (if e then Challenged else (if f then Heeded else Ignored)))
      verdict_is a b d e f a_is b_is d_is e_is f_is = ap (λ (st : Stage). verdict_by st c up tcp) h.at ∙ rw (a_is, b_is, d_is, e_is, f_is) refl

      by : (a b d e f : Bool) → is_rst tcp ≡ a → is_next c tcp ≡ b → is_in_window c up tcp ≡ d → is_syn tcp ≡ e → is_ack tcp ≡ f → Result
      by true true d e f a_is b_is d_is e_is f_is = absurd (not_reset a_is b_is)
      by true false true e f a_is b_is d_is e_is f_is = as_challenged (verdict_is true false true e f a_is b_is d_is e_is f_is)
      by true false false e f a_is b_is d_is e_is f_is = as_ignored (verdict_is true false false e f a_is b_is d_is e_is f_is) (inr (inr a_is))
      by false b d true f a_is b_is d_is e_is f_is = as_challenged (verdict_is false b d true f a_is b_is d_is e_is f_is)
      by false b d false true a_is b_is d_is e_is f_is = as_heeded (verdict_is false b d false true a_is b_is d_is e_is f_is)
      by false b d false false a_is b_is d_is e_is f_is = as_ignored (verdict_is false b d false false a_is b_is d_is e_is f_is) (inl f_is)

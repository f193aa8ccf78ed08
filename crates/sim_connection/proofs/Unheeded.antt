-- A segment arrives that isn't heeded: nothing is taken of it, and it acknowledges nothing.
use Rattle.std.proofs.Common.{not, refl, ◌≡◌, ℕ, ◌≤◌, List, ◌∷◌, Bool, true, false, ◌&&◌, ◌||◌, Option, None, Some, is_some, if◌then◌else◌, IsTrue, ap, subst, sym, ◌∙◌, inl, inr, ◌⊎◌, arith}
use Rattle.std.specs.Option.{option_or, option_map}
use Rattle.sock_buffers.specs.Downward.{Downward}
use Rattle.sock_buffers.specs.Upward.{Upward}
use Rattle.tcp_receive.specs.Received.{next_number}
use Rattle.tcp_connection.specs.Connection.{Connection, HasBuffers}
use Rattle.spec_flow.specs.Settings.{Settings}
use Rattle.spec_flow.specs.Event.{Arrives, At, Segment, Story}
use Rattle.spec_flow.specs.Guest.{AckIsDue, Came, Conforming, Up, was_acked}
use Rattle.spec_flow.specs.Host.{Confirmed, Down, answered, is_acceptable}
use Rattle.spec_flow.specs.Flow.{confirms, greets, guest, host, is_heeded, is_plain, is_under_way, their_number, their_syn}
use Rattle.spec_flow.specs.Close.{renews}
use Rattle.spec_flow.specs.Dutiful.{MustClose, fin_is_answered}
use Rattle.spec_flow.proofs.Sides.{guest_came, guest_passed, host_confirmed, host_passed}
use Rattle.spec_flow.proofs.Streams.{earlier}
use Rattle.sim_halves.specs.Ends.{IsCurrent}
use Rattle.sim_halves.specs.Follows.{Follows}
use Rattle.sim_halves.specs.Part.{Part}
use Rattle.sim_halves.specs.Received.{received as taken_of}
use Rattle.sim_halves.specs.Resends.{Resends}
use Rattle.sim_halves.specs.Sends.{Keeps, Outward}
use Rattle.sim_halves.proofs.Edges.{no_window}
use Rattle.sim_halves.proofs.EndSteps.{no_heed, no_part}
use Rattle.sim_halves.proofs.Heard.{not_acceptable, old_acked, unheard}
use Rattle.sim_halves.proofs.Reasons.{by_arrival}
use Rattle.sim_halves.proofs.Resets.{came_current}
use Rattle.sim_halves.proofs.Steps.{passed}
use Rattle.sim_halves.proofs.Wanting.{reset_at_next}
use Rattle.sim_connection.specs.Holding.{Gives, Holds, Receives, is_calls, is_at_connecting}
use Rattle.sim_connection.specs.Seen.{count_of, outward_of, part_of, resending_of, timer_of}
use Rattle.sim_connection.proofs.Counting.{counts_on, unmoved_at}
use Rattle.sim_connection.proofs.Acking.{way_same}
use Rattle.sim_connection.proofs.Going.{comes}
use Rattle.sim_connection.proofs.Quiet.{opened_beside, opened_on}
use Rattle.sim_connection.proofs.Unanswered.{calls_heard}

-- more is owed
pub follows_owed : (ring : ℕ) (p : Part) (owed : Bool) (past : List Up) → (owed ≡ false → p.ack_owed ≡ false) → Follows ring p past → Follows ring (record p { ack_owed = owed }) past
follows_owed ring p owed past only f = record {
  first = f.first;
  count = f.count;
  taken = f.taken;
  acknowledged = f.acknowledged;
  told = f.told;
  brought = f.brought;
  carried = f.carried;
  end = f.end;
  kept_brought = f.kept_brought;
  kept_carried = f.kept_carried;
  size = f.size;
  within = f.within;
  asked = f.asked;
  settled = λ none. f.settled (only none);
}

pub syn_stays : (o q : Option Segment) → is_some (option_map (λ (seg : Segment). seg.number) o) ≡ true → option_or o q ≡ o
syn_stays None q is = absurd cc
syn_stays (Some syn) q is = refl

-- an acknowledgement that isn't acceptable leaves the host's stream
kept_still : (o : Outward) (past : List Down) (n : ℕ) → is_acceptable past n ≡ false → Keeps o past → Keeps o (Confirmed n ∷ past)
kept_still o past n old k =
    let same = old_acked past n old in
    record { first = k.first; before = rw same k.before; held = k.held; ended = k.ended; sent = k.sent; acked = k.acked ∙ sym same }

or_none : (a b : Bool) → a ≡ false → (a || b) ≡ b
or_none a b is = rw is refl

and_right : (a b : Bool) → (a && b) ≡ false → a ≡ true → b ≡ false
and_right true b is so = is
and_right false b is so = absurd cc

module _ (s : Settings) (c : Connection) (up : Upward) (down : Downward) (past : Story) (now m : ℕ) (seg : Segment) (on : now ≤ m) (h : Holds s c up down past now)
    (none : (confirms past seg && is_acceptable (host past) seg.acknowledgement) ≡ false) where
  abbrev after : Story
  after = At m (Arrives seg) ∷ past

  -- ---- the host's stream

  kept : Keeps (outward_of c.transmission down) (host after)
  kept = by (confirms past seg) refl
    where
      by : (b : Bool) → confirms past seg ≡ b → Keeps (outward_of c.transmission down) (host after)
      by true is = subst (λ (g : List Down). Keeps (outward_of c.transmission down) g) (sym (host_confirmed m past seg is))
          (kept_still (outward_of c.transmission down) (host past) seg.acknowledgement (and_right (confirms past seg) (is_acceptable (host past) seg.acknowledgement) none is) h.gives.keeps)
      by false is = subst (λ (g : List Down). Keeps (outward_of c.transmission down) g) (sym (host_passed m past seg is)) h.gives.keeps

  pub answered_same : answered (host after) ≡ answered (host past)
  answered_same = by (confirms past seg) refl
    where
      by : (b : Bool) → confirms past seg ≡ b → answered (host after) ≡ answered (host past)
      by true is = ap (λ (g : List Down). answered g) (host_confirmed m past seg is)
          ∙ or_none (is_acceptable (host past) seg.acknowledgement) (answered (host past)) (and_right (confirms past seg) (is_acceptable (host past) seg.acknowledgement) none is)
      by false is = ap (λ (g : List Down). answered g) (host_passed m past seg is)

  way : is_under_way after ≡ is_under_way past
  way = way_same past after (outward_of c.transmission down) (outward_of c.transmission down) h.gives.keeps kept refl refl answered_same refl

  runs : Resends after m (timer_of (resending_of c)) (count_of (is_under_way past) (resending_of c)) (resending_of c).estimate.wait
  runs = by (confirms past seg) refl
    where
      by : (b : Bool) → confirms past seg ≡ b → Resends after m (timer_of (resending_of c)) (count_of (is_under_way past) (resending_of c)) (resending_of c).estimate.wait
      by true is = not_acceptable past seg m is (and_right (confirms past seg) (is_acceptable (host past) seg.acknowledgement) none is) now (timer_of (resending_of c))
          (count_of (is_under_way past) (resending_of c)) (resending_of c).estimate.wait on h.gives.resends
      by false is = unheard past seg m now (timer_of (resending_of c)) (count_of (is_under_way past) (resending_of c)) (resending_of c).estimate.wait is on h.gives.resends

  pub gives_after : (syn_owed ack_owed : Bool) → (c.syn_owed ≡ true → syn_owed ≡ true) → Gives s (record c { syn_owed = syn_owed; ack_owed = ack_owed }) down after m
  gives_after syn_owed ack_owed keeps_syn =
      let g = h.gives in
      record {
        keeps = kept;
        fin_acked = g.fin_acked;
        fin_out = g.fin_out;
        window = no_window s past m seg none ∙ g.window;
        alone = g.alone;
        resends = subst (λ (b : Bool). Resends after m (timer_of (resending_of c)) (count_of b (resending_of c)) (resending_of c).estimate.wait) (sym way) runs;
        counts = counts_on past after c.transmission.resend.timer refl (unmoved_at past m seg none) (omega (arith, g.resends.moment, on)) g.counts;
        calls = calls_heard (record c { syn_owed = syn_owed; ack_owed = ack_owed }) past m seg;
        steady = g.steady;
        unset = g.unset;
        set = g.set;
        owes_syn = λ opening over. keeps_syn (g.owes_syn opening over);
        syn_again = λ is owed gone. by_arrival past m m seg;
        again = λ is under. by_arrival past m m seg;
      }

  -- ---- the guest's stream

  module _ (known : is_calls c.stage ≡ false) (unheeded : is_heeded past seg ≡ false) (apart : seg.rst ≡ true → seg.number ≡ next_number c.received → ⊥) where
    is_known : is_some (their_number past) ≡ true
    is_known = ap (λ (n : Option ℕ). is_some n) (h.opened.theirs ∙ ap (λ (b : Bool). if b then None else Some c.received.first) known)

    same_syn : their_syn after ≡ their_syn past
    same_syn = syn_stays (their_syn past) (if greets past seg then Some seg else None) is_known

    answers : renews seg ≡ false → fin_is_answered past ≡ true → (not (renews seg) && fin_is_answered past) ≡ true
    answers is so = rw (is, so) refl

    receives_by : (syn_owed ack_owed : Bool) → (ack_owed ≡ false → c.ack_owed ≡ false) → (ack_owed ≡ false → c.end_acknowledged ≡ true → renews seg ≡ false) → (b : Bool) →
        is_plain seg ≡ b → Receives s (record c { syn_owed = syn_owed; ack_owed = ack_owed }) up after
    receives_by syn_owed ack_owed only fresh true plain =
        let r = h.receives known in
        let same : guest after ≡ Came seg.number seg.octets seg.fin false ∷ guest past =
        guest_came m past seg h.goes.open_yet is_known plain ∙ ap (λ (b : Bool). Came seg.number seg.octets seg.fin b ∷ guest past) unheeded in
        let e = no_heed past (part_of c up) c.end_acknowledged c.ours_first c.acknowledged m seg (guest_came m past seg h.goes.open_yet is_known plain) r.ends in
        record {
          follows = subst (λ (g : List Up). Follows s.ring (record (part_of c up) { ack_owed = ack_owed }) g) (sym same)
              (follows_owed s.ring (part_of c up) ack_owed (Came seg.number seg.octets seg.fin false ∷ guest past) only
              (passed s.ring (part_of c up) (guest past) seg.number seg.octets seg.fin r.follows));
          due = λ not_owed due. none_due (r.due (only not_owed)) (subst (λ (g : List Up). AckIsDue g) same due);
          once = λ is not_owed. subst (λ (g : List Up). IsTrue (was_acked g)) (sym same) (r.once is (only not_owed));
          ends = record { low = e.low; kept_low = e.kept_low; fin = e.fin; was_sure = e.was_sure; is_sure = e.is_sure; at = e.at; order = e.order };
          current = subst (λ (g : List Up). IsCurrent g (taken_of c.received.first c.received.taken c.received.ended) c.acknowledged) (sym same)
              (came_current (guest past) (taken_of c.received.first c.received.taken c.received.ended)
              (taken_of c.received.first c.received.taken c.received.ended) c.acknowledged seg.number seg.octets seg.fin false refl (inl refl) r.current);
          sure = r.sure;
          host_ended = r.host_ended;
          told = λ conforming. r.told (earlier (Came seg.number seg.octets seg.fin false) (guest past) (subst (λ (g : List Up). Conforming g) same conforming));
          answered = λ is not_owed. answers (fresh not_owed is) (r.answered is (only not_owed));
          prompted = λ is. refl;
          updated = λ quiet so. absurd cc;
        }
      where
        none_due : (AckIsDue (guest past) → ⊥) → AckIsDue (Came seg.number seg.octets seg.fin false ∷ guest past) → ⊥
        none_due before (inl (heard, so)) = absurd cc
        none_due before (inr more) = before more
    receives_by syn_owed ack_owed only fresh false plain =
        let r = h.receives known in
        let same : guest after ≡ guest past = guest_passed m past seg h.goes.open_yet is_known plain in
        let e = no_part past (part_of c up) c.end_acknowledged c.ours_first c.acknowledged m seg same r.ends in
        record {
          follows = subst (λ (g : List Up). Follows s.ring (record (part_of c up) { ack_owed = ack_owed }) g) (sym same) (follows_owed s.ring (part_of c up) ack_owed (guest past) only r.follows);
          due = λ not_owed due. r.due (only not_owed) (subst (λ (g : List Up). AckIsDue g) same due);
          once = λ is not_owed. subst (λ (g : List Up). IsTrue (was_acked g)) (sym same) (r.once is (only not_owed));
          ends = record { low = e.low; kept_low = e.kept_low; fin = e.fin; was_sure = e.was_sure; is_sure = e.is_sure; at = e.at; order = e.order };
          current = subst (λ (g : List Up). IsCurrent g (taken_of c.received.first c.received.taken c.received.ended) c.acknowledged) (sym same) r.current;
          sure = r.sure;
          host_ended = r.host_ended;
          told = λ conforming. r.told (subst (λ (g : List Up). Conforming g) same conforming);
          answered = λ is not_owed. answers (fresh not_owed is) (r.answered is (only not_owed));
          prompted = λ is. refl;
          updated = λ quiet so. absurd cc;
        }

    if_some : (b : Bool) (x y : Segment) → b ≡ true ⊎ (b ≡ false) → (if b then Some x else None) ≡ Some y → (b ≡ true) × (x ≡ y)
    if_some b x y (inl is) same = let so : Some x ≡ Some y = ap (λ (d : Bool). if d then Some x else None) (sym is) ∙ same in (is, cc)
    if_some b x y (inr is) same = let so : None ≡ Some y = ap (λ (d : Bool). if d then Some x else None) (sym is) ∙ same in absurd cc

    either : (b : Bool) → (b ≡ true) ⊎ (b ≡ false)
    either true = inl refl
    either false = inr refl

    free : MustClose after → ⊥
    free must =
        let two = if_some seg.rst seg must.0 (either seg.rst) must.1 in
        apart two.0 (ap (λ (g : Segment). g.number) two.1 ∙ reset_at_next s after (part_of c up) (h.receives known).follows must)

    pub stays : (syn_owed ack_owed : Bool) → (c.syn_owed ≡ true → syn_owed ≡ true) → (ack_owed ≡ false → c.ack_owed ≡ false) → (is_at_connecting c.stage ≡ true → ack_owed ≡ false) →
        (ack_owed ≡ false → c.end_acknowledged ≡ true → renews seg ≡ false)
        → HasBuffers (record c { syn_owed = syn_owed; ack_owed = ack_owed }) up down → Holds s (record c { syn_owed = syn_owed; ack_owed = ack_owed }) up down after m
    stays syn_owed ack_owed keeps_syn only calm fresh buffers =
        let o = opened_on s c past after (record { ours = refl; connecting = refl; out = refl; accepted = refl; theirs = same_syn; unasked = refl }) answered_same h.opened in
        record {
          suits = record { ring = h.suits.ring; congestion = h.suits.congestion; scales = h.suits.scales; few = h.suits.few };
          buffers = buffers;
          within = h.within;
          goes = comes s past now m (Arrives seg) h.goes on (λ so. so) refl h.goes.open_yet refl free;
          opened = opened_beside s c (record c { syn_owed = syn_owed; ack_owed = ack_owed }) after refl refl keeps_syn calm o;
          awaits = λ is. let not_it = sym is ∙ known in absurd cc;
          receives = λ is. receives_by syn_owed ack_owed only fresh (is_plain seg) refl;
          gives = gives_after syn_owed ack_owed keeps_syn;
        }

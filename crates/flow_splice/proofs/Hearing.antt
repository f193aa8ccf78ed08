-- A segment of the guest arrives, by what it means.
use Rattle.std.proofs.Common.{refl, ◌≡◌, ℕ, ◌<◌, ◌≤◌, ◌^◌, [], ◌∷◌, List, length, Bool, true, false, ◌&&◌, ◌||◌, None, Some, if◌then◌else◌, pos, arith, ap, subst, sym, ◌∙◌}
use Rattle.std.proofs.lemmas.Int.{ints}
use Rattle.seq_space.specs.Places.{number_of}
use Rattle.sock_buffers.specs.Downward.{Downward}
use Rattle.sock_buffers.specs.Upward.{Upward}
use Rattle.tcp_receive.specs.Coming.{Comes}
use Rattle.tcp_receive.specs.Received.{up_after}
use Rattle.tcp_segment.specs.Tcp.{Tcp}
use Rattle.tcp_transmit.specs.Acks.{IsSeenAs, octets_acked, place_acked, without}
use Rattle.tcp_transmit.specs.Transmission.{Feeds, Transmission}
use Rattle.tcp_transmit.specs.declared.AckSeen.{AckSeen}
use Rattle.tcp_transmit.specs.declared.AckSeen.TheVariants.{Old, Same, Forward, FinToo, TooFar}
use Rattle.tcp_connection.specs.Checks.{is_ack, verdict_of}
use Rattle.tcp_connection.specs.Connection.{Connection, HasBuffers, has_gone, is_syn_received, is_opening, is_synchronized}
use Rattle.tcp_connection.specs.Segments.{acknowledged, after_segment, arrived, change_at, change_by, conn_by, congested, down_after_segment, down_by, established, greeted, heard as conn_heard}
use Rattle.tcp_connection.specs.Segments.{is_bare, is_fin_too, is_done, is_past, is_too_far, opened, seen_of, settled, settling, up_after_segment, up_by}
use Rattle.tcp_connection.specs.Windows.{window_in}
use Rattle.tcp_connection.specs.declared.Change.TheVariants.{Nothing, Finished}
use Rattle.tcp_connection.specs.declared.Stage.{Stage}
use Rattle.tcp_connection.specs.declared.Stage.TheVariants as stage
use Rattle.tcp_connection.specs.declared.Verdict.{Verdict}
use Rattle.tcp_connection.specs.declared.Verdict.TheVariants.{Resets, Greets, Heeded}
use Rattle.world_face.specs.Journal.{Close, Entry}
use Rattle.spec_flow.specs.Settings.{Settings}
use Rattle.spec_flow.specs.Lawful.{HasOwnCause}
use Rattle.spec_flow.specs.Event.{Arrives, At, Closes, Segment, Story}
use Rattle.spec_flow.specs.Close.{follows_reset}
use Rattle.spec_flow.specs.Flow.{greets, host}
use Rattle.spec_flow.specs.Host.{our_place}
use Rattle.sim_halves.specs.Sends.{Keeps}
use Rattle.sim_halves.proofs.SendSteps.{place_of_number}
use Rattle.sim_connection.specs.Holding.{Holds, is_calls}
use Rattle.sim_connection.specs.Seen.{outward_of, segment_of}
use Rattle.sim_connection.proofs.Arriving.{Means, is_greeted, is_heard, is_opened, means, resets, rests, rests_holds, turns_away, waits}
use Rattle.sim_connection.proofs.Causes.{called_reset_cause, called_reset_closes, next_reset_cause, next_reset_closes}
use Rattle.sim_connection.proofs.Confirming.{place_same}
use Rattle.sim_connection.proofs.Departing.{unsettled}
use Rattle.sim_connection.proofs.Greeting.{waits_on}
use Rattle.sim_connection.proofs.Hearing.{seen_as}
use Rattle.sim_connection.proofs.Heeding.{congested_feeds, congested_same, heeds_none, heeds_now, opens_now}
use Rattle.sim_connection.proofs.Welcoming.{greets_alone, greets_and_opens}
use Rattle.flow_splice.specs.Entries.{AreEvents}
use Rattle.flow_splice.specs.Follows.{Follows, IsOpen}
use Rattle.flow_splice.specs.Guests.{Hears, heard}
use Rattle.flow_splice.specs.Hosts.{Sees, ends}
use Rattle.flow_splice.specs.Serves.{Serves}
use Rattle.flow_splice.specs.Splice.{Splice, closed, is_open}
use Rattle.flow_splice.proofs.Calm.{apart_calm, called_calm, plain_calm, waits_unturned}
use Rattle.flow_splice.proofs.Coming.{heard_dead}
use Rattle.flow_splice.proofs.Opened.{goes_on, open_follows, open_is}
use Rattle.flow_splice.proofs.Restless.{called_reset_none, next_reset_none}
use Rattle.flow_splice.proofs.Shutting.{done_follows, finished_cause, over_follows, settled_same}

module _ (f : Splice) (now : ℕ) (tcp : Tcp) (open_yet : is_open f ≡ true) (late : now ≤ 2 ^ 62) (seq_fits : tcp.seq < 2 ^ 32) (ack_fits : tcp.ack < 2 ^ 32) (few : length tcp.body ≤ 2 ^ 31)
    (buffers : HasBuffers (heard f tcp now).conn (heard f tcp now).up (heard f tcp now).down) (within : length (heard f tcp now).up.held ≤ (heard f tcp now).up.size)
    (comes : Comes f.conn.received tcp.seq tcp.body f.up (heard f tcp now).up)
    (b : Bool) (ends_is : ends (change_at f.conn f.up f.down tcp now) ≡ b) (new : Splice) (made : List Entry) (sees : Sees b (heard f tcp now) new now made) where
  module _ (s : Settings) (past : Story) (before ident : ℕ) (ended known : Bool) (on : before ≤ now) (o : IsOpen s f past before) where
    abbrev c : Connection
    c = f.conn

    abbrev seg : Segment
    seg = segment_of tcp

    abbrev after : Story
    after = At now (Arrives seg) ∷ past

    abbrev Result : Type 0
    Result = Serves s new true ended known ident now after made

    -- ---- what was made, by whether its socket is open then

    stays : IsOpen s (heard f tcp now) after now → Result
    stays h = by b ends_is sees
      where
        by : (e : Bool) → ends (change_at f.conn f.up f.down tcp now) ≡ e → Sees e (heard f tcp now) new now made → Result
        by true is saw = let not_it = sym h.holds.opened.live ∙ heard_dead f.conn f.up f.down tcp now is in absurd cc
        by false is saw = record {
          beats = [];
          are = subst (λ (es : List Entry). AreEvents s new.face new.mac true ended known ident now after es []) (sym saw.0) refl;
          follows = subst (λ (g : Splice). Follows s g after now) (sym saw.1) (open_follows s (heard f tcp now) after now open_yet h);
        }

    shuts : ends (change_at f.conn f.up f.down tcp now) ≡ true → HasOwnCause true false known now after → Follows s (closed (heard f tcp now) now) (At now (Closes true ended known) ∷ after) now → Result
    shuts over cause h = by b ends_is sees
      where
        by : (e : Bool) → ends (change_at f.conn f.up f.down tcp now) ≡ e → Sees e (heard f tcp now) new now made → Result
        by true is saw = record {
          beats = At now (Closes true ended known) ∷ [];
          are = subst (λ (es : List Entry). AreEvents s new.face new.mac true ended known ident now after es (At now (Closes true ended known) ∷ [])) (sym saw.0)
              (subst (λ (g : Splice). AreEvents s g.face g.mac true ended known ident now after (Close f.face.number ∷ []) (At now (Closes true ended known) ∷ [])) (sym saw.1)
              ([], refl, (refl, refl, cause)));
          follows = subst (λ (g : Splice). Follows s g (At now (Closes true ended known) ∷ after) now) (sym saw.1) h;
        }
        by false is saw = let not_it = sym over ∙ is in absurd cc

    -- ---- with what the connection and its buffers are then

    module _ (x : Connection) (u : Upward) (d : Downward) (c_is : after_segment c f.up f.down tcp now ≡ x) (u_is : up_after_segment c f.up f.down tcp ≡ u)
        (d_is : down_after_segment c f.up f.down tcp ≡ d) where
      has : HasBuffers x u d
      has = subst (λ (y : Connection). HasBuffers y u d) c_is (subst (λ (v : Upward). HasBuffers (after_segment c f.up f.down tcp now) v d) u_is
          (subst (λ (w : Downward). HasBuffers (after_segment c f.up f.down tcp now) (up_after_segment c f.up f.down tcp) w) d_is buffers))

      as_heard : (P : Splice → Type 0) → P (record f { conn = x; up = u; down = d; last = now }) → P (heard f tcp now)
      as_heard P p = subst (λ (y : Connection). P (record f { conn = y; up = up_after_segment c f.up f.down tcp; down = down_after_segment c f.up f.down tcp; last = now })) (sym c_is)
          (subst (λ (v : Upward). P (record f { conn = x; up = v; down = down_after_segment c f.up f.down tcp; last = now })) (sym u_is)
          (subst (λ (w : Downward). P (record f { conn = x; up = u; down = w; last = now })) (sym d_is) p))

      holds_on : Holds s x u d after now → is_done x ≡ false → (f.mac ≡ None → (is_calls x.stage ≡ true) × (has_gone x.sendings ≡ false)) →
          (x.ack_owed ≡ false → follows_reset true after ≡ false) → Result
      holds_on h unfinished unsent calm =
          stays (as_heard (λ (g : Splice). IsOpen s g after now) (goes_on s f x u d f.told_end past before now (Arrives seg) on (λ none. none) o h o.told unfinished unsent calm))

    -- the connection is gone
    gone : verdict_of c f.up tcp ≡ Resets → HasOwnCause true false known now after → Follows s (closed (record f { conn = record c { stage = stage.Closed }; last = now }) now)
        (At now (Closes true ended known) ∷ after) now → Result
    gone is cause h =
        shuts (ap (λ (v : Verdict). ends (change_by v c f.up f.down tcp now)) is) cause
        (as_heard (record c { stage = stage.Closed }) f.up f.down (ap (λ (v : Verdict). conn_by v c f.up f.down tcp now) is) (ap (λ (v : Verdict). up_by v c f.up f.down tcp) is)
        (ap (λ (v : Verdict). down_by v c f.down tcp) is)
        (λ (g : Splice). Follows s (closed g now) (At now (Closes true ended known) ∷ after) now) h)

    -- ---- one that is heeded, by what the connection makes of itself then

    module _ (x : Connection) (u : Upward) (d : Downward) (c_is : after_segment c f.up f.down tcp now ≡ settled x) (u_is : up_after_segment c f.up f.down tcp ≡ u)
        (d_is : down_after_segment c f.up f.down tcp ≡ d)
        (change_is : change_at c f.up f.down tcp now ≡ settling x) (rst : seg.rst ≡ false) where
      settles : Holds s x u d after now → (f.mac ≡ None → (is_calls x.stage ≡ true) × (has_gone x.sendings ≡ false)) → Result
      settles h unsent = by (is_done x) refl
        where
          by : (e : Bool) → is_done x ≡ e → Result
          by true done =
              shuts (ap ends change_is ∙ ap (λ (e : Bool). ends (if e then Finished else Nothing)) done)
              (finished_cause s (record f { up = u; down = d }) x after now true known h done (ap (λ (e : Bool). if e then Some seg else None) rst))
              (as_heard (settled x) u d c_is u_is d_is (λ (g : Splice). Follows s (closed g now) (At now (Closes true ended known) ∷ after) now)
              (done_follows s (record f { up = u; down = d; last = now }) x after now true ended known h done (ap (λ (e : Bool). if e then Some seg else None) rst) o.mru (λ none. (unsent none).0)))
          by false unfinished = holds_on x u d (c_is ∙ settled_same x unfinished) u_is d_is h unfinished unsent (λ unowed. plain_calm past now seg rst)

    -- ---- the acknowledgement of our SYN isn't of what was never sent

    module _ (at : c.stage ≡ stage.SynReceived) (number : tcp.ack ≡ number_of c.ours 0) where
      opening : is_opening c.stage ≡ true
      opening = ap (λ (st : Stage). is_opening st) at

      abbrev t1 : Transmission
      t1 = congested c

      feeds1 : Feeds t1 f.down
      feeds1 = congested_feeds c f.down o.holds.buffers.feeds

      keeps1 : Keeps (outward_of t1 f.down) (host past)
      keeps1 = subst (λ k. Keeps k (host past)) (sym ((congested_same c).5 f.down)) o.holds.gives.keeps

      sent1 : t1.sent ≡ 0
      sent1 = (congested_same c).2 ∙ o.holds.buffers.sound.unsent opening

      place1 : place_acked t1 tcp.ack ≡ pos 0
      place1 = sym (place_same t1 f.down (host past) tcp.ack keeps1)
          ∙ ap (λ (n : ℕ). our_place (host past) n) (number ∙ ap (λ (k : ℕ). number_of k 0) (sym (sym keeps1.first ∙ (congested_same c).0 ∙ o.holds.buffers.sound.first)))
          ∙ place_of_number (host past) 0 (omega arith) (omega (arith, keeps1.sent, sent1))

      not_far : is_too_far (seen_of t1 f.down tcp.ack) ≡ false
      not_far = by (seen_of t1 f.down tcp.ack) (seen_as t1 f.down tcp.ack feeds1)
        where
          by : (q : AckSeen) → IsSeenAs t1 f.down (place_acked t1 tcp.ack) q → is_too_far q ≡ false
          by Old is = refl
          by Same is = refl
          by (Forward n) is = refl
          by (FinToo n) is = refl
          by TooFar is = absurd (omega (arith, ints, is, place1, sent1))

    -- ---- the three that change the streams

    greeting : verdict_of c f.up tcp ≡ Greets → (at : c.stage ≡ stage.SynSent) → has_gone c.sendings ≡ true → (greets_it : greets past seg ≡ true) → seg.rst ≡ false →
        seg.syn ≡ true → (seg.ack ≡ true → tcp.ack ≡ number_of c.ours 0) → Result
    greeting is at out greets_it rst syn number = by (is_ack tcp) refl
      where
        unfinished : (y : Connection) → y.host_ended ≡ false → is_done y ≡ false
        unfinished y none = no_second (is_synchronized y.stage) y.host_ended y.fin_acked y.end_acknowledged none
          where
            no_second : (p q r t : Bool) → q ≡ false → (p && q && r && t) ≡ false
            no_second true q r t none = ap (λ (e : Bool). e && r && t) none
            no_second false q r t none = refl

        calls : is_calls c.stage ≡ true
        calls = ap (λ (st : Stage). is_calls st) at

        known_now : f.mac ≡ None → ⊥
        known_now none = let not_it = sym out ∙ (o.unsent none).1 in cc

        by : (e : Bool) → is_ack tcp ≡ e → Result
        by true ack =
            let x : Connection = acknowledged (established (greeted c tcp)) f.down tcp tcp.window false now in
            let d : Downward = without (octets_acked (seen_of (established (greeted c tcp)).transmission f.down tcp.ack)) f.down in
            let c_is : after_segment c f.up f.down tcp now ≡ x = ap (λ (v : Verdict). conn_by v c f.up f.down tcp now) is ∙ ap (λ (e : Bool). if e then x else greeted c tcp) ack in
            let u_is = ap (λ (v : Verdict). up_by v c f.up f.down tcp) is in
            let d_is : down_after_segment c f.up f.down tcp ≡ d = ap (λ (v : Verdict). down_by v c f.down tcp) is ∙ ap (λ (e : Bool). if e then d else f.down) ack in
            holds_on x f.up d c_is u_is d_is
            (greets_and_opens s c f.up f.down past before now tcp on late o.holds at out greets_it rst syn ack (number ack) (has x f.up d c_is u_is d_is))
            (unfinished x (o.holds.awaits calls).host_ended) (λ none. absurd (known_now none)) (λ unowed. plain_calm past now seg rst)
        by false ack =
            let c_is : after_segment c f.up f.down tcp now ≡ greeted c tcp = ap (λ (v : Verdict). conn_by v c f.up f.down tcp now) is ∙ ap
            (λ (e : Bool). if e then acknowledged (established (greeted c tcp)) f.down tcp tcp.window false now else greeted c tcp) ack in
            let u_is = ap (λ (v : Verdict). up_by v c f.up f.down tcp) is in
            let d_is : down_after_segment c f.up f.down tcp ≡ f.down = ap (λ (v : Verdict). down_by v c f.down tcp) is ∙ ap
            (λ (e : Bool). if e then without (octets_acked (seen_of (established (greeted c tcp)).transmission f.down tcp.ack)) f.down else f.down) ack in
            holds_on (greeted c tcp) f.up f.down c_is u_is d_is
            (greets_alone s c f.up f.down past before now tcp on late o.holds at out greets_it rst syn ack (has (greeted c tcp) f.up f.down c_is u_is d_is))
            (unfinished (greeted c tcp) (o.holds.awaits calls).host_ended) (λ none. absurd (known_now none)) (λ unowed. plain_calm past now seg rst)

    opening_now : verdict_of c f.up tcp ≡ Heeded → c.stage ≡ stage.SynReceived → has_gone c.sendings ≡ true → tcp.ack ≡ number_of c.ours 0 → seg.ack ≡ true → seg.rst ≡ false → seg.syn ≡ false → Result
    opening_now is at out number ack rst syn =
        let e : Connection = established c in
        let x : Connection = arrived (acknowledged e f.down tcp (window_in c tcp) (is_bare tcp) now) f.up tcp in
        let u : Upward = up_after c.received tcp.seq tcp.body f.up in
        let d : Downward = without (octets_acked (seen_of (congested c) f.down tcp.ack)) f.down in
        let opened_is : opened c ≡ e = ap (λ (st : Stage). if is_syn_received st then e else c) at in
        let near : is_past (opened c) f.down tcp ≡ false = ap (λ (y : Connection). is_past y f.down tcp) opened_is ∙ not_far at number in
        let c_is : after_segment c f.up f.down tcp now ≡ settled x =
        ap (λ (v : Verdict). conn_by v c f.up f.down tcp now) is
        ∙ ap (λ (p : Bool). if p then conn_heard c f.down tcp now else settled (arrived (conn_heard c f.down tcp now) f.up tcp)) near
        ∙ ap (λ (y : Connection). settled (arrived (acknowledged y f.down tcp (window_in y tcp) (is_bare tcp) now) f.up tcp)) opened_is in
        let u_is : up_after_segment c f.up f.down tcp ≡ u = ap (λ (v : Verdict). up_by v c f.up f.down tcp) is ∙ ap (λ (p : Bool). if p then f.up else u) near in
        let d_is : down_after_segment c f.up f.down tcp ≡ d = ap (λ (v : Verdict). down_by v c f.down tcp) is ∙ ap
        (λ (y : Connection). without (octets_acked (seen_of y.transmission f.down tcp.ack)) f.down) opened_is in
        let change_is : change_at c f.up f.down tcp now ≡ settling x =
        ap (λ (v : Verdict). change_by v c f.up f.down tcp now) is
        ∙ ap (λ (p : Bool). if p then Nothing else settling (arrived (conn_heard c f.down tcp now) f.up tcp)) near
        ∙ ap (λ (y : Connection). settling (arrived (acknowledged y f.down tcp (window_in y tcp) (is_bare tcp) now) f.up tcp)) opened_is in
        let kept = unsettled x u d (has (settled x) u d c_is u_is d_is) in
        settles x u d c_is u_is d_is change_is rst
        (opens_now s c f.up f.down past before now tcp on late o.holds at out number ack rst syn seq_fits few
        (subst (λ (v : Upward). Comes c.received tcp.seq tcp.body f.up v) u_is comes) (subst (λ (v : Upward). length v.held ≤ v.size) u_is within) kept.fills kept)
        (λ none. let not_it = sym out ∙ (o.unsent none).1 in absurd cc)

    hearing_now : verdict_of c f.up tcp ≡ Heeded → c.stage ≡ stage.Synchronized → seg.ack ≡ true → seg.rst ≡ false → seg.syn ≡ false → Result
    hearing_now is at ack rst syn = by (is_too_far (seen_of c.transmission f.down tcp.ack)) refl
      where
        no_call : is_calls c.stage ≡ false
        no_call = ap (λ (st : Stage). is_calls st) at

        late_stage : is_opening c.stage ≡ false
        late_stage = ap (λ (st : Stage). is_opening st) at

        sync : is_synchronized c.stage ≡ true
        sync = ap (λ (st : Stage). is_synchronized st) at

        opened_is : opened c ≡ c
        opened_is = ap (λ (st : Stage). if is_syn_received st then established c else c) at

        d : Downward
        d = without (octets_acked (seen_of c.transmission f.down tcp.ack)) f.down

        known_now : f.mac ≡ None → ⊥
        known_now none = let not_it = sym (o.unsent none).0 ∙ no_call in cc

        past_is : is_past (opened c) f.down tcp ≡ is_too_far (seen_of c.transmission f.down tcp.ack)
        past_is = ap (λ (y : Connection). is_past y f.down tcp) opened_is

        d_is : down_after_segment c f.up f.down tcp ≡ without (octets_acked (seen_of c.transmission f.down tcp.ack)) f.down
        d_is = ap (λ (v : Verdict). down_by v c f.down tcp) is ∙ ap (λ (y : Connection). without (octets_acked (seen_of y.transmission f.down tcp.ack)) f.down) opened_is

        fin_none : (q : AckSeen) → is_too_far q ≡ true → is_fin_too q ≡ false
        fin_none Old far = absurd cc
        fin_none Same far = absurd cc
        fin_none (Forward n) far = absurd cc
        fin_none (FinToo n) far = absurd cc
        fin_none TooFar far = refl

        or_none : (p q : Bool) → q ≡ false → (p || q) ≡ p
        or_none true q none = refl
        or_none false q none = none

        by : (e : Bool) → is_too_far (seen_of c.transmission f.down tcp.ack) ≡ e → Result
        by true far =
            let x : Connection = acknowledged c f.down tcp (window_in c tcp) (is_bare tcp) now in
            let c_is : after_segment c f.up f.down tcp now ≡ x =
            ap (λ (v : Verdict). conn_by v c f.up f.down tcp now) is
            ∙ ap (λ (p : Bool). if p then conn_heard c f.down tcp now else settled (arrived (conn_heard c f.down tcp now) f.up tcp)) (past_is ∙ far)
            ∙ ap (λ (y : Connection). acknowledged y f.down tcp (window_in y tcp) (is_bare tcp) now) opened_is in
            let u_is : up_after_segment c f.up f.down tcp ≡ f.up = ap (λ (v : Verdict). up_by v c f.up f.down tcp) is ∙ ap
            (λ (p : Bool). if p then f.up else up_after c.received tcp.seq tcp.body f.up) (past_is ∙ far) in
            holds_on x f.up (without (octets_acked (seen_of c.transmission f.down tcp.ack)) f.down) c_is u_is d_is
            (heeds_none s c f.up f.down past before now tcp on late o.holds no_call late_stage sync ack rst syn far
            (has x f.up (without (octets_acked (seen_of c.transmission f.down tcp.ack)) f.down) c_is u_is d_is))
            (ap (λ (p : Bool). is_synchronized c.stage && c.host_ended && p && c.end_acknowledged) (or_none c.fin_acked (is_fin_too (seen_of c.transmission f.down tcp.ack))
            (fin_none (seen_of c.transmission f.down tcp.ack) far)) ∙ o.unfinished)
            (λ none. absurd (known_now none)) (λ unowed. plain_calm past now seg rst)
        by false near =
            let x : Connection = arrived (acknowledged c f.down tcp (window_in c tcp) (is_bare tcp) now) f.up tcp in
            let u : Upward = up_after c.received tcp.seq tcp.body f.up in
            let c_is : after_segment c f.up f.down tcp now ≡ settled x =
            ap (λ (v : Verdict). conn_by v c f.up f.down tcp now) is
            ∙ ap (λ (p : Bool). if p then conn_heard c f.down tcp now else settled (arrived (conn_heard c f.down tcp now) f.up tcp)) (past_is ∙ near)
            ∙ ap (λ (y : Connection). settled (arrived (acknowledged y f.down tcp (window_in y tcp) (is_bare tcp) now) f.up tcp)) opened_is in
            let u_is : up_after_segment c f.up f.down tcp ≡ u = ap (λ (v : Verdict). up_by v c f.up f.down tcp) is ∙ ap (λ (p : Bool). if p then f.up else u) (past_is ∙ near) in
            let change_is : change_at c f.up f.down tcp now ≡ settling x =
            ap (λ (v : Verdict). change_by v c f.up f.down tcp now) is
            ∙ ap (λ (p : Bool). if p then Nothing else settling (arrived (conn_heard c f.down tcp now) f.up tcp)) (past_is ∙ near)
            ∙ ap (λ (y : Connection). settling (arrived (acknowledged y f.down tcp (window_in y tcp) (is_bare tcp) now) f.up tcp)) opened_is in
            let after_d : Downward = without (octets_acked (seen_of c.transmission f.down tcp.ack)) f.down in
            let kept = unsettled x u after_d (has (settled x) u after_d c_is u_is d_is) in
            settles x u after_d c_is u_is d_is change_is rst
            (heeds_now s c f.up f.down past before now tcp on late o.holds no_call late_stage sync ack rst syn seq_fits few
            (subst (λ (v : Upward). Comes c.received tcp.seq tcp.body f.up v) u_is comes) (subst (λ (v : Upward). length v.held ≤ v.size) u_is within) kept.fills near kept)
            (λ none. absurd (known_now none))

    -- ---- all

    by_means : Means s c f.up f.down past before now tcp on o.holds → Result
    by_means (rests syn_owed ack_owed c_is u_is d_is keeps only calm no_call quiet) =
        let x : Connection = record c { syn_owed = syn_owed; ack_owed = ack_owed } in
        holds_on x f.up f.down c_is u_is d_is (rests_holds s c f.up f.down past before now tcp on o.holds ack_fits syn_owed ack_owed keeps only calm no_call quiet
        (has x f.up f.down c_is u_is d_is)) o.unfinished o.unsent
        (λ unowed. apart_calm s c f.up f.down past before now o.holds seg no_call quiet.apart (only unowed))
    by_means (waits c_is u_is d_is at none) = holds_on c f.up f.down c_is u_is d_is (waits_on s c f.up f.down past before now tcp on o.holds at none
        (has c f.up f.down c_is u_is d_is)) o.unfinished o.unsent
        (λ unowed. called_calm s c f.up f.down past before now o.holds seg (ap (λ (st : Stage). is_calls st) at) (λ rst. waits_unturned c f.up f.down tcp now at c_is rst))
    by_means (resets is no_call rst number) =
        gone is (next_reset_cause s c f.up f.down past before now on o.holds known false seg no_call rst number)
        (over_follows s (record f { conn = record c { stage = stage.Closed }; last = now }) (At now (Closes true ended known) ∷ after) now
        (next_reset_closes s c f.up f.down past before now on o.holds known ended seg no_call rst number) (λ at. cc) o.mru (λ owes. absurd cc)
        (λ none. next_reset_none s c f.up f.down past before now known o.holds seg rst no_call number))
    by_means (turns_away is calls rst ack number) =
        gone is (called_reset_cause s c f.up f.down past before now on o.holds known false seg calls rst ack number)
        (over_follows s (record f { conn = record c { stage = stage.Closed }; last = now }) (At now (Closes true ended known) ∷ after) now
        (called_reset_closes s c f.up f.down past before now on o.holds known ended seg calls rst ack number) (λ at. cc) o.mru (λ owes. absurd cc)
        (λ none. called_reset_none s c f.up f.down past before now known o.holds seg rst calls ack number))
    by_means (is_greeted is at out greets_it rst syn number) = greeting is at out greets_it rst syn number
    by_means (is_opened is at out number ack rst syn) = opening_now is at out number ack rst syn
    by_means (is_heard is at ack rst syn) = hearing_now is at ack rst syn

  pub hears : Hears f new tcp now made
  hears s past before ident ended known on h =
      let o = open_is s f past before open_yet h in
      by_means s past before ident ended known on o (means s f.conn f.up f.down past before now tcp on o.holds ack_fits)

-- The guest's SYN arrives at a flow that calls it.
use Rattle.std.proofs.Common.{refl, ◌≡◌, ℕ, ◌+◌, ◌*◌, ◌^◌, ◌≤◌, ◌∷◌, Bool, true, false, not, ◌&&◌, ◌||◌, Option, None, Some, is_some, if◌then◌else◌, min, nat_eq, nat_lt, pos, arith, ap}
use Rattle.std.proofs.Common.{subst, sym, ◌∙◌, unwrap_or, length-drop}
use Rattle.std.proofs.lemmas.Int.{ints}
use Rattle.std.specs.Option.{option_map}
use Rattle.cwnd.specs.Congestion.{Congestion}
use Rattle.retransmit.specs.Resending.{Resending, after_stop}
use Rattle.retransmit.proofs.Steady.{steady_stop}
use Rattle.seq_space.specs.Places.{number_of}
use Rattle.seq_space.specs.declared.Seq.{Seq}
use Rattle.sock_buffers.specs.Downward.{Downward}
use Rattle.sock_buffers.specs.Upward.{Upward}
use Rattle.tcp_segment.specs.Tcp.{Tcp, mss_of}
use Rattle.tcp_transmit.specs.Acks.{IsSeenAs, after_ack, is_acceptable as is_accepted_ack, octets_acked, place_acked, without}
use Rattle.tcp_transmit.specs.Timing.{watched_over}
use Rattle.tcp_transmit.specs.Transmission.{Feeds, IsOfSegments, Transmission, is_sent, octets_read, places}
use Rattle.tcp_transmit.specs.declared.AckSeen.{AckSeen}
use Rattle.tcp_transmit.specs.declared.AckSeen.TheVariants.{Old, Same, Forward, FinToo, TooFar}
use Rattle.tcp_connection.specs.Connection.{Connection, HasBuffers, has_gone, is_opening, is_synchronized, shift_of}
use Rattle.tcp_connection.specs.Segments.{acknowledged, congested, established, greeted, is_fin_too, seen_of}
use Rattle.tcp_connection.specs.declared.Stage.{Stage}
use Rattle.tcp_connection.specs.declared.Stage.TheVariants as stage
use Rattle.tcp_connection.proofs.Keeping.{greeted_has}
use Rattle.spec_flow.specs.Settings.{Settings}
use Rattle.spec_flow.specs.Event.{Arrives, At, Segment, Story}
use Rattle.spec_flow.specs.Host.{answered, is_acceptable, our_place}
use Rattle.spec_flow.specs.Flow.{confirms, greets, host, syn_is_out, their_number, their_syn}
use Rattle.spec_flow.specs.Windows.{is_scaled, their_scale, their_window}
use Rattle.spec_flow.specs.Segments.{segment_of}
use Rattle.sim_halves.specs.Sends.{Keeps}
use Rattle.sim_halves.proofs.Reasons.{by_arrival}
use Rattle.sim_halves.proofs.SendSteps.{place_of_number}
use Rattle.sim_halves.proofs.Sendings.{rises}
use Rattle.sim_connection.specs.Holding.{CountsSince, Gives, Holds, IsOpened, Receives, is_calls, is_at_connecting, is_live}
use Rattle.sim_connection.specs.Seen.{outward_of, window_by}
use Rattle.sim_connection.proofs.Confirming.{answered_now, heard_counts, heard_fin, heard_keeps, heard_steady, heard_told, place_same, syn_heard_runs}
use Rattle.sim_connection.proofs.Greeting.{goes_greeted, greeted_receives, known_now, most_now, unknown, unknown_is}
use Rattle.sim_connection.proofs.Hearing.{heard_alone, heard_by, heard_stays, seen_as}
use Rattle.sim_connection.proofs.Heeding.{congested_alone, congested_feeds, congested_resend, congested_same}
use Rattle.sim_connection.proofs.Quiet.{gives_as, gives_most}
use Rattle.sim_connection.proofs.Unheeded.{answered_same, gives_after}
use Rattle.sim_connection.proofs.Watching.{gives_watched, under_way_is, watched_mss}
use Rattle.sim_connection.proofs.Unanswered.{calls_heard}
use Rattle.sim_halves.proofs.Unheard.{heard_now}

-- with smaller pieces
limited_feeds : (t : Transmission) (down : Downward) (k : ℕ) → 64 ≤ k → t.cwnd ≡ None → Feeds t down → Feeds (record t { mss = min t.mss k }) down
limited_feeds t down k low alone f = record {
  sound = record {
    least = let least = f.sound.least in omega arith;
    most = let most = f.sound.most in omega arith;
    order = f.sound.order;
    set = f.sound.set;
    steady = f.sound.steady;
    begins = f.sound.begins;
    segments = subst (λ (o : Option Congestion). IsOfSegments o (min t.mss k)) (sym alone) tt;
    recovers = f.sound.recovers;
    early = f.sound.early;
    probes = f.sound.probes;
  };
  first = f.first;
  all = f.all;
  few = f.few;
  rests = f.rests;
  waits = f.waits;
}

module _ (s : Settings) (c : Connection) (up : Upward) (down : Downward) (past : Story) (now m : ℕ) (tcp : Tcp) (on : now ≤ m) (late : m ≤ 2 ^ 62) (h : Holds s c up down past now)
    (at : c.stage ≡ stage.SynSent)
    (gone : has_gone c.sendings ≡ true) (is_greeted : greets past (segment_of tcp) ≡ true) (rst : (segment_of tcp).rst ≡ false) (syn : (segment_of tcp).syn ≡ true) where
  abbrev seg : Segment
  seg = segment_of tcp

  abbrev after : Story
  after = At m (Arrives seg) ∷ past

  calls : is_calls c.stage ≡ true
  calls = ap (λ (st : Stage). is_calls st) at

  opening : is_opening c.stage ≡ true
  opening = ap (λ (st : Stage). is_opening st) at

  syn_known : their_syn after ≡ Some seg
  syn_known = known_now s c up down past now m tcp on h at is_greeted rst

  number_known : their_number after ≡ Some tcp.seq
  number_known = ap (λ (o : Option Segment). option_map (λ (g : Segment). g.number) o) syn_known

  scale_known : shift_of tcp.scale ≡ shift_of (elim (their_syn after) [ None ↦ None | Some g ↦ g.scale ])
  scale_known = ap (λ (o : Option Segment). shift_of (elim o [ None ↦ None | Some g ↦ g.scale ])) (sym syn_known)

  opened_after : (st : Stage) (tr : Transmission) (sy : Resending) (so fa : Bool) → is_calls st ≡ false → is_at_connecting st ≡ false → is_live st ≡ true → tr.mss ≡
      (greeted c tcp).transmission.mss → answered (host after) ≡ is_synchronized st
      → (is_opening st ≡ true → so ≡ true) → IsOpened s (record (greeted c tcp) { stage = st; transmission = tr; syn = sy; syn_owed = so; fin_acked = fa }) after
  opened_after st tr sy so fa no_call no_connect live most answered_is owes =
      let o = h.opened in record {
        live = live;
        ours = o.ours;
        connects = o.connects ∙ ap (λ (st : Stage). is_at_connecting st) at ∙ sym no_connect;
        out = o.out;
        unsent = λ is. let not_it = sym is ∙ no_connect in absurd cc;
        sent = λ is. gone;
        answered = answered_is;
        owes = λ apart yet none. owes yet;
        calls = λ is. let not_it = sym is ∙ no_call in absurd cc;
        quiet = λ is. let not_it = sym is ∙ no_connect in absurd cc;
        called = λ is apart. gone;
        theirs = number_known ∙ ap (λ (b : Bool). if b then None else Some tcp.seq) (sym no_call);
        scale = scale_known;
        mss = λ is. most ∙ most_now s c up down past now m tcp on h at is_greeted rst;
        calling = λ is. let not_it = sym is ∙ no_call in absurd cc;
      }

  received_after : (st : Stage) (tr : Transmission) (sy : Resending) (so fa : Bool) → Receives s
      (record (greeted c tcp) { stage = st; transmission = tr; syn = sy; syn_owed = so; fin_acked = fa }) up after
  received_after st tr sy so fa = greeted_receives s c up down past now m tcp on h at is_greeted rst st tr sy so fa refl

  -- ---- it acknowledges nothing

  pub greets_alone : seg.ack ≡ false → HasBuffers (greeted c tcp) up down → Holds s (greeted c tcp) up down after m
  greets_alone ack buffers =
      let g = gives_after s c up down past now m seg on h none true true (λ so. refl) in
      record {
        suits = record { ring = h.suits.ring; congestion = h.suits.congestion; scales = h.suits.scales; few = h.suits.few };
        buffers = buffers;
        within = h.within;
        goes = goes_greeted s c up down past now m tcp on h at is_greeted rst;
        opened = opened_after stage.SynReceived (greeted c tcp).transmission c.syn true c.fin_acked refl refl refl refl
            (answered_same s c up down past now m seg on h none ∙ h.opened.answered ∙ ap (λ (st : Stage). is_synchronized st) at) (λ is. refl);
        awaits = λ is. absurd cc;
        receives = λ is. received_after stage.SynReceived (greeted c tcp).transmission c.syn true c.fin_acked;
        gives = gives_most s (record (greeted c tcp) { transmission = c.transmission }) (greeted c tcp).transmission.mss down after m
            (gives_as s (record c { syn_owed = true; ack_owed = true }) (record (greeted c tcp) { transmission = c.transmission }) down after m (sym opening) refl refl refl refl
            (λ owes so yet. by_arrival past m m seg) (λ so. refl) (λ opening_yet owed runs. heard_now past m seg) g);
      }
    where
      none : (confirms past seg && is_acceptable (host past) seg.acknowledgement) ≡ false
      none = ap (λ (b : Bool). b && not seg.rst && syn_is_out past && (if is_some (their_number past) then not seg.syn else greets past seg) && is_acceptable (host past) seg.acknowledgement) ack

  -- ---- it acknowledges our SYN

  module _ (ack : seg.ack ≡ true) (number : tcp.ack ≡ number_of c.ours 0) where
    abbrev t0 : Transmission
    t0 = congested (greeted c tcp)

    abbrev seen0 : AckSeen
    seen0 = seen_of t0 down tcp.ack

    abbrev seq0 : Seq
    seq0 = record { 0 = tcp.seq }

    abbrev down0 : Downward
    down0 = without (octets_acked seen0) down

    not_known : is_some (their_number past) ≡ false
    not_known = unknown_is (their_syn past) (unknown s c up down past now m tcp on h at)

    all_of : (a b d e f g : Bool) → a ≡ true → b ≡ false → d ≡ true → e ≡ false → g ≡ true → (a && not b && d && (if e then not f else g)) ≡ true
    all_of a b d e f g a_is b_is d_is e_is g_is = rw (a_is, b_is, d_is, e_is, g_is) refl

    it : confirms past seg ≡ true
    it = all_of seg.ack seg.rst (syn_is_out past) (is_some (their_number past)) seg.syn (greets past seg) ack rst (h.opened.out ∙ gone) not_known is_greeted

    has : HasBuffers (greeted c tcp) up down
    has = greeted_has c up down tcp opening h.buffers (limited_feeds c.transmission down (mss_of tcp.mss) (omega arith) (h.buffers.sound.alone opening) h.buffers.feeds)

    feeds0 : Feeds t0 down
    feeds0 = congested_feeds (greeted c tcp) down has.feeds

    keeps0 : Keeps (outward_of t0 down) (host past)
    keeps0 = subst (λ o. Keeps o (host past)) (sym ((congested_same (greeted c tcp)).5 down)) h.gives.keeps

    sent0 : t0.sent ≡ 0
    sent0 = (congested_same (greeted c tcp)).2 ∙ h.buffers.sound.unsent opening

    acked0 : t0.acked ≡ 0
    acked0 = let order = feeds0.sound.order in omega (arith, order, sent0)

    seen_is0 : IsSeenAs t0 down (place_acked t0 tcp.ack) seen0
    seen_is0 = seen_as t0 down tcp.ack feeds0

    place0 : place_acked t0 tcp.ack ≡ pos 0
    place0 = sym (place_same t0 down (host past) tcp.ack keeps0)
        ∙ ap (λ (n : ℕ). our_place (host past) n) (number ∙ ap (λ (f : ℕ). number_of f 0) (sym (sym keeps0.first ∙ (congested_same (greeted c tcp)).0 ∙ h.buffers.sound.first)))
        ∙ place_of_number (host past) 0 (omega arith) (omega (arith, keeps0.sent, sent0))

    ok0 : is_accepted_ack seen0 ≡ true
    ok0 = by seen0 seen_is0
      where
        by : (q : AckSeen) → IsSeenAs t0 down (place_acked t0 tcp.ack) q → is_accepted_ack q ≡ true
        by Old is = absurd (omega (arith, ints, is, place0, acked0))
        by Same is = refl
        by (Forward n) is = refl
        by (FinToo n) is = refl
        by TooFar is = absurd (omega (arith, ints, is, place0, sent0))

    abbrev u0 : Transmission
    u0 = heard_by t0 seq0 tcp.window false m seen0

    abbrev watched0 : Transmission
    watched0 = watched_over u0 down0 m

    abbrev fa0 : Bool
    fa0 = c.fin_acked || is_fin_too seen0

    abbrev opened_with : Transmission → Connection
    opened_with tr = record (greeted c tcp) { stage = stage.Synchronized; transmission = tr; syn = after_stop c.syn; syn_owed = false; fin_acked = fa0 }

    mss0 : u0.mss ≡ (greeted c tcp).transmission.mss
    mss0 = (heard_stays t0 seq0 tcp.window false m seen0).mss ∙ (congested_same (greeted c tcp)).1

    answered0 : answered (host after) ≡ true
    answered0 = answered_now s past now m seg t0 down seq0 tcp.window false seen0 feeds0 keeps0 it seen_is0 ok0 on late

    window0 : tcp.window ≡ their_window s past seg
    window0 = sym (ap (λ (b : Bool). tcp.window * 2 ^ (if b || not (is_scaled s past) then 0 else min 14 (unwrap_or (their_scale past) 0))) syn ∙
        (let one : tcp.window * 2 ^ 0 ≡ tcp.window = omega arith in one))

    gives0 : Gives s (opened_with u0) down0 after m
    gives0 =
        let g = h.gives in
        record {
          keeps = heard_keeps s past now m seg t0 down seq0 tcp.window false seen0 feeds0 keeps0 it seen_is0 ok0;
          fin_acked = heard_fin s past now m seg t0 down seq0 tcp.window false seen0 feeds0 keeps0 it seen_is0 ok0 c.fin_acked
              (g.fin_acked ∙ ap (λ (x : ℕ). nat_eq x (octets_read down + 1)) (sym (congested_same (greeted c tcp)).3));
          fin_out = g.fin_out ∙ ap (λ e. is_sent e) (sym ((heard_stays t0 seq0 tcp.window false m seen0).end ∙ (congested_same (greeted c tcp)).6));
          window = heard_told s past now m seg t0 down seq0 tcp.window false seen0 feeds0 keeps0 it seen_is0 ok0
              (g.window ∙ ap (λ o. window_by o) (sym (congested_same (greeted c tcp)).4)) refl window0;
          alone = λ is. heard_alone t0 seq0 tcp.window false m seen0 (congested_alone (greeted c tcp) (h.suits.congestion ∙ is) (g.alone is));
          resends = syn_heard_runs s past now m seg t0 down seq0 tcp.window false seen0 feeds0 keeps0 it seen_is0 ok0 on late sent0;
          counts = heard_counts s past now m seg t0 down seq0 tcp.window false seen0 feeds0 keeps0 it seen_is0 ok0 on late (rises past h.goes.story) (omega (arith, h.goes.moment, on))
              (subst (λ (r : Resending). CountsSince past r.timer) (sym (congested_resend (greeted c tcp))) g.counts);
          calls = calls_heard (opened_with u0) past m seg;
          steady = steady_stop c.syn g.steady;
          unset = λ none. let not_it = sym none ∙ gone in absurd cc;
          set = λ yet so. absurd cc;
          owes_syn = λ yet over. absurd cc;
          syn_again = λ yet owes so. absurd cc;
          again = λ owes under. by_arrival past m m seg;
        }

    watched_gives : Gives s (opened_with watched0) down0 after m
    watched_gives =
        gives_watched s (opened_with u0) down0 after m (nat_lt u0.sent (places u0 down0)) (heard_steady t0 seq0 tcp.window false m seen0 late feeds0.sound.steady)
        (omega (arith, h.goes.moment, on), rises past h.goes.story) refl
        (λ is. under_way_is s (opened_with u0) down0 after (opened_after stage.Synchronized u0 (after_stop c.syn) false fa0 refl refl refl mss0 answered0 (λ yet. absurd cc)) gives0.keeps is) gives0

    ack_is0 : after_ack t0 down0 seq0 tcp.window false m seen0 ≡ watched0
    ack_is0 = ap (λ (b : Bool). if b then watched_over (heard_by t0 seq0 tcp.window false m seen0) down0 m else t0) ok0

    pub greets_and_opens : HasBuffers (acknowledged (established (greeted c tcp)) down tcp tcp.window false m) up down0
        → Holds s (acknowledged (established (greeted c tcp)) down tcp tcp.window false m) up down0 after m
    greets_and_opens buffers =
        subst (λ (tr : Transmission). Holds s (opened_with tr) up down0 after m) (sym ack_is0)
        (record {
          suits = record { ring = h.suits.ring; congestion = h.suits.congestion; scales = h.suits.scales; few = h.suits.few };
          buffers = subst (λ (tr : Transmission). HasBuffers (opened_with tr) up down0) ack_is0 buffers;
          within = let long = length-drop (octets_acked seen0) down.octets in let size = h.within in omega (arith, long, size);
          goes = goes_greeted s c up down past now m tcp on h at is_greeted rst;
          opened = opened_after stage.Synchronized watched0 (after_stop c.syn) false fa0 refl refl refl (watched_mss u0 down0 (nat_lt u0.sent (places u0 down0)) m ∙ mss0) answered0 (λ yet. absurd cc);
          awaits = λ is. absurd cc;
          receives = λ is. received_after stage.Synchronized watched0 (after_stop c.syn) false fa0;
          gives = watched_gives;
        })

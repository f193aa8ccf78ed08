-- A segment is heeded: its acknowledgement, its window, its octets and its FIN.
use Rattle.std.proofs.Common.{refl, ◌≡◌, ℕ, ◌+◌, ◌*◌, ◌^◌, ◌<◌, ◌≤◌, List, ◌∷◌, length, Bool, true, false, not, ◌&&◌, ◌||◌, Option, None, Some, is_some, if◌then◌else◌, min, nat_eq, nat_le}
use Rattle.std.proofs.Common.{nat_lt, int_le, ◌%◌, pos, arith, ap, subst, sym, ◌∙◌, inl, inr, ◌⊎◌, unwrap_or, length-drop}
use Rattle.std.proofs.lemmas.Bool.Decides.{nat_tests}
use Rattle.std.proofs.lemmas.Int.{ints}
use Rattle.cwnd.specs.Congestion.{at_first, initial_window}
use Rattle.std.specs.Option.{option_map}
use Rattle.retransmit.specs.Resending.{Resending, after_stop}
use Rattle.retransmit.proofs.Steady.{steady_stop}
use Rattle.seq_space.specs.Places.{number_of}
use Rattle.seq_space.specs.declared.Seq.{Seq}
use Rattle.sock_buffers.specs.Downward.{Downward}
use Rattle.sock_buffers.specs.Upward.{Upward}
use Rattle.tcp_receive.specs.Coming.{Comes}
use Rattle.tcp_receive.specs.Received.{Fills, up_after}
use Rattle.tcp_segment.specs.Tcp.{Tcp}
use Rattle.tcp_transmit.specs.Acks.{IsSeenAs, after_ack, is_acceptable as is_accepted_ack, octets_acked, place_acked, without}
use Rattle.tcp_transmit.specs.Timing.{watched_over}
use Rattle.tcp_transmit.specs.Transmission.{Feeds, Transmission, is_sent, octets_read, places}
use Rattle.tcp_transmit.specs.declared.AckSeen.{AckSeen}
use Rattle.tcp_transmit.specs.declared.AckSeen.TheVariants.{Old, Same, Forward, FinToo, TooFar}
use Rattle.tcp_connection.specs.Checks.{is_fin}
use Rattle.tcp_connection.specs.Connection.{Connection, HasBuffers, has_gone, has_gone_again, is_opening, is_synchronized, shift_of}
use Rattle.tcp_connection.specs.Segments.{acknowledged, arrived, congested, established, is_bare, is_fin_too, is_to_acknowledge, is_too_far, received_after, seen_of}
use Rattle.tcp_connection.specs.Windows.{window_in}
use Rattle.tcp_connection.specs.declared.Stage.{Stage}
use Rattle.tcp_connection.specs.declared.Stage.TheVariants as stage
use Rattle.spec_flow.specs.Settings.{Settings}
use Rattle.spec_flow.specs.Event.{Arrives, At, Segment, Story}
use Rattle.spec_flow.specs.Guest.{is_empty}
use Rattle.spec_flow.specs.Host.{Down, acked, answered, is_acceptable, not_past_sent, our_place}
use Rattle.spec_flow.specs.Flow.{confirms, greets, host, is_closed, is_heeded, is_under_way, next_number as number_after, our_number, syn_is_out, their_number, their_syn}
use Rattle.spec_flow.specs.Windows.{is_scaled, their_scale, their_shift, their_window}
use Rattle.spec_flow.proofs.Sides.{host_confirmed}
use Rattle.spec_flow.specs.Segments.{segment_of}
use Rattle.sim_halves.specs.Resends.{Resends}
use Rattle.sim_halves.specs.Sends.{Keeps}
use Rattle.sim_halves.proofs.Reasons.{by_arrival}
use Rattle.sim_halves.proofs.SendSteps.{place_of_number}
use Rattle.sim_halves.proofs.Sendings.{rises}
use Rattle.sim_connection.specs.Holding.{CountsSince, Gives, Goes, Holds, IsOpened, Receives, Suits, is_calls, is_at_connecting}
use Rattle.sim_connection.specs.Seen.{count_of, outward_of, timer_of, window_by}
use Rattle.sim_connection.proofs.Confirming.{answered_now, far_is, heard_counts, heard_fin, heard_keeps, heard_runs, heard_steady, heard_told, not_past, old_is, place_same, syn_heard_runs}
use Rattle.sim_connection.proofs.Going.{comes as comes_on, nothing_to_close}
use Rattle.sim_connection.proofs.Hearing.{heard_alone, heard_by, heard_stays, seen_as}
use Rattle.sim_connection.proofs.Quiet.{gives_as, opened_beside, opened_on, same_mss}
use Rattle.sim_connection.proofs.Taking.{taken_receives}
use Rattle.sim_connection.proofs.Unheeded.{gives_after, stays, syn_stays}
use Rattle.sim_connection.proofs.Watching.{gives_watched, under_way_is, watched_mss}
use Rattle.sim_connection.proofs.Unanswered.{calls_heard}
use Rattle.sim_halves.proofs.Unheard.{heard_now}

-- ---- the congestion window of a connection that is opened

pub congested_feeds : (c : Connection) (down : Downward) → Feeds c.transmission down → Feeds (congested c) down
congested_feeds c down f = by c.congestion
  where
    many : (b : Bool) (mss : ℕ) → mss ≤ initial_window mss b
    many true mss = omega arith
    many false mss = by_size (nat_le mss 1095) (nat_le mss 2190)
      where
        by_size : (a d : Bool) → mss ≤ (if a then 4 * mss else (if d then 3 * mss else 2 * mss))
        by_size true d = omega arith
        by_size false true = omega arith
        by_size false false = omega arith

    by : (b : Bool) → Feeds (if b then record c.transmission { cwnd = Some (at_first c.transmission.mss (has_gone_again c.sendings)) } else c.transmission) down
    by true = record {
      sound = record {
        least = f.sound.least;
        most = f.sound.most;
        order = f.sound.order;
        set = f.sound.set;
        steady = f.sound.steady;
        begins = f.sound.begins;
        segments = let most = f.sound.most in (refl, many (has_gone_again c.sendings) c.transmission.mss, omega (arith, most));
        recovers = f.sound.recovers;
        early = f.sound.early;
        probes = f.sound.probes;
      };
      first = f.first;
      all = f.all;
      few = f.few;
      rests = f.rests;
      waits = f.waits;
    }
    by false = f

pub congested_same : (c : Connection) → ((congested c).first ≡ c.transmission.first) × ((congested c).mss ≡ c.transmission.mss) × ((congested c).sent ≡ c.transmission.sent) ×
    ((congested c).acked ≡ c.transmission.acked)
    × ((congested c).window ≡ c.transmission.window) × ((down : Downward) → outward_of (congested c) down ≡ outward_of c.transmission down) × ((congested c).end ≡ c.transmission.end)
congested_same c = by c.congestion
  where
    by : (b : Bool) → ((if b then record c.transmission { cwnd = Some (at_first c.transmission.mss (has_gone_again c.sendings)) } else c.transmission).first ≡ c.transmission.first)
        × ((if b then record c.transmission { cwnd = Some (at_first c.transmission.mss (has_gone_again c.sendings)) } else c.transmission).mss ≡ c.transmission.mss)
        × ((if b then record c.transmission { cwnd = Some (at_first c.transmission.mss (has_gone_again c.sendings)) } else c.transmission).sent ≡ c.transmission.sent)
        × ((if b then record c.transmission { cwnd = Some (at_first c.transmission.mss (has_gone_again c.sendings)) } else c.transmission).acked ≡ c.transmission.acked)
        × ((if b then record c.transmission { cwnd = Some (at_first c.transmission.mss (has_gone_again c.sendings)) } else c.transmission).window ≡ c.transmission.window)
        × ((down : Downward) → outward_of (if b then record c.transmission { cwnd = Some (at_first c.transmission.mss (has_gone_again c.sendings)) } else c.transmission) down ≡
        outward_of c.transmission down)
        × ((if b then record c.transmission { cwnd = Some (at_first c.transmission.mss (has_gone_again c.sendings)) } else c.transmission).end ≡ c.transmission.end)
    by true = (refl, refl, refl, refl, refl, (λ down. refl), refl)
    by false = (refl, refl, refl, refl, refl, (λ down. refl), refl)

pub congested_resend : (c : Connection) → (congested c).resend ≡ c.transmission.resend
congested_resend c = by c.congestion
  where
    by : (b : Bool) → (if b then record c.transmission { cwnd = Some (at_first c.transmission.mss (has_gone_again c.sendings)) } else c.transmission).resend ≡ c.transmission.resend
    by true = refl
    by false = refl

pub congested_alone : (c : Connection) → c.congestion ≡ false → c.transmission.cwnd ≡ None → (congested c).cwnd ≡ None
congested_alone c is none = ap (λ (b : Bool). (if b then record c.transmission { cwnd = Some (at_first c.transmission.mss (has_gone_again c.sendings)) } else c.transmission).cwnd) is ∙ none

-- ---- the guest's window, by its shift

shift_same : (o : Option ℕ) → unwrap_or (shift_of o) 0 ≡ min 14 (unwrap_or o 0)
shift_same None = refl
shift_same (Some k) = omega arith

pub window_same : (s : Settings) (c : Connection) (past : Story) (tcp : Tcp) → Suits s c → IsOpened s c past → (segment_of tcp).syn ≡ false → window_in c tcp ≡ their_window s past (segment_of tcp)
window_same s c past tcp suits o syn = ap (λ (k : ℕ). tcp.window * 2 ^ k) (shift_now ∙ sym told)
  where
    by_some : (o : Option ℕ) → unwrap_or (shift_of o) 0 ≡ (if not (is_some o) then 0 else min 14 (unwrap_or o 0))
    by_some None = refl
    by_some (Some k) = shift_same (Some k)

    shift_now : unwrap_or c.scale 0 ≡ (if not (is_some (their_scale past)) then 0 else min 14 (unwrap_or (their_scale past) 0))
    shift_now = ap (λ (k : Option ℕ). unwrap_or k 0) o.scale ∙ by_some (their_scale past)

    told : their_shift s past (segment_of tcp).syn ≡ (if not (is_some (their_scale past)) then 0 else min 14 (unwrap_or (their_scale past) 0))
    told = ap (λ (b : Bool). if b || not (is_scaled s past) then 0 else min 14 (unwrap_or (their_scale past) 0)) syn
        ∙ ap (λ (b : Bool). if not (b && is_some (their_scale past)) then 0 else min 14 (unwrap_or (their_scale past) 0)) suits.scales

-- ---- the flags of a segment that is heeded

all_heeded : (a b d e f g i j : Bool) → a ≡ false → b ≡ true → d ≡ true → e ≡ true → f ≡ false → g ≡ false → i ≡ true → j ≡ true → (not a && b && d && e && not f && not g && i && j) ≡ true
all_heeded a b d e f g i j a_is b_is d_is e_is f_is g_is i_is j_is = rw (a_is, b_is, d_is, e_is, f_is, g_is, i_is, j_is) refl

all_plain : (a b d e f : Bool) → a ≡ false → b ≡ false → d ≡ true → (not a && not b && (d || e || not f)) ≡ true
all_plain a b d e f a_is b_is d_is = rw (a_is, b_is, d_is) (by e f)
  where
    by : (e f : Bool) → (true || e || not f) ≡ true
    by e f = refl

all_confirms : (a b d e f g : Bool) → a ≡ true → b ≡ false → d ≡ true → e ≡ true → f ≡ false → (a && not b && d && (if e then not f else g)) ≡ true
all_confirms a b d e f g a_is b_is d_is e_is f_is = rw (a_is, b_is, d_is, e_is, f_is) refl

both_not : (a b : Bool) → a ≡ false → b ≡ false → (not a && not b) ≡ true
both_not a b a_is b_is = rw (a_is, b_is) refl

owed_parts : (a b d : Bool) → ((a || b) || d) ≡ false → (a || d) ≡ false
owed_parts true b d is = absurd cc
owed_parts false true d is = absurd cc
owed_parts false false d is = is

accepted_or : (seen : AckSeen) → is_too_far seen ≡ false → (is_accepted_ack seen ≡ true) ⊎ (seen ≡ Old)
accepted_or Old is = inr refl
accepted_or Same is = inl refl
accepted_or (Forward n) is = inl refl
accepted_or (FinToo n) is = inl refl
accepted_or TooFar is = absurd cc

synchronized_connects : (st : Stage) → is_synchronized st ≡ true → is_at_connecting st ≡ false
synchronized_connects stage.Connecting is = absurd cc
synchronized_connects stage.SynSent is = refl
synchronized_connects stage.SynReceived is = refl
synchronized_connects stage.Synchronized is = refl
synchronized_connects stage.TimeWait is = refl
synchronized_connects (stage.Resets seq ack) is = refl
synchronized_connects stage.Closed is = refl

-- ---- while both SYNs are acknowledged

module _ (s : Settings) (c : Connection) (up : Upward) (down : Downward) (past : Story) (now m : ℕ) (tcp : Tcp) (on : now ≤ m) (late : m ≤ 2 ^ 62) (h : Holds s c up down past now)
    (known : is_calls c.stage ≡ false) (opening : is_opening c.stage ≡ false) (synchronized : is_synchronized c.stage ≡ true)
    (ack : (segment_of tcp).ack ≡ true) (rst : (segment_of tcp).rst ≡ false) (syn : (segment_of tcp).syn ≡ false) where
  abbrev seg : Segment
  seg = segment_of tcp

  abbrev after : Story
  after = At m (Arrives seg) ∷ past

  abbrev t : Transmission
  t = c.transmission

  abbrev seen : AckSeen
  seen = seen_of t down tcp.ack

  abbrev w : ℕ
  w = window_in c tcp

  abbrev seq : Seq
  seq = record { 0 = tcp.seq }

  abbrev later_down : Downward
  later_down = without (octets_acked seen) down

  theirs_now : their_number past ≡ Some c.received.first
  theirs_now = h.opened.theirs ∙ ap (λ (b : Bool). if b then None else Some c.received.first) known

  is_known : is_some (their_number past) ≡ true
  is_known = ap (λ (o : Option ℕ). is_some o) theirs_now

  out_now : syn_is_out past ≡ true
  out_now = h.opened.out ∙ h.opened.sent synchronized

  ans : answered (host past) ≡ true
  ans = h.opened.answered ∙ synchronized

  it : confirms past seg ≡ true
  it = all_confirms seg.ack seg.rst (syn_is_out past) (is_some (their_number past)) seg.syn (greets past seg) ack rst out_now is_known syn

  seen_is : IsSeenAs t down (place_acked t tcp.ack) seen
  seen_is = seen_as t down tcp.ack h.buffers.feeds

  -- with all that is taken of it
  abbrev with_all : Transmission → (owed fa : Bool) → Connection
  with_all tr owed fa = record c { received = received_after c.received tcp.seq tcp.body (is_fin tcp) up; transmission = tr; ack_owed = owed; fin_acked = fa }

  same_syn : their_syn after ≡ their_syn past
  same_syn = syn_stays (their_syn past) (if greets past seg then Some seg else None) is_known

  goes_on : Goes s after m
  goes_on = comes_on s past now m (Arrives seg) h.goes on (λ none. none) refl h.goes.open_yet refl
      (nothing_to_close after (ap (λ (b : Bool). if b then Some seg else None) rst))

  opened_all : (tr : Transmission) (owed fa : Bool) → tr.mss ≡ t.mss → answered (host after) ≡ true → IsOpened s (with_all tr owed fa) after
  opened_all tr owed fa most answered_is =
      let o = opened_on s c past after (record { ours = refl; connecting = refl; out = refl; accepted = refl; theirs = same_syn; unasked = refl }) (answered_is ∙ sym ans) h.opened in
      opened_beside s c (with_all tr owed fa) after refl most (λ is. is) (λ is. let not_it = sym (synchronized_connects c.stage synchronized) ∙ is in absurd cc) o

  -- an acknowledgement that counts
  module _ (ok : is_accepted_ack seen ≡ true) where
    abbrev u : Transmission
    u = heard_by t seq w (is_bare tcp) m seen

    ran : Resends past now (timer_of t.resend) (count_of (nat_lt t.acked t.sent) t.resend) t.resend.estimate.wait
    ran = subst (λ (b : Bool). Resends past now (timer_of t.resend) (count_of b t.resend) t.resend.estimate.wait) (under_way_is s c down past h.opened h.gives.keeps opening)
        (subst (λ (b : Bool). Resends past now (timer_of (if b then c.syn else t.resend)) (count_of (is_under_way past) (if b then c.syn else t.resend))
        (if b then c.syn else t.resend).estimate.wait) opening h.gives.resends)

    heard_gives : (owed : Bool) → Gives s (with_all u owed (c.fin_acked || is_fin_too seen)) later_down after m
    heard_gives owed =
        let g = h.gives in
        record {
          keeps = heard_keeps s past now m seg t down seq w (is_bare tcp) seen h.buffers.feeds g.keeps it seen_is ok;
          fin_acked = heard_fin s past now m seg t down seq w (is_bare tcp) seen h.buffers.feeds g.keeps it seen_is ok c.fin_acked g.fin_acked;
          fin_out = g.fin_out ∙ ap (λ e. is_sent e) (sym (heard_stays t seq w (is_bare tcp) m seen).end);
          window = heard_told s past now m seg t down seq w (is_bare tcp) seen h.buffers.feeds g.keeps it seen_is ok g.window refl (window_same s c past tcp h.suits h.opened syn);
          alone = λ is. heard_alone t seq w (is_bare tcp) m seen (g.alone is);
          resends = subst (λ (b : Bool). Resends after m (timer_of (if b then c.syn else u.resend)) (count_of (is_under_way after) (if b then c.syn else u.resend))
              (if b then c.syn else u.resend).estimate.wait) (sym opening)
              (heard_runs s past now m seg t down seq w (is_bare tcp) seen h.buffers.feeds g.keeps it seen_is ok on late ans h.goes.lawful (rises past h.goes.story)
              (omega (arith, h.goes.moment, on)) ran);
          counts = heard_counts s past now m seg t down seq w (is_bare tcp) seen h.buffers.feeds g.keeps it seen_is ok on late (rises past h.goes.story) (omega (arith, h.goes.moment, on)) g.counts;
          calls = calls_heard (with_all u owed (c.fin_acked || is_fin_too seen)) past m seg;
          steady = g.steady;
          unset = g.unset;
          set = λ yet gone. let not_it = sym yet ∙ opening in absurd cc;
          owes_syn = λ yet over. let not_it = sym yet ∙ opening in absurd cc;
          syn_again = λ yet owes gone. by_arrival past m m seg;
          again = λ owes under. by_arrival past m m seg;
        }

    abbrev watched_u : Transmission
    watched_u = watched_over u later_down m

    u_answered : answered (host after) ≡ true
    u_answered = answered_now s past now m seg t down seq w (is_bare tcp) seen h.buffers.feeds h.gives.keeps it seen_is ok on late

    gives_now : (owed : Bool) → Gives s (with_all watched_u owed (c.fin_acked || is_fin_too seen)) later_down after m
    gives_now owed =
        let g = heard_gives owed in
        gives_watched s (with_all u owed (c.fin_acked || is_fin_too seen)) later_down after m (nat_lt u.sent (places u later_down))
        (heard_steady t seq w (is_bare tcp) m seen late h.buffers.feeds.sound.steady) (omega (arith, h.goes.moment, on), rises past h.goes.story) refl
        (λ is. under_way_is s (with_all u owed (c.fin_acked || is_fin_too seen)) later_down after (opened_all u owed (c.fin_acked || is_fin_too seen)
        (heard_stays t seq w (is_bare tcp) m seen).mss u_answered) g.keeps is) g

    ack_is : after_ack t later_down seq w (is_bare tcp) m seen ≡ watched_u
    ack_is = ap (λ (b : Bool). if b then watched_over (heard_by t seq w (is_bare tcp) m seen) later_down m else t) ok

  -- its octets, once it is known that it acknowledges nothing that was never sent
  module _ (fits : tcp.seq < 2 ^ 32) (few : length tcp.body ≤ 2 ^ 31) (comes : Comes c.received tcp.seq tcp.body up (up_after c.received tcp.seq tcp.body up))
      (within : length (up_after c.received tcp.seq tcp.body up).held ≤ (up_after c.received tcp.seq tcp.body up).size)
      (fills_now : Fills (received_after c.received tcp.seq tcp.body (is_fin tcp) up) (up_after c.received tcp.seq tcp.body up)) (not_far : is_too_far seen ≡ false) where
    abbrev later : Upward
    later = up_after c.received tcp.seq tcp.body up

    not_past_now : not_past_sent (host past) tcp.ack ≡ true
    not_past_now = by (accepted_or seen not_far)
      where
        by : (is_accepted_ack seen ≡ true) ⊎ (seen ≡ Old) → not_past_sent (host past) tcp.ack ≡ true
        by (inl ok) = not_past s past now m seg t down seq w (is_bare tcp) seen h.buffers.feeds h.gives.keeps it seen_is ok
        by (inr is) = (old_is t down (host past) tcp.ack h.gives.keeps h.buffers.feeds.sound.order (subst (λ (q : AckSeen). IsSeenAs t down (place_acked t tcp.ack) q) is seen_is)).1

    heeded : is_heeded past seg ≡ true
    heeded = all_heeded (is_closed past) (is_some (their_number past)) (syn_is_out past) seg.ack seg.syn seg.rst (not_past_sent (host past) tcp.ack)
        (answered (host past) || nat_eq tcp.ack (number_after (our_number past)))
        h.goes.open_yet is_known out_now ack syn rst not_past_now (ap (λ (b : Bool). b || nat_eq tcp.ack (number_after (our_number past))) ans)

    taken : (tr : Transmission) (owed fa : Bool) → (owed ≡ false → (c.ack_owed || is_to_acknowledge c.received tcp.seq tcp.body (is_fin tcp)) ≡ false) → Receives s (with_all tr owed fa) later after
    taken tr owed fa only = taken_receives s c up past m tcp fits few h.goes.open_yet theirs_now
        (all_plain seg.syn seg.rst seg.ack seg.fin (is_empty seg.octets) syn rst ack) heeded (both_not seg.syn seg.rst syn rst)
        (h.receives known) comes within h.buffers.fills fills_now c.stage tr c.syn c.syn_owed owed fa only

    holds_with : (tr : Transmission) (d : Downward) (owed fa : Bool) → tr.mss ≡ t.mss → answered (host after) ≡ true → length d.octets ≤ s.ring →
        (owed ≡ false → (c.ack_owed || is_to_acknowledge c.received tcp.seq tcp.body (is_fin tcp)) ≡ false)
        → Gives s (with_all tr owed fa) d after m → HasBuffers (with_all tr owed fa) later d → Holds s (with_all tr owed fa) later d after m
    holds_with tr d owed fa most answered_is size only g buffers = record {
      suits = record { ring = h.suits.ring; congestion = h.suits.congestion; scales = h.suits.scales; few = h.suits.few };
      buffers = buffers;
      within = size;
      goes = goes_on;
      opened = opened_all tr owed fa most answered_is;
      awaits = λ is. let not_it = sym is ∙ known in absurd cc;
      receives = λ is. taken tr owed fa only;
      gives = g;
    }

    drop_less : length later_down.octets ≤ s.ring
    drop_less = let long = length-drop (octets_acked seen) down.octets in let size = h.within in omega (arith, long, size)

    abbrev owed_now : Bool
    owed_now = (c.ack_owed || is_too_far seen) || is_to_acknowledge c.received tcp.seq tcp.body (is_fin tcp)

    only_now : owed_now ≡ false → (c.ack_owed || is_to_acknowledge c.received tcp.seq tcp.body (is_fin tcp)) ≡ false
    only_now none = owed_parts c.ack_owed (is_too_far seen) (is_to_acknowledge c.received tcp.seq tcp.body (is_fin tcp)) none

    -- the old acknowledgement
    old_gives : seen ≡ Old → Gives s (with_all t owed_now (c.fin_acked || is_fin_too seen)) later_down after m
    old_gives is =
        let two = old_is t down (host past) tcp.ack h.gives.keeps h.buffers.feeds.sound.order (subst (λ (q : AckSeen). IsSeenAs t down (place_acked t tcp.ack) q) is seen_is) in
        let none : (confirms past seg && is_acceptable (host past) tcp.ack) ≡ false = and_none (confirms past seg) (is_acceptable (host past) tcp.ack) two.0 in
        let g = gives_after s c up down past now m seg on h none c.syn_owed owed_now (λ so. so) in
        let d_is : later_down ≡ down = ap (λ (q : AckSeen). without (octets_acked q) down) is ∙ ap (λ (k : ℕ). record down { first = k }) (omega arith) in
        let fa_is : (c.fin_acked || is_fin_too seen) ≡ c.fin_acked = ap (λ (q : AckSeen). c.fin_acked || is_fin_too q) is ∙ or_off c.fin_acked in
        subst (λ (d : Downward). Gives s (with_all t owed_now (c.fin_acked || is_fin_too seen)) d after m) (sym d_is)
        (gives_as s (record c { syn_owed = c.syn_owed; ack_owed = owed_now }) (with_all t owed_now (c.fin_acked || is_fin_too seen)) down after m refl refl refl refl fa_is
        (λ owes gone yet. by_arrival past m m seg) (λ so. so) (λ opening_yet owed runs. heard_now past m seg) g)
      where
        and_none : (a b : Bool) → b ≡ false → (a && b) ≡ false
        and_none true b so = so
        and_none false b so = refl

        or_off : (b : Bool) → (b || false) ≡ b
        or_off true = refl
        or_off false = refl

    -- all of it
    pub heeds_now : HasBuffers (arrived (acknowledged c down tcp w (is_bare tcp) m) up tcp) later later_down
        → Holds s (arrived (acknowledged c down tcp w (is_bare tcp) m) up tcp) later later_down after m
    heeds_now buffers = by (accepted_or seen not_far)
      where
        by : (is_accepted_ack seen ≡ true) ⊎ (seen ≡ Old) → Holds s (with_all (after_ack t later_down seq w (is_bare tcp) m seen) owed_now (c.fin_acked || is_fin_too seen)) later later_down after m
        by (inl ok) =
            subst (λ (tr : Transmission). Holds s (with_all tr owed_now (c.fin_acked || is_fin_too seen)) later later_down after m) (sym (ack_is ok))
            (holds_with (watched_u ok) later_down owed_now (c.fin_acked || is_fin_too seen) (watched_mss (u ok) later_down (nat_lt (u ok).sent (places (u ok) later_down)) m ∙
            (heard_stays t seq w (is_bare tcp) m seen).mss) (u_answered ok) drop_less only_now
            (gives_now ok owed_now) (subst (λ (tr : Transmission). HasBuffers (with_all tr owed_now (c.fin_acked || is_fin_too seen)) later later_down) (ack_is ok) buffers))
        by (inr is) =
            let old : after_ack t later_down seq w (is_bare tcp) m seen ≡ t = ap (λ (q : AckSeen). if is_accepted_ack q then watched_over
            (heard_by t seq w (is_bare tcp) m q) later_down m else t) is in
            let two = old_is t down (host past) tcp.ack h.gives.keeps h.buffers.feeds.sound.order (subst (λ (q : AckSeen). IsSeenAs t down (place_acked t tcp.ack) q) is seen_is) in
            let answered_is : answered (host after) ≡ true = ap (λ (g : List Down). answered g) (host_confirmed m past seg it) ∙ ap (λ (b : Bool). b || answered (host past)) two.0 ∙ ans in
            subst (λ (tr : Transmission). Holds s (with_all tr owed_now (c.fin_acked || is_fin_too seen)) later later_down after m) (sym old)
            (holds_with t later_down owed_now (c.fin_acked || is_fin_too seen) refl answered_is drop_less only_now (old_gives is)
            (subst (λ (tr : Transmission). HasBuffers (with_all tr owed_now (c.fin_acked || is_fin_too seen)) later later_down) old buffers))

  -- ---- it acknowledges what was never sent

  pub heeds_none : is_too_far seen ≡ true → HasBuffers (acknowledged c down tcp w (is_bare tcp) m) up later_down → Holds s (acknowledged c down tcp w (is_bare tcp) m) up later_down after m
  heeds_none far buffers =
      subst (λ (x : Connection). Holds s x up later_down after m) (sym same_c)
      (subst (λ (d : Downward). Holds s (record c { syn_owed = c.syn_owed; ack_owed = true }) up d after m) (sym same_d)
      (stays s c up down past now m seg on h none known unheeded (λ is number. let not_it = sym is ∙ rst in absurd cc) c.syn_owed true (λ is. is) (λ is. absurd cc)
      (λ is. let not_it = sym (synchronized_connects c.stage synchronized) ∙ is in absurd cc) (λ none. absurd cc)
      (subst (λ (d : Downward). HasBuffers (record c { syn_owed = c.syn_owed; ack_owed = true }) up d) same_d (subst (λ (x : Connection). HasBuffers x up later_down) same_c buffers))))
    where
      is_far : seen ≡ TooFar
      is_far = by seen far
        where
          by : (q : AckSeen) → is_too_far q ≡ true → q ≡ TooFar
          by Old is = absurd cc
          by Same is = absurd cc
          by (Forward n) is = absurd cc
          by (FinToo n) is = absurd cc
          by TooFar is = refl

      or_on : (a : Bool) → (a || true) ≡ true
      or_on true = refl
      or_on false = refl

      or_off : (a : Bool) → (a || false) ≡ a
      or_off true = refl
      or_off false = refl

      same_d : later_down ≡ down
      same_d = ap (λ (q : AckSeen). without (octets_acked q) down) is_far ∙ ap (λ (k : ℕ). record down { first = k }) (omega arith)

      same_c : acknowledged c down tcp w (is_bare tcp) m ≡ record c { syn_owed = c.syn_owed; ack_owed = true }
      same_c =
          ap (λ (q : AckSeen). record c {
            transmission = after_ack t (without (octets_acked q) down) seq w (is_bare tcp) m q;
            fin_acked = c.fin_acked || is_fin_too q;
            ack_owed = c.ack_owed || is_too_far q;
          }) is_far
          ∙ ap (λ (b : Bool). record c { transmission = t; fin_acked = b; ack_owed = c.ack_owed || true }) (or_off c.fin_acked)
          ∙ ap (λ (b : Bool). record c { ack_owed = b }) (or_on c.ack_owed)

      past_sent : not_past_sent (host past) tcp.ack ≡ false
      past_sent = far_is t down (host past) tcp.ack h.gives.keeps (subst (λ (q : AckSeen). IsSeenAs t down (place_acked t tcp.ack) q) is_far seen_is)

      and_last : (a b : Bool) → b ≡ false → (a && b) ≡ false
      and_last true b is = is
      and_last false b is = refl

      none : (confirms past seg && is_acceptable (host past) tcp.ack) ≡ false
      none = and_last (confirms past seg) (is_acceptable (host past) tcp.ack) (and_last (int_le (pos (acked (host past))) (our_place (host past) tcp.ack))
          (not_past_sent (host past) tcp.ack) past_sent)

      no_heed : (a b d e f g i j : Bool) → i ≡ false → (a && b && d && e && f && g && i && j) ≡ false
      no_heed a b d e f g i j is = and_first (a && b && d && e && f && g && i) j (and_last (a && b && d && e && f && g) i is)
        where
          and_first : (a b : Bool) → a ≡ false → (a && b) ≡ false
          and_first a b is = rw is refl

      unheeded : is_heeded past seg ≡ false
      unheeded = no_heed (not (is_closed past)) (is_some (their_number past)) (syn_is_out past) seg.ack (not seg.syn) (not seg.rst) (not_past_sent (host past) tcp.ack)
          (answered (host past) || nat_eq tcp.ack (number_after (our_number past))) past_sent

-- ---- our SYN is acknowledged

module _ (s : Settings) (c : Connection) (up : Upward) (down : Downward) (past : Story) (now m : ℕ) (tcp : Tcp) (on : now ≤ m) (late : m ≤ 2 ^ 62) (h : Holds s c up down past now)
    (at : c.stage ≡ stage.SynReceived) (gone : has_gone c.sendings ≡ true) (number : tcp.ack ≡ number_of c.ours 0)
    (ack : (segment_of tcp).ack ≡ true) (rst : (segment_of tcp).rst ≡ false) (syn : (segment_of tcp).syn ≡ false)
    (fits : tcp.seq < 2 ^ 32) (few : length tcp.body ≤ 2 ^ 31) (comes : Comes c.received tcp.seq tcp.body up (up_after c.received tcp.seq tcp.body up))
    (within : length (up_after c.received tcp.seq tcp.body up).held ≤ (up_after c.received tcp.seq tcp.body up).size)
    (fills_now : Fills (received_after c.received tcp.seq tcp.body (is_fin tcp) up) (up_after c.received tcp.seq tcp.body up)) where
  abbrev segment : Segment
  segment = segment_of tcp

  abbrev next : Story
  next = At m (Arrives segment) ∷ past

  abbrev t0 : Transmission
  t0 = congested c

  abbrev seen0 : AckSeen
  seen0 = seen_of t0 down tcp.ack

  abbrev w0 : ℕ
  w0 = window_in c tcp

  abbrev seq0 : Seq
  seq0 = record { 0 = tcp.seq }

  abbrev down0 : Downward
  down0 = without (octets_acked seen0) down

  known : is_calls c.stage ≡ false
  known = ap (λ (st : Stage). is_calls st) at

  opening : is_opening c.stage ≡ true
  opening = ap (λ (st : Stage). is_opening st) at

  theirs0 : their_number past ≡ Some c.received.first
  theirs0 = h.opened.theirs ∙ ap (λ (b : Bool). if b then None else Some c.received.first) known

  known0 : is_some (their_number past) ≡ true
  known0 = ap (λ (o : Option ℕ). is_some o) theirs0

  out0 : syn_is_out past ≡ true
  out0 = h.opened.out ∙ gone

  it0 : confirms past segment ≡ true
  it0 = all_confirms segment.ack segment.rst (syn_is_out past) (is_some (their_number past)) segment.syn (greets past segment) ack rst out0 known0 syn

  feeds0 : Feeds t0 down
  feeds0 = congested_feeds c down h.buffers.feeds

  keeps0 : Keeps (outward_of t0 down) (host past)
  keeps0 = subst (λ o. Keeps o (host past)) (sym ((congested_same c).5 down)) h.gives.keeps

  sent0 : t0.sent ≡ 0
  sent0 = (congested_same c).2 ∙ h.buffers.sound.unsent opening

  acked0 : t0.acked ≡ 0
  acked0 = let order = feeds0.sound.order in omega (arith, order, sent0)

  seen_is0 : IsSeenAs t0 down (place_acked t0 tcp.ack) seen0
  seen_is0 = seen_as t0 down tcp.ack feeds0

  place0 : place_acked t0 tcp.ack ≡ pos 0
  place0 = sym (place_same t0 down (host past) tcp.ack keeps0)
      ∙ ap (λ (n : ℕ). our_place (host past) n) (number ∙ ap (λ (f : ℕ). number_of f 0) (sym (sym keeps0.first ∙ (congested_same c).0 ∙ h.buffers.sound.first)))
      ∙ place_of_number (host past) 0 (omega arith) (omega (arith, keeps0.sent, sent0))

  ok0 : is_accepted_ack seen0 ≡ true
  ok0 = by seen0 seen_is0
    where
      by : (q : AckSeen) → IsSeenAs t0 down (place_acked t0 tcp.ack) q → is_accepted_ack q ≡ true
      by Old is = absurd (omega (arith, ints, is, place0, acked0))
      by Same is = refl
      by (Forward n) is = refl
      by (FinToo n) is = refl
      by TooFar is = absurd (omega (arith, ints, is, place0, sent0))

  not_far0 : is_too_far seen0 ≡ false
  not_far0 = by seen0 ok0
    where
      by : (q : AckSeen) → is_accepted_ack q ≡ true → is_too_far q ≡ false
      by Old is = absurd cc
      by Same is = refl
      by (Forward n) is = refl
      by (FinToo n) is = refl
      by TooFar is = absurd cc

  abbrev u0 : Transmission
  u0 = heard_by t0 seq0 w0 (is_bare tcp) m seen0

  -- the connection that is opened, with all that is taken
  abbrev opened_with : Transmission → (owed fa : Bool) → Connection
  opened_with tr owed fa = record c {
    stage = stage.Synchronized;
    received = received_after c.received tcp.seq tcp.body (is_fin tcp) up;
    transmission = tr;
    syn = after_stop c.syn;
    syn_owed = false;
    ack_owed = owed;
    fin_acked = fa;
  }

  same_syn0 : their_syn next ≡ their_syn past
  same_syn0 = syn_stays (their_syn past) (if greets past segment then Some segment else None) known0

  answered0 : answered (host next) ≡ true
  answered0 = answered_now s past now m segment t0 down seq0 w0 (is_bare tcp) seen0 feeds0 keeps0 it0 seen_is0 ok0 on late

  opened0 : (tr : Transmission) (owed fa : Bool) → tr.mss ≡ c.transmission.mss → IsOpened s (opened_with tr owed fa) next
  opened0 tr owed fa most =
      let o = h.opened in record {
        live = refl;
        ours = o.ours;
        connects = o.connects ∙ ap (λ (st : Stage). is_at_connecting st) at;
        out = o.out;
        unsent = λ is. absurd cc;
        sent = λ is. gone;
        answered = answered0;
        owes = λ apart yet none. absurd cc;
        calls = λ is. absurd cc;
        quiet = λ is. absurd cc;
        called = λ is apart. gone;
        theirs = ap (λ (q : Option Segment). option_map (λ (g : Segment). g.number) q) same_syn0 ∙ theirs0;
        scale = o.scale ∙ ap (λ (q : Option Segment). shift_of (elim q [ None ↦ None | Some syn ↦ syn.scale ])) (sym same_syn0);
        mss = λ is. most ∙ o.mss known ∙ sym (same_mss s past next same_syn0);
        calling = λ is. absurd cc;
      }

  gives0 : (owed : Bool) → Gives s (opened_with u0 owed (c.fin_acked || is_fin_too seen0)) down0 next m
  gives0 owed =
      let g = h.gives in
      record {
        keeps = heard_keeps s past now m segment t0 down seq0 w0 (is_bare tcp) seen0 feeds0 keeps0 it0 seen_is0 ok0;
        fin_acked = heard_fin s past now m segment t0 down seq0 w0 (is_bare tcp) seen0 feeds0 keeps0 it0 seen_is0 ok0 c.fin_acked
            (g.fin_acked ∙ ap (λ (x : ℕ). nat_eq x (octets_read down + 1)) (sym (congested_same c).3));
        fin_out = g.fin_out ∙ ap (λ e. is_sent e) (sym ((heard_stays t0 seq0 w0 (is_bare tcp) m seen0).end ∙ (congested_same c).6));
        window = heard_told s past now m segment t0 down seq0 w0 (is_bare tcp) seen0 feeds0 keeps0 it0 seen_is0 ok0
            (g.window ∙ ap (λ o. window_by o) (sym (congested_same c).4)) refl (window_same s c past tcp h.suits h.opened syn);
        alone = λ is. heard_alone t0 seq0 w0 (is_bare tcp) m seen0 (congested_alone c (h.suits.congestion ∙ is) (g.alone is));
        resends = syn_heard_runs s past now m segment t0 down seq0 w0 (is_bare tcp) seen0 feeds0 keeps0 it0 seen_is0 ok0 on late sent0;
        counts = heard_counts s past now m segment t0 down seq0 w0 (is_bare tcp) seen0 feeds0 keeps0 it0 seen_is0 ok0 on late (rises past h.goes.story) (omega (arith, h.goes.moment, on))
            (subst (λ (r : Resending). CountsSince past r.timer) (sym (congested_resend c)) g.counts);
        calls = calls_heard (opened_with u0 owed (c.fin_acked || is_fin_too seen0)) past m segment;
        steady = steady_stop c.syn g.steady;
        unset = λ none. let not_it = sym none ∙ gone in absurd cc;
        set = λ yet so. absurd cc;
        owes_syn = λ yet over. absurd cc;
        syn_again = λ yet owes so. absurd cc;
        again = λ owes under. by_arrival past m m segment;
      }

  abbrev watched0 : Transmission
  watched0 = watched_over u0 down0 m

  abbrev owed0 : Bool
  owed0 = (c.ack_owed || is_too_far seen0) || is_to_acknowledge c.received tcp.seq tcp.body (is_fin tcp)

  abbrev fa0 : Bool
  fa0 = c.fin_acked || is_fin_too seen0

  mss0 : u0.mss ≡ c.transmission.mss
  mss0 = (heard_stays t0 seq0 w0 (is_bare tcp) m seen0).mss ∙ (congested_same c).1

  watched_gives : Gives s (opened_with watched0 owed0 fa0) down0 next m
  watched_gives =
      let g = gives0 owed0 in
      gives_watched s (opened_with u0 owed0 fa0) down0 next m (nat_lt u0.sent (places u0 down0)) (heard_steady t0 seq0 w0 (is_bare tcp) m seen0 late feeds0.sound.steady)
      (omega (arith, h.goes.moment, on), rises past h.goes.story) refl
      (λ is. under_way_is s (opened_with u0 owed0 fa0) down0 next (opened0 u0 owed0 fa0 mss0) g.keeps is) g

  heeded0 : is_heeded past segment ≡ true
  heeded0 = all_heeded (is_closed past) (is_some (their_number past)) (syn_is_out past) segment.ack segment.syn segment.rst (not_past_sent (host past) tcp.ack)
      (answered (host past) || nat_eq tcp.ack (number_after (our_number past)))
      h.goes.open_yet known0 out0 ack syn rst (not_past s past now m segment t0 down seq0 w0 (is_bare tcp) seen0 feeds0 keeps0 it0 seen_is0 ok0)
      (or_last (answered (host past)) (nat_eq tcp.ack (number_after (our_number past))) same_number)
    where
      or_last : (a b : Bool) → b ≡ true → (a || b) ≡ true
      or_last true b is = refl
      or_last false b is = is

      equal : (a b : ℕ) → a ≡ b → nat_eq a b ≡ true
      equal a b is = grind (arith, nat_tests)

      same_number : nat_eq tcp.ack (number_after (our_number past)) ≡ true
      same_number = equal tcp.ack (number_after (our_number past)) (number ∙ ap (λ (n : ℕ). n % 2 ^ 32) (let more : c.ours + 1 + 0 ≡ c.ours + 1 = omega arith in more) ∙ ap
          (λ (f : ℕ). number_after f) (sym h.opened.ours))

  pub opens_now : HasBuffers (arrived (acknowledged (established c) down tcp w0 (is_bare tcp) m) up tcp) (up_after c.received tcp.seq tcp.body up) down0
      → Holds s (arrived (acknowledged (established c) down tcp w0 (is_bare tcp) m) up tcp) (up_after c.received tcp.seq tcp.body up) down0 next m
  opens_now buffers =
      subst (λ (tr : Transmission). Holds s (opened_with tr owed0 fa0) (up_after c.received tcp.seq tcp.body up) down0 next m) (sym ack_is0)
      (record {
        suits = record { ring = h.suits.ring; congestion = h.suits.congestion; scales = h.suits.scales; few = h.suits.few };
        buffers = subst (λ (tr : Transmission). HasBuffers (opened_with tr owed0 fa0) (up_after c.received tcp.seq tcp.body up) down0) ack_is0 buffers;
        within = let long = length-drop (octets_acked seen0) down.octets in let size = h.within in omega (arith, long, size);
        goes = comes_on s past now m (Arrives segment) h.goes on (λ none. none) refl h.goes.open_yet refl (nothing_to_close next (ap (λ (b : Bool). if b then Some segment else None) rst));
        opened = opened0 watched0 owed0 fa0 (watched_mss u0 down0 (nat_lt u0.sent (places u0 down0)) m ∙ mss0);
        awaits = λ is. absurd cc;
        receives = λ is. taken_receives s c up past m tcp fits few h.goes.open_yet theirs0 (all_plain segment.syn segment.rst segment.ack segment.fin
            (is_empty segment.octets) syn rst ack) heeded0 (both_not segment.syn segment.rst syn rst)
            (h.receives known) comes within h.buffers.fills fills_now stage.Synchronized watched0 (after_stop c.syn) false owed0 fa0
            (owed_parts c.ack_owed (is_too_far seen0) (is_to_acknowledge c.received tcp.seq tcp.body (is_fin tcp)));
        gives = watched_gives;
      })
    where
      ack_is0 : after_ack t0 down0 seq0 w0 (is_bare tcp) m seen0 ≡ watched0
      ack_is0 = ap (λ (b : Bool). if b then watched_over (heard_by t0 seq0 w0 (is_bare tcp) m seen0) down0 m else t0) ok0

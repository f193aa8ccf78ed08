-- An acknowledgement that counts, against the flow's story.
use Rattle.std.proofs.Common.{refl, ◌≡◌, ℕ, suc, ◌+◌, ◌-◌, ◌^◌, ◌<◌, ◌≤◌, List, ◌∷◌, length, drop, Bool, true, false, not, ◌||◌, Option, None, Some, if◌then◌else◌, min, nat_eq, nat_lt}
use Rattle.std.proofs.Common.{int_le, ℤ, pos, negsuc, ◌<ℤ◌, arith, ap, subst, sym, ◌∙◌, length-drop}
use Rattle.std.proofs.lemmas.Bool.Decides.{nat_tests}
use Rattle.std.proofs.lemmas.Int.{ints}
use Rattle.retransmit.specs.Resending.{IsSteady, Resending, after_answered, after_moved, doublings, is_off}
use Rattle.retransmit.specs.declared.Timer.{Timer}
use Rattle.retransmit.specs.declared.Timer.TheVariants as timer
use Rattle.retransmit.proofs.Steady.{steady_answered, steady_moved, steady_second}
use Rattle.seq_space.specs.Places.{place}
use Rattle.seq_space.specs.declared.Seq.{Seq}
use Rattle.sock_buffers.specs.Downward.{Downward}
use Rattle.tcp_transmit.specs.Acks.{IsSeenAs, acknowledged, congested, is_acceptable as is_accepted_ack, is_newer, octets_acked, place_acked, without}
use Rattle.tcp_transmit.specs.Timing.{round_trip}
use Rattle.tcp_transmit.specs.Transmission.{Feeds, Transmission, octets_read}
use Rattle.tcp_transmit.specs.declared.AckSeen.{AckSeen}
use Rattle.tcp_transmit.specs.declared.AckSeen.TheVariants.{Old, Same, Forward, FinToo, TooFar}
use Rattle.tcp_transmit.specs.declared.End.{End}
use Rattle.tcp_transmit.specs.declared.Window.{Window}
use Rattle.tcp_connection.specs.Hosts.{is_open}
use Rattle.tcp_connection.specs.Segments.{is_fin_too}
use Rattle.spec_flow.specs.Settings.{Settings}
use Rattle.spec_flow.specs.Event.{Arrives, At, Segment, Story, newest_moment}
use Rattle.spec_flow.specs.Host.{Confirmed, Down, acked, answered, is_acceptable, not_past_sent, our_place, sent}
use Rattle.spec_flow.specs.Flow.{confirms, host, is_under_way, syn_is_out}
use Rattle.spec_flow.specs.Lawful.{IsLawful}
use Rattle.spec_flow.specs.Windows.{Window as ToldWindow, is_no_older, their_window, window, window_of}
use Rattle.spec_flow.proofs.Sides.{host_confirmed}
use Rattle.sim_halves.specs.Resends.{Expired, Resends, Timer as FlowTimer, Until}
use Rattle.sim_halves.specs.Sends.{Keeps, Outward}
use Rattle.sim_halves.proofs.Edges.{next_window}
use Rattle.sim_halves.proofs.Heard.{all_acked, answers_syn, comes_again, comes_overdue, moves_on, same_at}
use Rattle.sim_halves.proofs.SendSteps.{confirms as confirms_step}
use Rattle.sim_halves.proofs.Sendings.{Rises}
use Rattle.sim_connection.specs.Seen.{count_of, outward_of, timer_by, timer_of, window_by}
use Rattle.sim_connection.specs.Holding.{CountsSince}
use Rattle.sim_connection.proofs.Counting.{counts_on, moved_counts, now_counts}
use Rattle.sim_connection.proofs.Hearing.{Stays, congested_stays, acked_by, heard_acked, heard_by, heard_resend, heard_stays, heard_window}

-- the place of an acknowledgement, by the counts of the sending half
pub place_same : (t : Transmission) (down : Downward) (past : List Down) (n : ℕ) → Keeps (outward_of t down) past → our_place past n ≡ place_acked t n
place_same t down past n k = ap (λ (f : ℕ). place n f (sent past)) (sym k.first) ∙ ap (λ (e : ℕ). place n t.first e) (sym k.sent)

-- where it is
pub record IsAt (t : Transmission) (down : Downward) (at : ℤ) (a n : ℕ) : Type 0 where
  pub stands : at ≡ pos a
  pub low : t.acked ≤ a
  pub high : a ≤ t.sent
  pub first : min a (octets_read down) ≡ down.first + n

pub is_at : (t : Transmission) (down : Downward) (at : ℤ) (seen : AckSeen) → Feeds t down → IsSeenAs t down at seen → is_accepted_ack seen ≡ true → IsAt t down at (acked_by t seen) (octets_acked seen)
is_at t down at Old feeds is ok = absurd cc
is_at t down at Same feeds is ok = let first = feeds.first in record { stands = is; low = omega arith; high = feeds.sound.order; first = omega (arith, first) }
is_at t down at (Forward n) feeds is ok = let first = feeds.first in record { stands = is.1; low = omega arith; high = is.3; first = omega (arith, first, is.2) }
is_at t down at (FinToo n) feeds is ok =
    let first = feeds.first in
    record { stands = is.0 ∙ ap pos (sym is.1); low = omega arith; high = omega (arith, is.1); first = omega (arith, first, is.2) }
is_at t down at TooFar feeds is ok = absurd cc

int_yes : (a b : ℕ) → a ≤ b → int_le (pos a) (pos b) ≡ true
int_yes a b is = grind (arith, nat_tests)

int_under : (z : ℤ) (a : ℕ) → z <ℤ pos a → int_le (pos a) z ≡ false
int_under (pos n) a is = let low : n < a = omega (arith, ints, is) in grind (arith, nat_tests)
int_under (negsuc n) a is = refl

int_over : (z : ℤ) (a : ℕ) → pos a <ℤ z → int_le z (pos a) ≡ false
int_over (pos n) a is = let high : a < n = omega (arith, ints, is) in grind (arith, nat_tests)
int_over (negsuc n) a is = absurd (omega (arith, ints, is))

int_within : (z : ℤ) (a b : ℕ) → z <ℤ pos a → a ≤ b → int_le z (pos b) ≡ true
int_within (pos n) a b is low = let less : n < a = omega (arith, ints, is) in grind (arith, nat_tests)
int_within (negsuc n) a b is low = refl

-- an old one doesn't count, and one of what was never sent isn't heeded
pub old_is : (t : Transmission) (down : Downward) (past : List Down) (n : ℕ) → Keeps (outward_of t down) past → t.acked ≤ t.sent → place_acked t n <ℤ pos t.acked
    → (is_acceptable past n ≡ false) × (not_past_sent past n ≡ true)
old_is t down past n k order is =
    let same = place_same t down past n k in (
      rw (same, ← k.acked, int_under (place_acked t n) t.acked is) refl,
      ap (λ (z : ℤ). int_le z (pos (sent past))) same ∙ int_within (place_acked t n) t.acked (sent past) is (omega (arith, order, k.sent)),
    )

pub far_is : (t : Transmission) (down : Downward) (past : List Down) (n : ℕ) → Keeps (outward_of t down) past → pos t.sent <ℤ place_acked t n → not_past_sent past n ≡ false
far_is t down past n k is =
    let same = place_same t down past n k in
    ap (λ (z : ℤ). int_le z (pos (sent past))) same ∙ ap (λ (e : ℕ). int_le (place_acked t n) (pos e)) (sym k.sent) ∙ int_over (place_acked t n) t.sent is

-- what is read stays
pub read_stays : (down : Downward) (n : ℕ) → n ≤ length down.octets → octets_read (without n down) ≡ octets_read down
read_stays down n few = let long = length-drop n down.octets in omega (arith, long)

fin_same : (t : Transmission) (down : Downward) (seen : AckSeen) (at : ℤ) (b : Bool) → IsSeenAs t down at seen → is_accepted_ack seen ≡ true → b ≡ nat_eq t.acked (octets_read down + 1)
    → (b || is_fin_too seen) ≡ nat_eq (acked_by t seen) (octets_read down + 1)
fin_same t down Old at b is ok same = absurd cc
fin_same t down Same at b is ok same = or_false b ∙ same
  where
    or_false : (b : Bool) → (b || false) ≡ b
    or_false true = refl
    or_false false = refl
fin_same t down (Forward n) at b is ok same =
    let one : nat_eq t.acked (octets_read down + 1) ≡ false = grind (arith, nat_tests, is.0, is.2) in
    let two : nat_eq (t.acked + n) (octets_read down + 1) ≡ false = grind (arith, nat_tests, is.2) in
    ap (λ (d : Bool). d || false) (same ∙ one) ∙ sym two
fin_same t down (FinToo n) at b is ok same =
    let two : nat_eq (t.acked + n + 1) (octets_read down + 1) ≡ true = grind (arith, nat_tests, is.2) in
    or_true b ∙ sym two
  where
    or_true : (b : Bool) → (b || true) ≡ true
    or_true true = refl
    or_true false = refl
fin_same t down TooFar at b is ok same = absurd cc

module _ (s : Settings) (past : Story) (now m : ℕ) (seg : Segment) (t : Transmission) (down : Downward) (seq : Seq) (w : ℕ) (bare : Bool) (seen : AckSeen) (feeds : Feeds t down)
    (k : Keeps (outward_of t down) (host past)) (it : confirms past seg ≡ true) (seen_is : IsSeenAs t down (place_acked t seg.acknowledgement) seen) (ok : is_accepted_ack seen ≡ true) where
  abbrev after : Story
  after = At m (Arrives seg) ∷ past

  abbrev a : ℕ
  a = acked_by t seen

  abbrev n : ℕ
  n = octets_acked seen

  abbrev u : Transmission
  u = heard_by t seq w bare m seen

  at_a : IsAt t down (place_acked t seg.acknowledgement) a n
  at_a = is_at t down (place_acked t seg.acknowledgement) seen feeds seen_is ok

  pub at_place : our_place (host past) seg.acknowledgement ≡ pos a
  at_place = place_same t down (host past) seg.acknowledgement k ∙ at_a.stands

  pub not_past : not_past_sent (host past) seg.acknowledgement ≡ true
  not_past = rw at_place (int_yes a (sent (host past)) (omega (arith, at_a.high, k.sent)))

  pub acceptable : is_acceptable (host past) seg.acknowledgement ≡ true
  acceptable = rw (at_place, int_yes (acked (host past)) a (omega (arith, at_a.low, k.acked)), int_yes a (sent (host past)) (omega (arith, at_a.high, k.sent))) refl

  pub few : n ≤ length down.octets
  few = let first = at_a.first in omega (arith, first)

  pub heard_keeps : Keeps (outward_of u (without n down)) (host after)
  heard_keeps =
      subst (λ (h : List Down). Keeps (outward_of u (without n down)) h) (sym (host_confirmed m past seg it))
      (subst (λ (o : Outward). Keeps o (Confirmed seg.acknowledgement ∷ host past)) same
      (confirms_step (outward_of t down) (host past) seg.acknowledgement a at_place not_past at_a.low k))
    where
      stays : Stays t u
      stays = heard_stays t seq w bare m seen

      same : record (outward_of t down) { before = min a (octets_read down); held = drop (min a (octets_read down) - down.first) down.octets; acked = a } ≡ outward_of u (without n down)
      same = ap (λ (b : ℕ). record (outward_of t down) { before = b; held = drop (b - down.first) down.octets; acked = a }) at_a.first
          ∙ ap (λ (j : ℕ). record (outward_of t down) { before = down.first + n; held = drop j down.octets; acked = a }) (let less : down.first + n - down.first ≡ n = omega arith in less)
          ∙ ap (λ (f : ℕ). record (outward_of t down) { first = f; before = down.first + n; held = drop n down.octets; acked = a }) (sym stays.first)
          ∙ ap (λ (e : End). record (outward_of t down) { first = u.first; before = down.first + n; held = drop n down.octets; ended = not (is_open e); acked = a }) (sym stays.end)
          ∙ ap (λ (e : ℕ). record (outward_of t down) { first = u.first; before = down.first + n; held = drop n down.octets; ended = not (is_open u.end); sent = e; acked = a }) (sym stays.sent)
          ∙ ap (λ (e : ℕ). record (outward_of t down) {
            first = u.first;
            before = down.first + n;
            held = drop n down.octets;
            ended = not (is_open u.end);
            sent = u.sent;
            acked = e;
          }) (sym (heard_acked t seq w bare m seen))

  pub heard_fin : (b : Bool) → b ≡ nat_eq t.acked (octets_read down + 1) → (b || is_fin_too seen) ≡ nat_eq u.acked (octets_read (without n down) + 1)
  heard_fin b is =
      fin_same t down seen (place_acked t seg.acknowledgement) b seen_is ok is
      ∙ ap (λ (x : ℕ). nat_eq x (octets_read down + 1)) (sym (heard_acked t seq w bare m seen))
      ∙ ap (λ (x : ℕ). nat_eq u.acked (x + 1)) (sym (read_stays down n few))

  -- the window
  newer_same : (o : Option Window) (number_ : ℕ) → seq.0 ≡ seg.number → is_newer o seq.0 a ≡ is_no_older seg a (window_by o)
  newer_same None number_ is = refl
  newer_same (Some v) number_ is = rw is refl

  pub heard_told : window s past ≡ window_by t.window → seq.0 ≡ seg.number → w ≡ their_window s past seg → window s after ≡ window_by u.window
  heard_told before number_is w_is =
      next_window s past m a seg (window_by t.window) it acceptable acked_now before
      ∙ by (is_newer t.window seq.0 a) (is_no_older seg a (window_by t.window)) (newer_same t.window 0 number_is)
      ∙ ap window_by (sym (heard_window t seq w bare m seen))
    where
      acked_now : acked (host after) ≡ a
      acked_now = sym heard_keeps.acked ∙ heard_acked t seq w bare m seen

      told_same : window_of s past seg a ≡ record { edge = a + w; number = seq.0; place = a }
      told_same = ap (λ (x : ℕ). record { edge = a + x; number = seg.number; place = a }) (sym w_is) ∙ ap (λ (x : ℕ). record { edge = a + w; number = x; place = a }) (sym number_is)

      by : (b d : Bool) → b ≡ d → (if d then Some (window_of s past seg a) else window_by t.window) ≡ window_by (if b then Some (record { edge = a + w; seq = seq; ack = a }) else t.window)
      by true true is = ap (λ (v : ToldWindow). Some v) told_same
      by false false is = refl
      by true false is = absurd cc
      by false true is = absurd cc

-- ---- the timer

-- the timer after an acknowledgement that moved
record Moved (t : Transmission) (a m : ℕ) (r : Resending) : Type 0 where
  measured : Option ℕ
  is : r ≡ after_moved t.resend measured (nat_lt a t.sent) m

moved_to : (t : Transmission) (w : ℕ) (bare : Bool) (seen : AckSeen) (place_ m : ℕ) → Moved t place_ m
    (after_moved (congested t w bare seen).resend (round_trip (congested t w bare seen).timed place_ m) (nat_lt place_ (congested t w bare seen).sent) m)
moved_to t w bare seen place_ m =
    let c = congested_stays t w bare seen in
    record {
      measured = round_trip (congested t w bare seen).timed place_ m;
      is = ap (λ (r : Resending). after_moved r (round_trip (congested t w bare seen).timed place_ m) (nat_lt place_ (congested t w bare seen).sent) m) c.3
          ∙ ap (λ (e : ℕ). after_moved t.resend (round_trip (congested t w bare seen).timed place_ m) (nat_lt place_ e) m) c.0.sent;
    }

moved_by : (t : Transmission) (w : ℕ) (bare : Bool) (k place_ m : ℕ) (seen : AckSeen) → (congested t w bare seen).acked + k ≡ place_
    → Moved t place_ m (after_moved (congested t w bare seen).resend (round_trip (congested t w bare seen).timed ((congested t w bare seen).acked + k) m)
    (nat_lt ((congested t w bare seen).acked + k) (congested t w bare seen).sent) m)
moved_by t w bare k place_ m seen is =
    subst (λ (p : ℕ). Moved t place_ m (after_moved (congested t w bare seen).resend (round_trip (congested t w bare seen).timed p m) (nat_lt p (congested t w bare seen).sent) m))
    (sym is) (moved_to t w bare seen place_ m)

module _ (s : Settings) (past : Story) (now m : ℕ) (seg : Segment) (t : Transmission) (down : Downward) (seq : Seq) (w : ℕ) (bare : Bool) (seen : AckSeen) (feeds : Feeds t down)
    (k : Keeps (outward_of t down) (host past)) (it : confirms past seg ≡ true) (seen_is : IsSeenAs t down (place_acked t seg.acknowledgement) seen) (ok : is_accepted_ack seen ≡ true)
    (on : now ≤ m) (late : m ≤ 2 ^ 62) where
  abbrev later_on : Story
  later_on = At m (Arrives seg) ∷ past

  fits : is_acceptable (host past) seg.acknowledgement ≡ true
  fits = acceptable s past now m seg t down seq w bare seen feeds k it seen_is ok

  stands_at : our_place (host past) seg.acknowledgement ≡ pos (acked_by t seen)
  stands_at = at_place s past now m seg t down seq w bare seen feeds k it seen_is ok

  at_it : IsAt t down (place_acked t seg.acknowledgement) (acked_by t seen) (octets_acked seen)
  at_it = is_at t down (place_acked t seg.acknowledgement) seen feeds seen_is ok

  pub answered_now : answered (host later_on) ≡ true
  answered_now = ap (λ (h : List Down). answered h) (host_confirmed m past seg it) ∙ by (is_acceptable (host past) seg.acknowledgement) fits
    where
      by : (b : Bool) → b ≡ true → (b || answered (host past)) ≡ true
      by b is = rw is refl

  way_now : is_under_way later_on ≡ nat_lt (acked_by t seen) t.sent
  way_now =
      let kept = heard_keeps s past now m seg t down seq w bare seen feeds k it seen_is ok in
      ap (λ (b : Bool). if b then nat_lt (acked (host later_on)) (sent (host later_on)) else syn_is_out later_on) answered_now
      ∙ ap (λ (x : ℕ). nat_lt x (sent (host later_on))) (sym kept.acked ∙ heard_acked t seq w bare m seen)
      ∙ ap (λ (x : ℕ). nat_lt (acked_by t seen) x) (sym kept.sent ∙ (heard_stays t seq w bare m seen).sent)

  abbrev Running : Resending → Type 0
  Running r = Resends later_on m (timer_of r) (count_of (is_under_way later_on) r) r.estimate.wait

  by_way : (r : Resending) (b : Bool) → nat_lt (acked_by t seen) t.sent ≡ b → Resends later_on m (timer_of r) (count_of b r) r.estimate.wait → Running r
  by_way r b is run = subst (λ (d : Bool). Resends later_on m (timer_of r) (count_of d r) r.estimate.wait) (sym (way_now ∙ is)) run

  module _ (ans : answered (host past) ≡ true) (lawful : IsLawful s past) (rising : Rises past) (newest : newest_moment past ≤ m)
      (ran : Resends past now (timer_of t.resend) (count_of (nat_lt t.acked t.sent) t.resend) t.resend.estimate.wait) where
    moved_runs : (r : Resending) → Moved t (acked_by t seen) m r → t.acked < acked_by t seen → Running r
    moved_runs r moved more = by (nat_lt (acked_by t seen) t.sent) refl
      where
        steady_r : IsSteady r
        steady_r = subst (λ (q : Resending). IsSteady q) (sym moved.is) (steady_moved t.resend moved.measured (nat_lt (acked_by t seen) t.sent) m late feeds.sound.steady)

        timer_is : (b : Bool) → nat_lt (acked_by t seen) t.sent ≡ b → r ≡ after_moved t.resend moved.measured b m
        timer_is b is = moved.is ∙ ap (λ (d : Bool). after_moved t.resend moved.measured d m) is

        by : (b : Bool) → nat_lt (acked_by t seen) t.sent ≡ b → Running r
        by true less =
            let low : acked_by t seen < t.sent = grind (arith, nat_tests) in
            let run : Resends later_on m (Until (m + r.estimate.wait)) 0 r.estimate.wait =
            moves_on past seg m it fits (acked_by t seen) stands_at s r.estimate.wait lawful rising newest (omega (arith, more, k.acked)) (omega (arith, low, k.sent))
            (steady_second r steady_r) steady_r.longest in
            by_way r true less
            (subst (λ (q : FlowTimer). Resends later_on m q (doublings r.timer r.resent) r.estimate.wait) (sym (ap (λ (q : Resending). timer_by q.timer r.estimate.wait) (timer_is true less)))
            (subst (λ (j : ℕ). Resends later_on m (Until (m + r.estimate.wait)) j r.estimate.wait) (sym (ap (λ (q : Resending). doublings q.timer q.resent) (timer_is true less))) run))
        by false all =
            let end : acked_by t seen ≡ sent (host past) = let high = at_it.high in let tested : t.sent ≤ acked_by t seen = grind (arith, nat_tests) in omega (arith, high, tested, k.sent) in
            by_way r false all (all_acked past seg m it fits (acked_by t seen) stands_at r.estimate.wait (timer_of r) end (steady_second r steady_r) steady_r.longest)

    answered_timer : (tm : Timer) (resent wait : ℕ) → is_off tm ≡ false → t.acked < t.sent → acked_by t seen ≡ t.acked → Resends past now (timer_by tm wait) (doublings tm resent) wait
        → Resends later_on m (timer_by tm wait) (doublings tm 0) wait
    answered_timer timer.Off resent wait off under same r = absurd cc
    answered_timer (timer.Since base) resent wait off under same r =
        comes_again past seg m it fits (acked_by t seen) stands_at ans (omega (arith, same, k.acked)) now (Until (base + wait)) resent wait on r
    answered_timer (timer.Expired at) resent wait off under same r =
        let way : is_under_way past ≡ true = ap (λ (b : Bool). if b then nat_lt (acked (host past)) (sent (host past)) else syn_is_out past) ans ∙ less in
        let one : Resends past now Expired (suc resent) wait = subst (λ (j : ℕ). Resends past now Expired j wait) (omega arith) r in
        subst (λ (j : ℕ). Resends later_on m Expired j wait) (omega arith)
        (comes_overdue past seg m it fits (acked_by t seen) stands_at ans (omega (arith, same, k.acked)) now resent wait on way one)
      where
        less : nat_lt (acked (host past)) (sent (host past)) ≡ true
        less = let low : acked (host past) < sent (host past) = omega (arith, under, k.acked, k.sent) in grind (arith, nat_tests)

    same_runs : acked_by t seen ≡ t.acked → Running (after_answered t.resend)
    same_runs same = by (nat_lt (acked_by t seen) t.sent) refl
      where
        low : 1000 ≤ t.resend.estimate.wait
        low = steady_second t.resend feeds.sound.steady

        by : (b : Bool) → nat_lt (acked_by t seen) t.sent ≡ b → Running (after_answered t.resend)
        by true less =
            let under : t.acked < t.sent = let tested : acked_by t seen < t.sent = grind (arith, nat_tests) in omega (arith, same, tested) in
            let tested : nat_lt t.acked t.sent ≡ true = grind (arith, nat_tests) in
            by_way (after_answered t.resend) true less
            (answered_timer t.resend.timer t.resend.resent t.resend.estimate.wait (feeds.sound.set under) under same
            (subst (λ (b : Bool). Resends past now (timer_of t.resend) (count_of b t.resend) t.resend.estimate.wait) tested ran))
        by false all =
            let end : acked_by t seen ≡ sent (host past) = let high = at_it.high in let tested : t.sent ≤ acked_by t seen = grind (arith, nat_tests) in omega (arith, high, tested, k.sent) in
            by_way (after_answered t.resend) false all (all_acked past seg m it fits (acked_by t seen) stands_at t.resend.estimate.wait
            (timer_of (after_answered t.resend)) end low feeds.sound.steady.longest)

    pub heard_runs : Running (heard_by t seq w bare m seen).resend
    heard_runs = subst (λ (r : Resending). Running r) (sym (heard_resend t seq w bare m seen)) (by seen seen_is ok refl)
      where
        fin_moved : (j : ℕ) → seen ≡ FinToo j → Moved t (acked_by t seen) m (acknowledged (congested t w bare (FinToo j)) (FinToo j) m).resend
        fin_moved j same =
            let at_end : (congested t w bare (FinToo j)).acked + j + 1 ≡ acked_by t seen = ap (λ (x : ℕ). x + j + 1) (congested_stays t w bare (FinToo j)).1 ∙ ap
            (λ (q : AckSeen). acked_by t q) (sym same) in
            subst (λ (p : ℕ). Moved t (acked_by t seen) m (after_moved (congested t w bare (FinToo j)).resend (round_trip (congested t w bare (FinToo j)).timed p m)
            (nat_lt p (congested t w bare (FinToo j)).sent) m)) (sym at_end)
            (moved_to t w bare (FinToo j) (acked_by t seen) m)

        by : (q : AckSeen) → IsSeenAs t down (place_acked t seg.acknowledgement) q → is_accepted_ack q ≡ true → seen ≡ q → Running (acknowledged (congested t w bare seen) seen m).resend
        by Old is yes_ same = absurd cc
        by Same is yes_ same =
            subst (λ (q : AckSeen). Running (acknowledged (congested t w bare q) q m).resend) (sym same)
            (subst (λ (r : Resending). Running (after_answered r)) (sym (congested_stays t w bare Same).3) (same_runs (ap (λ (q : AckSeen). acked_by t q) same)))
        by (Forward j) is yes_ same =
            let moved : Moved t (acked_by t seen) m (acknowledged (congested t w bare (Forward j)) (Forward j) m).resend =
            moved_by t w bare j (acked_by t seen) m (Forward j) (ap (λ (x : ℕ). x + j) (congested_stays t w bare (Forward j)).1 ∙ ap (λ (q : AckSeen). acked_by t q) (sym same)) in
            let more : t.acked < acked_by t seen = let is_a = ap (λ (q : AckSeen). acked_by t q) same in omega (arith, is_a, is.0) in
            subst (λ (q : AckSeen). Running (acknowledged (congested t w bare q) q m).resend) (sym same) (moved_runs (acknowledged (congested t w bare (Forward j)) (Forward j) m).resend moved more)
        by (FinToo j) is yes_ same =
            let moved : Moved t (acked_by t seen) m (acknowledged (congested t w bare (FinToo j)) (FinToo j) m).resend =
            fin_moved j same in
            let more : t.acked < acked_by t seen = let is_a = ap (λ (q : AckSeen). acked_by t q) same in omega (arith, is_a) in
            subst (λ (q : AckSeen). Running (acknowledged (congested t w bare q) q m).resend) (sym same) (moved_runs (acknowledged (congested t w bare (FinToo j)) (FinToo j) m).resend moved more)
        by TooFar is yes_ same = absurd cc

  -- the timer counts since the acknowledgement where that moved, and else as before
  pub heard_counts : Rises past → newest_moment past ≤ m → CountsSince past t.resend.timer → CountsSince later_on (heard_by t seq w bare m seen).resend.timer
  heard_counts rising newest counts = subst (λ (r : Resending). CountsSince later_on r.timer) (sym (heard_resend t seq w bare m seen)) (by seen ok refl)
    where
      set_now : CountsSince later_on (timer.Since m)
      set_now = now_counts later_on m (newest, rising) refl

      same_now : acked_by t seen ≡ t.acked → CountsSince later_on t.resend.timer
      same_now same = counts_on past later_on t.resend.timer refl (same_at past seg m it fits (acked_by t seen) stands_at (omega (arith, same, k.acked))) newest counts

      by : (q : AckSeen) → is_accepted_ack q ≡ true → seen ≡ q → CountsSince later_on (acknowledged (congested t w bare q) q m).resend.timer
      by Old yes_ same = absurd cc
      by Same yes_ same = subst (λ (r : Resending). CountsSince later_on (after_answered r).timer) (sym (congested_stays t w bare Same).3) (same_now (ap (λ (q : AckSeen). acked_by t q) same))
      by (Forward j) yes_ same = moved_counts later_on (nat_lt ((congested t w bare (Forward j)).acked + j) (congested t w bare (Forward j)).sent) m set_now
      by (FinToo j) yes_ same = moved_counts later_on (nat_lt ((congested t w bare (FinToo j)).acked + j + 1) (congested t w bare (FinToo j)).sent) m set_now
      by TooFar yes_ same = absurd cc

  -- our SYN is acknowledged
  pub syn_heard_runs : t.sent ≡ 0 → Running (heard_by t seq w bare m seen).resend
  syn_heard_runs none = by_way (heard_by t seq w bare m seen).resend false (let nothing : nat_lt (acked_by t seen) t.sent ≡ false = grind (arith, nat_tests, none) in nothing)
      (answers_syn past seg m it fits (heard_by t seq w bare m seen).resend.estimate.wait (timer_of (heard_by t seq w bare m seen).resend) (omega (arith, none, k.sent)) wait_low wait_high)
    where
      by : (q : AckSeen) → IsSeenAs t down (place_acked t seg.acknowledgement) q → is_accepted_ack q ≡ true → (acknowledged (congested t w bare q) q m).resend ≡ after_answered t.resend
      by Old is yes_ = absurd cc
      by Same is yes_ = ap after_answered (congested_stays t w bare Same).3
      by (Forward j) is yes_ = absurd (omega (arith, is.0, is.3, none))
      by (FinToo j) is yes_ = absurd (omega (arith, is.1, none))
      by TooFar is yes_ = absurd cc

      still : (heard_by t seq w bare m seen).resend ≡ after_answered t.resend
      still = heard_resend t seq w bare m seen ∙ by seen seen_is ok

      wait_low : 1000 ≤ (heard_by t seq w bare m seen).resend.estimate.wait
      wait_low = subst (λ (r : Resending). 1000 ≤ r.estimate.wait) (sym still) (steady_second t.resend feeds.sound.steady)

      wait_high : (heard_by t seq w bare m seen).resend.estimate.wait ≤ 60000
      wait_high = subst (λ (r : Resending). r.estimate.wait ≤ 60000) (sym still) feeds.sound.steady.longest

-- the estimate stays within its bounds
pub heard_steady : (t : Transmission) (seq : Seq) (w : ℕ) (bare : Bool) (m : ℕ) (seen : AckSeen) → m ≤ 2 ^ 62 → IsSteady t.resend → IsSteady (heard_by t seq w bare m seen).resend
heard_steady t seq w bare m seen late steady = subst (λ (r : Resending). IsSteady r) (sym (heard_resend t seq w bare m seen)) (by seen)
  where
    base : (q : AckSeen) → IsSteady (congested t w bare q).resend
    base q = subst (λ (r : Resending). IsSteady r) (sym (congested_stays t w bare q).3) steady

    by : (q : AckSeen) → IsSteady (acknowledged (congested t w bare q) q m).resend
    by Old = base Old
    by Same = steady_answered (congested t w bare Same).resend (base Same)
    by (Forward j) = steady_moved (congested t w bare (Forward j)).resend (round_trip (congested t w bare (Forward j)).timed ((congested t w bare (Forward j)).acked + j) m)
        (nat_lt ((congested t w bare (Forward j)).acked + j) (congested t w bare (Forward j)).sent) m late (base (Forward j))
    by (FinToo j) = steady_moved (congested t w bare (FinToo j)).resend (round_trip (congested t w bare (FinToo j)).timed ((congested t w bare (FinToo j)).acked + j + 1) m)
        (nat_lt ((congested t w bare (FinToo j)).acked + j + 1) (congested t w bare (FinToo j)).sent) m late (base (FinToo j))
    by TooFar = base TooFar

-- Our SYN or SYN-ACK goes out.
use Rattle.std.proofs.Common.{refl, ◌≡◌, ℕ, ◌+◌, ◌^◌, ◌<◌, ◌≤◌, ◌%◌, List, [], ◌∷◌, length, Bool, true, false, not, ◌&&◌, ◌||◌, Option, None, Some, is_some, if◌then◌else◌, IsTrue, IfSome}
use Rattle.std.proofs.Common.{nat_lt, int_le, pos, ◌+ℤ◌, arith, ap, subst, sym, ◌∙◌}
use Rattle.retransmit.specs.Resending.{Resending, after_sent as resend_sent, counted, doublings, is_expired, is_off, set_unless_running}
use Rattle.retransmit.specs.declared.Timer.{Timer}
use Rattle.retransmit.specs.declared.Timer.TheVariants as timer
use Rattle.retransmit.proofs.Steady.{steady_second, steady_sent}
use Rattle.sock_buffers.specs.Downward.{Downward}
use Rattle.sock_buffers.specs.Upward.{Upward}
use Rattle.tcp_receive.specs.Received.{next_number, places_taken}
use Rattle.tcp_connection.specs.Connection.{Connection, HasBuffers, has_gone, is_opening, is_synchronized, once_more, shift_of}
use Rattle.tcp_connection.specs.Owing.{scale_if, syn_gone, told}
use Rattle.tcp_connection.specs.Windows.{least_shift}
use Rattle.tcp_connection.specs.declared.Owed.TheVariants.{SynAck}
use Rattle.tcp_connection.specs.declared.Sendings.{Sendings}
use Rattle.tcp_connection.specs.declared.Sendings.TheVariants.{Never, Once, Again}
use Rattle.tcp_connection.specs.declared.Stage.{Stage}
use Rattle.tcp_connection.specs.declared.Stage.TheVariants as stage
use Rattle.spec_flow.specs.Settings.{Settings}
use Rattle.spec_flow.specs.Event.{At, Departs, Segment, Story}
use Rattle.spec_flow.specs.Host.{Down, acked, answered, our_place, sent}
use Rattle.spec_flow.specs.Flow.{add_if, host, is_accepted, is_closed, is_connecting, is_under_way, next_number as number_after, our_number, syn_is_out, syn_sendings, their_syn}
use Rattle.spec_flow.specs.Windows.{is_scaled, least_shift as least_told}
use Rattle.spec_flow.specs.Close.{fin_is_out}
use Rattle.spec_flow.specs.Lawful.{OpensWithSyn, Send, SendsAgainWithReason, SendsItsOptions, is_overdue, is_prompted, repeats}
use Rattle.spec_flow.proofs.Sides.{host_opened}
use Rattle.sim_halves.specs.Resends.{Resends, Timer as FlowTimer, Until}
use Rattle.sim_halves.specs.Sends.{Keeps}
use Rattle.sim_halves.proofs.Acts.{may_send, must_send}
use Rattle.sim_halves.proofs.Reasons.{reason_later, syn_may_go}
use Rattle.sim_halves.proofs.Sendings.{rises}
use Rattle.sim_halves.proofs.SynGone.{syn_again, syn_anyway, syn_goes}
use Rattle.sim_connection.specs.Holding.{Gives, Goes, Holds, IsOpened, is_calls, is_at_connecting}
use Rattle.sim_connection.specs.Seen.{count_of, outward_of, timer_by, timer_of}
use Rattle.sim_connection.specs.Sending.{segment_out}
use Rattle.sim_connection.proofs.Counting.{counts_on}
use Rattle.sim_connection.proofs.Going.{does}
use Rattle.sim_connection.proofs.Leaving.{granted}
use Rattle.sim_connection.proofs.Quiet.{gives_as, opened_told, receives_beside, same_mss, same_number, same_scale}
use Rattle.sim_connection.proofs.Telling.{acknowledges, least_same, scaled_is, tells, tells_room, theirs}
use Rattle.sim_connection.proofs.Watching.{opening_is, syn_under_way}
use Rattle.sim_halves.proofs.Unheard.{syn_gone_unheard, uncalled_unheard}
use Rattle.spec_flow.specs.Dutiful.{oldest_unheard}

pub gone_once : (n : Sendings) → has_gone (once_more n) ≡ true
gone_once Never = refl
gone_once Once = refl
gone_once Again = refl

-- how far the connection is opened, once our SYN is out
pub opened_gone : (s : Settings) (c : Connection) (past next : Story) (m : ℕ) → is_at_connecting c.stage ≡ false → syn_is_out next ≡ true → our_number next ≡ our_number past →
    is_connecting next ≡ is_connecting past
    → answered (host next) ≡ answered (host past) → is_accepted next ≡ is_accepted past → their_syn next ≡ their_syn past → IsOpened s c past → IsOpened s (syn_gone c m) next
opened_gone s c past next m apart out_is ours_is connects_is answered_is accepted_is theirs_is o = record {
  live = o.live;
  ours = ours_is ∙ o.ours;
  connects = connects_is ∙ o.connects;
  out = out_is ∙ sym (gone_once c.sendings);
  unsent = λ is. let not_it = sym is ∙ apart in absurd cc;
  sent = λ is. gone_once c.sendings;
  answered = answered_is ∙ o.answered;
  owes = λ other yet none. let not_it = sym none ∙ gone_once c.sendings in absurd cc;
  calls = λ is. accepted_is ∙ o.calls is;
  quiet = o.quiet;
  called = λ is other. gone_once c.sendings;
  theirs = same_number past next theirs_is ∙ o.theirs;
  scale = o.scale ∙ ap shift_of (sym (same_scale past next theirs_is));
  mss = λ is. o.mss is ∙ sym (same_mss s past next theirs_is);
  calling = o.calling;
}

-- our SYN went out at a moment
syn_sent : (past : Story) → syn_is_out past ≡ true → 0 < length (syn_sendings past)
syn_sent [] is = absurd cc
syn_sent (At m (Departs seg) ∷ past) is = by (seg.syn && not seg.rst) (λ (out : syn_is_out past ≡ true). syn_sent past out) is
  where
    by : (b : Bool) → (syn_is_out past ≡ true → 0 < length (syn_sendings past)) → (b || syn_is_out past) ≡ true → 0 < length (add_if b m (syn_sendings past))
    by true before is = omega arith
    by false before is = before is
syn_sent (At m _ ∷ past) is = syn_sent past is

never_off : (tm : Timer) (now : ℕ) → is_off (set_unless_running tm now) ≡ false
never_off timer.Off now = refl
never_off (timer.Since base) now = refl
never_off (timer.Expired at) now = refl

runs_unset : (tm : Timer) (now : ℕ) → is_expired (set_unless_running tm now) ≡ false
runs_unset timer.Off now = refl
runs_unset (timer.Since base) now = refl
runs_unset (timer.Expired at) now = refl

sent_runs : (r : Resending) (again : Bool) (now : ℕ) → is_expired (resend_sent r again now).timer ≡ false
sent_runs r true now = refl
sent_runs r false now = runs_unset r.timer now

sent_set : (r : Resending) (again : Bool) (now : ℕ) → is_off (resend_sent r again now).timer ≡ false
sent_set r true now = refl
sent_set r false now = never_off r.timer now

module _ (s : Settings) (c : Connection) (down : Downward) (up : Upward) (past : Story) (now m : ℕ) (seg : Segment) (on : now ≤ m) (late : m ≤ 2 ^ 62) (h : Holds s c up down past now)
    (opening : is_opening c.stage ≡ true) (syn : seg.syn ≡ true) (rst : seg.rst ≡ false) where
  abbrev after : Story
  after = At m (Departs seg) ∷ past

  unanswered : answered (host past) ≡ false
  unanswered = h.opened.answered ∙ opening_is c.stage h.opened.live opening

  same_host : host after ≡ host past
  same_host = host_opened m past seg syn

  out_now : syn_is_out after ≡ true
  out_now = rw (syn, rst) refl

  way_now : is_under_way after ≡ true
  way_now = ap (λ (b : Bool). if b then nat_lt (acked (host after)) (sent (host after)) else syn_is_out after) (ap (λ (g : List Down). answered g) same_host ∙ unanswered) ∙ out_now

  fin_same : fin_is_out after ≡ fin_is_out past
  fin_same = by seg.fin seg.syn (not seg.rst) (fin_is_out past) syn
    where
      by : (a b d e : Bool) → b ≡ true → ((a && not b && d) || e) ≡ e
      by true b d e is = rw is refl
      by false b d e is = refl

  ran : Resends past now (timer_of c.syn) (count_of (is_under_way past) c.syn) c.syn.estimate.wait
  ran = subst (λ (b : Bool). Resends past now (timer_of (if b then c.syn else c.transmission.resend)) (count_of (is_under_way past) (if b then c.syn else c.transmission.resend))
      (if b then c.syn else c.transmission.resend).estimate.wait) opening h.gives.resends

  went_again : (tm : Timer) (k w : ℕ) → is_off tm ≡ false → syn_is_out past ≡ true → Resends past now (timer_by tm w) (doublings tm k) w → Resends after m (Until (m + w)) (counted tm k) w
  went_again timer.Off k w off out r = absurd cc
  went_again (timer.Since base) k w off out r = syn_anyway past seg m syn rst unanswered now (base + w) k w out (rises past h.goes.story) (omega (arith, h.goes.moment, on)) r
  went_again (timer.Expired at) k w off out r = syn_again past seg m syn rst unanswered now (k + 1) w out (rises past h.goes.story) (omega (arith, h.goes.moment, on)) on r

  abbrev Running : Resending → Type 0
  Running r = Resends after m (timer_of r) (count_of (is_under_way after) r) r.estimate.wait

  counts : (r : Resending) (k : ℕ) → doublings r.timer r.resent ≡ k → Resends after m (timer_of r) k r.estimate.wait → Running r
  counts r k is running = subst (λ (b : Bool). Resends after m (timer_of r) (count_of b r) r.estimate.wait) (sym way_now)
      (subst (λ (j : ℕ). Resends after m (timer_of r) j r.estimate.wait) (sym is) running)

  begun : (tm : Timer) (w : ℕ) → is_off tm ≡ true → timer_by (set_unless_running tm m) w ≡ Until (m + w)
  begun timer.Off w is = refl
  begun (timer.Since base) w is = absurd cc
  begun (timer.Expired at) w is = absurd cc

  begun_even : (tm : Timer) (k : ℕ) → doublings (set_unless_running tm m) k ≡ k
  begun_even timer.Off k = refl
  begun_even (timer.Since base) k = refl
  begun_even (timer.Expired at) k = refl

  runs : (b : Bool) → has_gone c.sendings ≡ b → Running (resend_sent c.syn b m)
  runs true gone =
      counts (resend_sent c.syn true m) (counted c.syn.timer c.syn.resent) refl
      (went_again c.syn.timer c.syn.resent c.syn.estimate.wait (h.gives.set opening gone) (h.opened.out ∙ gone)
      (subst (λ (b : Bool). Resends past now (timer_of c.syn) (count_of b c.syn) c.syn.estimate.wait) (syn_under_way s c past h.opened opening ∙ gone) ran))
  runs false gone =
      let off = h.gives.unset gone in
      counts (resend_sent c.syn false m) 0 (begun_even c.syn.timer c.syn.resent ∙ h.gives.steady.rests off)
      (subst (λ (q : FlowTimer). Resends after m q 0 c.syn.estimate.wait) (sym (begun c.syn.timer c.syn.estimate.wait off))
      (syn_goes past seg m syn rst unanswered c.syn.estimate.wait (h.opened.out ∙ gone) (rises past h.goes.story) (omega (arith, h.goes.moment, on))
      (steady_second c.syn h.gives.steady) h.gives.steady.longest))

  -- how often the guest was called
  called : c.syn_owed ≡ true → (b : Bool) → has_gone c.sendings ≡ b
      → oldest_unheard after ≤ (if is_opening c.stage then resend_sent c.syn (has_gone c.sendings) m else c.transmission.resend).resent + 1
  called owed b gone = rw (opening, gone) (by b gone)
    where
      one_more : oldest_unheard after ≤ 1 + oldest_unheard past
      one_more = syn_gone_unheard past seg m syn unanswered

      before : oldest_unheard past ≤ c.syn.resent + 1
      before = subst (λ (b : Bool). oldest_unheard past ≤ (if b then c.syn else c.transmission.resend).resent + 1) opening h.gives.calls.counted

      by_timer : (tm : Timer) → c.syn.timer ≡ tm → oldest_unheard after ≤ counted tm c.syn.resent + 1
      by_timer timer.Off is = let none = h.gives.calls.syn_early opening owed (ap (λ (q : Timer). is_expired q) is) in omega (arith, none, one_more)
      by_timer (timer.Since base) is = let none = h.gives.calls.syn_early opening owed (ap (λ (q : Timer). is_expired q) is) in omega (arith, none, one_more)
      by_timer (timer.Expired at) is = omega (arith, before, one_more)

      by : (b : Bool) → has_gone c.sendings ≡ b → oldest_unheard after ≤ (resend_sent c.syn b m).resent + 1
      by true is = by_timer c.syn.timer refl
      by false is = let none = uncalled_unheard past unanswered (h.opened.out ∙ is) in omega (arith, none, one_more)

  -- the host's stream, and the timer of our SYN
  pub syn_gives : c.syn_owed ≡ true → Gives s (syn_gone c m) down after m
  syn_gives owed =
      let g = h.gives in
      record {
        keeps = subst (λ (d : List Down). Keeps (outward_of c.transmission down) d) (sym same_host) g.keeps;
        fin_acked = g.fin_acked;
        fin_out = fin_same ∙ g.fin_out;
        window = g.window;
        alone = g.alone;
        resends = subst (λ (b : Bool). Running (if b then resend_sent c.syn (has_gone c.sendings) m else c.transmission.resend)) (sym opening) (runs (has_gone c.sendings) refl);
        counts = counts_on past after c.transmission.resend.timer refl refl (omega (arith, g.resends.moment, on)) g.counts;
        calls = record { counted = called owed (has_gone c.sendings) refl; early = λ yet is. let not_it = sym yet ∙ opening in absurd cc; syn_early = λ yet owes runs. absurd cc };
        steady = steady_sent c.syn (has_gone c.sendings) m late g.steady;
        unset = λ none. let not_it = sym none ∙ gone_once c.sendings in absurd cc;
        set = λ yet gone. sent_set c.syn (has_gone c.sendings) m;
        owes_syn = λ yet over. let not_it = sym over ∙ sent_runs c.syn (has_gone c.sendings) m in absurd cc;
        syn_again = λ yet owed gone. absurd cc;
        again = λ owed under. let unsent = h.buffers.sound.unsent opening in absurd (omega (arith, under, unsent));
      }

  -- it has a reason
  by_reason : (b a p_ d : Bool) → b ≡ true → IsTrue (a || b || p_ || d)
  by_reason b true p_ d is = refl
  by_reason b false p_ d is = rw is refl

  not_out : (b : Bool) → b ≡ false → not b ≡ true
  not_out b is = rw is refl

  pub syn_reason : c.syn_owed ≡ true → SendsAgainWithReason past m (Send seg)
  syn_reason owed = by (has_gone c.sendings) refl
    where
      by : (b : Bool) → has_gone c.sendings ≡ b → SendsAgainWithReason past m (Send seg)
      by true gone = syn_may_go past m seg syn unanswered (syn_sent past (h.opened.out ∙ gone)) (reason_later past now m on (h.gives.syn_again opening owed gone))
      by false gone = by_reason (not (repeats past seg)) seg.rst (is_prompted past) (is_overdue m past seg)
          (not_out (repeats past seg) (ap (λ (b : Bool). if b then syn_is_out past else is_old) syn ∙ h.opened.out ∙ gone))
        where
          is_old : Bool
          is_old = int_le (our_place (host past) seg.number +ℤ pos (length seg.octets + (if seg.fin then 1 else 0))) (pos (sent (host past)))

-- ---- our SYN-ACK

module _ (s : Settings) (c : Connection) (up : Upward) (down : Downward) (past : Story) (now m : ℕ) (on : now ≤ m) (late : m ≤ 2 ^ 62) (h : Holds s c up down past now)
    (at : c.stage ≡ stage.SynReceived) (owed : c.syn_owed ≡ true) where
  abbrev seg : Segment
  seg = segment_out s.mru c up down SynAck

  known : is_calls c.stage ≡ false
  known = ap (λ (st : Stage). is_calls st) at

  opening : is_opening c.stage ≡ true
  opening = ap (λ (st : Stage). is_opening st) at

  number_same : next_number c.received ≡ number_after c.received.first
  number_same =
      let none : places_taken c.received ≡ 0 = ap (λ (b : Bool). if b then c.received.taken + 1 else c.received.taken) (h.buffers.sound.unended opening) ∙ h.buffers.sound.untaken opening in
      ap (λ (n : ℕ). (c.received.first + 1 + n) % 2 ^ 32) none ∙ ap (λ (n : ℕ). n % 2 ^ 32) (omega arith)

  opens : OpensWithSyn past (Send seg)
  opens = (
    (λ is. refl),
    (λ is. (
      sym h.opened.ours,
      subst (λ (o : Option ℕ). IfSome o (λ f. next_number c.received ≡ number_after f))
          (sym (theirs s c up past now m seg h.suits h.goes h.opened known h.gives.fin_out (h.receives known) refl refl refl)) number_same,
    )),
  )

  scale_same : (a b d : Bool) (x y : ℕ) → a ≡ true → b ≡ d → x ≡ y → scale_if b x ≡ (if a && d then Some y else None)
  scale_same a b d x y a_is b_is x_is = rw (a_is, b_is, x_is) refl

  options : SendsItsOptions s past (Send seg)
  options = (
    refl,
    scale_is s.scales (is_some c.scale) (is_scaled s past) (least_shift c.ring) (least_told s.ring) h.suits.scales (sym (scaled_is s c past h.suits h.opened))
        (ap least_shift h.suits.ring ∙ sym (least_same s.ring)),
  )
    where
      scale_is : (a b d : Bool) (x y : ℕ) → a ≡ true → b ≡ d → x ≡ y → scale_if b x ≡ (if a && true && true && (false || d) then Some y else None)
      scale_is true b true x y a_is b_is x_is = rw (b_is, x_is) refl
      scale_is true b false x y a_is b_is x_is = rw b_is refl
      scale_is false b d x y a_is b_is x_is = absurd cc

  none_if : (b : Bool) → b ≡ false → IsTrue b → ⊥
  none_if b is so = let not_it = sym is ∙ so in absurd cc

  goes_now : Goes s (At m (Departs seg) ∷ past) m
  goes_now = does s past now m (Departs seg) (Send seg) h.goes on (λ none. none) refl
      (may_send s past m seg (refl, refl) (omega arith) (syn_reason s c down up past now m seg on late h opening refl refl owed) (λ is. absurd cc)
      (acknowledges s c up past now m seg h.suits h.goes h.opened known h.gives.fin_out (h.receives known) refl refl refl)
      (λ is. absurd cc) h.goes.well (λ is. absurd cc) (λ is. absurd (none_if (is_closed past) h.goes.open_yet is))
      (λ is. granted s c past h.opened h.goes.open_yet (ap (λ (st : Stage). is_at_connecting st) at)) opens
      (record { carries = λ is. absurd cc; acknowledges = ((λ is. refl), (λ is. absurd cc)); next = λ is. absurd cc; window = λ is. absurd cc }) options)
      (must_send s past m seg (tells_room s c up past now m seg h.suits h.goes h.opened known h.gives.fin_out (h.receives known) refl refl refl refl) h.goes.free)
      h.goes.open_yet refl refl

  pub syn_ack_goes : HasBuffers (told (syn_gone c m) up 0) up down → Holds s (told (syn_gone c m) up 0) up down (At m (Departs seg) ∷ past) m
  syn_ack_goes buffers =
      let r = tells s c up past now m seg h.suits h.goes h.opened known h.gives.fin_out (h.receives known) refl refl refl 0 refl refl
      (λ is. let not_it = sym is ∙ ap (λ (st : Stage). is_synchronized st) at in absurd cc) in
      let g = syn_gives s c down up past now m seg on late h opening refl refl owed in
      record {
        suits = record { ring = h.suits.ring; congestion = h.suits.congestion; scales = h.suits.scales; few = h.suits.few };
        buffers = buffers;
        within = h.within;
        goes = goes_now;
        opened = opened_told s (syn_gone c m) up 0 (At m (Departs seg) ∷ past)
            (opened_gone s c past (At m (Departs seg) ∷ past) m (ap (λ (st : Stage). is_at_connecting st) at) refl refl refl refl refl refl h.opened);
        awaits = λ is. let not_it = sym is ∙ known in absurd cc;
        receives = λ is. receives_beside s (told c up 0) (told (syn_gone c m) up 0) up (At m (Departs seg) ∷ past) (λ so. so) r;
        gives = gives_as s (syn_gone c m) (told (syn_gone c m) up 0) down (At m (Departs seg) ∷ past) m refl refl refl refl refl (λ so gone yet. absurd cc) (λ so. so) (λ yet owes runs. absurd cc) g;
      }

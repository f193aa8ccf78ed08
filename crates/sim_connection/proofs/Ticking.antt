-- The timer expires: what it waits for is owed again, or the flow is given up.
use Rattle.std.proofs.Common.{Option, refl, ◌≡◌, ℕ, ◌+◌, ◌*◌, ◌<◌, ◌≤◌, Bool, true, false, Some, if◌then◌else◌, IsTrue, nat_eq, nat_lt, min, arith, ap, subst, sym, ◌∙◌}
use Rattle.std.proofs.lemmas.Bool.Decides.{nat_tests}
use Rattle.cwnd.specs.Congestion.{Congestion}
use Rattle.retransmit.specs.Resending.{Resending, after_expired as resend_expired, doublings, due_by, due_of, expired_by, is_expired, is_given_up, is_off}
use Rattle.retransmit.specs.Estimate.{after_expiry}
use Rattle.retransmit.specs.declared.Timer.{Timer}
use Rattle.retransmit.specs.declared.Timer.TheVariants as timer
use Rattle.retransmit.proofs.Steady.{steady_expired}
use Rattle.sock_buffers.specs.Downward.{Downward}
use Rattle.sock_buffers.specs.Upward.{Upward}
use Rattle.tcp_transmit.specs.Timing.{after_expired, cwnd_expired, timed_out}
use Rattle.tcp_transmit.specs.Transmission.{Transmission, flight, is_sent, octets_read}
use Rattle.tcp_connection.specs.Connection.{Connection, HasBuffers, has_gone, is_opening}
use Rattle.spec_flow.specs.Settings.{Settings}
use Rattle.spec_flow.specs.Event.{Story}
use Rattle.spec_flow.specs.Flow.{host, is_under_way}
use Rattle.spec_flow.specs.Close.{gives_up}
use Rattle.sim_halves.specs.Resends.{HasReason, Resends, Expired, Until}
use Rattle.sim_halves.specs.Sends.{Keeps}
use Rattle.sim_halves.proofs.InTime.{gives_up_now}
use Rattle.sim_halves.proofs.Reasons.{by_expiry}
use Rattle.sim_halves.proofs.Resent.{counted, expires_now}
use Rattle.sim_connection.specs.Holding.{CountsSince, Holds}
use Rattle.sim_connection.specs.Seen.{count_of, outward_of, resending_of, timer_by, timer_of, window_by}
use Rattle.sim_connection.proofs.Counting.{expired_counts}
use Rattle.sim_connection.proofs.Quiet.{awaits_beside, awaits_sending, opened_beside, opened_sending, receives_beside, receives_sending}
use Rattle.sim_connection.proofs.Watching.{syn_under_way, under_way_is}
use Rattle.spec_flow.specs.Dutiful.{oldest_unheard}

some_is : (a b : ℕ) → Some a ≡ Some b → a ≡ b
some_is a b is = cc

-- ---- a timer that is due

module _ (past : Story) (now at : ℕ) (late : at ≤ now) where
  after_due : (tm : Timer) (resent w : ℕ) (under : Bool) → is_under_way past ≡ under → due_by tm w ≡ Some at → Resends past now (timer_by tm w) (if under then doublings tm resent else 0) w
      → Resends past now (timer_by (expired_by tm w) (min 60000 (2 * w))) (if under then doublings (expired_by tm w) resent else 0) (min 60000 (2 * w))
  after_due timer.Off resent w under way due r = absurd cc
  after_due (timer.Since base) resent w true way due r =
      let is = some_is (base + w) at due in
      subst (λ (k : ℕ). Resends past now Expired k (min 60000 (2 * w))) (ap (λ (b : Bool). counted b resent) way ∙ omega arith) (expires_now past now (base + w) resent w (omega (arith, is, late)) r)
  after_due (timer.Since base) resent w false way due r =
      let is = some_is (base + w) at due in
      subst (λ (k : ℕ). Resends past now Expired k (min 60000 (2 * w))) (ap (λ (b : Bool). counted b 0) way) (expires_now past now (base + w) 0 w (omega (arith, is, late)) r)
  after_due (timer.Expired base) resent w under way due r = absurd cc

  reason_due : (tm : Timer) (k w : ℕ) → is_under_way past ≡ true → due_by tm w ≡ Some at → Resends past now (timer_by tm w) k w → HasReason past now
  reason_due timer.Off k w way due r = absurd cc
  reason_due (timer.Since base) k w way due r = let is = some_is (base + w) at due in by_expiry past now (base + w) k w r (omega (arith, is, late)) way
  reason_due (timer.Expired base) k w way due r = absurd cc

  spent_due : (tm : Timer) (resent w : ℕ) → is_under_way past ≡ true → due_by tm w ≡ Some at → 8 ≤ resent → doublings tm resent ≤ 8 → Resends past now (timer_by tm w)
      (doublings tm resent) w → IsTrue (gives_up now past)
  spent_due timer.Off resent w way due many few r = absurd cc
  spent_due (timer.Since base) resent w way due many few r =
      let is = some_is (base + w) at due in
      gives_up_now past now (base + w) w (subst (λ (k : ℕ). Resends past now (Until (base + w)) k w) (omega (arith, many, few)) r) (omega (arith, is, late))
  spent_due (timer.Expired base) resent w way due many few r = absurd cc

  ends_due : (tm : Timer) (w : ℕ) → due_by tm w ≡ Some at → is_expired (expired_by tm w) ≡ true
  ends_due timer.Off w due = absurd cc
  ends_due (timer.Since base) w due = refl
  ends_due (timer.Expired base) w due = absurd cc

  runs_still : (tm : Timer) (w : ℕ) → due_by tm w ≡ Some at → (is_off tm ≡ false) × (is_off (expired_by tm w) ≡ false)
  runs_still timer.Off w due = absurd cc
  runs_still (timer.Since base) w due = (refl, refl)
  runs_still (timer.Expired base) w due = absurd cc

expired_is : (r : Resending) → is_given_up r ≡ false → resend_expired r ≡ record r { estimate = after_expiry r.estimate; timer = expired_by r.timer r.estimate.wait }
expired_is r is = ap (λ (b : Bool). if b then r else record r { estimate = after_expiry r.estimate; timer = expired_by r.timer r.estimate.wait }) is

transmission_is : (t : Transmission) → is_given_up t.resend ≡ false → after_expired t ≡ timed_out t
transmission_is t is = ap (λ (b : Bool). if b then t else timed_out t) is

module _ (s : Settings) (c : Connection) (up : Upward) (down : Downward) (past : Story) (now : ℕ) (h : Holds s c up down past now) (at : ℕ) (late : at ≤ now) where
  ran : (r : Resending) → resending_of c ≡ r → Resends past now (timer_of r) (count_of (is_under_way past) r) r.estimate.wait
  ran r is = subst (λ (q : Resending). Resends past now (timer_of q) (count_of (is_under_way past) q) q.estimate.wait) is h.gives.resends

  -- ---- the timer of our SYN

  module _ (opening : is_opening c.stage ≡ true) (due : due_of c.syn ≡ Some at) where
    syn_runs : resending_of c ≡ c.syn
    syn_runs = ap (λ (b : Bool). if b then c.syn else c.transmission.resend) opening

    gone : has_gone c.sendings ≡ true
    gone = by (has_gone c.sendings) refl
      where
        by : (b : Bool) → has_gone c.sendings ≡ b → b ≡ true
        by true is = refl
        by false is = let not_it = sym (h.gives.unset is) ∙ (runs_still past now at late c.syn.timer c.syn.estimate.wait due).0 in absurd cc

    way : is_under_way past ≡ true
    way = syn_under_way s c past h.opened opening ∙ gone

    -- it was given up
    pub syn_spent : is_given_up c.syn ≡ true → IsTrue (gives_up now past)
    syn_spent spent = spent_due past now at late c.syn.timer c.syn.resent c.syn.estimate.wait way due (grind (arith, nat_tests)) h.gives.steady.few
        (subst (λ (b : Bool). Resends past now (timer_of c.syn) (count_of b c.syn) c.syn.estimate.wait) way (ran c.syn syn_runs))

    -- it is owed again
    pub syn_expires : is_given_up c.syn ≡ false → HasBuffers (record c { syn = resend_expired c.syn; syn_owed = true }) up down → Holds s
        (record c { syn = resend_expired c.syn; syn_owed = true }) up down past now
    syn_expires fresh buffers =
        let again : Connection = record c { syn = resend_expired c.syn; syn_owed = true } in
        let g = h.gives in
        record {
          suits = record { ring = h.suits.ring; congestion = h.suits.congestion; scales = h.suits.scales; few = h.suits.few };
          buffers = buffers;
          within = h.within;
          goes = h.goes;
          opened = opened_beside s c again past refl refl (λ is. refl) h.opened.quiet h.opened;
          awaits = λ is. awaits_beside s c again up past past refl refl refl refl refl (h.awaits is);
          receives = λ is. receives_beside s c again up past (λ so. so) (h.receives is);
          gives = record {
            keeps = g.keeps;
            fin_acked = g.fin_acked;
            fin_out = g.fin_out;
            window = g.window;
            alone = g.alone;
            resends = subst (λ (b : Bool). Resends past now (timer_of (if b then resend_expired c.syn else c.transmission.resend))
                (count_of (is_under_way past) (if b then resend_expired c.syn else c.transmission.resend))
                (if b then resend_expired c.syn else c.transmission.resend).estimate.wait) (sym opening)
                (subst (λ (q : Resending). Resends past now (timer_of q) (count_of (is_under_way past) q) q.estimate.wait) (sym (expired_is c.syn fresh))
                (after_due past now at late c.syn.timer c.syn.resent c.syn.estimate.wait (is_under_way past) refl due (ran c.syn syn_runs)));
            counts = g.counts;
            calls = record {
              counted = subst (λ (b : Bool). oldest_unheard past ≤ (if b then resend_expired c.syn else c.transmission.resend).resent + 1) (sym opening)
                  (subst (λ (q : Resending). oldest_unheard past ≤ q.resent + 1) (sym (expired_is c.syn fresh)) (subst (λ (q : Resending). oldest_unheard past ≤ q.resent + 1) syn_runs g.calls.counted));
              early = λ yet is. let not_it = sym yet ∙ opening in absurd cc;
              syn_early = λ yet owes runs. let not_it = sym runs ∙ subst (λ (q : Resending). is_expired q.timer ≡ true) (sym (expired_is c.syn fresh)) (ends_due past now at late c.syn.timer c.syn.estimate.wait due) in absurd cc;
            };
            steady = steady_expired c.syn g.steady;
            unset = λ none. let not_it = sym none ∙ gone in absurd cc;
            owes_syn = λ yet over. refl;
            set = λ yet so. subst (λ (q : Resending). is_off q.timer ≡ false) (sym (expired_is c.syn fresh)) (runs_still past now at late c.syn.timer c.syn.estimate.wait due).1;
            syn_again = λ yet owed so. reason_due past now at late c.syn.timer (count_of (is_under_way past) c.syn) c.syn.estimate.wait way due (ran c.syn syn_runs);
            again = λ owed under. let unsent = h.buffers.sound.unsent opening in absurd (omega (arith, under, unsent));
          };
        }

  -- ---- the timer of pieces

  module _ (opening : is_opening c.stage ≡ false) (due : due_of c.transmission.resend ≡ Some at) where
    piece_runs : resending_of c ≡ c.transmission.resend
    piece_runs = ap (λ (b : Bool). if b then c.syn else c.transmission.resend) opening

    under : is_given_up c.transmission.resend ≡ true → is_under_way past ≡ true
    under spent = by (nat_lt c.transmission.acked c.transmission.sent) refl (under_way_is s c down past h.opened h.gives.keeps opening)
      where
        by : (b : Bool) → nat_lt c.transmission.acked c.transmission.sent ≡ b → is_under_way past ≡ b → is_under_way past ≡ true
        by true less is = is
        by false less is =
            let order = h.buffers.feeds.sound.order in
            let none = h.buffers.feeds.sound.begins (grind (arith, nat_tests)) in
            let many : 8 ≤ c.transmission.resend.resent = grind (arith, nat_tests) in
            absurd (omega (arith, none, many))

    -- it was given up
    pub piece_spent : is_given_up c.transmission.resend ≡ true → IsTrue (gives_up now past)
    piece_spent spent = spent_due past now at late c.transmission.resend.timer c.transmission.resend.resent c.transmission.resend.estimate.wait (under spent) due
        (grind (arith, nat_tests)) h.buffers.feeds.sound.steady.few
        (subst (λ (b : Bool). Resends past now (timer_of c.transmission.resend) (count_of b c.transmission.resend) c.transmission.resend.estimate.wait) (under spent)
        (ran c.transmission.resend piece_runs))

    -- the oldest piece is owed again, or a probe
    pub piece_expires : is_given_up c.transmission.resend ≡ false → HasBuffers (record c { transmission = after_expired c.transmission }) up down → Holds s
        (record c { transmission = after_expired c.transmission }) up down past now
    piece_expires fresh buffers =
        let g = h.gives in
        let is = transmission_is c.transmission fresh in
        record {
          suits = record { ring = h.suits.ring; congestion = h.suits.congestion; scales = h.suits.scales; few = h.suits.few };
          buffers = buffers;
          within = h.within;
          goes = h.goes;
          opened = opened_sending s c (after_expired c.transmission) past (ap (λ (u : Transmission). u.mss) is) h.opened;
          awaits = λ so. awaits_sending s c (after_expired c.transmission) up past (h.awaits so);
          receives = λ so. receives_sending s c (after_expired c.transmission) up past (h.receives so);
          gives = record {
            keeps = subst (λ (u : Transmission). Keeps (outward_of u down) (host past)) (sym is) g.keeps;
            fin_acked = g.fin_acked ∙ ap (λ (u : Transmission). nat_eq u.acked (octets_read down + 1)) (sym is);
            fin_out = g.fin_out ∙ ap (λ (u : Transmission). is_sent u.end) (sym is);
            window = g.window ∙ ap (λ (u : Transmission). window_by u.window) (sym is);
            alone = λ so. ap (λ (u : Transmission). u.cwnd) is ∙ ap (λ (o : Option Congestion). cwnd_expired o (flight c.transmission) c.transmission.again) (g.alone so);
            resends = subst (λ (b : Bool). Resends past now (timer_of (if b then c.syn else (after_expired c.transmission).resend))
                (count_of (is_under_way past) (if b then c.syn else (after_expired c.transmission).resend))
                (if b then c.syn else (after_expired c.transmission).resend).estimate.wait) (sym opening)
                (subst (λ (q : Resending). Resends past now (timer_of q) (count_of (is_under_way past) q) q.estimate.wait)
                (sym (ap (λ (u : Transmission). u.resend) is ∙ expired_is c.transmission.resend fresh))
                (after_due past now at late c.transmission.resend.timer c.transmission.resend.resent c.transmission.resend.estimate.wait (is_under_way past) refl due
                (ran c.transmission.resend piece_runs)));
            counts = subst (λ (q : Resending). CountsSince past q.timer) (sym (ap (λ (u : Transmission). u.resend) is ∙ expired_is c.transmission.resend fresh))
                (expired_counts past c.transmission.resend.timer c.transmission.resend.estimate.wait);
            calls = record {
              counted = subst (λ (b : Bool). oldest_unheard past ≤ (if b then c.syn else (after_expired c.transmission).resend).resent + 1) (sym opening)
                  (subst (λ (q : Resending). oldest_unheard past ≤ q.resent + 1) (sym (ap (λ (u : Transmission). u.resend) is ∙ expired_is c.transmission.resend fresh))
                  (subst (λ (q : Resending). oldest_unheard past ≤ q.resent + 1) piece_runs g.calls.counted));
              early = λ yet so. g.calls.early yet (sym (ap (λ (u : Transmission). u.early) is) ∙ so);
              syn_early = λ yet owes runs. let not_it = sym yet ∙ opening in absurd cc;
            };
            steady = g.steady;
            unset = g.unset;
            set = λ yet gone. let not_it = sym yet ∙ opening in absurd cc;
            owes_syn = λ yet over. let not_it = sym yet ∙ opening in absurd cc;
            syn_again = λ yet owed gone. let not_it = sym yet ∙ opening in absurd cc;
            again = λ owed low. by low;
          };
        }
      where
        by : (after_expired c.transmission).acked < (after_expired c.transmission).sent → HasReason past now
        by low =
            let same = transmission_is c.transmission fresh in
            let before : c.transmission.acked < c.transmission.sent = subst (λ (u : Transmission). u.acked < u.sent) same low in
            let tested : nat_lt c.transmission.acked c.transmission.sent ≡ true = grind (arith, nat_tests) in
            reason_due past now at late c.transmission.resend.timer (count_of (is_under_way past) c.transmission.resend) c.transmission.resend.estimate.wait
            (under_way_is s c down past h.opened h.gives.keeps opening ∙ tested) due (ran c.transmission.resend piece_runs)

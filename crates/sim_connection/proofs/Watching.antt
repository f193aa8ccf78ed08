-- The timer of a window, and numbers under way.
use Rattle.std.proofs.Common.{refl, ◌≡◌, ℕ, ◌+◌, ◌<◌, Bool, true, false, ◌&&◌, if◌then◌else◌, nat_lt, nat_eq, arith, ap, subst, sym, ◌∙◌, ◌≤◌}
use Rattle.std.proofs.lemmas.Bool.Decides.{nat_tests}
use Rattle.retransmit.specs.Resending.{IsSteady, Resending, after_start, after_stop}
use Rattle.retransmit.proofs.Steady.{steady_second}
use Rattle.sock_buffers.specs.Downward.{Downward}
use Rattle.tcp_transmit.specs.Timing.{watched}
use Rattle.tcp_transmit.specs.Transmission.{Transmission, is_closed, is_owed_again, is_sent, octets_read}
use Rattle.tcp_connection.specs.Connection.{Connection, has_gone, is_opening, is_synchronized}
use Rattle.tcp_connection.specs.declared.Stage.{Stage}
use Rattle.tcp_connection.specs.declared.Stage.TheVariants as stage
use Rattle.spec_flow.specs.Settings.{Settings}
use Rattle.spec_flow.specs.Event.{Story, newest_moment}
use Rattle.spec_flow.specs.Dutiful.{oldest_unheard}
use Rattle.spec_flow.specs.Host.{acked, sent}
use Rattle.spec_flow.specs.Flow.{host, is_under_way, syn_is_out}
use Rattle.sim_halves.specs.Resends.{HasReason, Resends}
use Rattle.sim_halves.specs.Sends.{Keeps}
use Rattle.sim_halves.proofs.Resent.{rests_now}
use Rattle.sim_halves.proofs.Sendings.{Rises}
use Rattle.sim_connection.specs.Holding.{CountsSince, Gives, IsOpened, is_live}
use Rattle.sim_connection.specs.Seen.{count_of, outward_of, timer_of, window_by}
use Rattle.sim_connection.proofs.Counting.{now_counts, watched_counts}
use Rattle.sim_connection.proofs.Unanswered.{idle_unheard}

-- a live connection that isn't opening is synchronized
pub synchronized_is : (st : Stage) → is_live st ≡ true → is_opening st ≡ false → is_synchronized st ≡ true
synchronized_is stage.Connecting live is = absurd cc
synchronized_is stage.SynSent live is = absurd cc
synchronized_is stage.SynReceived live is = absurd cc
synchronized_is stage.Synchronized live is = refl
synchronized_is stage.TimeWait live is = absurd cc
synchronized_is (stage.Resets seq ack) live is = absurd cc
synchronized_is stage.Closed live is = absurd cc

pub opening_is : (st : Stage) → is_live st ≡ true → is_opening st ≡ true → is_synchronized st ≡ false
opening_is stage.Connecting live is = refl
opening_is stage.SynSent live is = refl
opening_is stage.SynReceived live is = refl
opening_is stage.Synchronized live is = absurd cc
opening_is stage.TimeWait live is = absurd cc
opening_is (stage.Resets seq ack) live is = absurd cc
opening_is stage.Closed live is = absurd cc

-- numbers are under way by the counts of the sending half
pub under_way_is : (s : Settings) (c : Connection) (down : Downward) (past : Story) → IsOpened s c past → Keeps (outward_of c.transmission down) (host past) → is_opening c.stage ≡ false
    → is_under_way past ≡ nat_lt c.transmission.acked c.transmission.sent
under_way_is s c down past o k is =
    ap (λ (b : Bool). if b then nat_lt (acked (host past)) (sent (host past)) else syn_is_out past) (o.answered ∙ synchronized_is c.stage o.live is)
    ∙ ap (λ (a : ℕ). nat_lt a (sent (host past))) (sym k.acked)
    ∙ ap (λ (n : ℕ). nat_lt c.transmission.acked n) (sym k.sent)

-- and until our SYN is acknowledged it is
pub syn_under_way : (s : Settings) (c : Connection) (past : Story) → IsOpened s c past → is_opening c.stage ≡ true → is_under_way past ≡ has_gone c.sendings
syn_under_way s c past o is =
    ap (λ (b : Bool). if b then nat_lt (acked (host past)) (sent (host past)) else syn_is_out past) (o.answered ∙ opening_is c.stage o.live is)
    ∙ o.out

-- nothing of the stream changes where the window is watched
module _ (t : Transmission) (down : Downward) (unsent : Bool) (now : ℕ) where
  pub watched_outward : outward_of (watched t unsent now) down ≡ outward_of t down
  watched_outward = by (nat_lt t.acked t.sent)
    where
      by : (b : Bool) → outward_of (if b then t else record t { resend = if is_closed t && unsent then after_start t.resend now else after_stop t.resend }) down ≡ outward_of t down
      by true = refl
      by false = refl

  pub watched_window : (watched t unsent now).window ≡ t.window
  watched_window = by (nat_lt t.acked t.sent)
    where
      by : (b : Bool) → (if b then t else record t { resend = if is_closed t && unsent then after_start t.resend now else after_stop t.resend }).window ≡ t.window
      by true = refl
      by false = refl

  pub watched_end : (watched t unsent now).end ≡ t.end
  watched_end = by (nat_lt t.acked t.sent)
    where
      by : (b : Bool) → (if b then t else record t { resend = if is_closed t && unsent then after_start t.resend now else after_stop t.resend }).end ≡ t.end
      by true = refl
      by false = refl

  pub watched_cwnd : (watched t unsent now).cwnd ≡ t.cwnd
  watched_cwnd = by (nat_lt t.acked t.sent)
    where
      by : (b : Bool) → (if b then t else record t { resend = if is_closed t && unsent then after_start t.resend now else after_stop t.resend }).cwnd ≡ t.cwnd
      by true = refl
      by false = refl

  pub watched_acked : (watched t unsent now).acked ≡ t.acked
  watched_acked = by (nat_lt t.acked t.sent)
    where
      by : (b : Bool) → (if b then t else record t { resend = if is_closed t && unsent then after_start t.resend now else after_stop t.resend }).acked ≡ t.acked
      by true = refl
      by false = refl

  pub watched_mss : (watched t unsent now).mss ≡ t.mss
  watched_mss = by (nat_lt t.acked t.sent)
    where
      by : (b : Bool) → (if b then t else record t { resend = if is_closed t && unsent then after_start t.resend now else after_stop t.resend }).mss ≡ t.mss
      by true = refl
      by false = refl

wait_stays : (r : Resending) (b : Bool) (now : ℕ) → (if b then after_start r now else after_stop r).estimate.wait ≡ r.estimate.wait
wait_stays r true now = refl
wait_stays r false now = refl

-- the window is watched
pub gives_watched : (s : Settings) (c : Connection) (down : Downward) (past : Story) (now : ℕ) (unsent : Bool) → IsSteady c.transmission.resend → Rises past → newest_moment past ≡ now
    → (is_opening c.stage ≡ false → is_under_way past ≡ nat_lt c.transmission.acked c.transmission.sent)
    → Gives s c down past now → Gives s (record c { transmission = watched c.transmission unsent now }) down past now
gives_watched s c down past now unsent steady rising newest under g = record {
  keeps = subst (λ o. Keeps o (host past)) (sym (watched_outward c.transmission down unsent now)) g.keeps;
  fin_acked = g.fin_acked ∙ ap (λ (a : ℕ). nat_eq a (octets_read down + 1)) (sym (watched_acked c.transmission down unsent now));
  fin_out = g.fin_out ∙ ap is_sent (sym (watched_end c.transmission down unsent now));
  window = g.window ∙ ap window_by (sym (watched_window c.transmission down unsent now));
  alone = λ is. watched_cwnd c.transmission down unsent now ∙ g.alone is;
  resends = by_stage (is_opening c.stage) refl;
  counts = by_counts (nat_lt t.acked t.sent);
  calls = record { counted = by_calls (is_opening c.stage) refl; early = by_early (nat_lt t.acked t.sent); syn_early = g.calls.syn_early };
  steady = g.steady;
  unset = g.unset;
  set = g.set;
  owes_syn = g.owes_syn;
  syn_again = g.syn_again;
  again = by_again (nat_lt c.transmission.acked c.transmission.sent) refl;
}
  where
    t : Transmission
    t = c.transmission

    starts : Resending
    starts = if is_closed t && unsent then after_start t.resend now else after_stop t.resend

    Running : Resending → Type 0
    Running r = Resends past now (timer_of r) (count_of (is_under_way past) r) r.estimate.wait

    by_under : (b : Bool) → nat_lt t.acked t.sent ≡ b → is_under_way past ≡ b → Running t.resend → Running (if b then t else record t { resend = starts }).resend
    by_under true is way r = r
    by_under false is way r =
        let low = steady_second t.resend steady in
        let high = steady.longest in
        let same = wait_stays t.resend (is_closed t && unsent) now in
        subst (λ (b : Bool). Resends past now (timer_of starts) (count_of b starts) starts.estimate.wait) (sym way)
        (rests_now past now starts.estimate.wait (timer_of starts) g.resends.moment way (omega (arith, low, same)) (omega (arith, high, same)))

    by_stage : (b : Bool) → is_opening c.stage ≡ b → Running (if b then c.syn else (watched t unsent now).resend)
    by_stage true is = subst (λ (b : Bool). Running (if b then c.syn else t.resend)) is g.resends
    by_stage false is = by_under (nat_lt t.acked t.sent) refl (under is) (subst (λ (b : Bool). Running (if b then c.syn else t.resend)) is g.resends)

    by_counts : (b : Bool) → CountsSince past (if b then t else record t { resend = starts }).resend.timer
    by_counts true = g.counts
    by_counts false = watched_counts past t.resend (is_closed t && unsent) now (now_counts past now rising newest) g.counts

    by_idle : (b : Bool) → nat_lt t.acked t.sent ≡ b → is_under_way past ≡ b → oldest_unheard past ≤ t.resend.resent + 1 → oldest_unheard past
        ≤ (if b then t else record t { resend = starts }).resend.resent + 1
    by_idle true is way few = few
    by_idle false is way few = let none = idle_unheard past way in omega (arith, none)

    by_calls : (b : Bool) → is_opening c.stage ≡ b → oldest_unheard past ≤ (if b then c.syn else (watched t unsent now).resend).resent + 1
    by_calls true is = subst (λ (b : Bool). oldest_unheard past ≤ (if b then c.syn else t.resend).resent + 1) is g.calls.counted
    by_calls false is = by_idle (nat_lt t.acked t.sent) refl (under is) (subst (λ (b : Bool). oldest_unheard past ≤ (if b then c.syn else t.resend).resent + 1) is g.calls.counted)

    by_early : (b : Bool) → is_opening c.stage ≡ false → (if b then t else record t { resend = starts }).early ≡ true → oldest_unheard past ≡ 0
    by_early true opening is = g.calls.early opening is
    by_early false opening is = g.calls.early opening is

    by_again : (b : Bool) → nat_lt t.acked t.sent ≡ b → is_owed_again (if b then t else record t { resend = starts }) ≡ true
        → (if b then t else record t { resend = starts }).acked < (if b then t else record t { resend = starts }).sent → HasReason past now
    by_again true is owed low = g.again owed low
    by_again false is owed low = absurd (grind (arith, nat_tests))

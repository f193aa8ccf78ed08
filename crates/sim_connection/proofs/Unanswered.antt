-- How often the guest was called since it was heard, against the timer's count.
use Rattle.std.proofs.Common.{IsTrue, refl, ◌≡◌, ℕ, ◌+◌, ◌≤◌, ◌∷◌, Bool, true, false, if◌then◌else◌, nat_lt, arith, ap, subst, sym, ◌∙◌}
use Rattle.std.proofs.lemmas.Bool.Decides.{nat_tests}
use Rattle.retransmit.specs.Resending.{IsSteady, Resending, doublings, is_expired}
use Rattle.retransmit.specs.declared.Timer.{Timer}
use Rattle.retransmit.specs.declared.Timer.TheVariants as timer
use Rattle.sock_buffers.specs.Downward.{Downward}
use Rattle.sock_buffers.specs.Upward.{Upward}
use Rattle.tcp_transmit.specs.Transmission.{Transmission}
use Rattle.tcp_connection.specs.Connection.{Connection, is_opening}
use Rattle.spec_flow.specs.Event.{Arrives, At, Segment, Story}
use Rattle.spec_flow.specs.Host.{acked, answered, sent}
use Rattle.spec_flow.specs.Flow.{host, is_under_way, syn_is_out}
use Rattle.spec_flow.specs.Settings.{Settings}
use Rattle.spec_flow.specs.Dutiful.{is_called_enough, oldest_unheard}
use Rattle.sim_halves.proofs.Unheard.{called_enough, heard_now, uncalled_unheard, unsent_unheard}
use Rattle.sim_connection.specs.Holding.{Calls, Holds}
use Rattle.sim_connection.specs.Seen.{resending_of}

pub resending_as : (c d : Connection) → is_opening d.stage ≡ is_opening c.stage → d.transmission ≡ c.transmission → d.syn ≡ c.syn → resending_of d ≡ resending_of c
resending_as c d open_is t_is syn_is =
    ap (λ (b : Bool). if b then d.syn else d.transmission.resend) open_is
    ∙ ap (λ (r : Resending). if is_opening c.stage then r else d.transmission.resend) syn_is
    ∙ ap (λ (t : Transmission). if is_opening c.stage then c.syn else t.resend) t_is

-- it wasn't called
pub calls_none : (c : Connection) (past : Story) → oldest_unheard past ≡ 0 → Calls c past
calls_none c past none = record { counted = omega (arith, none); early = λ opening is. none; syn_early = λ opening owed runs. none }

-- it was heard just now
pub calls_heard : (c : Connection) (past : Story) (m : ℕ) (seg : Segment) → Calls c (At m (Arrives seg) ∷ past)
calls_heard c past m seg = calls_none c (At m (Arrives seg) ∷ past) (heard_now past m seg)

-- nothing happened that counts
pub calls_on : (c : Connection) (past next : Story) → oldest_unheard next ≡ oldest_unheard past → Calls c past → Calls c next
calls_on c past next same k =
    let few = k.counted in
    record { counted = omega (arith, few, same); early = λ opening is. same ∙ k.early opening is; syn_early = λ opening owed runs. same ∙ k.syn_early opening owed runs }

-- nothing is under way
pub idle_unheard : (past : Story) → is_under_way past ≡ false → oldest_unheard past ≡ 0
idle_unheard past idle = by (answered (host past)) refl idle
  where
    by : (b : Bool) → answered (host past) ≡ b → (if b then nat_lt (acked (host past)) (sent (host past)) else syn_is_out past) ≡ false → oldest_unheard past ≡ 0
    by true is none = unsent_unheard past is (grind (arith, nat_tests))
    by false is none = uncalled_unheard past is none

-- another connection with the same timers, which owes its SYN where the first does or the guest wasn't called
pub calls_as : (c d : Connection) (past next : Story) → oldest_unheard next ≡ oldest_unheard past → is_opening d.stage ≡ is_opening c.stage → d.transmission ≡ c.transmission
    → d.syn ≡ c.syn → (is_opening c.stage ≡ true → d.syn_owed ≡ true → is_expired c.syn.timer ≡ false → oldest_unheard past ≡ 0) → Calls c past → Calls d next
calls_as c d past next same open_is t_is syn_is owes k = record {
  counted = let resent = ap (λ (r : Resending). r.resent) (resending_as c d open_is t_is syn_is) in let few = k.counted in omega (arith, resent, few, same);
  early = λ opening is. same ∙ k.early (sym open_is ∙ opening) (ap (λ (t : Transmission). t.early) (sym t_is) ∙ is);
  syn_early = λ opening owed runs. same ∙ owes (sym open_is ∙ opening) owed (ap (λ (r : Resending). is_expired r.timer) (sym syn_is) ∙ runs);
}

-- so it was called nine times at most
pub few_calls : (s : Settings) (c : Connection) (up : Upward) (down : Downward) (past : Story) (now : ℕ) → Holds s c up down past now → IsTrue (is_called_enough past)
few_calls s c up down past now h = called_enough past (by (is_opening c.stage) refl)
  where
    resent_few : (r : Resending) → IsSteady r → r.resent ≤ 8
    resent_few r steady = timed r.timer r.resent steady.few
      where
        timed : (tm : Timer) (k : ℕ) → doublings tm k ≤ 8 → k ≤ 8
        timed timer.Off k few = few
        timed (timer.Since base) k few = few
        timed (timer.Expired at) k few = omega (arith, few)

    by : (b : Bool) → is_opening c.stage ≡ b → oldest_unheard past ≤ 9
    by true is =
        let few = subst (λ (b : Bool). oldest_unheard past ≤ (if b then c.syn else c.transmission.resend).resent + 1) is h.gives.calls.counted in
        let most = resent_few c.syn h.gives.steady in
        omega (arith, few, most)
    by false is =
        let few = subst (λ (b : Bool). oldest_unheard past ≤ (if b then c.syn else c.transmission.resend).resent + 1) is h.gives.calls.counted in
        let most = resent_few c.transmission.resend h.buffers.feeds.sound.steady in
        omega (arith, few, most)

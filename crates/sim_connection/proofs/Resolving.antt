-- A flow that calls a guest whose hardware address isn't known: it asks for the address in place of its SYN.
use Rattle.std.proofs.Common.{refl, ◌≡◌, ℕ, ◌+◌, ◌<◌, ◌≤◌, [], ◌∷◌, Bool, true, false, not, ◌&&◌, ◌||◌, IsTrue, nat_lt, arith, subst, sym, ◌∙◌, ◌++◌}
use Rattle.std.proofs.lemmas.Bool.Decides.{nat_tests}
use Rattle.sock_buffers.specs.Downward.{Downward}
use Rattle.sock_buffers.specs.Upward.{Upward}
use Rattle.tcp_connection.specs.Connection.{Connection, has_gone, is_opening, is_synchronized}
use Rattle.tcp_connection.specs.declared.Stage.{Stage}
use Rattle.tcp_connection.specs.declared.Stage.TheVariants as stage
use Rattle.spec_flow.specs.Settings.{Settings}
use Rattle.spec_flow.specs.Event.{Accepts, AsksAddress, At, Connects, Event, IsStory, Opens, Story, newest_moment}
use Rattle.spec_flow.specs.Close.{asked_at, times_asked}
use Rattle.spec_flow.specs.Flow.{has_connected, host, is_closed, is_under_way, syn_is_out}
use Rattle.spec_flow.specs.Host.{answered}
use Rattle.spec_flow.specs.Dutiful.{AreAhead, moment_if, resolves_guest, waits_since}
use Rattle.sim_halves.specs.Resends.{Resolves}
use Rattle.sim_halves.specs.Settled.{IsSettledIf}
use Rattle.sim_halves.proofs.Moments.{both_ahead}
use Rattle.sim_connection.specs.Holding.{Holds, is_calls}
use Rattle.sim_connection.proofs.Settling.{nothing_to_acknowledge, open_owes_none, no_window}
use Rattle.sim_connection.proofs.Watching.{syn_under_way}
use Rattle.sim_halves.proofs.InTime.{window_ahead}

-- it asked at a moment that was
asked_first : (past : Story) → IsStory past → asked_at past ≤ newest_moment past
asked_first [] is = omega arith
asked_first (At m AsksAddress ∷ past) is = omega arith
asked_first (At m _ ∷ []) is = omega arith
asked_first (At m (Connects ours syn) ∷ b ∷ past) is = absurd (is.0 tt)
asked_first (At m (Accepts ours) ∷ b ∷ past) is = absurd (is.0 tt)
asked_first (At m _ ∷ b ∷ past) is = let before = asked_first (b ∷ past) is.2 in omega (arith, before, is.1)

pub asked_before : (m : ℕ) (e : Event) (past : Story) → IsStory (At m e ∷ past) → asked_at past ≤ m
asked_before m e [] is = omega arith
asked_before m e (b ∷ past) is = let before = asked_first (b ∷ past) is.2 in omega (arith, before, is.1)

-- whatever happens, it has asked as often and as early
pub resolves_on : (m : ℕ) (e : Event) (past : Story) (count at : ℕ) → (Opens e → ⊥) → asked_at past ≤ m → Resolves past count at → Resolves (At m e ∷ past) count at
resolves_on m (Connects ours syn) past count at new late a = absurd (new tt)
resolves_on m (Accepts ours) past count at new late a = absurd (new tt)
resolves_on m AsksAddress past count at new late a = record { many = let many = a.many in omega (arith, many); from = a.from; soon = let soon = a.soon in omega (arith, soon, late) }
resolves_on m _ past count at new late a = record { many = a.many; from = a.from; soon = a.soon }

calls_opens : (t : Stage) → is_calls t ≡ true → (is_opening t ≡ true) × (is_synchronized t ≡ false)
calls_opens stage.Connecting is = absurd cc
calls_opens stage.SynSent is = (refl, refl)
calls_opens stage.SynReceived is = absurd cc
calls_opens stage.Synchronized is = absurd cc
calls_opens stage.TimeWait is = absurd cc
calls_opens (stage.Resets seq ack) is = absurd cc
calls_opens stage.Closed is = absurd cc

no_both : (a b : Bool) → a ≡ false → IsTrue (a && b) → ⊥
no_both true b is so = absurd cc
no_both false b is so = absurd cc

second : (a b : Bool) → b ≡ true → IsTrue (a || b)
second true b is = refl
second false b is = rw is refl

some_asked : (n : ℕ) → 0 < n → (not false && nat_lt 0 n) ≡ true
some_asked n some = grind (arith, nat_tests)

-- Once it asked for the address, all holds that is to hold while the program waits, though its SYN is to go out.
pub resolving_settled : (in_time : Type 0) (s : Settings) (c : Connection) (up : Upward) (down : Downward) (past : Story) (now count at : ℕ) → Holds s c up down past now
    → is_calls c.stage ≡ true → has_gone c.sendings ≡ false → 0 < count → Resolves past count at → (in_time → now < at)
    → IsSettledIf in_time s past false false now
resolving_settled in_time s c up down past now count at h calls unsent some a before = record {
  sends = record {
    reset = open_owes_none past h.goes.open_yet;
    syn_ack = λ is. absurd (no_both (has_connected past) (not (is_closed past)) (h.awaits calls).unasked is);
    syn = λ is. second (syn_is_out past) (not false && nat_lt 0 (times_asked past)) (some_asked (times_asked past) (let many = a.many in omega (arith, many, some)));
    octets = λ is. absurd (no_both (answered (host past)) (not (is_closed past)) unanswered is);
  };
  acknowledges = nothing_to_acknowledge s c up down past now h calls;
  window = λ conforming is. absurd (no_both (answered (host past)) (not (is_closed past)) unanswered is);
  resends = λ soon. both_ahead now (moment_if (is_under_way past && not (is_closed past)) (waits_since past + 60000)
      ++ moment_if (resolves_guest past && nat_lt 0 (times_asked past)) (asked_at past + 60000)) _
      (both_ahead now (moment_if (is_under_way past && not (is_closed past)) (waits_since past + 60000)) _
      (subst (λ (b : Bool). AreAhead now (moment_if (b && not (is_closed past)) (waits_since past + 60000)))
      (sym (syn_under_way s c past h.opened (calls_opens c.stage calls).0 ∙ unsent)) tt)
      (let near = a.soon in let early = before soon in ahead_if (resolves_guest past && nat_lt 0 (times_asked past)) (omega (arith, near, early))))
      (window_ahead past now (λ waits. absurd (no_window past unanswered waits)));
}
  where
    ahead_if : (b : Bool) → now < asked_at past + 60000 → AreAhead now (moment_if b (asked_at past + 60000))
    ahead_if true early = (early, tt)
    ahead_if false early = tt

    unanswered : answered (host past) ≡ false
    unanswered = h.opened.answered ∙ (calls_opens c.stage calls).1

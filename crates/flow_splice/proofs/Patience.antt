-- A flow that asks for its guest's hardware address: whether the wait for an answer is over.
use Rattle.std.proofs.Common.{refl, ◌≡◌, ℕ, ◌<◌, Bool, true, false, not, ◌&&◌, ◌||◌, Option, None, Some, is_some, nat_le, nat_lt, arith, ap, sym, ◌∙◌}
use Rattle.std.proofs.lemmas.Bool.Decides.{nat_tests}
use Rattle.net_octets.specs.declared.Mac.{Mac}
use Rattle.stream_netdev.specs.declared.Offered.{Offered}
use Rattle.stream_netdev.specs.declared.Offered.TheVariants.{Taken, Blocked, Failed}
use Rattle.tcp_connection.specs.declared.Stage.{Stage}
use Rattle.tcp_connection.specs.declared.Stage.TheVariants as stage
use Rattle.spec_flow.specs.Settings.{Settings}
use Rattle.spec_flow.specs.Event.{Story}
use Rattle.sim_halves.proofs.Timers.{wait_low}
use Rattle.sim_connection.specs.Holding.{is_calls, is_at_connecting}
use Rattle.flow_splice.specs.Ahead.{HasPatience}
use Rattle.flow_splice.specs.Follows.{IsOpen}
use Rattle.flow_splice.specs.Hosts.{IsAsOld}
use Rattle.flow_splice.specs.Sends.{asked, learnt}
use Rattle.flow_splice.specs.Splice.{Splice}
use Rattle.flow_splice.specs.Wants.{asks_after, resolves}

-- one that doesn't ask waits for no answer
pub no_seeker : (f : Splice) (now : ℕ) → resolves f ≡ false → HasPatience f now
no_seeker f now none open_yet resolving waits = let not_it = sym none ∙ resolving in absurd cc

pub known_patient : (f : Splice) (now : ℕ) (mac : Mac) → f.mac ≡ Some mac → HasPatience f now
known_patient f now mac is = no_seeker f now (ap (λ (m : Option Mac). not (is_some m) && nat_lt 0 f.asked) is)

pub as_old_resolves : (old new : Splice) → IsAsOld old new → resolves new ≡ resolves old
as_old_resolves old new same = ap (λ (m : Option Mac). not (is_some m) && nat_lt 0 new.asked) same.mac ∙ ap (λ (n : ℕ). not (is_some old.mac) && nat_lt 0 n) same.asked

-- a flow that connects has its guest's address
pub connects_known : (s : Settings) (f : Splice) (past : Story) (now : ℕ) → IsOpen s f past now → is_at_connecting f.conn.stage ≡ true → resolves f ≡ false
connects_known s f past now o connects = by f.mac refl
  where
    apart : (st : Stage) → is_calls st ≡ true → is_at_connecting st ≡ true → ⊥
    apart stage.Connecting calls is = cc
    apart stage.SynSent calls is = cc
    apart stage.SynReceived calls is = cc
    apart stage.Synchronized calls is = cc
    apart stage.TimeWait calls is = cc
    apart (stage.Resets seq ack) calls is = cc
    apart stage.Closed calls is = cc

    by : (m : Option Mac) → f.mac ≡ m → (not (is_some f.mac) && nat_lt 0 f.asked) ≡ false
    by None is = absurd (apart f.conn.stage (o.unsent is).0 connects)
    by (Some mac) is = ap (λ (m : Option Mac). not (is_some m) && nat_lt 0 f.asked) is

-- once the moment came a request is owed
pub asks_patient : (f : Splice) (now : ℕ) → HasPatience (asks_after f now) now
asks_patient f now open_yet resolving waits = after f.ask_at (second f.asks (nat_le f.ask_at now) waits)
  where
    second : (a b : Bool) → (a || b) ≡ false → b ≡ false
    second true b is = absurd cc
    second false b is = is

    after : (at : ℕ) → nat_le at now ≡ false → now < at
    after at is = grind (arith, nat_tests)

-- one that is told an address waits no more, and one that isn't waits on
pub learnt_patient : (f : Splice) (mac : Option Mac) (now : ℕ) → HasPatience f now → HasPatience (learnt f mac) now
learnt_patient f None now patient open_yet resolving waits = patient open_yet resolving waits
learnt_patient f (Some mac) now patient open_yet resolving waits = absurd cc

-- after a request the answer is waited for
pub asked_patient : (f : Splice) (offered : Offered) (now : ℕ) → HasPatience f now → HasPatience (asked offered f now) now
asked_patient f Taken now patient open_yet resolving waits = let long = wait_low f.asked in omega (arith, long)
asked_patient f Blocked now patient open_yet resolving waits = patient open_yet resolving waits
asked_patient f Failed now patient open_yet resolving waits = patient open_yet resolving waits

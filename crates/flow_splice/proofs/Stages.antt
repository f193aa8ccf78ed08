-- What follows from the stage of a connection, from where its flow stands, and from tests of these.
use Rattle.std.proofs.Common.{refl, ◌≡◌, ◌+◌, [], ◌++◌, nat_lt, ◌∙◌, not, ◌&&◌, ◌||◌, Bool, true, false, Option, None, Some, if◌then◌else◌, ap}
use Rattle.tcp_connection.specs.Connection.{is_opening}
use Rattle.tcp_connection.specs.declared.Owed.{Owed}
use Rattle.tcp_connection.specs.declared.Stage.{Stage}
use Rattle.tcp_connection.specs.declared.Stage.TheVariants as stage
use Rattle.spec_flow.specs.Event.{Story, newest_moment}
use Rattle.spec_flow.specs.Close.{asked_at, times_asked}
use Rattle.spec_flow.specs.Flow.{is_accepted, is_closed, is_under_way, syn_is_out, host}
use Rattle.spec_flow.specs.Dutiful.{moment_if, resend_deadline, resolves_guest, waits_for_window, waits_since}
use Rattle.sim_connection.specs.Holding.{is_calls, is_at_connecting}
use Rattle.flow_splice.specs.Sends.{takes_part_at}
use Rattle.flow_splice.specs.Splice.{is_in_use}
use Rattle.flow_splice.specs.declared.Place.{Place}
use Rattle.flow_splice.specs.declared.Place.TheVariants.{Empty, InUse, InTimeWait}
use Rattle.spec_flow.specs.Host.{answered, owned, sent}

-- of one that was closed nothing is under way, it doesn't connect, and no guest is called
pub no_way : (a b : Bool) → b ≡ true → (a && not b) ≡ false
no_way true b is = ap not is
no_way false b is = refl

pub no_connecting : (a b : Bool) → b ≡ true → not (a || b) ≡ false
no_connecting true b is = refl
no_connecting false b is = ap not is

pub no_resolving : (past : Story) → is_closed past ≡ true → resolves_guest past ≡ false
no_resolving past shut = by (is_accepted past) (syn_is_out past) (is_closed past) shut
  where
    by : (a b d : Bool) → d ≡ true → (a && not b && not d) ≡ false
    by false b d is = refl
    by true true d is = refl
    by true false d is = ap not is

pub no_window : (past : Story) → is_closed past ≡ true → waits_for_window past ≡ false
no_window past shut = by (answered (host past)) (is_closed past) (is_under_way past) (nat_lt (sent (host past)) (owned (host past))) shut
  where
    by : (a b d e : Bool) → b ≡ true → (a && not b && not d && e) ≡ false
    by false b d e is = refl
    by true true d e is = refl
    by true false d e is = absurd cc

-- so nothing of it goes out again
pub resends_none : (past : Story) → is_closed past ≡ true → resend_deadline past ≡ []
resends_none past shut =
    ap (λ b. moment_if b (waits_since past + 60000) ++ moment_if (resolves_guest past && nat_lt 0 (times_asked past)) (asked_at past + 60000)
    ++ moment_if (waits_for_window past) (newest_moment past + 60000)) (no_way (is_under_way past) (is_closed past) shut)
    ∙ ap (λ b. moment_if (b && nat_lt 0 (times_asked past)) (asked_at past + 60000) ++ moment_if (waits_for_window past) (newest_moment past + 60000)) (no_resolving past shut)
    ∙ ap (λ b. moment_if b (newest_moment past + 60000)) (no_window past shut)

-- where one of these is owed if at all, and none is
pub if_none : (b : Bool) (w : Owed) → (if b then Some w else None) ≡ None → b ≡ false
if_none true w is = absurd cc
if_none false w is = refl

-- one whose socket is open is in use, and owes what its connection does
pub in_use : (a b : Bool) → (a && not b) ≡ true → a ≡ true
in_use true b is = refl
in_use false b is = absurd cc

pub takes : (p : Place) (q : Option Owed) → is_in_use p ≡ true → takes_part_at p q ≡ None → q ≡ None
takes Empty q is none = absurd cc
takes InUse q is none = none
takes (InTimeWait since) q is none = absurd cc

-- a stage that calls a guest opens a connection, whose socket has connected
pub calls_opens : (t : Stage) → is_calls t ≡ true → (is_opening t ≡ true) × (is_at_connecting t ≡ false)
calls_opens stage.Connecting is = absurd cc
calls_opens stage.SynSent is = (refl, refl)
calls_opens stage.SynReceived is = absurd cc
calls_opens stage.Synchronized is = absurd cc
calls_opens stage.TimeWait is = absurd cc
calls_opens (stage.Resets seq ack) is = absurd cc
calls_opens stage.Closed is = absurd cc

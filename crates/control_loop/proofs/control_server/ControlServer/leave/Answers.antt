use Rattle.std.proofs.Common.{◌≡◌, ℕ, Bool, true, false, ◌++◌, Option, None, Some, refl, ◌∙◌, ap}
use Rattle.std.specs.List.{list_any}
use Rattle.rules_control.specs.Talk.{all_closed, closed_if, listener, peer_closed}
use Rattle.control.proofs.Apartness.{is_wait}
use Rattle.control_loop.proofs.Below.{called}
use Rattle.control_loop.proofs.control_server.ControlServer.leave.Goals as goal

none_waits : (peer : Option ℕ) (listens : Bool) → list_any is_wait (peer_closed peer ++ closed_if listens listener) ≡ false
none_waits None true = refl
none_waits None false = refl
none_waits (Some socket) true = refl
none_waits (Some socket) false = refl

pub returns-clause-makes : goal.returns-clause-makes
returns-clause-makes g c =
    let talk = c.args.self.now.session in
    called g.W.World.tells c.args.world.now c.begin.new.self c.close_all.new.world c.begin-2.new.self (λ made. made ≡ all_closed talk) c.begin.ensures.begun c.begin-2.ensures.begun
    c.close_all.ensures.calls (λ seen is. ap (list_any is_wait) is ∙ none_waits talk.peer talk.listening) c.begin-2.ensures.passed

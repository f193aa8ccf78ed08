use Rattle.std.proofs.Common.{◌≡◌, [], ◌∷◌, refl, ap}
use Rattle.std.specs.List.{list_any}
use Rattle.world_face.specs.Journal.{Accept}
use Rattle.world_face.proofs.Telling.{makes_one}
use Rattle.rules_control.specs.Talk.{Talk, listener, next_peer}
use Rattle.control.proofs.Apartness.{is_wait}
use Rattle.control_loop.proofs.Below.{called}
use Rattle.control_loop.proofs.control_server.ControlServer.accept.Goals as goal

pub returns : goal.returns
returns g c =
    let call = c.accept.ensures in (
      call.0,
      called g.W.World.tells c.args.world.now c.begin.new.self c.accept.new.world c.begin-2.new.self (λ made. made ≡ Accept listener (next_peer c.args.self.now.session) call.0 ∷ []) c.begin.ensures.begun
          c.begin-2.ensures.begun (makes_one _ _ _ _ call.1 (λ allowed. refl)) (λ seen is. ap (list_any is_wait) is) c.begin-2.ensures.passed,
      ap (λ (t : Talk). record c.args.self.now { session = t }) call.2,
    )

use Rattle.std.proofs.Common.{◌≡◌, [], ◌∷◌, refl, ap}
use Rattle.std.specs.List.{list_any}
use Rattle.world_face.specs.Journal.{Listen}
use Rattle.world_face.proofs.Telling.{makes_one}
use Rattle.rules_control.specs.Talk.{listener}
use Rattle.control.proofs.Apartness.{is_wait}
use Rattle.control_loop.proofs.Below.{called}
use Rattle.control_loop.proofs.control_server.ControlServer.listen.Goals as goal

pub returns-clause-makes : goal.returns-clause-makes
returns-clause-makes g c =
    called g.W.World.tells c.args.world.now c.begin.new.self c.listen-answer.new.world c.begin-2.new.self (λ made. made ≡ Listen listener c.args.self.now.at c.listen-answer.result ∷ [])
    c.begin.ensures.begun c.begin-2.ensures.begun (makes_one _ _ _ _ c.listen-answer.ensures.call (λ allowed. refl)) (λ seen is. ap (list_any is_wait) is) c.begin-2.ensures.passed

use Rattle.std.proofs.Common.{subst}
use Rattle.world_face.specs.Journal.{Accept}
use Rattle.world_face.specs.Tells.{Answers}
use Rattle.rules_control.specs.Talk.{Talk, listener, next_peer}
use Rattle.control.proofs.session.Session.accept.Goals as goal

pub returns : goal.returns
returns g c =
    let answer = c.accept-answer.result in (
      answer,
      subst (λ (t : Talk). Answers (g.W.World.tells c.args.world.now) (g.W.World.tells c.accept-answer.new.self) (Accept listener (next_peer t) answer)) c.self.view_is c.accept-answer.ensures,
      c.meet.ensures,
    )

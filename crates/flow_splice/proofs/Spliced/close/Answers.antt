use Rattle.std.proofs.Common.{subst}
use Rattle.world_face.specs.Journal.{Close}
use Rattle.world_face.specs.Tells.{Answers}
use Rattle.flow_splice.specs.Splice.{Splice}
use Rattle.flow_splice.proofs.Spliced.close.Goals as goal

pub returns-clause-closes : goal.returns-clause-closes
returns-clause-closes g c = subst (λ (f : Splice). Answers (g.W.World.tells c.args.world.now) (g.W.World.tells c.close.new.self) (Close f.face.number)) c.self.view_is c.close.ensures

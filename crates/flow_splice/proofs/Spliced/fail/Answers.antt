use Rattle.std.proofs.Common.{ap, subst, ◌∙◌}
use Rattle.world_face.specs.Journal.{Close}
use Rattle.world_face.specs.Tells.{Answers}
use Rattle.sim_connection.specs.Holding.{is_live}
use Rattle.flow_splice.specs.Splice.{Splice}
use Rattle.flow_splice.proofs.Shutting.{reset_dead}
use Rattle.flow_splice.proofs.Spliced.fail.Goals as goal

pub close-requires : goal.close-requires
close-requires g c = record { over = ap (λ (f : Splice). is_live f.conn.stage) c.give_up.ensures ∙ reset_dead c.args.self.now.conn }

pub returns-clause-closes : goal.returns-clause-closes
returns-clause-closes g c = subst (λ (f : Splice). Answers (g.W.World.tells c.args.world.now) (g.W.World.tells c.close.new.world) (Close f.face.number)) c.give_up.ensures c.close.ensures.closes

use Rattle.std.proofs.Common.{refl, rules}
use Rattle.drive_world.proofs.Faulting.{fails_here, given_here, passed_on, passes_on}
use Rattle.drive_world.specs.declared.fault.Kind.TheVariants.{Socket}
use Rattle.drive_world.proofs.fault.FaultWorldWorld.tcp_end.Goals as goal

pub returns-then-fails-clause-answers : goal.returns-then-fails-clause-answers
returns-then-fails-clause-answers g c = fails_here g.W.World.tells _ _ _ c.self.view_is _ Socket _ (c.fails.ensures.fails c.if-fails.true) refl refl refl refl (search rules)

pub returns-then-fails-clause-fails : goal.returns-then-fails-clause-fails
returns-then-fails-clause-fails g c is = (refl, given_here g.W.World.tells _ _ _ c.self.view_is _ Socket (c.fails.ensures.fails c.if-fails.true).1)

pub returns-else-fails-clause-answers : goal.returns-else-fails-clause-answers
returns-else-fails-clause-answers g c = passed_on g.W.World.tells _ _ _ c.self.view_is _ _ _ c.tcp_end.ensures (c.fails.ensures.passes c.if-fails.false).1

pub returns-else-fails-clause-passes : goal.returns-else-fails-clause-passes
returns-else-fails-clause-passes g c no_fault = passes_on g.W.World.tells _ _ _ c.self.view_is _ _ _ c.tcp_end.ensures (c.fails.ensures.passes c.if-fails.false).1

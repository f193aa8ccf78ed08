use Rattle.std.proofs.Common.{refl, arith}
use Rattle.drive_world.proofs.Faulting.{all_small, fails_here, given_here, passed_on, passes_on}
use Rattle.drive_world.specs.declared.fault.Kind.TheVariants.{File}
use Rattle.drive_world.proofs.fault.FaultWorldWorld.file_len.Goals as goal

pub returns-then-fails-clause-answers : goal.returns-then-fails-clause-answers
returns-then-fails-clause-answers g c = fails_here g.W.World.tells _ _ _ c.self.view_is _ File _ (c.fails.ensures.fails c.if-fails.true) refl refl refl refl
    (all_small c.args.name.now (λ i. omega (arith, c.type_inv.name i)), tt)

pub returns-then-fails-clause-fails : goal.returns-then-fails-clause-fails
returns-then-fails-clause-fails g c is = (refl, given_here g.W.World.tells _ _ _ c.self.view_is _ File (c.fails.ensures.fails c.if-fails.true).1)

pub returns-else-fails-clause-answers : goal.returns-else-fails-clause-answers
returns-else-fails-clause-answers g c = passed_on g.W.World.tells _ _ _ c.self.view_is _ _ _ c.file_len.ensures (c.fails.ensures.passes c.if-fails.false).1

pub returns-else-fails-clause-passes : goal.returns-else-fails-clause-passes
returns-else-fails-clause-passes g c no_fault = passes_on g.W.World.tells _ _ _ c.self.view_is _ _ _ c.file_len.ensures (c.fails.ensures.passes c.if-fails.false).1

use Rattle.std.proofs.Common.{refl, arith, rules}
use Rattle.drive_world.proofs.Faulting.{all_small, counted_by, fails_here, given_here, passed_on, passes_on, put_off_here}
use Rattle.drive_world.specs.declared.fault.Kind.TheVariants.{Socket}
use Rattle.drive_world.proofs.fault.FaultWorldWorld.udp_send.Goals as goal

pub returns-in-Fails-clause-answers : goal.returns-in-Fails-clause-answers
returns-in-Fails-clause-answers g c = fails_here g.W.World.tells _ _ _ c.self.view_is _ Socket _ (c.in-Fails.ensures.fails refl) refl refl refl refl
    (search rules, search rules, all_small c.args.from.now (λ i. omega (arith, c.type_inv.from i)))

pub returns-in-Fails-clause-fails : goal.returns-in-Fails-clause-fails
returns-in-Fails-clause-fails g c is = (refl, given_here g.W.World.tells _ _ _ c.self.view_is _ Socket (c.in-Fails.ensures.fails refl).1)

pub returns-in-IsPutOff-clause-answers : goal.returns-in-IsPutOff-clause-answers
returns-in-IsPutOff-clause-answers g c = put_off_here g.W.World.tells _ _ _ c.self.view_is _ Socket _ (c.in-IsPutOff.ensures.put_off refl) refl refl refl refl
    (search rules, search rules, all_small c.args.from.now (λ i. omega (arith, c.type_inv.from i)))

pub returns-in-IsPutOff-clause-waits : goal.returns-in-IsPutOff-clause-waits
returns-in-IsPutOff-clause-waits g c is = (refl, given_here g.W.World.tells _ _ _ c.self.view_is _ Socket (c.in-IsPutOff.ensures.put_off refl).1)

pub returns-in-IsCut-clause-answers : goal.returns-in-IsCut-clause-answers
returns-in-IsCut-clause-answers g c =
    passed_on g.W.World.tells _ _ _ c.self.view_is _ _ _ c.udp_send.ensures (counted_by _ _ c.in-IsCut.is c.course.ensures.cut c.course.ensures.passes)

pub returns-in-IsCut-clause-passes : goal.returns-in-IsCut-clause-passes
returns-in-IsCut-clause-passes g c no_fault none_later =
    passes_on g.W.World.tells _ _ _ c.self.view_is _ _ _ c.udp_send.ensures (counted_by _ _ c.in-IsCut.is c.course.ensures.cut c.course.ensures.passes)

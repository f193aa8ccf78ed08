use Rattle.std.proofs.Common.{refl, take, arith, rules}
use Rattle.world_face.specs.Journal.{LinkWrite}
use Rattle.drive_world.proofs.Faulting.{all_small, fails_here, falls_short, given_here, passed_on, passes_on, put_off_here, short_answers, write_more}
use Rattle.drive_world.specs.declared.fault.Kind.TheVariants.{Link}
use Rattle.drive_world.proofs.fault.FaultWorldWorld.link_write.Goals as goal

pub returns-in-Fails-clause-answers : goal.returns-in-Fails-clause-answers
returns-in-Fails-clause-answers g c =
    fails_here g.W.World.tells _ _ _ c.self.view_is _ Link _ (c.in-Fails.ensures.fails refl) refl refl refl refl
    (tt, all_small c.args.from.now (λ i. omega (arith, c.type_inv.from i)), search rules)

pub returns-in-Fails-clause-fails : goal.returns-in-Fails-clause-fails
returns-in-Fails-clause-fails g c is = (refl, given_here g.W.World.tells _ _ _ c.self.view_is _ Link (c.in-Fails.ensures.fails refl).1)

pub returns-in-IsPutOff-clause-answers : goal.returns-in-IsPutOff-clause-answers
returns-in-IsPutOff-clause-answers g c =
    put_off_here g.W.World.tells _ _ _ c.self.view_is _ Link _ (c.in-IsPutOff.ensures.put_off refl) refl refl refl refl
    (tt, all_small c.args.from.now (λ i. omega (arith, c.type_inv.from i)), search rules)

pub returns-in-IsPutOff-clause-waits : goal.returns-in-IsPutOff-clause-waits
returns-in-IsPutOff-clause-waits g c is = (refl, given_here g.W.World.tells _ _ _ c.self.view_is _ Link (c.in-IsPutOff.ensures.put_off refl).1)

pub returns-in-IsCut-clause-answers : goal.returns-in-IsCut-clause-answers
returns-in-IsCut-clause-answers g c =
    let call = c.link_write-answer in
    short_answers g.W.World.tells _ _ _ c.self.view_is call.new.self _ _ Link _ call.result
    (LinkWrite (take 1 c.args.from.now) call.result) _
    (c.in-IsCut.ensures.cut refl) c.cut.ensures call.ensures
    (write_more c.args.from.now call.result c.requires.some call.ensures.allowed.0, all_small c.args.from.now (λ i. omega (arith, c.type_inv.from i)), search rules)
    (record { link = refl; wait = refl; socket = refl; file = refl })

pub returns-in-IsCut-clause-falls_short : goal.returns-in-IsCut-clause-falls_short
returns-in-IsCut-clause-falls_short g c is =
    falls_short g.W.World.tells _ _ _ c.self.view_is _ _ _ Link _ c.link_write-answer.result _ (c.in-IsCut.ensures.cut refl).1 c.cut.ensures c.link_write-answer.ensures

pub returns-in-PassesOn-clause-answers : goal.returns-in-PassesOn-clause-answers
returns-in-PassesOn-clause-answers g c = passed_on g.W.World.tells _ _ _ c.self.view_is _ _ _ c.link_write.ensures (c.in-PassesOn.ensures.passes refl).1

pub returns-in-PassesOn-clause-passes : goal.returns-in-PassesOn-clause-passes
returns-in-PassesOn-clause-passes g c is = passes_on g.W.World.tells _ _ _ c.self.view_is _ _ _ c.link_write.ensures (c.in-PassesOn.ensures.passes refl).1

use Rattle.std.proofs.Common.{◌∙◌, ap, refl, take, length, arith, rules}
use Rattle.world_face.specs.Journal.{FileRead, filled}
use Rattle.drive_world.proofs.Faulting.{all_small, as_read, due_as, fails_here, falls_short, file_may_leave, first_read, given_here, given_then, passed_on, passes_on, short_answers, whole_stays}
use Rattle.drive_world.specs.Faults.{short_of}
use Rattle.drive_world.specs.declared.fault.Kind.TheVariants.{File}
use Rattle.drive_world.proofs.fault.FaultWorldWorld.file_read.Goals as goal

pub returns-in-Some-Fail-clause-answers : goal.returns-in-Some-Fail-clause-answers
returns-in-Some-Fail-clause-answers g c =
    fails_here g.W.World.tells _ _ _ c.self.view_is _ File _
    (due_as c.self.inside.plan _ _ c.in-Some-Fail.ensures.due c.in-Some-Fail.field-0-is, given_then _ _ _ File c.give.ensures c.count.ensures.counted) refl refl refl refl
    (tt, search rules, search rules, c.ranges.at.fits, all_small c.args.name.now (λ i. omega (arith, c.type_inv.name i)))

pub returns-in-Some-Fail-clause-fails : goal.returns-in-Some-Fail-clause-fails
returns-in-Some-Fail-clause-fails g c is = (refl, given_here g.W.World.tells _ _ _ c.self.view_is _ File (given_then _ _ _ File c.give.ensures c.count.ensures.counted))

pub returns-in-Some-Short-clause-answers : goal.returns-in-Some-Short-clause-answers
returns-in-Some-Short-clause-answers g c =
    let call = c.file_read-answer in
    let allowed = call.ensures.allowed in
    short_answers g.W.World.tells _ _ _ c.self.view_is call.new.self _ _ File _ call.result
    (FileRead c.args.name.now c.args.at (length (take 1 c.args.into.now)) call.result (filled call.result call.new.into)) _
    (due_as c.self.inside.plan _ _ c.in-Some-Short.ensures.due c.in-Some-Short.field-0-is, c.count.ensures.counted) c.cut.ensures call.ensures
    (let left = file_may_leave c.args.into.now call.new.into call.result c.requires.room call.auto.into (search rules) allowed.0 allowed.1 in
    (left.0, left.1, left.2, c.ranges.at.fits, all_small c.args.name.now (λ i. omega (arith, c.type_inv.name i))))
    (record { link = refl; wait = refl; socket = refl; file = refl })

pub returns-in-Some-Short-clause-falls_short : goal.returns-in-Some-Short-clause-falls_short
returns-in-Some-Short-clause-falls_short g c is =
    let call = c.file_read-answer in
    falls_short g.W.World.tells _ _ _ c.self.view_is call.new.self _ _ File _ call.result _ c.count.ensures.counted
    (c.cut.ensures ∙ ap (λ whole. short_of File whole call.result c.count.new.self) (whole_stays c.args.into.now call.new.into call.result c.requires.room call.auto.into))
    (first_read c.args.into.now call.new.into call.result c.requires.room call.auto.into (λ asked octets. FileRead c.args.name.now c.args.at asked call.result octets) _ _
    (as_read _ _ call.ensures.allowed.0) call.ensures)

pub returns-in-Some-NotYet-clause-answers : goal.returns-in-Some-NotYet-clause-answers
returns-in-Some-NotYet-clause-answers g c = passed_on g.W.World.tells _ _ _ c.self.view_is _ _ _ c.file_read.ensures c.count.ensures.counted

pub returns-in-Some-NotYet-clause-passes : goal.returns-in-Some-NotYet-clause-passes
returns-in-Some-NotYet-clause-passes g c no_fault not_short = passes_on g.W.World.tells _ _ _ c.self.view_is _ _ _ c.file_read.ensures c.count.ensures.counted

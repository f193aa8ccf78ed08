use Rattle.std.proofs.Common.{◌∙◌, ap, refl, length, take, rules}
use Rattle.world_face.specs.Journal.{TcpRead, filled}
use Rattle.drive_world.proofs.Faulting.{fails_here, falls_short, first_read, given_here, may_leave, passed_on, passes_on, put_off_here, short_answers, whole_stays}
use Rattle.drive_world.specs.Faults.{short_of}
use Rattle.drive_world.specs.declared.fault.Kind.TheVariants.{Socket}
use Rattle.drive_world.proofs.fault.FaultWorldWorld.tcp_read.Goals as goal

pub returns-in-IsCut-clause-answers : goal.returns-in-IsCut-clause-answers
returns-in-IsCut-clause-answers g c =
    let call = c.tcp_read-answer in
    let allowed = call.ensures.allowed in
    short_answers g.W.World.tells _ _ _ c.self.view_is call.new.self _ _ Socket _ call.result
    (TcpRead c.args.c (length (take 1 c.args.into.now)) call.result (filled call.result call.new.into)) _
    (c.in-IsCut.ensures.cut refl) c.cut.ensures call.ensures
    (let left = may_leave c.args.into.now call.new.into call.result c.requires call.auto.into (search rules) allowed.0 allowed.1 in (left.0, left.1, left.2, c.ranges.c.fits))
    (record { link = refl; wait = refl; socket = refl; file = refl })

pub returns-in-IsCut-clause-falls_short : goal.returns-in-IsCut-clause-falls_short
returns-in-IsCut-clause-falls_short g c is =
    let call = c.tcp_read-answer in
    falls_short g.W.World.tells _ _ _ c.self.view_is call.new.self _ _ Socket _ call.result _ (c.in-IsCut.ensures.cut refl).1
    (c.cut.ensures ∙ ap (λ whole. short_of Socket whole call.result c.course.new.self) (whole_stays c.args.into.now call.new.into call.result c.requires call.auto.into))
    (first_read c.args.into.now call.new.into call.result c.requires call.auto.into (λ asked octets. TcpRead c.args.c asked call.result octets) _ _ call.ensures.allowed.0 call.ensures)

pub returns-in-Fails-clause-answers : goal.returns-in-Fails-clause-answers
returns-in-Fails-clause-answers g c = fails_here g.W.World.tells _ _ _ c.self.view_is _ Socket _ (c.in-Fails.ensures.fails refl) refl refl refl refl (search rules)

pub returns-in-Fails-clause-fails : goal.returns-in-Fails-clause-fails
returns-in-Fails-clause-fails g c is = (refl, given_here g.W.World.tells _ _ _ c.self.view_is _ Socket (c.in-Fails.ensures.fails refl).1)

pub returns-in-IsPutOff-clause-answers : goal.returns-in-IsPutOff-clause-answers
returns-in-IsPutOff-clause-answers g c = put_off_here g.W.World.tells _ _ _ c.self.view_is _ Socket _ (c.in-IsPutOff.ensures.put_off refl) refl refl refl refl (search rules)

pub returns-in-IsPutOff-clause-waits : goal.returns-in-IsPutOff-clause-waits
returns-in-IsPutOff-clause-waits g c is = (refl, given_here g.W.World.tells _ _ _ c.self.view_is _ Socket (c.in-IsPutOff.ensures.put_off refl).1)

pub returns-in-PassesOn-clause-answers : goal.returns-in-PassesOn-clause-answers
returns-in-PassesOn-clause-answers g c = passed_on g.W.World.tells _ _ _ c.self.view_is _ _ _ c.tcp_read.ensures (c.in-PassesOn.ensures.passes refl).1

pub returns-in-PassesOn-clause-passes : goal.returns-in-PassesOn-clause-passes
returns-in-PassesOn-clause-passes g c is = passes_on g.W.World.tells _ _ _ c.self.view_is _ _ _ c.tcp_read.ensures (c.in-PassesOn.ensures.passes refl).1

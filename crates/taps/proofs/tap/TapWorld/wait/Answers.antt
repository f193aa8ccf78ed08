use Rattle.std.proofs.Common.{◌∙◌, ap}
use Rattle.world_face.specs.Journal.{Wait}
use Rattle.taps.proofs.Passing.{passed_after}
use Rattle.taps.proofs.tap.TapWorld.wait.Goals as goal

pub invariant_of-self : goal.invariant_of-self
invariant_of-self g c =
    passed_after c.self.invariant c.wait-answer.ensures.answers c.note.ensures.made c.pause.ensures.made
    (ap (λ wants. Wait wants c.args.timeout c.wait-answer.result c.items-reported.result.now) c.items-wanted.ensures
    ∙ ap (λ ready. Wait c.args.wants.now.items c.args.timeout c.wait-answer.result ready) c.items-reported.ensures)

use Rattle.std.proofs.Common.{ap}
use Rattle.world_face.specs.Journal.{LinkOpen}
use Rattle.taps.proofs.Passing.{passed_as}
use Rattle.taps.proofs.tap.TapWorld.link_open.Goals as goal

pub invariant_of-self : goal.invariant_of-self
invariant_of-self g c =
    passed_as c.self.invariant c.link_open-answer.ensures c.note.ensures.made
    (ap (λ place. LinkOpen place c.link_open-answer.result) c.seat-endpoint.ensures)

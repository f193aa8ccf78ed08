use Rattle.std.proofs.Common.{ap}
use Rattle.world_face.specs.Journal.{FileLen}
use Rattle.taps.proofs.Passing.{passed_as}
use Rattle.taps.proofs.tap.TapWorld.file_len.Goals as goal

pub invariant_of-self : goal.invariant_of-self
invariant_of-self g c =
    passed_as c.self.invariant c.file_len-answer.ensures c.note.ensures.made
    (ap (λ name. FileLen name c.file_len-answer.result) c.as_bytes.ensures.value)

use Rattle.std.proofs.Common.{◌∙◌, ap, length}
use Rattle.world_face.specs.Journal.{FileRead}
use Rattle.taps.proofs.Passing.{passed_as}
use Rattle.taps.proofs.tap.TapWorld.file_read.Goals as goal

pub invariant_of-self : goal.invariant_of-self
invariant_of-self g c =
    passed_as c.self.invariant c.file_read-answer.ensures c.note.ensures.made
    (ap (λ name. FileRead name c.args.at (length c.args.into.now) c.file_read-answer.result c.octets_read-octets.result.now) c.as_bytes.ensures.value
    ∙ ap (λ octets. FileRead c.args.name.now c.args.at (length c.args.into.now) c.file_read-answer.result octets) c.octets_read-octets.ensures)

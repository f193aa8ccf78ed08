use Rattle.std.proofs.Common.{◌∙◌, ap, length, refl}
use Rattle.world_face.specs.Journal.{FileRead}
use Rattle.control.proofs.Passing.{kept_on}
use Rattle.control.proofs.aside.AsideWorld.file_read.Goals as goal

pub invariant_of-self : goal.invariant_of-self
invariant_of-self g c =
    kept_on c.self.invariant c.file_read-answer.ensures c.then-self-inside.ensures
    (ap (λ name. FileRead name c.args.at (length c.args.into.now) c.file_read-answer.result c.octets_read-octets.result.now) c.as_bytes.ensures.value
    ∙ ap (λ octets. FileRead c.args.name.now c.args.at (length c.args.into.now) c.file_read-answer.result octets) c.octets_read-octets.ensures) refl (λ made. refl)

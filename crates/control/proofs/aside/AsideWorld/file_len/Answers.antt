use Rattle.std.proofs.Common.{ap, refl}
use Rattle.world_face.specs.Journal.{FileLen}
use Rattle.control.proofs.Passing.{kept_on}
use Rattle.control.proofs.aside.AsideWorld.file_len.Goals as goal

pub invariant_of-self : goal.invariant_of-self
invariant_of-self g c =
    kept_on c.self.invariant c.file_len-answer.ensures c.then-self-inside.ensures
    (ap (λ name. FileLen name c.file_len-answer.result) c.as_bytes.ensures.value) refl (λ made. refl)

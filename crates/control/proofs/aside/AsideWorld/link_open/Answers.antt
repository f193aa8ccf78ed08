use Rattle.std.proofs.Common.{ap, refl}
use Rattle.world_face.specs.Journal.{LinkOpen}
use Rattle.control.proofs.Passing.{kept_on}
use Rattle.control.proofs.aside.AsideWorld.link_open.Goals as goal

pub invariant_of-self : goal.invariant_of-self
invariant_of-self g c =
    kept_on c.self.invariant c.link_open-answer.ensures c.then-self-inside.ensures
    (ap (λ place. LinkOpen place c.link_open-answer.result) c.seat-endpoint.ensures) refl (λ made. refl)

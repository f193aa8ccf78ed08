use Rattle.std.proofs.Common.{ap, length, refl}
use Rattle.world_face.specs.Journal.{LinkRead}
use Rattle.control.proofs.Passing.{kept_on}
use Rattle.control.proofs.aside.AsideWorld.link_read.Goals as goal

pub invariant_of-self : goal.invariant_of-self
invariant_of-self g c =
    kept_on c.self.invariant c.link_read-answer.ensures c.then-self-inside.ensures
    (ap (λ octets. LinkRead (length c.args.into.now) c.link_read-answer.result octets) c.octets_read-octets.ensures) refl (λ made. refl)

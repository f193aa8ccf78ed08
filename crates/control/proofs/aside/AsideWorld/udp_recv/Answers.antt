use Rattle.std.proofs.Common.{ap, length, refl}
use Rattle.world_face.specs.Journal.{UdpRecv}
use Rattle.control.proofs.Passing.{kept_on}
use Rattle.control.proofs.aside.AsideWorld.udp_recv.Goals as goal

pub invariant_of-self : goal.invariant_of-self
invariant_of-self g c =
    kept_on c.self.invariant c.udp_recv-answer.ensures c.then-self-inside.ensures
    (ap (λ octets. UdpRecv c.args.s (length c.args.into.now) c.udp_recv-answer.result octets) c.octets_got-octets.ensures) refl (λ made. refl)

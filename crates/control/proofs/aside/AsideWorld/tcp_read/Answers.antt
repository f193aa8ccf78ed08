use Rattle.std.proofs.Common.{ap, length, refl}
use Rattle.world_face.specs.Journal.{TcpRead}
use Rattle.control.proofs.Passing.{kept_on}
use Rattle.control.proofs.aside.AsideWorld.tcp_read.Goals as goal

pub invariant_of-self : goal.invariant_of-self
invariant_of-self g c =
    kept_on c.self.invariant c.tcp_read-answer.ensures c.then-self-inside.ensures
    (ap (λ octets. TcpRead c.args.c (length c.args.into.now) c.tcp_read-answer.result octets) c.octets_read-octets.ensures) refl (λ made. refl)

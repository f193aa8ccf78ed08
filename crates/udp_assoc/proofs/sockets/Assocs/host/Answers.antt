use Rattle.std.proofs.Common.{refl}
use Rattle.world_face.proofs.Telling.{makes_as}
use Rattle.udp_assoc.specs.Relays.{OnForward}
use Rattle.udp_assoc.proofs.sockets.Assocs.host.Goals as goal

pub returns-in-Some-clause-hears : goal.returns-in-Some-clause-hears
returns-in-Some-clause-hears g c = makes_as _ _ _ _ c.receive.ensures.receives (λ made receives. OnForward c.in-Some.guest c.in-Some.is receives refl)

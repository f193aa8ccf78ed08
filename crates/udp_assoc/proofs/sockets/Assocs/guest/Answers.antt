use Rattle.std.proofs.Common.{refl}
use Rattle.world_face.proofs.Telling.{makes_as}
use Rattle.udp_assoc.specs.Relays.{ByForward}
use Rattle.udp_assoc.proofs.sockets.Assocs.guest.Goals as goal

pub returns-in-Some-clause-relays : goal.returns-in-Some-clause-relays
returns-in-Some-clause-relays g c = makes_as _ _ _ _ c.send.ensures (λ made sends. ByForward c.in-Some.socket c.in-Some.is sends refl refl)

use Rattle.std.proofs.Common.{None, Some, refl, ap}
use Rattle.world_face.proofs.Telling.{makes_as, makes_none}
use Rattle.udp_assoc.specs.Kept.{as_association}
use Rattle.udp_assoc.specs.Relays.{OnAssociation, OnNone}
use Rattle.udp_assoc.specs.State.{AssocsState}
use Rattle.udp_assoc.proofs.Keeping.{found_is}
use Rattle.udp_assoc.proofs.sockets.Assocs.receive_datagram.Goals as goal

pub returns-clause-hears : goal.returns-clause-hears
returns-clause-hears g c =
    let found = found_is c.args.s c.self.inside.list c.args.self.now.list (ap (λ (s : AssocsState). s.list) c.self.view_is) (Some c.in-Some.association) c.in-Some.ensures in
    makes_as _ _ _ _ c.receive-reply.ensures.receives
    (λ made receives. OnAssociation (as_association c.in-Some.association) refl found receives (ap (λ (s : AssocsState). s.list) c.mark.ensures))

pub returns-in_default-clause-hears : goal.returns-in_default-clause-hears
returns-in_default-clause-hears g c =
    let found = found_is c.args.s c.self.inside.list c.args.self.now.list (ap (λ (s : AssocsState). s.list) c.self.view_is) None c.in_default.ensures in
    makes_none _ _ (OnNone refl found refl refl refl)

use Rattle.std.proofs.Common.{List, refl, sym, ◌∙◌, ap, subst}
use Rattle.idle_sockets.specs.Sockets.{sent_from as socket_sent}
use Rattle.rules_udp.specs.Associations.{moved_last, sent_from}
use Rattle.udp_assoc.specs.Kept.{associations, AreOnly}
use Rattle.udp_assoc.specs.State.{AssocsState}
use Rattle.rules_udp.specs.declared.Association.{Association}
use Rattle.udp_assoc.proofs.Keeping.{moved, moved_only}
use Rattle.udp_assoc.proofs.sockets.Assocs.send_on.Goals as goal

pub invariant_of-self : goal.invariant_of-self
invariant_of-self g c =
    subst AreOnly (sym c.sent.ensures) (moved_only (socket_sent c.args.datagram.now.mac c.args.now) (λ s. refl) c.args.socket c.self.inside.list c.self.invariant)

pub returns-clause-list : goal.returns-clause-list
returns-clause-list g c =
    let mac = c.args.datagram.now.mac in
    let now = c.args.now in
    let i = c.self.inside in
    ap (λ (l : List Association). let t : AssocsState = record { bind = i.bind.0; list = l } in t)
    (ap associations c.sent.ensures ∙ moved (socket_sent mac now) (sent_from mac now) (λ s. refl) c.args.socket i.list)
    ∙ ap (λ (s : AssocsState). let t : AssocsState = record s { list = moved_last (sent_from mac now) c.args.socket s.list } in t) c.self.view_is

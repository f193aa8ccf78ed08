use Rattle.std.proofs.Common.{List, refl, sym, ◌∙◌, ap, subst}
use Rattle.idle_sockets.specs.Sockets.{heard_at as socket_heard}
use Rattle.rules_udp.specs.Associations.{heard_at}
use Rattle.udp_assoc.specs.Kept.{associations, AreOnly}
use Rattle.udp_assoc.specs.Relays.{with_reply}
use Rattle.udp_assoc.specs.State.{AssocsState}
use Rattle.rules_udp.specs.declared.Association.{Association}
use Rattle.udp_assoc.proofs.Keeping.{moved, moved_only}
use Rattle.udp_assoc.proofs.sockets.Assocs.mark.Goals as goal

pub invariant_of-self : goal.invariant_of-self
invariant_of-self c = subst AreOnly (sym c.received.ensures) (moved_only (socket_heard c.args.now) (λ s. refl) c.args.s c.self.inside.list c.self.invariant)

pub returns-in-Datagram : goal.returns-in-Datagram
returns-in-Datagram c =
    let now = c.args.now in
    let i = c.self.inside in
    let reply = c.args.reply in
    ap (λ (l : List Association). let t : AssocsState = record { bind = i.bind.0; list = l } in t)
    (ap associations c.received.ensures ∙ moved (socket_heard now) (heard_at now) (λ s. refl) c.args.s i.list
    ∙ sym (ap (λ r. with_reply r now c.args.s (associations i.list)) c.in-Datagram.is))
    ∙ ap (λ (s : AssocsState). let t : AssocsState = record s { list = with_reply reply now c.args.s s.list } in t) c.self.view_is

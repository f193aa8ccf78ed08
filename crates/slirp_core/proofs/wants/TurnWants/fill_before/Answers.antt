use Rattle.std.proofs.Common.{◌≡◌, ◌++◌, Bool, map, sym, ◌∙◌, subst}
use Rattle.std.proofs.lemmas.List.{append-nil}
use Rattle.slirp_core.specs.Carrying.{sockets_of}
use Rattle.sim_flows.specs.Wants.{link_want, listener_want, socket_wants}
use Rattle.slirp_core.proofs.wants.TurnWants.fill_before.Goals as goal

pub returns-then-read-clause-items : goal.returns-then-read-clause-items
returns-then-read-clause-items c =
    subst (λ (r : Bool). c.read_all.new.self.items ≡ (link_want r c.args.write ++ map listener_want c.args.listeners.now) ++ socket_wants r (sockets_of c.args.carriers))
    (sym c.if-read.true) c.read_all.ensures.items

pub returns-else-read-clause-items : goal.returns-else-read-clause-items
returns-else-read-clause-items c =
    subst (λ (r : Bool). c.read_none.new.self.items ≡ (link_want r c.args.write ++ map listener_want c.args.listeners.now) ++ socket_wants r (sockets_of c.args.carriers))
    (sym c.if-read.false) (c.read_none.ensures.items ∙ sym (append-nil _))

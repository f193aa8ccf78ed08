use Rattle.std.proofs.Common.{◌++◌, sym, ◌∙◌, ap, subst}
use Rattle.slirp_core.specs.Carrying.{sockets_of}
use Rattle.slirp_core.specs.Pumps.{TcpOnce}
use Rattle.slirp_core.proofs.Filling.{all_once}
use Rattle.slirp_core.proofs.wants.TurnWants.fill.Goals as goal

pub returns-clause-once : goal.returns-clause-once
returns-clause-once c =
    let added = c.add_flows.ensures.items in
    subst TcpOnce (sym (added.1 ∙ ap (λ l. l ++ added.0) c.fill_before.ensures.items)) (all_once c.args.read c.args.write c.args.listeners.now (sockets_of c.args.carriers) added.0 added.2.rising)

pub returns-clause-waited_for : goal.returns-clause-waited_for
returns-clause-waited_for c = c.add_flows.ensures.waited_for

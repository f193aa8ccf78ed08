use Rattle.std.proofs.Common.{◌≤◌, sym, subst}
use Rattle.slirp_settings.specs.Settings.{settings}
use Rattle.tcp_flows.specs.Rows.{AreSized}
use Rattle.tcp_flows.specs.declared.flows.Sizes.{Sizes}
use Rattle.slirp_core.proofs.Sizes.{flows_between, sizes_fit}
use Rattle.slirp_core.proofs.opening.Servers.open.Goals as goal

pub open-requires-3-clause-slots : goal.open-requires-3-clause-slots
open-requires-3-clause-slots c = subst (λ (s : Sizes). 1 ≤ s.slots) (sym c.sizes_of.ensures) (flows_between (settings c.args.c.now) c.requires).0

pub open-requires-3-clause-sizes : goal.open-requires-3-clause-sizes
open-requires-3-clause-sizes c = subst (λ (s : Sizes). AreSized s.ring s.mtu s.mru) (sym c.sizes_of.ensures) (sizes_fit (settings c.args.c.now) c.requires)

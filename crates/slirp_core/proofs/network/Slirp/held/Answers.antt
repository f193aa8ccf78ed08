use Rattle.std.proofs.Common.{None, subst, sym}
use Rattle.sim_flows.specs.Core.{CoreHolds}
use Rattle.slirp_core.specs.State.{SlirpState}
use Rattle.slirp_core.proofs.network.Slirp.held.Goals as goal

pub returns-clause-front : goal.returns-clause-front
returns-clause-front c config at aged link past holds =
    c.held.ensures.front config c.args.self.now.moment aged past
    (subst (λ (s : SlirpState). CoreHolds config c.args.self.now.moment aged None s.flows.flows past) (sym c.self.view_is) holds.flows.holds)

use Rattle.std.proofs.Common.{ap}
use Rattle.slirp_core.proofs.Waitings.{drops_old}
use Rattle.slirp_core.specs.State.{SlirpState}
use Rattle.slirp_core.proofs.network.Slirp.drop_fragments.Goals as goal

pub returns-clause-fresh : goal.returns-clause-fresh
returns-clause-fresh c held is = c.tick.ensures.fresh held is.stand

pub returns-clause-fragments : goal.returns-clause-fragments
returns-clause-fragments c = drops_old c.self.inside.moment c.self.inside.reasm c.tick.new.self c.args.self.now (ap (λ (s : SlirpState). s.moment) c.self.view_is)
    (ap (λ (s : SlirpState). s.fragments) c.self.view_is) c.tick.ensures.sets

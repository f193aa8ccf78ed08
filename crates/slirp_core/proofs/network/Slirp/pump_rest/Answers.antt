use Rattle.std.proofs.Common.{length, ◌<◌, ◌∙◌, ap, arith}
use Rattle.slirp_core.specs.Holds.{flowing}
use Rattle.slirp_core.proofs.Telling.{brings_allowed}
use Rattle.stream_netdev.specs.Offers.{pumped_of}
use Rattle.slirp_core.proofs.Pumping.{after_flush}
use Rattle.slirp_core.proofs.network.Slirp.pump_rest.Goals as goal

pub returns-clause-makes : goal.returns-clause-makes
returns-clause-makes g c config at aged =
    let old = c.args.link.now in
    let new = c.flush-offered.new.self in
    let some : 0 < length old.tail = omega (arith, c.tail.ensures) in
    let comes = c.outcome.ensures ∙ ap (pumped_of c.flush-offered.result) c.blocked-2.ensures in
    brings_allowed c.flush-offered.ensures.makes (λ made writes allowed past holds. after_flush config at c.args.self.now
    (flowing aged c.args.self.now.flows) old new made past c.flush-offered.result c.outcome.result some writes.0 writes.1 comes allowed holds)

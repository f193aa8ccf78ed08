use Rattle.std.proofs.Common.{refl, sym, ◌∙◌, subst, arith}
use Rattle.sim_flows.specs.Core.{number_of}
use Rattle.tcp_flows.specs.Reading.{IsFirst, IsOpenAt}
use Rattle.slirp_core.specs.State.{SlirpState}
use Rattle.slirp_core.proofs.Least.{less_is, not_under}
use Rattle.slirp_core.proofs.network.Slirp.is_under_flows.Goals as goal

pub returns-in-Some-clause-yes : goal.returns-in-Some-clause-yes
returns-in-Some-clause-yes c less k p at =
    let first = c.in-Some.ensures.first in
    let at_it = subst (λ (s : SlirpState). IsOpenAt s.flows.flows.slots k p) (sym c.self.view_is) at in
    let low = first.least k p at_it in
    let under = less_is c.args.number c.in-Some.flow (sym c.closes_before.ensures ∙ less) in
    omega (arith, low, under)

pub returns-in-Some-clause-no : goal.returns-in-Some-clause-no
returns-in-Some-clause-no c not_less =
    (c.in-Some.flow, subst (λ (s : SlirpState). IsFirst c.in-Some.flow s.flows.flows.slots) c.self.view_is c.in-Some.ensures.first, not_under c.args.number c.in-Some.flow (sym c.closes_before.ensures ∙ not_less))

pub returns-in-None-clause-yes : goal.returns-in-None-clause-yes
returns-in-None-clause-yes c is k p at =
    let at_it = subst (λ (s : SlirpState). IsOpenAt s.flows.flows.slots k p) (sym c.self.view_is) at in
    absurd (c.in-None.ensures.none (number_of p) k p at_it refl)

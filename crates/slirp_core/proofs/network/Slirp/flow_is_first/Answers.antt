use Rattle.std.proofs.Common.{refl, subst}
use Rattle.rules_dns.specs.Questions.{numbers as question_numbers}
use Rattle.sim_flows.specs.Core.{number_of}
use Rattle.rules_udp.specs.Associations.{numbers}
use Rattle.slirp_core.specs.Firsts.{IsFlowFirst, NoFlowFirst}
use Rattle.slirp_core.specs.Holds.{Holders, carriers, holders_of}
use Rattle.slirp_core.specs.State.{SlirpState}
use Rattle.slirp_core.proofs.Askers.{among_first, among_second}
use Rattle.slirp_core.proofs.Least.{among_rising, first_is_least, flow_is_under, flow_isnt_under, no_flow}
use Rattle.slirp_core.proofs.network.Slirp.flow_is_first.Goals as goal

pub returns-in_default-clause-no : goal.returns-in_default-clause-no
returns-in_default-clause-no c is =
    let i = c.self.inside in
    let o : Holders = record { associations = i.associations.list; questions = i.questions.list; slots = i.flows.flows.slots } in
    subst (λ (s : SlirpState). NoFlowFirst (carriers (holders_of s)) s.flows.flows.slots) c.self.view_is (no_flow o (λ k p at u. c.in_default.ensures.none (number_of p) k p at refl))

pub returns-then-is_under-clause-yes : goal.returns-then-is_under-clause-yes
returns-then-is_under-clause-yes c less =
    let i = c.self.inside in
    let o : Holders = record { associations = i.associations.list; questions = i.questions.list; slots = i.flows.flows.slots } in
    let named = c.rising-then-is_under in
    subst (λ (s : SlirpState). IsFlowFirst (carriers (holders_of s)) s.flows.flows.slots) c.self.view_is (
      c.in-Some.flow,
      c.in-Some.ensures.first,
      flow_is_under c.in-Some.flow o (λ m among. c.is_under.ensures.yes c.if-is_under.true m (among_rising (numbers o.associations) c.rising.result.now c.rising.ensures.all m among))
          (λ m among. c.is_under-then-is_under.ensures.yes less m (among_rising (question_numbers o.questions) named.result.now named.ensures.all m among)),
    )

pub returns-then-is_under-clause-no : goal.returns-then-is_under-clause-no
returns-then-is_under-clause-no c not_less =
    let i = c.self.inside in
    let o : Holders = record { associations = i.associations.list; questions = i.questions.list; slots = i.flows.flows.slots } in
    let named = c.rising-then-is_under in
    let found = c.is_under-then-is_under.ensures.no not_less in
    let among = (first_is_least (question_numbers o.questions) named.result.now named.ensures.all named.ensures.rising found.0 found.1).0 in
    subst (λ (s : SlirpState). NoFlowFirst (carriers (holders_of s)) s.flows.flows.slots) c.self.view_is
    (flow_isnt_under c.in-Some.flow o c.in-Some.ensures.first found.0 (among_second found.0 (numbers o.associations) (question_numbers o.questions) among) found.2)

pub returns-else-is_under-clause-no : goal.returns-else-is_under-clause-no
returns-else-is_under-clause-no c is =
    let i = c.self.inside in
    let o : Holders = record { associations = i.associations.list; questions = i.questions.list; slots = i.flows.flows.slots } in
    let found = c.is_under.ensures.no c.if-is_under.false in
    let among = (first_is_least (numbers o.associations) c.rising.result.now c.rising.ensures.all c.rising.ensures.rising found.0 found.1).0 in
    subst (λ (s : SlirpState). NoFlowFirst (carriers (holders_of s)) s.flows.flows.slots) c.self.view_is
    (flow_isnt_under c.in-Some.flow o c.in-Some.ensures.first found.0 (among_first found.0 (numbers o.associations) (question_numbers o.questions) among) found.2)

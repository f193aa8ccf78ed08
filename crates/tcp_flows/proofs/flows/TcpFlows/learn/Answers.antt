use Rattle.std.proofs.Common.{sym, ◌∙◌, subst}
use Rattle.tcp_flows.specs.Kept.{Kept}
use Rattle.tcp_flows.specs.Reading.{HaveLearnt, NoneInSlots}
use Rattle.tcp_flows.proofs.Learning.{idle_resolves, none_resolves, learnt_all, learnt_calm, learnt_in_time, learnt_told}
use Rattle.tcp_flows.proofs.flows.TcpFlows.learn.Goals as goal

pub returns-then-self-eq0-clause-learnt : goal.returns-then-self-eq0-clause-learnt
returns-then-self-eq0-clause-learnt c =
    let are = c.self.invariant.0.resolving_are in
    subst (λ (s : Kept). HaveLearnt c.args.guests.now s.flows.slots s.flows.slots) c.self.view_is
    (learnt_all c.args.guests.now _ (none_resolves c.self.inside.slots.items (sym are ∙ c.if-self-eq0.true)))

pub returns-then-self-eq0-clause-told : goal.returns-then-self-eq0-clause-told
returns-then-self-eq0-clause-told c = learnt_told c.args.guests.now c.args.self.now.flows.slots c.args.self.now.flows.slots (returns-then-self-eq0-clause-learnt c)

pub returns-clause-told : goal.returns-clause-told
returns-clause-told c = learnt_told c.args.guests.now c.args.self.now.flows.slots c.learn_all.new.self.flows.slots c.learn_all.ensures.learnt

pub returns-clause-idle : goal.returns-clause-idle
returns-clause-idle c none =
    let are = c.self.invariant.0.resolving_are in
    absurd (c.if-self-eq0.false (are ∙ idle_resolves c.self.inside.slots.items (subst (λ (s : Kept). NoneInSlots s.flows.slots) (sym c.self.view_is) none)))

pub returns-clause-ahead : goal.returns-clause-ahead
returns-clause-ahead c = learnt_in_time c.args.guests.now c.args.self.now.flows.slots c.learn_all.new.self.flows.slots c.learn_all.ensures.learnt

pub returns-clause-calm : goal.returns-clause-calm
returns-clause-calm c = learnt_calm c.args.guests.now c.args.self.now.flows.slots c.learn_all.new.self.flows.slots c.learn_all.ensures.learnt

use Rattle.std.proofs.Common.{ℕ, subst, sym}
use Rattle.tcp_flows.specs.Reading.{Stays}
use Rattle.tcp_flows.specs.Settled.{HaveTime, IsInTime, OwesNoAck}
use Rattle.slirp_core.specs.Holds.{Holds, flowing}
use Rattle.slirp_core.specs.State.{SlirpState}
use Rattle.slirp_core.proofs.Connecting.{learnt_time}
use Rattle.slirp_core.proofs.Called.{addresses_told, flows_put}
use Rattle.slirp_core.proofs.Drawn.{drawn_stay}
use Rattle.slirp_core.proofs.Viewed.{state_of}
use Rattle.slirp_core.proofs.network.Slirp.tell_addresses.Goals as goal

pub returns-clause-holds : goal.returns-clause-holds
returns-clause-holds c config at aged link past holds =
    let i = c.self.inside in
    let slirp : SlirpState = state_of i in
    let new = c.learn.new.self in
    flows_put config at slirp new (flowing aged new) link past
    (addresses_told config at slirp aged i.flows new link past c.learn.ensures.learns c.learn.ensures.idle
    (subst (λ (s : SlirpState). Holds config at s (flowing aged s.flows) link past) (sym c.self.view_is) holds))

pub returns-clause-ahead : goal.returns-clause-ahead
returns-clause-ahead c now n early = c.learn.ensures.ahead now n (subst (λ (s : SlirpState). IsInTime now s.flows.flows.slots n) (sym c.self.view_is) early)

pub returns-clause-calm : goal.returns-clause-calm
returns-clause-calm c n unowed = c.learn.ensures.calm n (subst (λ (s : SlirpState). OwesNoAck s.flows.flows.slots n) (sym c.self.view_is) unowed)

pub invariant_of-self : goal.invariant_of-self
invariant_of-self c =
    let i = c.self.inside in (
      c.self.invariant.0,
      c.self.invariant.1,
      c.self.invariant.2,
      drawn_stay i.number i.flows c.learn.new.self c.learn.ensures.stays c.self.invariant.3,
      c.self.invariant.4,
      c.self.invariant.5,
      c.self.invariant.6,
      c.self.invariant.7,
    )

pub returns-clause-in_time : goal.returns-clause-in_time
returns-clause-in_time c =
    subst (λ (s : SlirpState). (now : ℕ) → HaveTime now s.flows.flows.slots → HaveTime now c.learn.new.self.flows.slots) c.self.view_is
    (learnt_time c.self.inside.guests c.self.inside.flows.flows.slots c.learn.new.self.flows.slots c.learn.ensures.learnt)

pub returns-clause-stays : goal.returns-clause-stays
returns-clause-stays c = subst (λ (s : SlirpState). Stays s.flows c.learn.new.self) c.self.view_is c.learn.ensures.stays

use Rattle.std.proofs.Common.{None, sym, ◌∙◌, ap, subst}
use Rattle.world_face.specs.Tells.{Brings}
use Rattle.sim_flows.specs.Core.{CoreHolds}
use Rattle.tcp_flows.specs.Kept.{Kept}
use Rattle.tcp_flows.specs.Reading.{AreTold}
use Rattle.tcp_flows.specs.Settled.{HaveTime, IsInTime}
use Rattle.slirp_core.specs.Holds.{AfterPump, Holds, flowing}
use Rattle.slirp_core.specs.State.{SlirpState}
use Rattle.slirp_core.proofs.Called.{after_put, pumped_so}
use Rattle.slirp_core.proofs.Drawn.{drawn_stay}
use Rattle.slirp_core.proofs.Telling.{brings_allowed}
use Rattle.slirp_core.specs.Marks.{KeepsMarks}
use Rattle.slirp_core.proofs.Marking.{marks_stay}
use Rattle.slirp_core.proofs.Viewed.{state_of}
use Rattle.slirp_core.proofs.network.Slirp.pump_flows.Goals as goal

pub returns-clause-makes : goal.returns-clause-makes
returns-clause-makes g c config at aged =
    let i = c.self.inside in
    let slirp : SlirpState = state_of i in
    let new = c.pump.new.self in
    let none = ap (λ (s : SlirpState). s.pending) c.self.view_is ∙ c.requires.out in
    let result = c.pump.result in
    subst (λ (s : SlirpState). Brings (g.W.World.tells c.args.world.now) (g.W.World.tells c.pump.new.world) (Holds config at s (flowing aged s.flows) c.args.link.now)
    (AfterPump result config at (record slirp { sent = c.pump.new.ident; flows = new }) (flowing aged new) c.pump.new.link)) c.self.view_is
    (brings_allowed c.pump.ensures.makes (λ made pumps allowed past holds.
    after_put result config at (record slirp { sent = c.pump.new.ident }) new (flowing aged new) c.pump.new.link _
    (pumped_so config at slirp aged i.flows new c.args.link.now c.pump.new.link past made c.pump.new.ident result none allowed pumps.0 pumps.1 holds)))

pub returns-clause-ahead : goal.returns-clause-ahead
returns-clause-ahead g c config before aged past holds n early =
    let view = c.self.view_is in
    subst (λ (s : SlirpState). IsInTime s.moment c.pump.new.self.flows.slots n) view
    (c.pump.ensures.ahead config before aged past (subst (λ (s : SlirpState). CoreHolds config before aged None s.flows.flows past) (sym view) holds) n
    (subst (λ (s : SlirpState). IsInTime s.moment s.flows.flows.slots n) (sym view) early))

pub returns-clause-told : goal.returns-clause-told
returns-clause-told g c = c.pump.ensures.told (subst (λ (s : SlirpState). AreTold s.known s.flows.flows.slots) (sym c.self.view_is) c.requires.told)

pub invariant_of-self : goal.invariant_of-self
invariant_of-self g c =
    let i = c.self.inside in (
      c.self.invariant.0,
      c.self.invariant.1,
      c.self.invariant.2,
      drawn_stay i.number i.flows c.pump.new.self c.pump.ensures.stays c.self.invariant.3,
      c.self.invariant.4,
      c.self.invariant.5,
      c.self.invariant.6,
      c.self.invariant.7,
    )

pub returns-clause-in_time : goal.returns-clause-in_time
returns-clause-in_time g c = subst (λ (s : SlirpState). HaveTime s.moment s.flows.flows.slots → HaveTime s.moment c.pump.new.self.flows.slots) c.self.view_is c.pump.ensures.in_time

pub returns-clause-marks : goal.returns-clause-marks
returns-clause-marks g c =
    let i = c.self.inside in
    let same = c.pump.ensures.same in
    subst (λ (s : SlirpState). KeepsMarks s.number s.flows c.pump.new.self) c.self.view_is
    (marks_stay i.number i.flows c.pump.new.self (ap (λ (k : Kept). k.served) same) (ap (λ (k : Kept). k.turn) same) c.pump.ensures.stays)

use Rattle.std.proofs.Common.{List, ◌++◌, None, false, true, ap, subst, sym}
use Rattle.world_face.specs.Tells.{Brings, Makes}
use Rattle.world_face.proofs.Telling.{makes_as}
use Rattle.sim_flows.specs.Core.{CoreHolds}
use Rattle.tcp_flows.specs.Runs.{ClosesRising}
use Rattle.tcp_flows.specs.Reading.{AreTold}
use Rattle.tcp_flows.specs.Settled.{OwesNoAck}
use Rattle.slirp_core.specs.Holds.{Holds, after, flowing}
use Rattle.slirp_core.specs.State.{SlirpState}
use Rattle.slirp_core.specs.Hearing.{WhereItTicks}
use Rattle.slirp_core.proofs.Called.{flows_put, told_rising, told_the_time, without_over}
use Rattle.slirp_core.proofs.Services.{server_on}
use Rattle.tftp_server.specs.Serving.{Serving}
use Rattle.rules_tftp.specs.Transfers.{Transfer}
use Rattle.slirp_core.proofs.Drawn.{drawn_stay}
use Rattle.slirp_core.proofs.Telling.{brings_allowed}
use Rattle.slirp_core.proofs.Viewed.{state_of}
use Rattle.slirp_core.proofs.network.Slirp.tell_time.Goals as goal

pub returns-clause-makes : goal.returns-clause-makes
returns-clause-makes g c config count link few =
    let i = c.self.inside in
    let slirp : SlirpState = state_of i in
    let new = c.tick.new.self in
    let files = c.end_over.new.self in
    subst (λ (s : SlirpState). Brings (g.W.World.tells c.args.world.now) (g.W.World.tells c.tick.new.world) (Holds config (after count) s (flowing false s.flows) link)
    (Holds config (after count) (record slirp { flows = new; transfers = files.transfers }) (flowing true new) link)) c.self.view_is
    (brings_allowed c.tick.ensures.makes (λ made ticks allowed past holds.
    subst (λ (t : List Transfer). Holds config (after count) (record slirp { flows = new; transfers = t }) (flowing true new) link (made ++ past))
    (sym (ap (λ (f : Serving). f.transfers) c.end_over.ensures.list))
    (flows_put config (after count) (without_over slirp) new (flowing true new) link _ (told_the_time config count slirp i.flows new link past made ClosesRising few
    (subst (λ (s : SlirpState). AreTold s.known s.flows.flows.slots) (sym c.self.view_is) c.requires.told) ticks.0 ticks.1 allowed holds))))

pub returns-clause-rising : goal.returns-clause-rising
returns-clause-rising g c =
    let i = c.self.inside in
    let slirp : SlirpState = state_of i in
    subst (λ (s : SlirpState). Makes (g.W.World.tells c.args.world.now) (g.W.World.tells c.tick.new.world) (λ made. WhereItTicks s (ClosesRising made))) c.self.view_is
    (makes_as _ _ _ (λ made. WhereItTicks slirp (ClosesRising made)) c.tick.ensures.makes
    (λ made ticks config count link past few holds. told_rising config count slirp i.flows c.tick.new.self link past made few
    (subst (λ (s : SlirpState). AreTold s.known s.flows.flows.slots) (sym c.self.view_is) c.requires.told) ticks.0 ticks.1 holds))

pub returns-clause-ahead : goal.returns-clause-ahead
returns-clause-ahead g c config before aged past holds n unowed =
    c.tick.ensures.ahead config before aged past (subst (λ (s : SlirpState). CoreHolds config before aged None s.flows.flows past) (sym c.self.view_is) holds) n
    (subst (λ (s : SlirpState). OwesNoAck s.flows.flows.slots n) (sym c.self.view_is) unowed)

pub invariant_of-self : goal.invariant_of-self
invariant_of-self g c =
    let i = c.self.inside in (
      c.self.invariant.0,
      c.self.invariant.1,
      c.self.invariant.2,
      drawn_stay i.number i.flows c.tick.new.self c.tick.ensures.stays c.self.invariant.3,
      c.self.invariant.4,
      c.self.invariant.5,
      c.self.invariant.6,
      server_on i.policy i.files c.end_over.new.self _ c.end_over.ensures.list c.self.invariant.7,
    )

use Rattle.std.proofs.Common.{subst}
use Rattle.world_face.specs.Tells.{Brings}
use Rattle.world_face.proofs.Telling.{makes_as}
use Rattle.slirp_core.proofs.Telling.{brings_allowed}
use Rattle.dns_relay.proofs.Below.{below_ticked}
use Rattle.slirp_core.specs.Holds.{Holds, flowing}
use Rattle.slirp_core.specs.State.{SlirpState}
use Rattle.slirp_core.proofs.Asking.{asked_for_long, closes_rising}
use Rattle.slirp_core.proofs.Drawn.{asked_on}
use Rattle.slirp_core.proofs.Viewed.{state_of}
use Rattle.slirp_core.proofs.network.Slirp.close_unanswered.Goals as goal

pub returns-clause-makes : goal.returns-clause-makes
returns-clause-makes g c config at aged link =
    let i = c.self.inside in
    let slirp : SlirpState = state_of i in
    subst (λ (s : SlirpState). Brings (g.W.World.tells c.args.world.now) (g.W.World.tells c.tick.new.world) (Holds config at s (flowing aged s.flows) link)
    (Holds config at (record slirp { questions = c.tick.new.self.list }) (flowing aged i.flows) link)) c.self.view_is
    (brings_allowed c.tick.ensures.closes (λ made ticks allowed past holds. asked_for_long config at (flowing aged i.flows) link slirp past c.tick.new.self.list made ticks allowed holds))

pub returns-clause-rising : goal.returns-clause-rising
returns-clause-rising g c =
    let i = c.self.inside in
    makes_as _ _ _ _ c.tick.ensures.closes (λ made ticks. closes_rising i.moment i.questions.list c.tick.new.self.list made ticks)

pub invariant_of-self : goal.invariant_of-self
invariant_of-self g c =
    let i = c.self.inside in
    let makes = c.tick.ensures.closes in (
      c.self.invariant.0,
      c.self.invariant.1,
      c.self.invariant.2,
      c.self.invariant.3,
      c.self.invariant.4,
      c.self.invariant.5,
      asked_on i.number i.policy i.questions c.tick.new.self c.tick.ensures.rest
          (below_ticked i.number i.moment i.questions.list c.tick.new.self.list makes.made makes.holds c.self.invariant.6.below) c.self.invariant.6.is,
      c.self.invariant.7,
    )

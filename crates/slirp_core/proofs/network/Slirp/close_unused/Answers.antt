use Rattle.std.proofs.Common.{◌∙◌, subst}
use Rattle.world_face.specs.Tells.{Brings}
use Rattle.world_face.proofs.Telling.{makes_as}
use Rattle.slirp_core.proofs.Telling.{brings_allowed}
use Rattle.slirp_core.specs.Holds.{Holds, flowing}
use Rattle.slirp_core.specs.State.{SlirpState}
use Rattle.slirp_core.proofs.Associating.{below_ticked, closes_rising, ticked}
use Rattle.slirp_core.proofs.Viewed.{state_of}
use Rattle.slirp_core.proofs.network.Slirp.close_unused.Goals as goal

pub returns-clause-makes : goal.returns-clause-makes
returns-clause-makes g c config at aged link =
    let i = c.self.inside in
    let slirp : SlirpState = state_of i in
    subst (λ (s : SlirpState). Brings (g.W.World.tells c.args.world.now) (g.W.World.tells c.tick.new.world) (Holds config at s (flowing aged s.flows) link)
    (Holds config at (record slirp { associations = c.tick.new.self.list }) (flowing aged i.flows) link)) c.self.view_is
    (brings_allowed c.tick.ensures.closes (λ made ticks allowed past holds. ticked config at (flowing aged i.flows) link slirp past c.tick.new.self.list made ticks allowed holds))

pub returns-clause-rising : goal.returns-clause-rising
returns-clause-rising g c =
    let i = c.self.inside in
    makes_as _ _ _ _ c.tick.ensures.closes (λ made ticks. closes_rising i.moment i.associations.list c.tick.new.self.list made ticks)

pub invariant_of-self : goal.invariant_of-self
invariant_of-self g c =
    let i = c.self.inside in
    let makes = c.tick.ensures.closes in (
      below_ticked i.number i.moment i.associations.list c.tick.new.self.list makes.made makes.holds c.self.invariant.0,
      c.self.invariant.1,
      c.tick.ensures.bind
          ∙ c.self.invariant.2,
      c.self.invariant.3,
      c.self.invariant.4,
      c.self.invariant.5,
      c.self.invariant.6,
      c.self.invariant.7,
    )

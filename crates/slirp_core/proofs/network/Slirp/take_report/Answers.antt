use Rattle.std.proofs.Common.{◌≡◌, ◌∷◌, slice_set, false, sym, ◌∙◌, ap, subst}
use Rattle.world_face.specs.Tells.{Brings}
use Rattle.slirp_core.specs.Holds.{Holds, flowing, standing}
use Rattle.slirp_core.specs.State.{SlirpState}
use Rattle.slirp_core.proofs.Called.{flows_put, reported, told_once}
use Rattle.slirp_core.proofs.Counted.{grown}
use Rattle.slirp_core.proofs.Drawn.{drawn_stay}
use Rattle.slirp_core.proofs.Telling.{brings_allowed}
use Rattle.tcp_flows.specs.Kept.{Kept}
use Rattle.tcp_flows.specs.Reading.{IsOpenAt, NoneOpen, Stays}
use Rattle.tcp_flows.specs.Told.{ServesOnce}
use Rattle.slirp_core.proofs.Viewed.{state_of}
use Rattle.slirp_core.proofs.network.Slirp.take_report.Goals as goal

pub returns-clause-makes : goal.returns-clause-makes
returns-clause-makes g c config count wants item items link wanted =
    let i = c.self.inside in
    let slirp : SlirpState = state_of i in
    let new = c.host_ready.new.self in
    subst (λ (s : SlirpState). Brings (g.W.World.tells c.args.world.now) (g.W.World.tells c.host_ready.new.world) (Holds config (standing count wants (item ∷ items)) s (flowing false s.flows) link)
    (λ past. Holds config (standing count wants items) (record slirp { flows = new })
    (flowing false new) link past × ServesOnce config c.args.number c.args.read c.args.write s.flows past)) c.self.view_is
    (brings_allowed c.host_ready.ensures.makes (λ made reports allowed past holds. (
      flows_put config (standing count wants items) slirp new (flowing false new) link _
          (reported config count wants item items slirp (flowing false i.flows) link past made c.args.number c.args.read c.args.write new wanted reports.0 allowed holds),
      told_once config count wants item items slirp (flowing false i.flows) link past made c.args.number c.args.read c.args.write wanted reports.2 holds,
    )))

pub returns-clause-counts : goal.returns-clause-counts
returns-clause-counts g c = grown _ _ _ c.host_ready.ensures.makes.counted

pub invariant_of-self : goal.invariant_of-self
invariant_of-self g c =
    let i = c.self.inside in (
      c.self.invariant.0,
      c.self.invariant.1,
      c.self.invariant.2,
      drawn_stay i.number i.flows c.host_ready.new.self c.host_ready.ensures.stays c.self.invariant.3,
      c.self.invariant.4,
      c.self.invariant.5,
      c.self.invariant.6,
      c.self.invariant.7,
    )

-- the marks, and the numbers in the slots
pub returns-clause-told : goal.returns-clause-told
returns-clause-told g c k p at is =
    let view = c.self.view_is in
    subst (λ (s : SlirpState). c.host_ready.new.self.served ≡ slice_set s.flows.served k s.flows.turn) view
    (c.host_ready.ensures.served k p (subst (λ (s : SlirpState). IsOpenAt s.flows.flows.slots k p) (sym view) at) is)

pub returns-clause-untold : goal.returns-clause-untold
returns-clause-untold g c none =
    let i = c.self.inside in
    let slirp : SlirpState = state_of i in
    ap (λ (k : Kept). record slirp { flows = k }) (c.host_ready.ensures.none (subst (λ (s : SlirpState). NoneOpen c.args.number s.flows.flows.slots) (sym c.self.view_is) none)).0 ∙ c.self.view_is

pub returns-clause-stays : goal.returns-clause-stays
returns-clause-stays g c = subst (λ (s : SlirpState). Stays s.flows c.host_ready.new.self) c.self.view_is c.host_ready.ensures.stays

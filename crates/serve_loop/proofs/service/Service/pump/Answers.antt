use Rattle.std.proofs.Common.{rules, ◌≡◌, ℕ, ap, false, sym, ◌∙◌, subst}
use Rattle.world_face.specs.Tells.{Brings}
use Rattle.world_face.proofs.Telling.{brings_as}
use Rattle.serve_loop.specs.Ends.{IsCounted}
use Rattle.slirp_core.specs.Holds.{after}
use Rattle.serve_loop.specs.Turns.{AfterTurn, AreYoung, HoldsNow, IsInTime}
use Rattle.serve_loop.specs.Served.{ServiceState}
use Rattle.tcp_flows.specs.Settled.{IsInTime as HasNoneDue}
use Rattle.tcp_flows.specs.Settled.{HaveTime}
use Rattle.slirp_core.specs.Marks.{KeepsMarks}
use Rattle.slirp_core.specs.State.{SlirpState}
use Rattle.serve_loop.proofs.Turning.{calm_by, clear_by, pumped, sent_by}
use Rattle.slirp_core.proofs.Counted.{grown}
use Rattle.serve_loop.proofs.Counted.{pump_counted}
use Rattle.serve_loop.proofs.service.Service.pump.Goals as goal

pub returns-clause-makes : goal.returns-clause-makes
returns-clause-makes g c config at aged =
    let new = c.pump-pumped.new in
    let made = brings_as (c.pump-pumped.ensures.makes config at aged) (λ past after.
    subst (λ t. AfterTurn t config at aged new.self new.link past) (sym c.turn_of.ensures) (pumped c.pump-pumped.result config at aged new.self new.link past after)) in
    subst (λ (s : ServiceState). Brings (g.W.World.tells c.args.world.now) (g.W.World.tells new.world) (HoldsNow config at aged s.slirp s.link)
    (AfterTurn c.turn_of.result config at aged new.self new.link)) c.self.view_is made

pub returns-clause-step : goal.returns-clause-step
returns-clause-step g c =
    let more = grown _ _ _ (c.pump-pumped.ensures.makes c.args.self.now.slirp.config (after 0) false).counted in
    record {
      counted = subst (λ t. IsCounted t (g.W.World.tells c.args.world.now).faults (g.W.World.tells c.pump-pumped.new.world).faults) (sym c.turn_of.ensures)
          (pump_counted c.pump-pumped.result _ _ more c.pump-pumped.ensures.failed);
      on = search rules;
    }

pub returns-clause-sent : goal.returns-clause-sent
returns-clause-sent g c again = sent_by c.pump-pumped.result c.pump-pumped.new.self c.pump-pumped.new.link c.pump-pumped.ensures.leaves (sym c.turn_of.ensures ∙ again)

pub returns-clause-young : goal.returns-clause-young
returns-clause-young g c young = subst AreYoung (sym c.pump-pumped.ensures.others) (subst (λ (s : ServiceState). AreYoung s.slirp) (sym c.self.view_is) young)

pub returns-clause-calm : goal.returns-clause-calm
returns-clause-calm g c again = calm_by c.pump-pumped.result c.pump-pumped.new.self c.pump-pumped.new.link c.pump-pumped.ensures.leaves c.pump-pumped.ensures.clear (sym c.turn_of.ensures ∙ again)

pub returns-clause-connects : goal.returns-clause-connects
returns-clause-connects g c config at aged past holds again early =
    let i = c.self.inside.slirp in
    let link = c.self.inside.link in
    let new = c.pump-pumped.new.self in
    let moment_same : new.moment ≡ i.moment = ap (λ (s : SlirpState). s.moment) c.pump-pumped.ensures.others in
    let before : HoldsNow config at aged i link past = subst (λ (s : ServiceState). HoldsNow config at aged s.slirp s.link past) (sym c.self.view_is) holds in
    let early_yet : IsInTime i link = subst (λ (s : ServiceState). IsInTime s.slirp s.link) (sym c.self.view_is) early in (
      subst (λ (m : ℕ). HaveTime m new.flows.flows.slots) (sym moment_same) (c.pump-pumped.ensures.in_time early_yet.0),
      λ free n.
          let all_out = clear_by c.pump-pumped.result new c.pump-pumped.new.link c.pump-pumped.ensures.leaves (sym c.turn_of.ensures ∙ again) free in
          subst (λ (m : ℕ). HasNoneDue m new.flows.flows.slots n) (sym moment_same) (c.pump-pumped.ensures.ahead config at aged past before n (early_yet.1 (c.pump-pumped.ensures.free all_out) n)),
    )

pub returns-clause-marks : goal.returns-clause-marks
returns-clause-marks g c = subst (λ (s : ServiceState). KeepsMarks s.slirp.number s.slirp.flows c.pump-pumped.new.self.flows) c.self.view_is c.pump-pumped.ensures.marks

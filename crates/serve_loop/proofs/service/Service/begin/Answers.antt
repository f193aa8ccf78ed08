use Rattle.std.proofs.Common.{◌∷◌, false, length, refl, sym, subst}
use Rattle.world_face.specs.Journal.{Now}
use Rattle.world_face.specs.Tells.{Brings}
use Rattle.world_face.proofs.Telling.{brings_one}
use Rattle.slirp_core.specs.Holds.{Opens, after}
use Rattle.slirp_core.specs.State.{SlirpState}
use Rattle.slirp_core.proofs.Counted.{grown}
use Rattle.slirp_core.proofs.Starting.{started}
use Rattle.serve_loop.specs.Served.{ServiceState}
use Rattle.serve_loop.specs.Turns.{AttendsNow, HoldsNow}
use Rattle.serve_loop.proofs.Serving.{none_reported, none_waited}
use Rattle.serve_loop.proofs.service.Service.begin.Goals as goal

pub returns-clause-makes : goal.returns-clause-makes
returns-clause-makes g c config =
    let i = c.self.inside in
    let told = c.now-told.result in
    subst (λ (s : ServiceState). Brings (g.W.World.tells c.args.world.now) (g.W.World.tells c.now-told.new.self) (Opens config (length config.forwards) s.slirp s.link)
    (AttendsNow config (after 0) false c.tell_moment.new.self i.link)) c.self.view_is
    (brings_one c.now-told.ensures (λ allowed past opens.
    let holds = subst (λ (s : SlirpState). HoldsNow config (after 0) false s i.link (Now told ∷ past)) (sym c.tell_moment.ensures) (started config i.slirp i.link told past allowed opens) in
    (holds, (none_waited config 0 false c.tell_moment.new.self i.link (Now told ∷ past) refl holds, none_reported config (Now told ∷ past) holds.clock.counted))))

pub returns-clause-counts : goal.returns-clause-counts
returns-clause-counts g c = grown _ _ _ c.now-told.ensures.counted

use Rattle.std.proofs.Common.{◌≡◌, false, is_some, refl, sym, ◌∙◌, ap, subst}
use Rattle.world_face.specs.Tells.{Brings, Makes}
use Rattle.slirp_settings.specs.Addresses.{Config}
use Rattle.rules_forward.specs.Opened.{socket_at, without}
use Rattle.slirp_core.specs.Added.{MayRemove, closed_at}
use Rattle.slirp_core.specs.Holds.{after}
use Rattle.slirp_core.specs.State.{SlirpState}
use Rattle.serve_loop.specs.Served.{ServiceState}
use Rattle.serve_loop.specs.Turns.{AttendsNow}
use Rattle.serve_loop.specs.declared.service.Turn.TheVariants.{Again}
use Rattle.serve_loop.proofs.Turning.{attends_on}
use Rattle.serve_loop.proofs.service.Service.remove_hostfwd.Goals as goal

pub returns-clause-closes : goal.returns-clause-closes
returns-clause-closes g c =
    subst (λ (s : ServiceState). Makes (g.W.World.tells c.args.world.now) (g.W.World.tells c.remove_hostfwd.new.world)
    (λ made. made ≡ closed_at (socket_at c.args.proto c.args.host s.slirp.forwards))) c.self.view_is c.remove_hostfwd.ensures.closes

pub returns-clause-found : goal.returns-clause-found
returns-clause-found g c = c.remove_hostfwd.ensures.found ∙ ap (λ (s : ServiceState). is_some (socket_at c.args.proto c.args.host s.slirp.forwards)) c.self.view_is

pub returns-clause-makes : goal.returns-clause-makes
returns-clause-makes g c config count some may =
    let i = c.self.inside in
    let a = g.W.World.tells c.args.world.now in
    let b = g.W.World.tells c.remove_hostfwd.new.world in
    let new = c.remove_hostfwd.new.self in
    subst (λ (s : ServiceState). MayRemove config s.slirp c.args.proto c.args.host → Brings a b (AttendsNow config (after count) false s.slirp s.link)
    (AttendsNow config (after count) false new i.link)) c.self.view_is
    (λ may. attends_on Again config (after count) (after count) false false i.slirp new i.link i.link a b refl (c.remove_hostfwd.ensures.makes config count i.link some may)) may

pub returns-clause-slirp : goal.returns-clause-slirp
returns-clause-slirp g c =
    c.remove_hostfwd.ensures.others ∙ ap (λ (s : ServiceState). record s.slirp { forwards = without c.args.proto c.args.host s.slirp.forwards }) c.self.view_is

pub invariant_of-self : goal.invariant_of-self
invariant_of-self g c =
    let same = ap (λ (s : SlirpState). s.config) c.remove_hostfwd.ensures.others in (
      c.self.invariant.0 ∙ sym (ap (λ (k : Config). k.turns) same),
      c.self.invariant.1,
      c.self.invariant.2,
      c.self.invariant.3,
      c.self.invariant.4,
      c.self.invariant.5,
      c.self.invariant.6 ∙ sym (ap (λ (k : Config). k.forwards) same),
    )

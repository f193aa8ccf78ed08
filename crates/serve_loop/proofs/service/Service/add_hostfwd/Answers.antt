use Rattle.std.proofs.Common.{false, refl, sym, ◌∙◌, ap, subst}
use Rattle.std.specs.Result.{result_err}
use Rattle.world_face.specs.Tells.{Brings, Makes}
use Rattle.slirp_settings.specs.Addresses.{Config}
use Rattle.rules_forward.specs.Adding.{Adds, fault_of}
use Rattle.slirp_core.specs.Added.{MayAdd, number_after}
use Rattle.slirp_core.specs.Holds.{after}
use Rattle.slirp_core.specs.State.{SlirpState}
use Rattle.serve_loop.specs.Served.{ServiceState}
use Rattle.serve_loop.specs.Turns.{AttendsNow}
use Rattle.serve_loop.specs.declared.service.Turn.TheVariants.{Again}
use Rattle.serve_loop.proofs.Turning.{attends_on}
use Rattle.serve_loop.proofs.service.Service.add_hostfwd.Goals as goal

pub returns-clause-adds : goal.returns-clause-adds
returns-clause-adds g c =
    subst (λ (s : ServiceState). Makes (g.W.World.tells c.args.world.now) (g.W.World.tells c.add_hostfwd.new.world)
    (Adds (fault_of s.slirp.config c.args.forward s.slirp.forwards) c.args.forward s.slirp.number s.slirp.forwards c.add_hostfwd.new.self.forwards (result_err c.add_hostfwd.result))) c.self.view_is
    c.add_hostfwd.ensures.adds

pub returns-clause-makes : goal.returns-clause-makes
returns-clause-makes g c config count some may =
    let i = c.self.inside in
    let a = g.W.World.tells c.args.world.now in
    let b = g.W.World.tells c.add_hostfwd.new.world in
    let new = c.add_hostfwd.new.self in
    subst (λ (s : ServiceState). MayAdd config s.slirp c.args.forward → Brings a b (AttendsNow config (after count) false s.slirp s.link) (AttendsNow config (after count) false new i.link))
    c.self.view_is
    (λ may. attends_on Again config (after count) (after count) false false i.slirp new i.link i.link a b refl (c.add_hostfwd.ensures.makes config count i.link some may)) may

pub returns-clause-slirp : goal.returns-clause-slirp
returns-clause-slirp g c =
    let new = c.add_hostfwd.new.self in
    c.add_hostfwd.ensures.others
    ∙ ap (λ (s : ServiceState). record s.slirp { number = number_after (result_err c.add_hostfwd.result) s.slirp.number; forwards = new.forwards }) c.self.view_is

pub invariant_of-self : goal.invariant_of-self
invariant_of-self g c =
    let same = ap (λ (s : SlirpState). s.config) c.add_hostfwd.ensures.others in (
      c.self.invariant.0 ∙ sym (ap (λ (k : Config). k.turns) same),
      c.self.invariant.1,
      c.self.invariant.2,
      c.self.invariant.3,
      c.self.invariant.4,
      c.self.invariant.5,
      c.self.invariant.6 ∙ sym (ap (λ (k : Config). k.forwards) same),
    )

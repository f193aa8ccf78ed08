use Rattle.std.proofs.Common.{◌≡◌, sym, ◌∙◌, ap, subst}
use Rattle.world_face.proofs.Telling.{makes_from, makes_none}
use Rattle.slirp_settings.specs.Addresses.{Config}
use Rattle.slirp_core.specs.Holds.{as_given}
use Rattle.slirp_core.specs.State.{SlirpState}
use Rattle.serve_loop.specs.Served.{IsNew, ServiceState}
use Rattle.serve_loop.proofs.Serving.{opens}
use Rattle.serve_loop.proofs.service.Service.listen.Goals as goal

pub listen_all-requires-clause-forwards : goal.listen_all-requires-clause-forwards
listen_all-requires-clause-forwards g c = c.as_slice.ensures.value ∙ c.self.invariant.6

pub listen_all-requires-clause-sound : goal.listen_all-requires-clause-sound
listen_all-requires-clause-sound g c = (subst IsNew (sym c.self.view_is) c.requires).sound

pub listen_all-requires-clause-none : goal.listen_all-requires-clause-none
listen_all-requires-clause-none g c = (subst IsNew (sym c.self.view_is) c.requires).forwards

pub listen_all-requires-clause-number : goal.listen_all-requires-clause-number
listen_all-requires-clause-number g c = (subst IsNew (sym c.self.view_is) c.requires).number

pub returns-clause-makes : goal.returns-clause-makes
returns-clause-makes g c config given =
    let i = c.self.inside in
    let view : ServiceState = record { slirp = i.slirp; link = i.link; wants = i.wants.items; ready = i.ready.items } in
    let as_viewed : i.slirp.config ≡ as_given config = ap (λ (s : ServiceState). s.slirp.config) c.self.view_is ∙ given in
    makes_from (makes_none _ _ (opens view config as_viewed (subst IsNew (sym c.self.view_is) c.requires))) (c.listen_all.ensures.makes config i.link as_viewed)

pub invariant_of-self : goal.invariant_of-self
invariant_of-self g c =
    let same = ap (λ (s : SlirpState). s.config) c.listen_all.ensures.others in (
      c.self.invariant.0 ∙ sym (ap (λ (k : Config). k.turns) same),
      c.self.invariant.1,
      c.self.invariant.2,
      c.self.invariant.3,
      c.self.invariant.4,
      c.self.invariant.5,
      c.self.invariant.6 ∙ sym (ap (λ (k : Config). k.forwards) same),
    )

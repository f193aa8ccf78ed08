use Rattle.std.proofs.Common.{◌<◌, Bool, length, refl, sym, ◌∙◌, ap, subst, arith}
use Rattle.world_face.specs.Tells.{Makes}
use Rattle.world_face.proofs.Telling.{makes_as, makes_none}
use Rattle.slirp_core.specs.Forwards.{ClosesForward}
use Rattle.slirp_core.specs.State.{SlirpState}
use Rattle.slirp_core.proofs.Closing.{first_closed, first_forward, none_first_forward}
use Rattle.slirp_core.proofs.network.Slirp.close_forward.Goals as goal

pub returns-in_default-clause-makes : goal.returns-in_default-clause-makes
returns-in_default-clause-makes g c =
    let none = none_first_forward c.self.inside.forwards (sym c.at.ensures.at ∙ c.in_default.is) in
    let as_seen = sym (ap (λ (s : SlirpState). s.forwards) c.self.view_is) ∙ none in
    makes_none _ _ (as_seen, as_seen, refl)

pub returns-clause-makes : goal.returns-clause-makes
returns-clause-makes g c =
    let i = c.self.inside in
    let new = c.remove_hostfwd.new.self in
    let f = c.in-Some.forward in
    let n = c.in-Some.field-0-1 in
    let at = sym c.at.ensures.at ∙ c.in-Some.is in
    let there = c.remove_hostfwd.ensures.there n (first_forward i.forwards f n at) in
    let was = first_closed i.forwards new f n at c.remove_hostfwd.ensures.list (c.remove_hostfwd.ensures.one there.0) in
    subst (λ (s : SlirpState). Makes (g.W.World.tells c.args.world.now) (g.W.World.tells c.remove_hostfwd.new.world) (ClosesForward c.is_ok.result s.forwards new)) c.self.view_is
    (subst (λ (b : Bool). Makes (g.W.World.tells c.args.world.now) (g.W.World.tells c.remove_hostfwd.new.world) (ClosesForward b i.forwards new)) (sym (c.is_ok.ensures.value ∙ there.0))
    (makes_as _ _ _ _ there.1 (λ made one. (f, n, was, one))))

pub returns-clause-fewer : goal.returns-clause-fewer
returns-clause-fewer g c is =
    let i = c.self.inside in
    let at = sym c.at.ensures.at ∙ c.in-Some.is in
    let there = c.remove_hostfwd.ensures.there c.in-Some.field-0-1 (first_forward i.forwards c.in-Some.forward c.in-Some.field-0-1 at) in
    let one = c.remove_hostfwd.ensures.one there.0 in
    subst (λ (s : SlirpState). length c.remove_hostfwd.new.self < length s.forwards) c.self.view_is (omega (arith, one))

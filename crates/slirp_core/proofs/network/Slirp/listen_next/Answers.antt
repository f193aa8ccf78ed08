use Rattle.std.proofs.Common.{Bool, Option, sym, ◌∙◌, ap, subst}
use Rattle.std.specs.Result.{result_err}
use Rattle.world_face.specs.Tells.{Makes}
use Rattle.world_face.proofs.Telling.{makes_as}
use Rattle.rules_forward.specs.Adding.{Adds, fault_of}
use Rattle.rules_forward.specs.declared.FwdFault.{FwdFault}
use Rattle.slirp_core.specs.Forwards.{Listens}
use Rattle.slirp_core.specs.State.{SlirpState}
use Rattle.slirp_core.proofs.Listening.{listens_by}
use Rattle.slirp_core.proofs.network.Slirp.listen_next.Goals as goal

pub returns-clause-adds : goal.returns-clause-adds
returns-clause-adds g c =
    let i = c.self.inside in
    let forward = c.args.forward in
    let new = c.add_hostfwd.new.self in
    let unasked = ap (λ (s : SlirpState). fault_of s.config forward s.forwards) c.self.view_is ∙ c.requires.unasked in
    subst (λ (s : SlirpState). Makes (g.W.World.tells c.args.world.now) (g.W.World.tells c.add_hostfwd.new.world) (Listens c.is_ok.result forward s.number s.forwards new)) c.self.view_is
    (subst (λ (b : Bool). Makes (g.W.World.tells c.args.world.now) (g.W.World.tells c.add_hostfwd.new.world) (Listens b forward i.number i.forwards new)) (sym c.is_ok.ensures.value)
    (makes_as _ _ _ _
    (subst (λ (fault : Option FwdFault). Makes (g.W.World.tells c.args.world.now) (g.W.World.tells c.add_hostfwd.new.world)
    (Adds fault forward i.number i.forwards new (result_err c.add_hostfwd.result))) unasked c.add_hostfwd.ensures.adds)
    (λ made added. listens_by forward i.number i.forwards new c.add_hostfwd.result made added)))

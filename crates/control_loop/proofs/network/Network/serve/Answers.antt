use Rattle.std.proofs.Common.{Option, sym, subst}
use Rattle.net_octets.specs.declared.Endpoint.{Endpoint}
use Rattle.world_face.specs.Tells.{Makes}
use Rattle.slirp_settings.specs.Addresses.{Config}
use Rattle.control_loop.specs.Networks.{IsControl}
use Rattle.control_loop.specs.Runs.{IsRun, RunsTo}
use Rattle.control_loop.proofs.network.Network.serve.Goals as goal

pub returns-in-Some-clause-makes : goal.returns-in-Some-clause-makes
returns-in-Some-clause-makes g c =
    let config = c.self.inside.service.slirp.config in
    let control = subst (IsControl config) c.in-Some.is c.self.invariant.1 in
    subst (λ (k : Config). Makes (g.W.World.tells c.args.world.now) (g.W.World.tells c.serve_with.new.world) (IsRun k c.serve_with.result)) c.self.view_is
    (subst (λ (o : Option Endpoint). Makes (g.W.World.tells c.args.world.now) (g.W.World.tells c.serve_with.new.world) (λ made. RunsTo o config c.serve_with.result made)) (sym control.0) c.serve_with.ensures.makes)

pub returns-in-None-clause-makes : goal.returns-in-None-clause-makes
returns-in-None-clause-makes g c =
    let config = c.self.inside.service.slirp.config in
    let control = subst (IsControl config) c.in-None.is c.self.invariant.1 in
    subst (λ (k : Config). Makes (g.W.World.tells c.args.world.now) (g.W.World.tells c.serve_alone.new.world) (IsRun k c.serve_alone.result)) c.self.view_is
    (subst (λ (o : Option Endpoint). Makes (g.W.World.tells c.args.world.now) (g.W.World.tells c.serve_alone.new.world) (λ made. RunsTo o config c.serve_alone.result made)) (sym control) c.serve_alone.ensures.makes)

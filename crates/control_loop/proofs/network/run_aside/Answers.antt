use Rattle.std.proofs.Common.{sym, subst}
use Rattle.world_face.specs.Tells.{Makes}
use Rattle.control.specs.Stretches.{Asided}
use Rattle.spec_control.specs.ControlServer.{Reads}
use Rattle.spec_control.specs.Laws.{IsReading}
use Rattle.control_loop.specs.Runs.{RunsWith}
use Rattle.control_loop.proofs.network.run_aside.Goals as goal

pub returns-clause-makes : goal.returns-clause-makes
returns-clause-makes g c =
    let config = c.args.run.0.slirp.config in
    subst (λ w. Makes (g.W.World.tells c.args.world) (g.W.World.tells w) (λ made. (read : Reads) → IsReading config read → RunsWith read config c.run-end.result made)) (sym c.into_world.ensures.world)
    (subst (λ (a : Asided _). Makes (g.W.World.tells a.world) (g.W.World.tells c.run-end.new.world.world) (λ made. (read : Reads) → IsReading config read → RunsWith read config c.run-end.result made)) c.new-aside.ensures
    c.run-end.ensures.makes)

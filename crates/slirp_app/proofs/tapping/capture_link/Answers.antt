use Rattle.std.proofs.Common.{◌≡◌, subst}
use Rattle.world_face.specs.Journal.{place_of}
use Rattle.world_face.specs.Tells.{Makes, Rose}
use Rattle.slirp_app.specs.Serving.{CapturesAt}
use Rattle.app_edges.specs.Statuses.{code_of}
use Rattle.slirp_app.proofs.tapping.capture_link.Goals as goal

-- the sink's reference came back, so that what stands behind it is known
pub returns-clause-captures : goal.returns-clause-captures
returns-clause-captures g c =
    let left = c.replace_with-outcome in
    subst (λ k. Makes (g.W.World.tells c.args.world.now) (g.W.World.tells left.new.dest) (CapturesAt c.args.network (place_of c.args.at.now) left.result.0
    (g.K.Sink.holds c.args.out.now) (g.K.Sink.holds k)))
    (search (c.out-1.given.1, c.replace_with-outcome.ensures.1.1.1)) left.ensures.0

pub returns-clause-counted : goal.returns-clause-counted
returns-clause-counted g c = c.replace_with-outcome.ensures.1.0

pub returns-clause-refused : goal.returns-clause-refused
returns-clause-refused g c =
    let left = c.replace_with-outcome in
    subst (λ k. code_of left.result.0 ≡ 12 → Rose (g.K.Sink.faults c.args.out.now) (g.K.Sink.faults k)) (search (c.out-1.given.1, c.replace_with-outcome.ensures.1.1.1)) left.ensures.1.1.0

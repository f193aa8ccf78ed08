use Rattle.std.proofs.Common.{[], false}
use Rattle.world_face.proofs.Counting.{rose_after}
use Rattle.world_face.proofs.Telling.{brings_then}
use Rattle.slirp_core.specs.Holds.{standing}
use Rattle.slirp_core.proofs.Counted.{grown}
use Rattle.slirp_core.proofs.network.Slirp.pump_answers.Goals as goal

pub returns-in-Clear-clause-makes : goal.returns-in-Clear-clause-makes
returns-in-Clear-clause-makes g c config at aged = brings_then (c.in-Clear.ensures.makes config at aged) (c.pump_pending.ensures.makes config at aged)

pub returns-in-Clear-clause-failed : goal.returns-in-Clear-clause-failed
returns-in-Clear-clause-failed g c is =
    let before = grown _ _ _ (c.in-Clear.ensures.makes c.args.self.now.config (standing 0 [] []) false).counted in
    rose_after (g.W.World.tells c.args.world.now).faults.link _ _ before.0 (c.pump_pending.ensures.failed is)

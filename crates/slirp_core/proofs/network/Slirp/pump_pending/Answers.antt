use Rattle.std.proofs.Common.{[], false, ◌∙◌, ap}
use Rattle.world_face.proofs.Counting.{rose_after}
use Rattle.world_face.proofs.Telling.{brings_then}
use Rattle.slirp_core.specs.Holds.{standing}
use Rattle.slirp_core.specs.State.{SlirpState}
use Rattle.slirp_core.proofs.Counted.{grown}
use Rattle.slirp_core.proofs.network.Slirp.pump_pending.Goals as goal

pub loop-self-preserved : goal.loop-self-preserved
loop-self-preserved g c = record {
  makes = λ config at aged. brings_then (c.loop-self.invariant.makes config at aged) (c.in-Clear.ensures.makes config at aged);
  free = c.in-Clear.ensures.leaves.0;
  none = c.in-Clear.ensures.leaves.1;
  same = c.in-Clear.ensures.same ∙ c.loop-self.invariant.same;
  others = c.in-Clear.ensures.others ∙ ap (λ (s : SlirpState). record s { pending = c.pump_next.new.self.pending; sent = c.pump_next.new.self.sent }) c.loop-self.invariant.others;
}

pub returns-in-Blocked-clause-makes : goal.returns-in-Blocked-clause-makes
returns-in-Blocked-clause-makes g c config at aged = brings_then (c.loop-self.invariant.makes config at aged) (c.in-Blocked.ensures.makes config at aged)

pub returns-in-Failed-clause-makes : goal.returns-in-Failed-clause-makes
returns-in-Failed-clause-makes g c config at aged = brings_then (c.loop-self.invariant.makes config at aged) (c.in-Failed.ensures.makes config at aged)

pub returns-in-Failed-clause-failed : goal.returns-in-Failed-clause-failed
returns-in-Failed-clause-failed g c is =
    let before = grown _ _ _ (c.loop-self.invariant.makes c.args.self.now.config (standing 0 [] []) false).counted in
    rose_after (g.W.World.tells c.args.world.now).faults.link _ _ before.0 (c.in-Failed.ensures.failed is)

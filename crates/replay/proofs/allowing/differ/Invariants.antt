use Rattle.std.proofs.Common.{◌≡◌, length}
use Rattle.poll_list.specs.Listing.{differ}
use Rattle.replay.proofs.allowing.differ.Given as goal

abbrev pub invariant-loop-rest : goal.invariant-loop-rest
invariant-loop-rest l = differ l.wants ≡ differ l.rest

abbrev pub decreases-loop-rest : goal.decreases-loop-rest
decreases-loop-rest l = length l.rest

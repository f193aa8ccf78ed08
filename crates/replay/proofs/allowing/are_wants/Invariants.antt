use Rattle.std.proofs.Common.{◌≡◌, length}
use Rattle.poll_list.specs.Listing.{are_wants}
use Rattle.replay.proofs.allowing.are_wants.Given as goal

abbrev pub invariant-loop-rest : goal.invariant-loop-rest
invariant-loop-rest l = are_wants l.wants ≡ are_wants l.rest

abbrev pub decreases-loop-rest : goal.decreases-loop-rest
decreases-loop-rest l = length l.rest

use Rattle.std.proofs.Common.{◌≡◌, length}
use Rattle.std.specs.List.{list_any}
use Rattle.poll_list.specs.Listing.{same_number, number_of}
use Rattle.replay.proofs.allowing.is_among.Given as goal

abbrev pub invariant-loop-rest : goal.invariant-loop-rest
invariant-loop-rest l = list_any (λ w. same_number (number_of l.want.of) (number_of w.of)) l.wants ≡ list_any (λ w. same_number (number_of l.want.of) (number_of w.of)) l.rest

abbrev pub decreases-loop-rest : goal.decreases-loop-rest
decreases-loop-rest l = length l.rest

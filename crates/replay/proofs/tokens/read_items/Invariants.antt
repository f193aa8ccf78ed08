use Rattle.std.proofs.Common.{◌≡◌, ◌++◌, ◌∷◌, List, true, length}
use Rattle.poll_list.specs.declared.Want.{Want}
use Rattle.poll_list.specs.Listing.{are_wants}
use Rattle.replay.specs.Text.{joined_text}
use Rattle.replay.proofs.Joining.{each_text}
use Rattle.replay.proofs.Refusing.{Left}
use Rattle.replay.proofs.tokens.read_items.Given as goal

abbrev pub invariant-loop-item : goal.invariant-loop-item
invariant-loop-item l = record {
  text : l.text ≡ each_text l.items.items ++ l.rest;
  range : are_wants l.items.items ≡ true;
  left : (want : Want) (more : List Want) → are_wants (want ∷ more) ≡ true → l.text ≡ joined_text (want ∷ more) → Left l.rest;
}

abbrev pub decreases-loop-item : goal.decreases-loop-item
decreases-loop-item l = length l.rest

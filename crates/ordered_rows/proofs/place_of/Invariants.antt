use Rattle.std.proofs.Common.{◌≡◌, ℕ, ◌+◌, ◌<◌, ◌≤◌, length, slice_get, Some}
use Rattle.ordered_rows.specs.declared.Queued.{Queued}
use Rattle.ordered_rows.specs.Rows.{IsBefore}
use Rattle.ordered_rows.proofs.place_of.Given as goal

-- the place isn't outside the part that is left
abbrev pub invariant-loop-size : goal.invariant-loop-size
invariant-loop-size l = record {
  within : l.low + l.size ≤ length l.row;
  before : (i : ℕ) (x : Queued) → i < l.low → slice_get l.row i ≡ Some x → IsBefore x l.one;
  after : (i : ℕ) (x : Queued) → l.low + l.size ≤ i → slice_get l.row i ≡ Some x → IsBefore x l.one → ⊥;
}

abbrev pub decreases-loop-size : goal.decreases-loop-size
decreases-loop-size l = l.size

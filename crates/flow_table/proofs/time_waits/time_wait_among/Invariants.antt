use Rattle.std.proofs.Common.{◌≡◌, ◌<◌, ◌≤◌, ◌-◌, ℕ, length, slice_get, Some}
use Rattle.flow_table.proofs.time_waits.time_wait_among.Given as goal

-- it doesn't stand at a place before this one
abbrev pub invariant-loop-place : goal.invariant-loop-place
invariant-loop-place l = record {
  from : l.initial.place ≤ l.place;
  within : l.place ≤ length l.time_waits;
  none : (i : ℕ) → i < l.place → slice_get l.time_waits i ≡ Some l.rest → ⊥;
}

abbrev pub decreases-loop-place : goal.decreases-loop-place
decreases-loop-place l = length l.time_waits - l.place

use Rattle.std.proofs.Common.{◌≡◌, ℕ, ◌+◌, ◌<◌, ◌≤◌, ◌^◌, length}
use Rattle.flow_table.specs.Rows.{AreAbove, AreBelow}
use Rattle.flow_table.proofs.entries.search.Given as goal

-- what stands before the part that is left is lower, and what stands behind it is higher; each step halves the part
abbrev pub invariant-loop-size : goal.invariant-loop-size
invariant-loop-size g l = record {
  within : l.low + l.size ≤ length l.entries;
  below : AreBelow l.entries l.low l.t;
  above : AreAbove l.entries (l.low + l.size) l.t;
  halved : (k : ℕ) → length l.entries < 2 ^ k → (m : ℕ) × ((k + l.fn.steps ≡ l.steps + m) × (l.size < 2 ^ m));
}

abbrev pub decreases-loop-size : goal.decreases-loop-size
decreases-loop-size g l = l.size

use Rattle.std.proofs.Common.{◌≡◌, ◌≤◌, ◌++◌, length, drop}
use Rattle.sock_buffers.specs.Kept.{past}
use Rattle.sock_buffers.proofs.ranges.past_first.Given as goal

abbrev pub invariant-loop-range : goal.invariant-loop-range
invariant-loop-range l = record {
  same : l.all.items ++ past l.count (drop l.range-index l.range-items) ≡ past l.count l.range-items;
  few : length l.all.items ≤ l.range-index;
}

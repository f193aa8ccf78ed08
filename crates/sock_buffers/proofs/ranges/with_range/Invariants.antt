use Rattle.std.proofs.Common.{◌≡◌, ◌++◌, drop}
use Rattle.sock_buffers.specs.Kept.{with_range}
use Rattle.sock_buffers.proofs.ranges.with_range.Given as goal

abbrev pub invariant-loop-at : goal.invariant-loop-at
invariant-loop-at l = l.all.items ++ with_range (drop l.at l.ranges) l.new ≡ with_range l.ranges l.fn.new

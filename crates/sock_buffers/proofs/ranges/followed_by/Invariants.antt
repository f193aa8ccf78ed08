use Rattle.std.proofs.Common.{◌≡◌, ◌≤◌, ◌∷◌, ◌++◌, length, take}
use Rattle.sock_buffers.proofs.ranges.followed_by.Given as goal

abbrev pub invariant-loop-range : goal.invariant-loop-range
invariant-loop-range l = record {
  same : l.all.items ≡ l.fn.all.items ++ l.fn.new ∷ take l.range-index l.rest;
  few : length l.all.items ≤ 32;
}

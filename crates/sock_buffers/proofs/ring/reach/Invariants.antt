use Rattle.std.proofs.Common.{◌≡◌, ◌-◌, ◌≤◌, length, take, max}
use Rattle.sock_buffers.proofs.ring.reach.Given as goal

abbrev pub invariant-loop-ring : goal.invariant-loop-ring
invariant-loop-ring l = record {
  longer : length l.fn.ring.items ≤ length l.ring.items;
  enough : length l.ring.items ≤ max l.len (length l.fn.ring.items);
  front : take (length l.fn.ring.items) l.ring.items ≡ l.fn.ring.items;
  capacity : l.ring.capacity ≡ l.fn.ring.capacity;
}

abbrev pub decreases-loop-ring : goal.decreases-loop-ring
decreases-loop-ring l = l.len - length l.ring.items

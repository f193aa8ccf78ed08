use Rattle.std.proofs.Common.{◌≡◌, take}
use Rattle.control.proofs.waits.put_behind_listeners.Given as goal

abbrev pub invariant-loop-want : goal.invariant-loop-want
invariant-loop-want l = record {
  items : l.list.items ≡ take l.want-index l.front;
  capacity : l.list.capacity ≡ l.fn.list.capacity;
}

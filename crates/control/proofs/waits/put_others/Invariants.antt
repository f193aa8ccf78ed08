use Rattle.std.proofs.Common.{◌≡◌, ◌≤◌, take, length}
use Rattle.rules_control.specs.Apart.{others}
use Rattle.control.proofs.waits.put_others.Given as goal

abbrev pub invariant-loop-item : goal.invariant-loop-item
invariant-loop-item l = record {
  items : l.ready.items ≡ others (take l.item-index l.item-items);
  few : length l.ready.items ≤ l.item-index;
  capacity : l.ready.capacity ≡ l.fn.ready.capacity;
}

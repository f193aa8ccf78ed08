use Rattle.std.proofs.Common.{◌≡◌, ◌+◌, ◌≤◌, List, ◌++◌, length, drop}
use Rattle.poll_list.specs.declared.Want.{Want}
use Rattle.poll_list.specs.Picks.{GoesOn}
use Rattle.drive_world.proofs.reporting.add_parts.Given as goal

abbrev pub invariant-loop-want : goal.invariant-loop-want
invariant-loop-want l = record {
  picks : (all rest : List Want) → GoesOn all (l.fn.wants ++ rest) l.fn.ready.items → GoesOn all (drop l.want-index l.fn.wants ++ rest) l.ready.items;
  few : length l.ready.items ≤ length l.fn.ready.items + l.want-index;
  capacity : l.ready.capacity ≡ l.fn.ready.capacity;
}

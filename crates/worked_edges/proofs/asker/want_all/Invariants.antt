use Rattle.std.proofs.Common.{◌≡◌, ◌+◌, ◌≤◌, length}
use Rattle.poll_list.specs.Listing.{AreWants}
use Rattle.worked_edges.proofs.asker.want_all.Given as goal

abbrev pub invariant-loop-number : goal.invariant-loop-number
invariant-loop-number l = record {
  some : AreWants l.wants.items;
  few : length l.wants.items + 99 ≡ l.number;
  room : 41 ≤ l.wants.capacity;
}

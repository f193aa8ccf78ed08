use Rattle.std.proofs.Common.{◌≡◌, ◌+◌, ◌++◌, map, take, length}
use Rattle.poll_list.specs.Listing.{AreWants}
use Rattle.sim_flows.specs.Wants.{udp_want}
use Rattle.slirp_core.proofs.wants.add_sockets.Given as goal

abbrev pub invariant-loop-number : goal.invariant-loop-number
invariant-loop-number l = record {
  items : l.wants.items ≡ l.fn.wants.items ++ map udp_want (take l.number-index l.numbers);
  are : AreWants l.wants.items;
  room : length l.wants.items ≡ length l.fn.wants.items + l.number-index;
  capacity : l.wants.capacity ≡ l.fn.wants.capacity;
}

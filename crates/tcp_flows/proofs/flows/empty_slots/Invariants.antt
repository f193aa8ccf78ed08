use Rattle.std.proofs.Common.{◌≡◌, ◌≤◌, length}
use Rattle.std.specs.Vec.{vec_capacity}
use Rattle.tcp_flows.specs.Rows.{AreEmpty}
use Rattle.tcp_flows.proofs.flows.empty_slots.Given as goal

abbrev pub invariant-loop : goal.invariant-loop
invariant-loop l = record {
  count : length l.slots.items ≡ l.counter;
  room : l.sizes.slots ≤ vec_capacity l.slots;
  empty : AreEmpty l.sizes.ring l.sizes.mru l.slots.items;
}

use Rattle.std.proofs.Common.{◌≡◌, ℕ, ◌≤◌, length}
use Rattle.std.specs.List.{slice_get}
use Rattle.sock_buffers.specs.Kept.{uncovered, written_at}
use Rattle.sock_buffers.proofs.ring.overwrite.Given as goal

abbrev pub invariant-loop-at : goal.invariant-loop-at
invariant-loop-at l = record {
  places : (place : ℕ) → slice_get l.ring.items place ≡ written_at l.ranges l.held l.ahead l.at l.octets l.fn.ring.items place;
  length : length l.ring.items ≡ length l.fn.ring.items;
  capacity : l.ring.capacity ≡ l.fn.ring.capacity;
  count : l.count ≡ uncovered l.ranges l.ahead l.at;
  few : l.count ≤ l.at;
}

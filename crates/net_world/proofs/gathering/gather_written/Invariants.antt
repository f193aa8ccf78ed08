use Rattle.std.proofs.Common.{◌≡◌, ◌+◌, ◌≤◌, List, ◌++◌, length, take, drop}
use Rattle.poll_list.specs.declared.Want.{Want}
use Rattle.poll_list.specs.Writes.{count_to_write}
use Rattle.poll_list.specs.Picks.{GoesOn, Begins}
use Rattle.net_world.specs.declared.sockets.Known.{Known}
use Rattle.net_world.specs.Telling.{AreReady, read_sockets}
use Rattle.net_world.proofs.Telling.{AreWritten}
use Rattle.net_world.proofs.gathering.gather_written.Given as goal

abbrev pub invariant-loop-want : goal.invariant-loop-want
invariant-loop-want l = record {
  picks : (all rest : List Want) → GoesOn all (l.fn.wants ++ rest) l.fn.ready.items → GoesOn all (drop l.want-index l.fn.wants ++ rest) l.ready.items;
  begins : (first : List Want) → Begins first l.fn.ready.items → Begins first l.ready.items;
  few : length l.ready.items ≤ length l.fn.ready.items + l.want-index;
  capacity : l.ready.capacity ≡ l.fn.ready.capacity;
  ready : (link : Known) → AreReady link l.fn.sockets.slots l.fn.ready.items → AreReady link l.fn.sockets.slots l.ready.items;
  written : AreWritten l.fn.sockets.slots (take l.want-index l.fn.wants) l.ready.items;
  count : read_sockets l.ready.items ≡ read_sockets l.fn.ready.items;
  counted : l.to_write + count_to_write l.fn.wants ≡ l.fn.to_write + count_to_write (drop l.want-index l.fn.wants);
}

use Rattle.std.proofs.Common.{true, false, length-append, arith}
use Rattle.poll_list.specs.declared.Who.TheVariants.{Udp}
use Rattle.worked_edges.proofs.Wanting.{wants_and_one, reads_one}
use Rattle.worked_edges.proofs.asker.want_all.Goals as goal

pub loop-number-preserved : goal.loop-number-preserved
loop-number-preserved c = record {
  some = rw c.add-in-loop-number.ensures.items (wants_and_one c.loop-number.wants.items
      (record { of = Udp c.loop-number.number; read = true; write = false }) c.loop-number.invariant.some (reads_one c.loop-number.number (omega arith)));
  few = rw c.add-in-loop-number.ensures.items (grind (arith, length-append, c.loop-number.invariant.few));
  room = rw c.add-in-loop-number.ensures.capacity c.loop-number.invariant.room;
}

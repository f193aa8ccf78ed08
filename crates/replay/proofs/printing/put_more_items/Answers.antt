use Rattle.std.proofs.Common.{arith, rules, ap}
use Rattle.std.specs.Result.{is_ok}
use Rattle.replay.proofs.Putting.{piece_more, more_items}
use Rattle.replay.proofs.printing.put_more_items.Goals as goal

pub loop-item-preserved : goal.loop-item-preserved
loop-item-preserved g c = record {
  put = piece_more _ _ _ _ _ _ c.loop-item.invariant.put (c.put_next_item.ensures.ok (ap is_ok c.in_ok-put_next_item.was)) (more_items c.args.items.now c.loop-item.item-index _
      (omega arith) (search rules));
  later = omega (arith, c.loop-item.invariant.later, c.put_next_item.ensures.later);
}

use Rattle.std.proofs.Common.{arith, ap}
use Rattle.std.specs.Result.{is_ok}
use Rattle.replay.proofs.Putting.{piece_more}
use Rattle.replay.proofs.Scheduling.{lines_more}
use Rattle.replay.proofs.printing.put_rows.Goals as goal

pub loop-row-preserved : goal.loop-row-preserved
loop-row-preserved g c = record {
  put = piece_more _ _ _ _ _ _ c.loop-row.invariant.put (c.put_row.ensures.ok (ap is_ok c.in_ok-put_row.was)) (lines_more c.args.rows.now c.loop-row.row-index c.row-item.result
      (omega arith) c.row-item.is);
  later = omega (arith, c.loop-row.invariant.later, c.put_row.ensures.later);
}

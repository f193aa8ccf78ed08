use Rattle.std.proofs.Common.{◌∙◌, arith}
use Rattle.replay.proofs.Rowing.{set_more, set_same}
use Rattle.replay.proofs.giving.reserve_all.Goals as goal

pub loop-row-preserved : goal.loop-row-preserved
loop-row-preserved c = record {
  rows = set_same c.loop-row.rows c.loop-row.row-index _ c.reserve.new.self c.reserve.ensures.row ∙ c.loop-row.invariant.rows;
  roomy = set_more c.loop-row.rows c.loop-row.row-index c.reserve.new.self (omega arith) c.loop-row.invariant.roomy c.in_ok-reserve.ensures.room;
}

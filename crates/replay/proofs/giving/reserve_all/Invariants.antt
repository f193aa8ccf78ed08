use Rattle.std.proofs.Common.{◌≡◌, take}
use Rattle.replay.specs.Lines.{rows_of}
use Rattle.replay.specs.Room.{AreRoomy}
use Rattle.replay.proofs.giving.reserve_all.Given as goal

abbrev pub invariant-loop-row : goal.invariant-loop-row
invariant-loop-row l = record {
  rows : rows_of l.rows ≡ rows_of l.fn.rows;
  roomy : AreRoomy (take l.row-index l.rows);
}

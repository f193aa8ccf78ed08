use Rattle.std.proofs.Common.{◌≡◌, ◌≤◌, ◌+◌, ◌*◌, length}
use Rattle.replay.specs.Lines.{rows_of}
use Rattle.replay.specs.Rows.{rooms}
use Rattle.replay.proofs.giving.rooms.Given as goal

abbrev pub invariant-loop-rest : goal.invariant-loop-rest
invariant-loop-rest l = record {
  sum : l.sum + rooms (rows_of l.rest) ≡ rooms (rows_of l.rows);
  fits : l.sum + 82480 * length l.rest ≤ 82480 * 67108864;
}

abbrev pub decreases-loop-rest : goal.decreases-loop-rest
decreases-loop-rest l = length l.rest

use Rattle.std.proofs.Common.{◌≡◌, ◌+◌, ◌≤◌, ◌++◌, length}
use Rattle.replay.specs.Lines.{rows_of}
use Rattle.replay.specs.Rows.{AreReadable, schedule_text}
use Rattle.replay.proofs.world.schedule.read_rows.Given as goal

abbrev pub invariant-loop-rest : goal.invariant-loop-rest
invariant-loop-rest l = record {
  text : l.octets ≡ schedule_text (rows_of l.rows.items) ++ l.rest;
  readable : AreReadable (rows_of l.rows.items);
  few : length l.rows.items + length l.rest ≤ length l.octets;
}

abbrev pub decreases-loop-rest : goal.decreases-loop-rest
decreases-loop-rest l = length l.rest

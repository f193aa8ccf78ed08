use Rattle.std.proofs.Common.{◌≡◌, ◌≤◌, take}
use Rattle.world_face.specs.Puts.{added}
use Rattle.replay.specs.Lines.{rows_of}
use Rattle.replay.specs.Pieces.{lines_text}
use Rattle.replay.specs.Rows.{entries_of}
use Rattle.replay.proofs.printing.put_rows.Given as goal

abbrev pub invariant-loop-row : goal.invariant-loop-row
invariant-loop-row g l = record {
  put : g.K.Sink.holds l.out ≡ added (lines_text (entries_of (rows_of (take l.row-index l.rows)))) (g.K.Sink.holds l.fn.out);
  later : g.K.Sink.faults l.fn.out ≤ g.K.Sink.faults l.out;
}

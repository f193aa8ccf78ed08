use Rattle.std.proofs.Common.{◌≡◌, ◌≤◌, take}
use Rattle.world_face.specs.Puts.{added}
use Rattle.replay.specs.Pieces.{more_text}
use Rattle.replay.proofs.printing.put_more_items.Given as goal

abbrev pub invariant-loop-item : goal.invariant-loop-item
invariant-loop-item g l = record {
  put : g.K.Sink.holds l.out ≡ added (more_text (take l.item-index l.items)) (g.K.Sink.holds l.fn.out);
  later : g.K.Sink.faults l.fn.out ≤ g.K.Sink.faults l.out;
}

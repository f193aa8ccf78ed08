use Rattle.std.proofs.Common.{◌≡◌, ◌≤◌, List, ℕ, ◌++◌, length}
use Rattle.hex.specs.Hex.{encode_lower}
use Rattle.world_face.specs.Puts.{added}
use Rattle.replay.proofs.printing.put_digits.Given as goal

abbrev pub invariant-loop-rest : goal.invariant-loop-rest
invariant-loop-rest g l = record {
  before : List ℕ;
  is : l.octets ≡ before ++ l.rest;
  put : g.K.Sink.holds l.out ≡ added (encode_lower before) (g.K.Sink.holds l.fn.out);
  later : g.K.Sink.faults l.fn.out ≤ g.K.Sink.faults l.out;
}

abbrev pub decreases-loop-rest : goal.decreases-loop-rest
decreases-loop-rest g l = length l.rest

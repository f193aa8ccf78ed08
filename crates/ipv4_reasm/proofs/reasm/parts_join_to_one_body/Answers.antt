use Rattle.ipv4_reasm.proofs.Joining.{one_body, whole_of}
use Rattle.ipv4_reasm.proofs.reasm.parts_join_to_one_body.Goals as goal

pub returns : goal.returns
returns c = record {
  whole = whole_of;
  one = one_body;
}

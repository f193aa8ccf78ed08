use Rattle.ipv4_head.proofs.Plain.{same}
use Rattle.ipv4_head.proofs.same_fields_same_octets.Goals as goal

pub returns : goal.returns
returns c = same

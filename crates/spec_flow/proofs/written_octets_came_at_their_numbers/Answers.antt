use Rattle.spec_flow.proofs.Carried.{written_came}
use Rattle.spec_flow.proofs.written_octets_came_at_their_numbers.Goals as goal

pub returns : goal.returns
returns c = written_came

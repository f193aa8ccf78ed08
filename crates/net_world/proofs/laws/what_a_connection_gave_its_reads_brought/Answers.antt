use Rattle.net_world.proofs.Carrying.{connection_gave}
use Rattle.net_world.proofs.laws.what_a_connection_gave_its_reads_brought.Goals as goal

pub returns : goal.returns
returns c = connection_gave

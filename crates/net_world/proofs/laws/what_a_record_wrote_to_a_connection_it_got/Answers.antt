use Rattle.net_world.proofs.Carrying.{connection_took}
use Rattle.net_world.proofs.laws.what_a_record_wrote_to_a_connection_it_got.Goals as goal

pub returns : goal.returns
returns c = connection_took

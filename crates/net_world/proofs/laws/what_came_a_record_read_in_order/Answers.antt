use Rattle.net_world.proofs.Passing.{record_comes_in}
use Rattle.net_world.proofs.laws.what_came_a_record_read_in_order.Goals as goal

pub returns : goal.returns
returns c = record_comes_in

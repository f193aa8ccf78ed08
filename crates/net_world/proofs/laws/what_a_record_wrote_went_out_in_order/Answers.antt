use Rattle.net_world.proofs.Passing.{record_goes_out}
use Rattle.net_world.proofs.laws.what_a_record_wrote_went_out_in_order.Goals as goal

pub returns : goal.returns
returns c = record_goes_out

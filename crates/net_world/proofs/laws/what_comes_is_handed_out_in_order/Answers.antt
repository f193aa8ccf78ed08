use Rattle.net_world.proofs.Ordering.{handed_in_order}
use Rattle.net_world.proofs.laws.what_comes_is_handed_out_in_order.Goals as goal

pub returns : goal.returns
returns c = handed_in_order

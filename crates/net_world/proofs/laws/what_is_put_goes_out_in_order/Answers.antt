use Rattle.net_world.proofs.Ordering.{sent_in_order}
use Rattle.net_world.proofs.laws.what_is_put_goes_out_in_order.Goals as goal

pub returns : goal.returns
returns c = sent_in_order

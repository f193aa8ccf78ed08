use Rattle.flow_splice.proofs.Promises.{settled_is}
use Rattle.flow_splice.proofs.laws.a_flow_that_is_clear_is_settled.Goals as goal

pub returns : goal.returns
returns c = λ s f past now known h clear unknown. settled_is s f past now known h clear unknown

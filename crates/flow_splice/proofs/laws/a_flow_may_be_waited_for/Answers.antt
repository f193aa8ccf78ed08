use Rattle.flow_splice.proofs.Promises.{waited_is}
use Rattle.flow_splice.proofs.laws.a_flow_may_be_waited_for.Goals as goal

pub returns : goal.returns
returns c = λ s f past now h early. waited_is s f past now h early

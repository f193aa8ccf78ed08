use Rattle.spec_flows.proofs.Laws.{closed_for_cause}
use Rattle.spec_flows.proofs.flows_are_closed_for_a_cause.Goals as goal

pub returns : goal.returns
returns c = closed_for_cause

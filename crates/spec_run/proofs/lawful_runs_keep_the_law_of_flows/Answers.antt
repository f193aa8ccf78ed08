use Rattle.spec_run.proofs.KeepingFlows.{keeps_flows}
use Rattle.spec_run.proofs.lawful_runs_keep_the_law_of_flows.Goals as goal

pub returns : goal.returns
returns c = keeps_flows

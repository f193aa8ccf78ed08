use Rattle.spec_flows.proofs.Keeping.{are_kept}
use Rattle.spec_flows.proofs.Laws.{is_dutiful, is_lawful, is_story}
use Rattle.spec_run.proofs.KeepingFlows.{keeps_flows}
use Rattle.spec_run.proofs.flows.each_flow_keeps_the_law_of_one.Goals as goal

pub returns-clause-story : goal.returns-clause-story
returns-clause-story c = λ config past socket f lawful found. is_story config past socket (keeps_flows config past lawful) f found

pub returns-clause-lawful : goal.returns-clause-lawful
returns-clause-lawful c = λ config past socket lawful. is_lawful config past socket (keeps_flows config past lawful)

pub returns-clause-dutiful : goal.returns-clause-dutiful
returns-clause-dutiful c = λ config past socket lawful. is_dutiful config past socket (keeps_flows config past lawful)

pub returns-clause-differ : goal.returns-clause-differ
returns-clause-differ c = λ config past lawful. (are_kept config past (keeps_flows config past lawful)).differ

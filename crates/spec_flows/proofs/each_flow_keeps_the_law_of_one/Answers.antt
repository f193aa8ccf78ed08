use Rattle.spec_flows.proofs.Keeping.{are_kept}
use Rattle.spec_flows.proofs.Laws.{is_dutiful, is_lawful, is_story}
use Rattle.spec_flows.proofs.each_flow_keeps_the_law_of_one.Goals as goal

pub returns-clause-story : goal.returns-clause-story
returns-clause-story c = λ config past socket f keeps found. is_story config past socket keeps f found

pub returns-clause-lawful : goal.returns-clause-lawful
returns-clause-lawful c = λ config past socket keeps. is_lawful config past socket keeps

pub returns-clause-dutiful : goal.returns-clause-dutiful
returns-clause-dutiful c = λ config past socket keeps. is_dutiful config past socket keeps

pub returns-clause-differ : goal.returns-clause-differ
returns-clause-differ c = λ config past keeps. (are_kept config past keeps).differ

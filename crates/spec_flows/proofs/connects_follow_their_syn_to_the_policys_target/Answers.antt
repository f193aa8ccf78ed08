use Rattle.spec_flows.proofs.Laws.{connected_as_asked}
use Rattle.spec_flows.proofs.Newest.{is_newest}
use Rattle.spec_flows.proofs.connects_follow_their_syn_to_the_policys_target.Goals as goal

pub returns-clause-asked : goal.returns-clause-asked
returns-clause-asked c = connected_as_asked

pub returns-clause-newest : goal.returns-clause-newest
returns-clause-newest c = λ config e past on is. is_newest on config e past is

use Rattle.world_face.specs.Journal.{Connect}
use Rattle.std.proofs.Common.{◌∷◌}
use Rattle.spec_flows.proofs.Laws.{connected_as_asked}
use Rattle.spec_flows.proofs.Newest.{is_newest}
use Rattle.spec_run.proofs.KeepingFlows.{keeps_flows}
use Rattle.spec_run.proofs.flows.connects_follow_their_syn_to_the_policys_target.Goals as goal

pub returns-clause-asked : goal.returns-clause-asked
returns-clause-asked c = λ config past socket to answer lawful.
    connected_as_asked config past socket to answer (keeps_flows config (Connect socket to answer ∷ past) lawful)

pub returns-clause-newest : goal.returns-clause-newest
returns-clause-newest c = λ config e past socket to answer lawful.
    let asked = connected_as_asked config (e ∷ past) socket to answer (keeps_flows config (Connect socket to answer ∷ (e ∷ past)) lawful) in
    (asked.on, asked.came, is_newest asked.on config e past asked.came)

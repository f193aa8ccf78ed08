use Rattle.spec_flows.proofs.Laws.{found_room}
use Rattle.spec_run.proofs.KeepingFlows.{keeps_flows}
use Rattle.spec_run.proofs.flows.acknowledged_octets_found_room.Goals as goal

pub returns : goal.returns
returns c = λ config past socket lawful conforming a acked. found_room config past socket (keeps_flows config past lawful) conforming a acked

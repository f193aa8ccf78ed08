use Rattle.spec_flow.proofs.GuestLaws.{acknowledged_came}
use Rattle.spec_flow.proofs.FoundRoom.{acknowledged_each}
use Rattle.spec_flow.proofs.acknowledged_octets_came.Goals as goal

pub returns-clause-all : goal.returns-clause-all
returns-clause-all c = acknowledged_came

pub returns-clause-each : goal.returns-clause-each
returns-clause-each c = acknowledged_each

use Rattle.spec_control.proofs.Asked.{asked_to_open, asked_to_remove, closes_awaited, listens_awaited, opens_awaited_port, opens_next}
use Rattle.spec_control.proofs.ports_change_for_commands_alone.Goals as goal

pub returns-clause-opening : goal.returns-clause-opening
returns-clause-opening c = asked_to_open

pub returns-clause-removing : goal.returns-clause-removing
returns-clause-removing c = asked_to_remove

pub returns-clause-listens : goal.returns-clause-listens
returns-clause-listens c = listens_awaited

pub returns-clause-opens : goal.returns-clause-opens
returns-clause-opens c = opens_awaited_port

pub returns-clause-closes : goal.returns-clause-closes
returns-clause-closes c = closes_awaited

pub returns-clause-next : goal.returns-clause-next
returns-clause-next c = opens_next

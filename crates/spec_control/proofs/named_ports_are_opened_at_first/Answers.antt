use Rattle.spec_control.proofs.Early.{listens_at_first, opens_at_first}
use Rattle.spec_control.proofs.named_ports_are_opened_at_first.Goals as goal

pub returns-clause-listens : goal.returns-clause-listens
returns-clause-listens c = listens_at_first

pub returns-clause-opens : goal.returns-clause-opens
returns-clause-opens c = opens_at_first

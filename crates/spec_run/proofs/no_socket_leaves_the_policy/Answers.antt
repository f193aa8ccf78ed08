use Rattle.spec_trace.specs.Sockets.{next_number}
use Rattle.spec_flows.specs.Book.{book}
use Rattle.spec_flows.proofs.Laws.{connects_as_asked}
use Rattle.spec_run.proofs.OpenSockets.{peers_listened_for}
use Rattle.spec_run.proofs.Policy.{opens_anywhere, opens_later, sends_to_target}
use Rattle.spec_run.proofs.Phases.{listens_never}
use Rattle.spec_run.proofs.no_socket_leaves_the_policy.Goals as goal

pub returns-clause-opens : goal.returns-clause-opens
returns-clause-opens c = λ config past socket at answer none lawful. opens_anywhere config past socket at none lawful.0

pub returns-clause-opens_later : goal.returns-clause-opens_later
returns-clause-opens_later c = λ config past socket at answer waited lawful. opens_later config past socket at waited lawful.0

pub returns-clause-sends : goal.returns-clause-sends
returns-clause-sends c = λ config past socket to octets answer lawful. sends_to_target config past socket to octets lawful.0

pub returns-clause-connects : goal.returns-clause-connects
returns-clause-connects c = λ config past socket to answer lawful. connects_as_asked config (book config past) (next_number past) socket to lawful.0.flows.touches

pub returns-clause-accepts : goal.returns-clause-accepts
returns-clause-accepts c = λ config past listener socket answer lawful. peers_listened_for config past listener socket answer lawful.0

pub returns-clause-listens : goal.returns-clause-listens
returns-clause-listens c = λ config past socket at answer none lawful. listens_never config past socket at none lawful.0

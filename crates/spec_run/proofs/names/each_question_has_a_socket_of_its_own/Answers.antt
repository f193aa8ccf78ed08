use Rattle.spec_run.proofs.Repeats.{one_question, one_socket}
use Rattle.spec_run.proofs.names.each_question_has_a_socket_of_its_own.Goals as goal

pub returns-clause-socket : goal.returns-clause-socket
returns-clause-socket c = one_socket

pub returns-clause-question : goal.returns-clause-question
returns-clause-question c = one_question

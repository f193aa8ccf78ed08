use Rattle.spec_run.proofs.Leaving.{closed_next, heard_once}
use Rattle.spec_run.proofs.names.an_answered_question_is_closed_next.Goals as goal

pub returns-clause-next : goal.returns-clause-next
returns-clause-next c = closed_next

pub returns-clause-once : goal.returns-clause-once
returns-clause-once c = λ config between past socket asked count more guest peer octets others answer lawful a. heard_once config between past socket asked count more guest peer
    octets others answer lawful a

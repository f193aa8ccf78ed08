use Rattle.spec_duties.proofs.Laws.{association_young, at_wait, question_young}
use Rattle.spec_duties.proofs.no_socket_is_kept_past_its_life.Goals as goal

pub returns-clause-associations : goal.returns-clause-associations
returns-clause-associations c = λ config later past wants timeout answer ready socket dutiful. association_young config past wants timeout socket
    (at_wait config later past wants timeout answer ready dutiful)

pub returns-clause-questions : goal.returns-clause-questions
returns-clause-questions c = λ config later past wants timeout answer ready socket dutiful. question_young config past wants timeout socket
    (at_wait config later past wants timeout answer ready dutiful)

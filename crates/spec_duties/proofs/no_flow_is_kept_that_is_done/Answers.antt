use Rattle.spec_duties.proofs.Laws.{at_wait, closed_when_done, connects_in_time, deserted_in_time}
use Rattle.spec_duties.proofs.no_flow_is_kept_that_is_done.Goals as goal

pub returns-clause-connects : goal.returns-clause-connects
returns-clause-connects c = λ config later past wants timeout answer ready socket f dutiful. connects_in_time config past wants timeout socket f
    (at_wait config later past wants timeout answer ready dutiful)

pub returns-clause-deserted : goal.returns-clause-deserted
returns-clause-deserted c = λ config later past wants timeout answer ready socket f dutiful. deserted_in_time config past wants timeout socket f
    (at_wait config later past wants timeout answer ready dutiful)

pub returns-clause-done : goal.returns-clause-done
returns-clause-done c = λ config later past wants timeout answer ready socket f dutiful. closed_when_done config past wants timeout socket f
    (at_wait config later past wants timeout answer ready dutiful)

use Rattle.spec_duties.proofs.Laws.{at_wait, from_some, until_each}
use Rattle.spec_duties.proofs.a_wait_ends_in_time.Goals as goal

pub returns-clause-some_time : goal.returns-clause-some_time
returns-clause-some_time c = λ config later past wants timeout answer ready dutiful. (at_wait config later past wants timeout answer ready dutiful).some_time

pub returns-clause-until : goal.returns-clause-until
returns-clause-until c = λ config later past wants timeout answer ready m dutiful. until_each config past wants timeout m (at_wait config later past wants timeout answer ready dutiful)

pub returns-clause-from : goal.returns-clause-from
returns-clause-from c = λ config later past wants timeout answer ready t dutiful. from_some config past wants timeout t (at_wait config later past wants timeout answer ready dutiful)

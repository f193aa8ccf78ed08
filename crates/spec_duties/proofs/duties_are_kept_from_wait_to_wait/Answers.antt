use Rattle.spec_duties.proofs.Going.{goes_on}
use Rattle.spec_duties.proofs.duties_are_kept_from_wait_to_wait.Goals as goal

pub returns-clause-calls : goal.returns-clause-calls
returns-clause-calls c = goes_on

pub returns-clause-wait : goal.returns-clause-wait
returns-clause-wait c = λ config past wants timeout answer ready must kept. (must, kept)

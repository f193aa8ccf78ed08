use Rattle.spec_flow.proofs.Streams.{front_carried}
use Rattle.spec_flow.proofs.AllCame.{front_is_longest}
use Rattle.spec_flow.proofs.front_is_the_longest_that_came.Goals as goal

pub returns-clause-came : goal.returns-clause-came
returns-clause-came c = front_carried

pub returns-clause-longest : goal.returns-clause-longest
returns-clause-longest c = front_is_longest

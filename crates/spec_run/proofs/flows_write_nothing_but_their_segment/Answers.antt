use Rattle.spec_run.proofs.Only.{writes_only}
use Rattle.spec_run.proofs.flows_write_nothing_but_their_segment.Goals as goal

pub returns : goal.returns
returns c = writes_only

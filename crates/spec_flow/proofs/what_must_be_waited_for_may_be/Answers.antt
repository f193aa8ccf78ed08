use Rattle.spec_flow.proofs.Laws.{must_is_may}
use Rattle.spec_flow.proofs.what_must_be_waited_for_may_be.Goals as goal

pub returns : goal.returns
returns c = must_is_may

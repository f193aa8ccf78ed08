use Rattle.spec_flow.proofs.Opening.{resets_as_failed, resets_once}
use Rattle.spec_flow.proofs.resets_have_a_cause.Goals as goal

pub returns-clause-cause : goal.returns-clause-cause
returns-clause-cause c = resets_as_failed

pub returns-clause-once : goal.returns-clause-once
returns-clause-once c = resets_once

use Rattle.spec_flows.proofs.SegmentVerdicts.{is_denied, is_ignored}
use Rattle.spec_flows.proofs.syns_are_denied_or_ignored_for_a_reason.Goals as goal

pub returns-clause-denied : goal.returns-clause-denied
returns-clause-denied c = is_denied

pub returns-clause-ignored : goal.returns-clause-ignored
returns-clause-ignored c = is_ignored

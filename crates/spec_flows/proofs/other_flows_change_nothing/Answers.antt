use Rattle.spec_flows.proofs.Apart.{story_apart}
use Rattle.spec_flows.proofs.other_flows_change_nothing.Goals as goal

pub returns : goal.returns
returns c = story_apart

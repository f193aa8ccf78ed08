use Rattle.spec_replay.proofs.Lines.{one_to_one}
use Rattle.spec_replay.proofs.text_is_one_to_one.Goals as goal

pub returns : goal.returns
returns c = one_to_one

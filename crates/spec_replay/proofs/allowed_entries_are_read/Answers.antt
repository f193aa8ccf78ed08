use Rattle.spec_replay.proofs.Lines.{text_is_read}
use Rattle.spec_replay.proofs.allowed_entries_are_read.Goals as goal

pub returns : goal.returns
returns c past n = text_is_read past n

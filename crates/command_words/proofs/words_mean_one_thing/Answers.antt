use Rattle.command_words.proofs.Commanded.{one_meaning}
use Rattle.command_words.proofs.words_mean_one_thing.Goals as goal

pub returns : goal.returns
returns c = one_meaning

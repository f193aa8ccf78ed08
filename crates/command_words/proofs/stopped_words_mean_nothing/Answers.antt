use Rattle.command_words.proofs.Commanded.{stopped}
use Rattle.command_words.proofs.stopped_words_mean_nothing.Goals as goal

pub returns : goal.returns
returns c = λ words stop at meaning means. stopped words stop at (meaning, means)

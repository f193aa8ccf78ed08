use Rattle.std.proofs.Common.{inr}
use Rattle.command_words.proofs.line.Line.take.Goals as goal

pub returns-then-not-fits-clause-refused : goal.returns-then-not-fits-clause-refused
returns-then-not-fits-clause-refused c = inr c.if-not-fits.ensures

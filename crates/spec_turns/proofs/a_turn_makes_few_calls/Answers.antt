use Rattle.spec_turns.proofs.Turns.{makes_few}
use Rattle.spec_turns.proofs.a_turn_makes_few_calls.Goals as goal

pub returns : goal.returns
returns c = makes_few

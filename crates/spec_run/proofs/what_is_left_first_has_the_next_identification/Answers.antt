use Rattle.spec_run.proofs.Numbers.{left_numbered}
use Rattle.spec_run.proofs.what_is_left_first_has_the_next_identification.Goals as goal

pub returns-clause-front : goal.returns-clause-front
returns-clause-front c = λ config past frame rest ip fits lawful is carries at. ((left_numbered config past frame rest ip fits lawful is carries).first at).0

pub returns-clause-behind : goal.returns-clause-behind
returns-clause-behind c = λ config past frame rest ip fits lawful is carries behind. ((left_numbered config past frame rest ip fits lawful is carries).later behind).0

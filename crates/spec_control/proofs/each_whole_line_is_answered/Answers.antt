use Rattle.spec_control.proofs.Answered.{line_answered, wait_to_answer}
use Rattle.spec_control.proofs.each_whole_line_is_answered.Goals as goal

pub returns-clause-answered : goal.returns-clause-answered
returns-clause-answered c = line_answered

pub returns-clause-waits : goal.returns-clause-waits
returns-clause-waits c = wait_to_answer

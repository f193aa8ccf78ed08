use Rattle.spec_run.proofs.Leaving.{leaves_for}
use Rattle.spec_run.proofs.names.questions_wait_for_their_answer.Goals as goal

pub returns : goal.returns
returns c = λ config past socket lawful running one. leaves_for config past socket lawful.0 lawful.1 running one

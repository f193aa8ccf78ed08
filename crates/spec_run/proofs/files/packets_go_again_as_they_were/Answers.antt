use Rattle.spec_run.proofs.FileLaws.{goes_as_told, goes_once}
use Rattle.spec_run.proofs.files.packets_go_again_as_they_were.Goals as goal

pub returns-clause-as_told : goal.returns-clause-as_told
returns-clause-as_told c = λ config e past said lawful is. goes_as_told config e past said lawful.1 is

pub returns-clause-once : goal.returns-clause-once
returns-clause-once c = λ config e past said lawful is. goes_once config e past said is

use Rattle.spec_run.proofs.Answering.{answer_as_read}
use Rattle.spec_run.proofs.Hearing.{answer_written}
use Rattle.spec_run.proofs.names.answers_reach_only_the_port_that_asked.Goals as goal

pub returns-clause-read : goal.returns-clause-read
returns-clause-read c = answer_as_read

pub returns-clause-written : goal.returns-clause-written
returns-clause-written c = answer_written

use Rattle.spec_run.proofs.ReadBack.{reply_as_read}
use Rattle.spec_run.proofs.Replies.{replies}
use Rattle.spec_run.proofs.replies_reach_only_the_port_that_asked.Goals as goal

pub returns-clause-read : goal.returns-clause-read
returns-clause-read c = reply_as_read

pub returns-clause-written : goal.returns-clause-written
returns-clause-written c = replies

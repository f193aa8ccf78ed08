use Rattle.spec_flow.proofs.HostLaws.{sent_was_read, nothing_is_left_out, sent_is_read}
use Rattle.spec_flow.proofs.sent_octets_begin_what_was_read.Goals as goal

pub returns-clause-read : goal.returns-clause-read
returns-clause-read c = sent_was_read

pub returns-clause-no_gap : goal.returns-clause-no_gap
returns-clause-no_gap c = nothing_is_left_out

pub returns-clause-no_more : goal.returns-clause-no_more
returns-clause-no_more c = sent_is_read

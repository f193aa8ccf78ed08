use Rattle.spec_flow.proofs.Opening.{opens_after_host, opens_with_syn}
use Rattle.spec_flow.proofs.nothing_is_sent_before_the_host_connected.Goals as goal

pub returns-clause-connected : goal.returns-clause-connected
returns-clause-connected c = opens_after_host

pub returns-clause-syn_first : goal.returns-clause-syn_first
returns-clause-syn_first c = opens_with_syn

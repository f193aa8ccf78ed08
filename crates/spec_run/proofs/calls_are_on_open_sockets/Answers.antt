use Rattle.spec_run.proofs.OpenSockets.{closes_open, joins_open, peers_open, sends_on_open, stays_gone}
use Rattle.spec_run.proofs.OpenSockets.{hears_on_open}
use Rattle.spec_run.proofs.calls_are_on_open_sockets.Goals as goal

pub returns-clause-sends : goal.returns-clause-sends
returns-clause-sends c = λ config past socket to octets answer lawful. sends_on_open config past socket lawful.0.socket

pub returns-clause-receives : goal.returns-clause-receives
returns-clause-receives c = λ config past socket asked answer octets lawful. hears_on_open config past socket asked lawful.0.socket

pub returns-clause-closes : goal.returns-clause-closes
returns-clause-closes c = λ config past socket lawful. closes_open config past socket lawful.0

pub returns-clause-once : goal.returns-clause-once
returns-clause-once c = λ config later past socket lawful. (stays_gone config socket later past lawful).shut

pub returns-clause-asks : goal.returns-clause-asks
returns-clause-asks c = λ config past socket answer lawful. joins_open past socket lawful.0.socket

pub returns-clause-writes : goal.returns-clause-writes
returns-clause-writes c = λ config past socket octets answer lawful. joins_open past socket lawful.0.socket

pub returns-clause-ends : goal.returns-clause-ends
returns-clause-ends c = λ config past socket answer lawful. joins_open past socket lawful.0.socket

pub returns-clause-reads : goal.returns-clause-reads
returns-clause-reads c = λ config past socket asked answer octets lawful. joins_open past socket lawful.0.socket

pub returns-clause-accepts : goal.returns-clause-accepts
returns-clause-accepts c = λ config past listener socket answer lawful. peers_open config past listener socket answer lawful.0

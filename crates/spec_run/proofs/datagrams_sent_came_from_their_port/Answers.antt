use Rattle.spec_run.proofs.Policy.{sends_what_came}
use Rattle.spec_run.proofs.datagrams_sent_came_from_their_port.Goals as goal

pub returns : goal.returns
returns c = λ config past socket to octets answer lawful. sends_what_came config past socket to octets lawful.1 lawful.0

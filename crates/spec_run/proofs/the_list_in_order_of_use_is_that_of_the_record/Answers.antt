use Rattle.spec_run.specs.Relayed.{associations}
use Rattle.spec_run.proofs.Finding.{idle_exactly, rising, same_oldest, same_port_socket, same_sockets, says_of}
use Rattle.spec_run.proofs.Joining.{joined, joined_step}
use Rattle.spec_run.proofs.the_list_in_order_of_use_is_that_of_the_record.Goals as goal

pub returns-clause-sockets : goal.returns-clause-sockets
returns-clause-sockets c = λ config past lawful socket. same_sockets config past (associations config past) (joined config past lawful) socket

pub returns-clause-order : goal.returns-clause-order
returns-clause-order c = λ config past lawful. rising past (associations config past) (joined config past lawful).order

pub returns-clause-each : goal.returns-clause-each
returns-clause-each c = λ config past lawful socket a is. says_of config past socket (associations config past) a (joined config past lawful).kept is

pub returns-clause-port : goal.returns-clause-port
returns-clause-port c = λ config past lawful guest. same_port_socket config past guest (associations config past) (joined config past lawful)

pub returns-clause-oldest : goal.returns-clause-oldest
returns-clause-oldest c = λ config past lawful. same_oldest config past (associations config past) (joined config past lawful)

pub returns-clause-idle : goal.returns-clause-idle
returns-clause-idle c = λ config past lawful socket now among. idle_exactly config past socket now (associations config past) (joined config past lawful) among

pub returns-clause-asks : goal.returns-clause-asks
returns-clause-asks c = joined_step

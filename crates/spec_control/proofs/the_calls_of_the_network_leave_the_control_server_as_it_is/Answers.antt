use Rattle.spec_control.proofs.Staying.{control_server_stays}
use Rattle.spec_control.proofs.the_calls_of_the_network_leave_the_control_server_as_it_is.Goals as goal

pub returns : goal.returns
returns c = control_server_stays

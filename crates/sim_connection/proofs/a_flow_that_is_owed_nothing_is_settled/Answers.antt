use Rattle.std.proofs.Common.{ap}
use Rattle.tcp_connection.specs.Connection.{is_opening, is_synchronized}
use Rattle.tcp_connection.specs.Owing.{owed_by}
use Rattle.tcp_connection.specs.Timing.{due_by}
use Rattle.tcp_connection.specs.declared.Stage.{Stage}
use Rattle.sim_connection.specs.Holding.{is_calls}
use Rattle.sim_connection.proofs.Settling.{synchronized_settled}
use Rattle.sim_connection.proofs.a_flow_that_is_owed_nothing_is_settled.Goals as goal

pub returns : goal.returns
returns c = λ s conn up down past now known h at nothing.
    synchronized_settled s conn up down past now h nothing known (ap (λ (st : Stage). is_calls st) at) (ap (λ (st : Stage). is_opening st) at) (ap (λ (st : Stage). is_synchronized st) at)
    (ap (λ (st : Stage). owed_by st conn up down) at, ap (λ (st : Stage). due_by st conn) at)

use Rattle.sim_connection.proofs.Writing.{writes}
use Rattle.sim_connection.proofs.octets_that_are_held_may_be_written.Goals as goal

pub returns-clause-lawful : goal.returns-clause-lawful
returns-clause-lawful c = λ s conn up down past now m k n h on known joined few all buffers. (writes s conn up down past now m on known joined k n few all buffers h).goes.lawful.0

pub returns-clause-dutiful : goal.returns-clause-dutiful
returns-clause-dutiful c = λ s conn up down past now m k n h on known joined few all buffers. (writes s conn up down past now m on known joined k n few all buffers h).goes.dutiful.0

pub returns-clause-follows : goal.returns-clause-follows
returns-clause-follows c = λ s conn up down past now m k n h on known joined few all buffers. writes s conn up down past now m on known joined k n few all buffers h

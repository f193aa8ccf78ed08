use Rattle.sim_connection.proofs.Departing.{departs}
use Rattle.sim_connection.proofs.what_is_owed_may_be_sent.Goals as goal

pub returns-clause-lawful : goal.returns-clause-lawful
returns-clause-lawful c = λ s conn up down past now m what h on late owed buffers. (departs s conn up down past now m on late h what owed buffers).goes.lawful.0

pub returns-clause-dutiful : goal.returns-clause-dutiful
returns-clause-dutiful c = λ s conn up down past now m what h on late owed buffers. (departs s conn up down past now m on late h what owed buffers).goes.dutiful.0

pub returns-clause-follows : goal.returns-clause-follows
returns-clause-follows c = λ s conn up down past now m what h on late owed buffers. departs s conn up down past now m on late h what owed buffers

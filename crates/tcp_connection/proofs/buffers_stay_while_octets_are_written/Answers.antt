use Rattle.tcp_connection.proofs.Keeping.{written_has}
use Rattle.tcp_connection.proofs.buffers_stay_while_octets_are_written.Goals as goal

pub returns : goal.returns
returns c = written_has

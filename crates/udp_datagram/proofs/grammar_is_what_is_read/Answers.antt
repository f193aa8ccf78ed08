-- The grammar and the reading function say the same.
use Rattle.udp_datagram.proofs.Encoding.{reads, encoding_of}
use Rattle.udp_datagram.proofs.grammar_is_what_is_read.Goals as goal

pub returns : goal.returns
returns c = λ from to octets udp fits. (reads from to octets udp, encoding_of from to octets udp fits)

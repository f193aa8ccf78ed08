-- The grammar and the reading function say the same.
use Rattle.tcp_segment.proofs.Encoding.{reads_fields, encoding_of_fields}
use Rattle.tcp_segment.proofs.grammar_is_what_is_read.Goals as goal

pub returns : goal.returns
returns c = λ from to octets tcp fits. (reads_fields from to octets tcp, encoding_of_fields from to octets tcp fits)

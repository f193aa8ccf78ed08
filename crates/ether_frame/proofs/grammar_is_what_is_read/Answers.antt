use Rattle.ether_frame.proofs.Encoding.{reads, encoding_of}
use Rattle.ether_frame.proofs.grammar_is_what_is_read.Goals as goal

pub returns : goal.returns
returns c = λ octets ether fits. (reads octets ether, encoding_of octets ether fits)

use Rattle.arp_table.proofs.Encoding.{reads, encoding_of}
use Rattle.arp_table.proofs.grammar_is_what_is_read.Goals as goal

pub returns : goal.returns
returns c = λ octets arp fits. (reads octets arp, encoding_of octets arp fits)

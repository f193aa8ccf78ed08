use Rattle.icmp_echo.proofs.Encoding.{reads, encoding_of}
use Rattle.icmp_echo.proofs.grammar_is_what_is_read.Goals as goal

pub returns : goal.returns
returns c = λ octets icmp fits. (reads octets icmp, encoding_of octets icmp fits)

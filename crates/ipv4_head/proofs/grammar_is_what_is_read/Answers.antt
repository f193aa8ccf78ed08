use Rattle.ipv4_head.proofs.Encoding.{reads, encoding_of, life_is}
use Rattle.ipv4_head.proofs.grammar_is_what_is_read.Goals as goal

pub returns : goal.returns
returns c = record {
  fields = λ octets ip fits. (reads octets ip, λ is. (encoding_of octets ip fits is).0);
  life = life_is;
}

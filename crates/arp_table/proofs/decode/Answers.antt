use Rattle.std.proofs.Common.{arith}
use Rattle.std.proofs.lemmas.Grind.{common_steps}
use Rattle.arp_table.proofs.Encoding.{encoding_of}
use Rattle.arp_table.proofs.decode.Goals as goal

pub returns-clause-packet : goal.returns-clause-packet
returns-clause-packet c =
    encoding_of c.args.octets.now _ (λ i. omega (arith, c.type_inv.octets i)) (grind (arith, common_steps))

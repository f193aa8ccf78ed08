use Rattle.std.proofs.Common.{arith, rules}
use Rattle.icmp_echo.proofs.Encoding.{encoding_of}
use Rattle.icmp_echo.proofs.decode.Goals as goal

pub returns-clause-packet : goal.returns-clause-packet
returns-clause-packet c =
    encoding_of c.args.octets.now _ (λ i. omega (arith, c.type_inv.octets i)) (search rules)

-- A datagram is read exactly where the grammar holds.
use Rattle.std.proofs.Common.{◌≡◌, ◌-◌, ap, sym, arith, rules}
use Rattle.net_octets.specs.Octets.{two_at, part}
use Rattle.udp_datagram.proofs.Passing.{no_fault, read_by}
use Rattle.udp_datagram.proofs.Encoding.{encoding_of, packet_found}
use Rattle.udp_datagram.proofs.decode.Goals as goal

pub returns-clause-fields : goal.returns-clause-fields
returns-clause-fields c =
    let octets = c.args.octets.now in
    let size : c.read_u16-length.result ≡ two_at octets 4 = omega arith in
    read_by c.args.from.0 c.args.to.0 octets (no_fault c.args.from.0 c.args.to.0 octets (sym c.in_ok-check.ensures)) _ _ _ (omega arith) (omega arith)
    (ap (λ n. part octets 8 (n - 8)) size)

pub returns-clause-packet : goal.returns-clause-packet
returns-clause-packet c =
    encoding_of c.args.from.0 c.args.to.0 c.args.octets.now _ (λ i. omega (arith, c.type_inv.octets i)) (returns-clause-fields c)

pub returns-in_err-check-clause-packet : goal.returns-in_err-check-clause-packet
returns-in_err-check-clause-packet c =
    packet_found c.args.from.0 c.args.to.0 c.args.octets.now (λ i. omega (arith, c.type_inv.octets i)) c.from_residual.result (search rules)

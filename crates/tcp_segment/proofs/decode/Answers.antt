-- A segment is read exactly where the grammar holds.
use Rattle.std.proofs.Common.{arith}
use Rattle.tcp_segment.proofs.Encoding.{packet_found}
use Rattle.tcp_segment.proofs.decode.Goals as goal

pub returns-clause-packet : goal.returns-clause-packet
returns-clause-packet c = packet_found c.args.from.0 c.args.to.0 c.args.octets.now (λ i. omega (arith, c.type_inv.octets i)) c.segment_in.result c.segment_in.ensures

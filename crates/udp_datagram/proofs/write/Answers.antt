-- What is written is in the grammar.
use Rattle.std.proofs.Common.{◌≡◌, ◌+◌, ◌<◌, ◌^◌, length, drop, ap, ◌∙◌, arith, length-append}
use Rattle.udp_datagram.specs.Udp.{udp_of}
use Rattle.udp_datagram.proofs.Encoding.{length-udp}
use Rattle.udp_datagram.proofs.Writing.{encoded, front_is}
use Rattle.udp_datagram.proofs.write.Goals as goal

pub returns-clause-written : goal.returns-clause-written
returns-clause-written c =
    encoded c.args.from.0 c.args.to.0 (udp_of c.args.v.now) c.sum_of.result c.head.result c.write_packet.new.into (drop c.write_packet.result c.args.into.now)
    c.head.ensures.octets c.sum_of.ensures c.write_packet.ensures.written

pub returns-clause-packet : goal.returns-clause-packet
returns-clause-packet c =
    let udp = udp_of c.args.v.now in
    let head = c.head.result in
    let eight : length head ≡ 8 = omega (arith, ap length c.head.ensures.octets, length-append head udp.body, length-udp c.sum_of.result udp) in
    let size : 8 + length udp.body < 2 ^ 16 = omega (arith, c.requires.size) in
    front_is c.args.from.0 c.args.to.0 udp c.write_packet.result c.write_packet.new.into (drop c.write_packet.result c.args.into.now) c.head.ensures.from_port c.head.ensures.to_port size
    (c.write_packet.ensures.length ∙ ap (λ k. k + length udp.body) eight) (returns-clause-written c)

use Rattle.std.proofs.Common.{arith}
use Rattle.ipv4_head.specs.Ip.{ip_of}
use Rattle.udp_datagram.specs.Udp.{udp_of}
use Rattle.slirp_core.proofs.Datagramming.{none_of_others, payload_fits}
use Rattle.slirp_core.proofs.datagrams.datagram_in.Goals as goal

pub returns-then-packet-ne-UDP_PROTO-clause-datagram : goal.returns-then-packet-ne-UDP_PROTO-clause-datagram
returns-then-packet-ne-UDP_PROTO-clause-datagram c = none_of_others c.args.policy.now c.args.mac.0 (ip_of c.args.packet.now) c.if-packet-ne-UDP_PROTO.true

pub decode-requires : goal.decode-requires
decode-requires c = omega (arith, c.requires.short)

pub returns-clause-body : goal.returns-clause-body
returns-clause-body c = omega (arith, c.requires.short, payload_fits c.args.packet.now.from.0 c.args.packet.now.to.0 c.args.packet.now.body.now (udp_of c.in-Ok.udp) c.in-Ok.ensures.packet)

-- A datagram that goes out, as contracts see it.
use Rattle.udp_assoc.specs.Relays.{Outbound}
use Rattle.udp_assoc.specs.declared.sockets.OutboundView.{OutboundView}

abbrev pub outbound_of : OutboundView → Outbound
outbound_of d = record { from = d.from; mac = d.mac; to = d.to; body = d.body.now }

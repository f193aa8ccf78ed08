-- What the ends of a connection or a datagram are, as the system has them.
use Rattle.std.specs.Prelude.{Option, None, Some}
use Rattle.std.specs.Net.Addr.{ipv4_bits}
use Rattle.std.specs.Net.Socket.{v4_ip, v4_port}
use Rattle.std.specs.declared.net.socket_addr.SocketAddr.{SocketAddr}
use Rattle.std.specs.declared.net.socket_addr.SocketAddr.TheVariants.{V4, V6}
use Rattle.net_octets.specs.declared.Endpoint.{Endpoint}

-- the address and the port, where they are of version 4
abbrev pub endpoint_of : SocketAddr → Option Endpoint
endpoint_of (V4 at) = Some (record { addr = record { 0 = ipv4_bits (v4_ip at) }; port = v4_port at })
endpoint_of (V6 at) = None

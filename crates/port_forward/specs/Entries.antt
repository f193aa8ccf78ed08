-- The list as a map from ports of the host.
use Rattle.std.specs.Prelude.{◌==◌, ◌&&◌, Bool, true, false, if◌then◌else◌}
use Rattle.std.specs.Bool.{beq}
use Rattle.net_octets.specs.declared.Endpoint.{Endpoint}
use Rattle.slirp_settings.specs.Addresses.{address, endpoint}
use Rattle.slirp_settings.specs.declared.Proto.{Proto}
use Rattle.slirp_settings.specs.declared.Proto.TheVariants.{Tcp, Udp}
use Rattle.rules_forward.specs.Opened.{Opened}
use Rattle.port_forward.specs.declared.ports.Lead.{Lead}
use Rattle.port_forward.specs.declared.ports.Port.{Port}

abbrev pub is_for_datagrams : Proto → Bool
is_for_datagrams Tcp = false
is_for_datagrams Udp = true

abbrev pub proto_of : Bool → Proto
proto_of datagrams = if datagrams then Udp else Tcp

-- the key of a port of the host
abbrev pub port_of : Proto → Endpoint → Port
port_of proto host = record { datagrams = is_for_datagrams proto; address = address host; port = host.port }

abbrev pub same_port : Port → Port → Bool
same_port a b = beq a.datagrams b.datagrams && ((a.address == b.address) && (a.port == b.port))

-- an entry is an open forward
abbrev pub opened_of : Port × Lead → Opened
opened_of e = (record { proto = proto_of e.0.datagrams; host = endpoint e.0.address e.0.port; guest = e.1.guest }, e.1.number)

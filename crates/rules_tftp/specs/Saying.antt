-- What a guest is told by a reply of the server.
use Rattle.std.specs.Prelude.{◌≡◌, ℕ, ◌≤◌, List, take, Option, Some, None}
use Rattle.slirp_settings.specs.Addresses.{endpoint}
use Rattle.rules_udp.specs.declared.Reply.{Reply}
use Rattle.rules_udp.specs.declared.Reply.TheVariants.{Nothing, Datagram, Unreachable}
use Rattle.rules_tftp.specs.Transfers.{Said}
use Rattle.slirp_settings.specs.Ports.{files_port}

-- the most octets of a packet: what UDP carries in a packet of IPv4 of 1,500 octets, behind heads of 20 and 8
abbrev pub most_packet : ℕ
most_packet = 1472

-- what a guest is told by a reply, whose octets stand at the front of these
abbrev pub said_by : Reply → List ℕ → Option Said
said_by Nothing octets = None
said_by (Datagram count from to None) octets = None
said_by (Datagram count from to (Some mac)) octets = Some (record { mac = mac.0; guest = to; octets = take count octets })
said_by (Unreachable code) octets = None

-- nothing, or a datagram of at most `most_packet` octets from the server's port to a hardware address
abbrev pub IsFromServer : ℕ → Reply → Type 0
IsFromServer vhost Nothing = Unit {0}
IsFromServer vhost (Datagram count from to None) = ⊥
IsFromServer vhost (Datagram count from to (Some mac)) = (from ≡ endpoint vhost files_port) × (count ≤ most_packet)
IsFromServer vhost (Unreachable code) = ⊥

-- What the guests' frames hold.
use Rattle.std.specs.Prelude.{ℕ, ◌==◌, ◌&&◌, ◌||◌, Bool, List, ◌++◌, take, Option, Some, None, option_and_then, option_map, unwrap_or, if◌then◌else◌}
use Rattle.net_octets.specs.declared.Endpoint.{Endpoint}
use Rattle.net_octets.specs.Kinds.{arp_kind, ipv4_kind, icmp_proto, udp_proto, tcp_proto}
use Rattle.slirp_settings.specs.Addresses.{Config, endpoint, is_guest}
use Rattle.ether_frame.specs.Ether.{Ether, read_ether}
use Rattle.arp_table.specs.Arp.{Arp, read_arp}
use Rattle.ipv4_head.specs.Ip.{Ip, read_ip}
use Rattle.ipv4_head.specs.Sets.{PartSet}
use Rattle.icmp_echo.specs.Icmp.{Icmp, read_icmp}
use Rattle.udp_datagram.specs.Udp.{Udp, read_udp}
use Rattle.tcp_segment.specs.Tcp.{Tcp, read_tcp}
use Rattle.spec_trace.specs.Fragments.{arrived}
use Rattle.slirp_settings.specs.Ports.{leases_port}

-- a datagram from a guest: the hardware address from which its frame came, its endpoints, its payload, and what an unreachable quotes of it
pub record Datagram : Type 0 where
  pub mac : List ℕ
  pub from : Endpoint
  pub to : Endpoint
  pub body : List ℕ
  pub quote : List ℕ

-- the header and the first 64 bits (RFC 792, Destination Unreachable Message)
abbrev pub quoted : Ip → List ℕ
quoted ip = ip.head ++ take 8 ip.body

abbrev pub datagram_of : List ℕ → Ip → Udp → Datagram
datagram_of mac ip udp = record { mac = mac; from = endpoint ip.from udp.from_port; to = endpoint ip.to udp.to_port; body = udp.body; quote = quoted ip }

-- its source is a guest; one that has no address yet speaks to the port of leases alone (RFC 2131, 4.1)
abbrev pub may_come : Config → Ip → Udp → Bool
may_come config ip udp = is_guest config ip.from || ((ip.from == 0) && (udp.to_port == leases_port))

-- A packet of the guests: one of ARP, a message, a datagram, a segment between two ends, each whole, the last three with the hardware address from which the
-- frame came by which it was whole; or nothing that anybody listens to.
pub data Packet : Type 0 where
  Unheard : Packet
  ArpPacket : Arp → Packet
  Message : (mac : List ℕ) → Ip → Icmp → Packet
  DatagramPacket : Datagram → Packet
  Segment : (mac : List ℕ) → Ip → Tcp → Packet

abbrev pub datagram_in : Config → List ℕ → Ip → Option Packet
datagram_in config mac ip = option_and_then (λ udp. if may_come config ip udp then Some (DatagramPacket (datagram_of mac ip udp)) else None) (read_udp ip.from ip.to ip.body)

-- what a whole datagram of IPv4 holds; its source is a guest
abbrev pub packet_of_ip : Config → List ℕ → Ip → Option Packet
packet_of_ip config mac ip =
    if ip.proto == udp_proto then datagram_in config mac ip
    else (if is_guest config ip.from then
    (if ip.proto == icmp_proto then option_map (Message mac ip) (read_icmp ip.body)
    else (if ip.proto == tcp_proto then option_map (Segment mac ip) (read_tcp ip.from ip.to ip.body) else None))
    else None)

-- what a frame holds, or makes whole, that came at this moment, while these sets of fragments waited
abbrev pub whole_packet : Config → ℕ → List PartSet → List ℕ → List ℕ → Ip → Option Packet
whole_packet config now waiting mac octets ip = option_and_then (packet_of_ip config mac) (arrived config now waiting octets ip)

abbrev pub packet_of : Config → ℕ → List PartSet → Ether → Option Packet
packet_of config now waiting ether =
    if ether.kind == arp_kind then option_map ArpPacket (read_arp ether.body)
    else (if ether.kind == ipv4_kind then option_and_then (whole_packet config now waiting ether.from ether.body) (read_ip ether.body) else None)

abbrev pub packet_in : Config → ℕ → List PartSet → List ℕ → Packet
packet_in config now waiting frame = unwrap_or (option_and_then (packet_of config now waiting) (read_ether frame)) Unheard

-- A guest's address and a hardware address that a frame teaches (RFC 826: the sender's; and the source of each datagram).
pub record Pair : Type 0 where
  pub address : ℕ
  pub mac : List ℕ

abbrev pub pair_of : Config → ℕ → List ℕ → Option Pair
pair_of config address mac = if is_guest config address then Some (record { address = address; mac = mac }) else None

abbrev pub pair_by : Config → Ether → Option Pair
pair_by config ether =
    if ether.kind == arp_kind then option_and_then (λ arp. pair_of config arp.sender arp.sender_mac) (read_arp ether.body)
    else (if ether.kind == ipv4_kind then option_and_then (λ ip. pair_of config ip.from ether.from) (read_ip ether.body) else None)

abbrev pub pair_in : Config → List ℕ → Option Pair
pair_in config frame = option_and_then (pair_by config) (read_ether frame)

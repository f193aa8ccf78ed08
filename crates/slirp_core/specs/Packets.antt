-- What the core makes of a frame as it takes it apart, and the packet that is owed.
use Rattle.std.specs.Prelude.{ℕ, ◌==◌, ◌&&◌, Bool, true, false, List, [], ◌∷◌, Option, Some, None, option_and_then, if◌then◌else◌}
use Rattle.net_octets.specs.Kinds.{arp_kind, ipv4_kind, icmp_proto, tcp_proto, udp_proto}
use Rattle.net_octets.specs.declared.Ip4.{Ip4}
use Rattle.net_octets.specs.declared.Mac.{Mac}
use Rattle.slirp_settings.specs.Addresses.{Config, is_guest, is_ours}
use Rattle.ether_frame.specs.Ether.{Ether, read_ether}
use Rattle.arp_table.specs.Table.{learnt}
use Rattle.ipv4_head.specs.Ip.{Ip, read_ip}
use Rattle.ipv4_head.specs.Sets.{PartSet}
use Rattle.icmp_echo.specs.Icmp.{read_icmp}
use Rattle.udp_datagram.specs.Udp.{read_udp}
use Rattle.spec_trace.specs.Fragments.{arrived}
use Rattle.spec_trace.specs.Packets.{Packet, Unheard, ArpPacket, Message, DatagramPacket, Segment, Datagram, datagram_of, may_come}
use Rattle.rules_dhcp.specs.declared.Lease.{Lease}
use Rattle.spec_run.specs.Datagrams.{Errand, DatagramVerdict, Ignored, Refused, ForLeases, ForFiles, GoesTo, datagram_verdict}
use Rattle.spec_run.specs.Leasing.{leases_by_verdict}
use Rattle.arp_table.specs.declared.ArpView.{ArpView}
use Rattle.arp_table.specs.Arp.{Arp, arp_of, read_arp}
use Rattle.icmp_echo.specs.declared.IcmpView.{IcmpView}
use Rattle.icmp_echo.specs.declared.IcmpView.TheVariants.{Echo, Unreachable, Other}
use Rattle.spec_run.specs.Answers.{Answer, ArpAnswer, Serving, owed_for_arp, owed_for_verdict, owed_for_icmp}

abbrev pub packet_of : ArpView → Answer
packet_of view = ArpAnswer view.target_mac.0 (arp_of view)

abbrev pub packets_of : Option ArpView → List Answer
packets_of None = []
packets_of (Some view) = packet_of view ∷ []

-- an echo request is answered by the same echo as a reply
abbrev pub reply_to : IcmpView → Option IcmpView
reply_to (Echo true ident number body) = None
reply_to (Echo false ident number body) = Some (Echo true ident number body)
reply_to (Unreachable code quoted) = None
reply_to (Other kind code) = None

abbrev pub owed_for : {A : Type 0} → (A → List Answer) → Option A → List Answer
owed_for owes None = []
owed_for owes (Some a) = owes a

-- a guest's datagram with a message to one of ours
abbrev pub is_message_to_us : Config → Ip → Bool
is_message_to_us config ip = is_guest config ip.from && is_ours config ip.to && (ip.proto == icmp_proto)

-- a guest's datagram with a segment of TCP
abbrev pub is_segment : Config → Ip → Bool
is_segment config ip = is_guest config ip.from && (ip.proto == tcp_proto)

-- the datagram of UDP that a whole one of IPv4 holds
abbrev pub udp_of : Config → List ℕ → Ip → Option Datagram
udp_of config mac ip =
    if ip.proto == udp_proto
    then option_and_then (λ udp. if may_come config ip udp then Some (datagram_of mac ip udp) else None) (read_udp ip.from ip.to ip.body)
    else None

-- a datagram for the server of files is answered, if at all, when it is served
abbrev pub owed_at_once_by : Config → Serving → Datagram → DatagramVerdict → List Answer
owed_at_once_by config serving d ForFiles = []
owed_at_once_by config serving d f = owed_for_verdict config serving d f

abbrev pub owed_at_once : Config → Serving → Datagram → List Answer
owed_at_once config serving d = owed_at_once_by config serving d (datagram_verdict config d)

-- a segment is answered, if at all, when it is heard
abbrev pub owed_for_ip : Config → Serving → List ℕ → Ip → List Answer
owed_for_ip config serving mac ip =
    if is_message_to_us config ip then owed_for (owed_for_icmp mac ip) (read_icmp ip.body)
    else (if is_segment config ip then []
    else owed_for (owed_at_once config serving) (udp_of config mac ip))

-- the same of what arrives by a frame at the moment in force, while these sets wait
abbrev pub owed_for_arrived : Config → Serving → List PartSet → List ℕ → List ℕ → Ip → List Answer
owed_for_arrived config serving waiting mac octets ip = owed_for (owed_for_ip config serving mac) (arrived config serving.now waiting octets ip)

abbrev pub owed_for_ether : Config → Serving → List PartSet → Ether → List Answer
owed_for_ether config serving waiting ether =
    if ether.kind == arp_kind then owed_for (owed_for_arp config) (read_arp ether.body)
    else (if ether.kind == ipv4_kind then owed_for (owed_for_arrived config serving waiting ether.from ether.body) (read_ip ether.body) else [])

abbrev pub owed_for_frame : Config → Serving → List PartSet → List ℕ → List Answer
owed_for_frame config serving waiting frame = owed_for (owed_for_ether config serving waiting) (read_ether frame)

-- the datagram of UDP that arrives by a frame at this moment, while these sets wait
abbrev pub udp_of_arrived : Config → ℕ → List PartSet → List ℕ → List ℕ → Ip → Option Datagram
udp_of_arrived config now waiting mac octets ip = option_and_then (udp_of config mac) (arrived config now waiting octets ip)

abbrev pub udp_of_ether : Config → ℕ → List PartSet → Ether → Option Datagram
udp_of_ether config now waiting ether = if ether.kind == ipv4_kind then option_and_then (udp_of_arrived config now waiting ether.from ether.body) (read_ip ether.body) else None

abbrev pub udp_in : Config → ℕ → List PartSet → List ℕ → Option Datagram
udp_in config now waiting frame = option_and_then (udp_of_ether config now waiting) (read_ether frame)

-- what a datagram asks for beyond an answer: that it goes out, or that the server of files serves it
pub data Request : Type 0 where
  ToSend : Errand → Request
  ToServe : Datagram → Request

abbrev pub request_by : Datagram → DatagramVerdict → Option Request
request_by d Ignored = None
request_by d Refused = None
request_by d ForLeases = None
request_by d ForFiles = Some (ToServe d)
request_by d (GoesTo to) = Some (ToSend (record { datagram = d; to = to }))

abbrev pub request_of : Config → Datagram → Option Request
request_of config d = request_by d (datagram_verdict config d)

abbrev pub request_for_udp : Config → Option Datagram → Option Request
request_for_udp config d = option_and_then (request_of config) d

-- the errand of a request, and the datagram that is to be served
abbrev pub errand_in : Option Request → Option Errand
errand_in None = None
errand_in (Some (ToSend errand)) = Some errand
errand_in (Some (ToServe d)) = None

abbrev pub file_in : Option Request → Option Datagram
file_in None = None
file_in (Some (ToSend errand)) = None
file_in (Some (ToServe d)) = Some d

-- the same of a packet: what it owes at once, and what else it asks for
abbrev pub owed_with : Config → Serving → Packet → List Answer
owed_with config serving Unheard = []
owed_with config serving (ArpPacket arp) = owed_for_arp config arp
owed_with config serving (Message mac ip message) = if is_ours config ip.to then owed_for_icmp mac ip message else []
owed_with config serving (DatagramPacket d) = owed_at_once config serving d
owed_with config serving (Segment mac ip tcp) = []

abbrev pub request_by_packet : Config → Packet → Option Request
request_by_packet config (DatagramPacket d) = request_of config d
request_by_packet config _ = None

-- what a datagram, if one came, makes of the leases

abbrev pub leases_with : Config → ℕ → Option Datagram → List Lease → List Lease
leases_with config now None leases = leases
leases_with config now (Some d) leases = leases_by_verdict config now d (datagram_verdict config d) leases

-- whom a frame makes known
abbrev pub with_address : Config → ℕ → List ℕ → List (Ip4 × Mac) → List (Ip4 × Mac)
with_address config address mac pairs = if is_guest config address then learnt (record { 0 = address }) (record { 0 = mac }) pairs else pairs

abbrev pub with_arp : Config → Option Arp → List (Ip4 × Mac) → List (Ip4 × Mac)
with_arp config None pairs = pairs
with_arp config (Some arp) pairs = with_address config arp.sender arp.sender_mac pairs

abbrev pub with_ip : Config → List ℕ → Option Ip → List (Ip4 × Mac) → List (Ip4 × Mac)
with_ip config mac None pairs = pairs
with_ip config mac (Some ip) pairs = with_address config ip.from mac pairs

abbrev pub with_ether : Config → Option Ether → List (Ip4 × Mac) → List (Ip4 × Mac)
with_ether config None pairs = pairs
with_ether config (Some ether) pairs =
    if ether.kind == arp_kind then with_arp config (read_arp ether.body) pairs
    else (if ether.kind == ipv4_kind then with_ip config ether.from (read_ip ether.body) pairs else pairs)

abbrev pub with_frame : Config → Option (List ℕ) → List (Ip4 × Mac) → List (Ip4 × Mac)
with_frame config None pairs = pairs
with_frame config (Some frame) pairs = with_ether config (read_ether frame) pairs

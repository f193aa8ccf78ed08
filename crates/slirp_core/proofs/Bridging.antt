-- What the core makes of a frame, step by step, is what the packet in it asks for.
use Rattle.std.proofs.Common.{◌≡◌, ℕ, ◌==◌, ◌&&◌, Bool, true, false, List, [], Option, Some, None, if◌then◌else◌, refl, ap, arith, ◌∙◌}
use Rattle.std.specs.Prelude.{unwrap_or}
use Rattle.std.proofs.lemmas.Bool.Decides.{nat_tests}
use Rattle.std.specs.Option.{option_and_then, option_map}
use Rattle.net_octets.specs.declared.Ip4.{Ip4}
use Rattle.net_octets.specs.declared.Mac.{Mac}
use Rattle.net_octets.specs.Kinds.{arp_kind, ipv4_kind, icmp_proto, tcp_proto, udp_proto}
use Rattle.slirp_settings.specs.Addresses.{Config, is_guest, is_ours}
use Rattle.ether_frame.specs.Ether.{Ether, read_ether}
use Rattle.arp_table.specs.Arp.{Arp, read_arp}
use Rattle.arp_table.specs.Table.{learnt}
use Rattle.ipv4_head.specs.Ip.{Ip, read_ip}
use Rattle.ipv4_head.specs.Sets.{PartSet}
use Rattle.icmp_echo.specs.Icmp.{Icmp, read_icmp}
use Rattle.udp_datagram.specs.Udp.{Udp, read_udp}
use Rattle.tcp_segment.specs.Tcp.{Tcp, read_tcp}
use Rattle.spec_trace.specs.Guests.{with_pair}
use Rattle.spec_trace.specs.Fragments.{arrived}
use Rattle.spec_trace.specs.Packets.{Packet, Unheard, packet_of_ip, ArpPacket, Message, DatagramPacket, Segment, Datagram, datagram_in, datagram_of, may_come, packet_of, pair_by}
use Rattle.spec_trace.specs.Packets.{pair_in, pair_of, packet_in, whole_packet}
use Rattle.spec_run.specs.Answers.{Answer, Serving, owed_for_arp, owed_for_icmp}
use Rattle.rules_dhcp.specs.declared.Lease.{Lease}
use Rattle.spec_trace.specs.Happenings.{datagram_by}
use Rattle.spec_run.specs.Leasing.{leases_by_packet}
use Rattle.slirp_core.specs.Segments.{Coming, coming, coming_by, segment_in, segment_of_arrived, segment_of_ether, segment_of_ip}
use Rattle.slirp_core.specs.Packets.{owed_at_once, owed_with, request_by_packet, request_for_udp, leases_with, udp_in, udp_of, udp_of_arrived, udp_of_ether, owed_for, owed_for_arrived}
use Rattle.slirp_core.specs.Packets.{owed_for_ether, owed_for_frame, owed_for_ip, with_address, with_arp, with_ether, with_frame, with_ip}

-- what a packet that may be none owes at once, and the datagram that it is
abbrev owes : Config → Serving → Option Packet → List Answer
owes config s p = owed_with config s (unwrap_or p Unheard)

abbrev carries : Option Packet → Option Datagram
carries p = datagram_by (unwrap_or p Unheard)

abbrev brings : Option Packet → Option Coming
brings p = coming_by (unwrap_or p Unheard)

arp_owes : (config : Config) (s : Serving) (o : Option Arp) → owes config s (option_map ArpPacket o) ≡ owed_for (owed_for_arp config) o
arp_owes config s None = refl
arp_owes config s (Some arp) = refl

arp_brings : (o : Option Arp) → brings (option_map ArpPacket o) ≡ None
arp_brings None = refl
arp_brings (Some arp) = refl

arp_carries : (config : Config) (o : Option Arp) → carries (option_map ArpPacket o) ≡ None
arp_carries config None = refl
arp_carries config (Some arp) = refl

-- a datagram of UDP
abbrev came : Config → List ℕ → Ip → Udp → Option Packet
came config mac ip udp = if may_come config ip udp then Some (DatagramPacket (datagram_of mac ip udp)) else None

abbrev comes : Config → List ℕ → Ip → Udp → Option Datagram
comes config mac ip udp = if may_come config ip udp then Some (datagram_of mac ip udp) else None

udp_owes : (config : Config) (s : Serving) (mac : List ℕ) (ip : Ip) (o : Option Udp) → owes config s (option_and_then (came config mac ip) o) ≡ owed_for (owed_at_once config s)
    (option_and_then (comes config mac ip) o)
udp_owes config s mac ip None = refl
udp_owes config s mac ip (Some udp) = by (may_come config ip udp)
  where
    by : (b : Bool) → owes config s (if b then Some (DatagramPacket (datagram_of mac ip udp)) else None) ≡ owed_for (owed_at_once config s) (if b then Some (datagram_of mac ip udp) else None)
    by true = refl
    by false = refl

udp_carries : (config : Config) (mac : List ℕ) (ip : Ip) (o : Option Udp) → carries (option_and_then (came config mac ip) o) ≡ option_and_then (comes config mac ip) o
udp_carries config mac ip None = refl
udp_carries config mac ip (Some udp) = by (may_come config ip udp)
  where
    by : (b : Bool) → carries (if b then Some (DatagramPacket (datagram_of mac ip udp)) else None) ≡ if b then Some (datagram_of mac ip udp) else None
    by true = refl
    by false = refl

udp_brings : (config : Config) (mac : List ℕ) (ip : Ip) (o : Option Udp) → brings (option_and_then (came config mac ip) o) ≡ None
udp_brings config mac ip None = refl
udp_brings config mac ip (Some udp) = by (may_come config ip udp)
  where
    by : (b : Bool) → brings (if b then Some (DatagramPacket (datagram_of mac ip udp)) else None) ≡ None
    by true = refl
    by false = refl

-- a message to us, or to another
message_owes : (config : Config) (s : Serving) (mac : List ℕ) (ip : Ip) (o : Option Icmp) (ours : Bool) → is_ours config ip.to ≡ ours
    → owes config s (option_map (Message mac ip) o) ≡ (if ours then owed_for (owed_for_icmp mac ip) o else [])
message_owes config s mac ip None true o = refl
message_owes config s mac ip None false o = refl
message_owes config s mac ip (Some m) ours o = ap (λ (b : Bool). if b then owed_for_icmp mac ip m else []) o

message_carries : (config : Config) (mac : List ℕ) (ip : Ip) (o : Option Icmp) → carries (option_map (Message mac ip) o) ≡ None
message_carries config mac ip None = refl
message_carries config mac ip (Some m) = refl

message_brings : (mac : List ℕ) (ip : Ip) (o : Option Icmp) → brings (option_map (Message mac ip) o) ≡ None
message_brings mac ip None = refl
message_brings mac ip (Some m) = refl

segment_brings : (mac : List ℕ) (ip : Ip) (o : Option Tcp) → brings (option_map (Segment mac ip) o) ≡ option_map (coming mac ip) o
segment_brings mac ip None = refl
segment_brings mac ip (Some tcp) = refl

segment_owes : (config : Config) (s : Serving) (mac : List ℕ) (ip : Ip) (o : Option Tcp) → owes config s (option_map (Segment mac ip) o) ≡ []
segment_owes config s mac ip None = refl
segment_owes config s mac ip (Some tcp) = refl

segment_carries : (config : Config) (mac : List ℕ) (ip : Ip) (o : Option Tcp) → carries (option_map (Segment mac ip) o) ≡ None
segment_carries config mac ip None = refl
segment_carries config mac ip (Some tcp) = refl

-- the tests on a datagram of IPv4, each by its answer
record Tests (config : Config) (ip : Ip) (udp icmp tcp guest ours : Bool) : Type 0 where
  is_udp : (ip.proto == udp_proto) ≡ udp
  is_icmp : (ip.proto == icmp_proto) ≡ icmp
  is_tcp : (ip.proto == tcp_proto) ≡ tcp
  is_of_guest : is_guest config ip.from ≡ guest
  is_to_us : is_ours config ip.to ≡ ours

one_proto : (proto : ℕ) → (proto == 17) ≡ true → (proto == 1) ≡ true → ⊥
one_proto proto a b = let first : proto ≡ 17 = grind (arith, nat_tests, a) in let second : proto ≡ 1 = grind (arith, nat_tests, b) in omega (arith, first, second)

no_udp_and_tcp : (proto : ℕ) → (proto == 17) ≡ true → (proto == 6) ≡ true → ⊥
no_udp_and_tcp proto a b = let first : proto ≡ 17 = grind (arith, nat_tests, a) in let second : proto ≡ 6 = grind (arith, nat_tests, b) in omega (arith, first, second)

no_icmp_and_tcp : (proto : ℕ) → (proto == 1) ≡ true → (proto == 6) ≡ true → ⊥
no_icmp_and_tcp proto a b = let first : proto ≡ 1 = grind (arith, nat_tests, a) in let second : proto ≡ 6 = grind (arith, nat_tests, b) in omega (arith, first, second)

-- what is tested, with the answers in the place of the tests
abbrev packet_by : Config → List ℕ → Ip → (udp icmp tcp guest : Bool) → Option Packet
packet_by config mac ip udp icmp tcp guest =
    if udp then datagram_in config mac ip
    else (if guest then
    (if icmp then option_map (Message mac ip) (read_icmp ip.body)
    else (if tcp then option_map (Segment mac ip) (read_tcp ip.from ip.to ip.body) else None))
    else None)

abbrev udp_by : Config → List ℕ → Ip → (udp : Bool) → Option Datagram
udp_by config mac ip udp = if udp then option_and_then (comes config mac ip) (read_udp ip.from ip.to ip.body) else None

abbrev owed_by : Config → Serving → List ℕ → Ip → (guest ours icmp tcp udp : Bool) → List Answer
owed_by config s mac ip guest ours icmp tcp udp =
    if guest && ours && icmp then owed_for (owed_for_icmp mac ip) (read_icmp ip.body)
    else (if guest && tcp then []
    else owed_for (owed_at_once config s) (udp_by config mac ip udp))

owes_by : (config : Config) (s : Serving) (mac : List ℕ) (ip : Ip) (udp icmp tcp guest ours : Bool) → Tests config ip udp icmp tcp guest ours
    → owes config s (packet_by config mac ip udp icmp tcp guest) ≡ owed_by config s mac ip guest ours icmp tcp udp
owes_by config s mac ip true true tcp guest ours t = absurd (one_proto ip.proto t.is_udp t.is_icmp)
owes_by config s mac ip true false true guest ours t = absurd (no_udp_and_tcp ip.proto t.is_udp t.is_tcp)
owes_by config s mac ip true false false true true t = udp_owes config s mac ip (read_udp ip.from ip.to ip.body)
owes_by config s mac ip true false false true false t = udp_owes config s mac ip (read_udp ip.from ip.to ip.body)
owes_by config s mac ip true false false false ours t = udp_owes config s mac ip (read_udp ip.from ip.to ip.body)
owes_by config s mac ip false true true guest ours t = absurd (no_icmp_and_tcp ip.proto t.is_icmp t.is_tcp)
owes_by config s mac ip false true false true true t = message_owes config s mac ip (read_icmp ip.body) true t.is_to_us
owes_by config s mac ip false true false true false t = message_owes config s mac ip (read_icmp ip.body) false t.is_to_us
owes_by config s mac ip false false true true true t = segment_owes config s mac ip (read_tcp ip.from ip.to ip.body)
owes_by config s mac ip false false true true false t = segment_owes config s mac ip (read_tcp ip.from ip.to ip.body)
owes_by config s mac ip false false false true true t = refl
owes_by config s mac ip false false false true false t = refl
owes_by config s mac ip false icmp tcp false ours t = refl

carried_by : (config : Config) (mac : List ℕ) (ip : Ip) (udp icmp tcp guest : Bool)
    → carries (packet_by config mac ip udp icmp tcp guest) ≡ udp_by config mac ip udp
carried_by config mac ip true icmp tcp guest = udp_carries config mac ip (read_udp ip.from ip.to ip.body)
carried_by config mac ip false true tcp true = message_carries config mac ip (read_icmp ip.body)
carried_by config mac ip false false true true = segment_carries config mac ip (read_tcp ip.from ip.to ip.body)
carried_by config mac ip false false false true = refl
carried_by config mac ip false icmp tcp false = refl

brings_by : (config : Config) (mac : List ℕ) (ip : Ip) (udp icmp tcp guest ours : Bool) → Tests config ip udp icmp tcp guest ours
    → brings (packet_by config mac ip udp icmp tcp guest) ≡ (if guest && tcp then option_map (coming mac ip) (read_tcp ip.from ip.to ip.body) else None)
brings_by config mac ip true icmp true guest ours t = absurd (no_udp_and_tcp ip.proto t.is_udp t.is_tcp)
brings_by config mac ip true icmp false true ours t = udp_brings config mac ip (read_udp ip.from ip.to ip.body)
brings_by config mac ip true icmp false false ours t = udp_brings config mac ip (read_udp ip.from ip.to ip.body)
brings_by config mac ip false true true guest ours t = absurd (no_icmp_and_tcp ip.proto t.is_icmp t.is_tcp)
brings_by config mac ip false true false true ours t = message_brings mac ip (read_icmp ip.body)
brings_by config mac ip false false true true ours t = segment_brings mac ip (read_tcp ip.from ip.to ip.body)
brings_by config mac ip false false false true ours t = refl
brings_by config mac ip false icmp tcp false ours t = refl

-- of a datagram that arrived
arrived_owes : (config : Config) (s : Serving) (mac : List ℕ) (o : Option Ip) → owes config s (option_and_then (packet_of_ip config mac) o) ≡ owed_for (owed_for_ip config s mac) o
arrived_owes config s mac None = refl
arrived_owes config s mac (Some ip) =
    owes_by config s mac ip (ip.proto == udp_proto) (ip.proto == icmp_proto) (ip.proto == tcp_proto) (is_guest config ip.from) (is_ours config ip.to)
    (record { is_udp = refl; is_icmp = refl; is_tcp = refl; is_of_guest = refl; is_to_us = refl })

arrived_carries : (config : Config) (mac : List ℕ) (o : Option Ip) → carries (option_and_then (packet_of_ip config mac) o) ≡ option_and_then (udp_of config mac) o
arrived_carries config mac None = refl
arrived_carries config mac (Some ip) = carried_by config mac ip (ip.proto == udp_proto) (ip.proto == icmp_proto) (ip.proto == tcp_proto) (is_guest config ip.from)

arrived_brings : (config : Config) (mac : List ℕ) (o : Option Ip) → brings (option_and_then (packet_of_ip config mac) o) ≡ option_and_then (segment_of_ip config mac) o
arrived_brings config mac None = refl
arrived_brings config mac (Some ip) =
    brings_by config mac ip (ip.proto == udp_proto) (ip.proto == icmp_proto) (ip.proto == tcp_proto) (is_guest config ip.from) (is_ours config ip.to)
    (record { is_udp = refl; is_icmp = refl; is_tcp = refl; is_of_guest = refl; is_to_us = refl })

ip_owes : (config : Config) (s : Serving) (waiting : List PartSet) (mac octets : List ℕ) (o : Option Ip)
    → owes config s (option_and_then (whole_packet config s.now waiting mac octets) o) ≡ owed_for (owed_for_arrived config s waiting mac octets) o
ip_owes config s waiting mac octets None = refl
ip_owes config s waiting mac octets (Some ip) = arrived_owes config s mac (arrived config s.now waiting octets ip)

ip_carries : (config : Config) (now : ℕ) (waiting : List PartSet) (mac octets : List ℕ) (o : Option Ip)
    → carries (option_and_then (whole_packet config now waiting mac octets) o) ≡ option_and_then (udp_of_arrived config now waiting mac octets) o
ip_carries config now waiting mac octets None = refl
ip_carries config now waiting mac octets (Some ip) = arrived_carries config mac (arrived config now waiting octets ip)

ip_brings : (config : Config) (now : ℕ) (waiting : List PartSet) (mac octets : List ℕ) (o : Option Ip)
    → brings (option_and_then (whole_packet config now waiting mac octets) o) ≡ option_and_then (segment_of_arrived config now waiting mac octets) o
ip_brings config now waiting mac octets None = refl
ip_brings config now waiting mac octets (Some ip) = arrived_brings config mac (arrived config now waiting octets ip)

ether_owes : (config : Config) (s : Serving) (waiting : List PartSet) (o : Option Ether) → owes config s (option_and_then (packet_of config s.now waiting) o) ≡ owed_for
    (owed_for_ether config s waiting) o
ether_owes config s waiting None = refl
ether_owes config s waiting (Some ether) = by (ether.kind == arp_kind) (ether.kind == ipv4_kind)
  where
    by : (arp ip : Bool) → owes config s (if arp then option_map ArpPacket (read_arp ether.body) else
        (if ip then option_and_then (whole_packet config s.now waiting ether.from ether.body) (read_ip ether.body) else None))
        ≡ (if arp then owed_for (owed_for_arp config) (read_arp ether.body) else (if ip then owed_for (owed_for_arrived config s waiting ether.from ether.body) (read_ip ether.body) else []))
    by true ip = arp_owes config s (read_arp ether.body)
    by false true = ip_owes config s waiting ether.from ether.body (read_ip ether.body)
    by false false = refl

two_kinds : (kind : ℕ) → (kind == arp_kind) ≡ true → (kind == ipv4_kind) ≡ true → ⊥
two_kinds kind a b = let first : kind ≡ 2054 = grind (arith, nat_tests, a) in let second : kind ≡ 2048 = grind (arith, nat_tests, b) in omega (arith, first, second)

ether_carries : (config : Config) (now : ℕ) (waiting : List PartSet) (o : Option Ether) → carries (option_and_then (packet_of config now waiting) o) ≡ option_and_then
    (udp_of_ether config now waiting) o
ether_carries config now waiting None = refl
ether_carries config now waiting (Some ether) = by (ether.kind == arp_kind) (ether.kind == ipv4_kind) refl refl
  where
    by : (arp ip : Bool) → (ether.kind == arp_kind) ≡ arp → (ether.kind == ipv4_kind) ≡ ip
        → carries (if arp then option_map ArpPacket (read_arp ether.body) else (if ip then option_and_then (whole_packet config now waiting ether.from ether.body) (read_ip ether.body) else None))
        ≡ (if ip then option_and_then (udp_of_arrived config now waiting ether.from ether.body) (read_ip ether.body) else None)
    by true true a i = absurd (two_kinds ether.kind a i)
    by true false a i = arp_carries config (read_arp ether.body)
    by false true a i = ip_carries config now waiting ether.from ether.body (read_ip ether.body)
    by false false a i = refl

ether_brings : (config : Config) (now : ℕ) (waiting : List PartSet) (o : Option Ether) → brings (option_and_then (packet_of config now waiting) o) ≡ option_and_then
    (segment_of_ether config now waiting) o
ether_brings config now waiting None = refl
ether_brings config now waiting (Some ether) = by (ether.kind == arp_kind) (ether.kind == ipv4_kind) refl refl
  where
    by : (arp ip : Bool) → (ether.kind == arp_kind) ≡ arp → (ether.kind == ipv4_kind) ≡ ip
        → brings (if arp then option_map ArpPacket (read_arp ether.body) else (if ip then option_and_then (whole_packet config now waiting ether.from ether.body) (read_ip ether.body) else None))
        ≡ (if ip then option_and_then (segment_of_arrived config now waiting ether.from ether.body) (read_ip ether.body) else None)
    by true true a i = absurd (two_kinds ether.kind a i)
    by true false a i = arp_brings (read_arp ether.body)
    by false true a i = ip_brings config now waiting ether.from ether.body (read_ip ether.body)
    by false false a i = refl

-- what it owes, which datagram and which segment it brings, and whom it makes known
pub owes_same : (config : Config) (s : Serving) (waiting : List PartSet) (frame : List ℕ)
    → owed_with config s (packet_in config s.now waiting frame) ≡ owed_for_frame config s waiting frame
owes_same config s waiting frame = ether_owes config s waiting (read_ether frame)

udp_same : (config : Config) (now : ℕ) (waiting : List PartSet) (frame : List ℕ) → datagram_by (packet_in config now waiting frame) ≡ udp_in config now waiting frame
udp_same config now waiting frame = ether_carries config now waiting (read_ether frame)

request_by_udp : (config : Config) (p : Packet) → request_by_packet config p ≡ request_for_udp config (datagram_by p)
request_by_udp config Unheard = refl
request_by_udp config (ArpPacket arp) = refl
request_by_udp config (Message mac ip message) = refl
request_by_udp config (DatagramPacket d) = refl
request_by_udp config (Segment mac ip tcp) = refl

leases_by_udp : (config : Config) (now : ℕ) (p : Packet) (leases : List Lease) → leases_by_packet config now p leases ≡ leases_with config now (datagram_by p) leases
leases_by_udp config now Unheard leases = refl
leases_by_udp config now (ArpPacket arp) leases = refl
leases_by_udp config now (Message mac ip message) leases = refl
leases_by_udp config now (DatagramPacket d) leases = refl
leases_by_udp config now (Segment mac ip tcp) leases = refl

-- so what it asks for, and what it makes of the leases
pub asks_same : (config : Config) (now : ℕ) (waiting : List PartSet) (frame : List ℕ) → request_by_packet config (packet_in config now waiting frame) ≡ request_for_udp config
    (udp_in config now waiting frame)
asks_same config now waiting frame = request_by_udp config (packet_in config now waiting frame) ∙ ap (request_for_udp config) (udp_same config now waiting frame)

pub lends_same : (config : Config) (now : ℕ) (waiting : List PartSet) (frame : List ℕ) (leases : List Lease)
    → leases_by_packet config now (packet_in config now waiting frame) leases ≡ leases_with config now (udp_in config now waiting frame) leases
lends_same config now waiting frame leases = leases_by_udp config now (packet_in config now waiting frame) leases ∙ ap (λ d. leases_with config now d leases) (udp_same config now waiting frame)

pub brings_same : (config : Config) (now : ℕ) (waiting : List PartSet) (frame : List ℕ) → coming_by (packet_in config now waiting frame) ≡ segment_in config now waiting frame
brings_same config now waiting frame = ether_brings config now waiting (read_ether frame)

pair_same : (config : Config) (address : ℕ) (mac : List ℕ) (pairs : List (Ip4 × Mac)) → with_pair (pair_of config address mac) pairs ≡ with_address config address mac pairs
pair_same config address mac pairs = by (is_guest config address)
  where
    by : (b : Bool) → with_pair (if b then Some (record { address = address; mac = mac }) else None) pairs ≡ (if b then learnt (record { 0 = address }) (record { 0 = mac }) pairs else pairs)
    by true = refl
    by false = refl

arp_teaches : (config : Config) (o : Option Arp) (pairs : List (Ip4 × Mac)) → with_pair (option_and_then (λ arp. pair_of config arp.sender arp.sender_mac) o) pairs ≡ with_arp config o pairs
arp_teaches config None pairs = refl
arp_teaches config (Some arp) pairs = pair_same config arp.sender arp.sender_mac pairs

ip_teaches : (config : Config) (mac : List ℕ) (o : Option Ip) (pairs : List (Ip4 × Mac)) → with_pair (option_and_then (λ ip. pair_of config ip.from mac) o) pairs ≡ with_ip config mac o pairs
ip_teaches config mac None pairs = refl
ip_teaches config mac (Some ip) pairs = pair_same config ip.from mac pairs

ether_teaches : (config : Config) (o : Option Ether) (pairs : List (Ip4 × Mac)) → with_pair (option_and_then (pair_by config) o) pairs ≡ with_ether config o pairs
ether_teaches config None pairs = refl
ether_teaches config (Some ether) pairs = by (ether.kind == arp_kind) (ether.kind == ipv4_kind)
  where
    by : (arp ip : Bool) → with_pair (if arp then option_and_then (λ arp. pair_of config arp.sender arp.sender_mac) (read_arp ether.body) else (if ip then option_and_then (λ ip. pair_of config ip.from ether.from)
        (read_ip ether.body) else None)) pairs
        ≡ (if arp then with_arp config (read_arp ether.body) pairs else (if ip then with_ip config ether.from (read_ip ether.body) pairs else pairs))
    by true ip = arp_teaches config (read_arp ether.body) pairs
    by false true = ip_teaches config ether.from (read_ip ether.body) pairs
    by false false = refl

pub teaches_same : (config : Config) (frame : List ℕ) (pairs : List (Ip4 × Mac)) → with_pair (pair_in config frame) pairs ≡ with_frame config (Some frame) pairs
teaches_same config frame pairs = ether_teaches config (read_ether frame) pairs

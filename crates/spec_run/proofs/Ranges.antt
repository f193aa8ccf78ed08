-- What guests and peers say is in its range where each answer is one that a World may give.
use Rattle.std.proofs.Common.{◌≡◌, ℕ, ◌-◌, ◌^◌, ◌<◌, ◌==◌, ◌&&◌, Bool, true, false, List, [], ◌∷◌, nat_lt, Option, Some, None, option_map, option_and_then, if◌then◌else◌, refl, ap, subst}
use Rattle.std.specs.Prelude.{unwrap_or}
use Rattle.std.specs.Option.{option_or}
use Rattle.std.proofs.lemmas.Option.{cond_some}
use Rattle.world_face.specs.Journal.{Entry, LinkWrite, Connect, UdpOpen, UdpSend, UdpRecv, FileLen, FileRead, AreAllowed, AreOctets, IsEndpoint}
use Rattle.world_face.specs.Frames.{arrives, goes_out}
use Rattle.world_face.specs.declared.Made.{Made}
use Rattle.world_face.specs.declared.Made.TheVariants.{Done as MadeDone, Failed as MadeFailed}
use Rattle.world_face.specs.declared.Sent.{Sent}
use Rattle.world_face.specs.declared.Sent.TheVariants.{Done as SentDone, NotYet as SentNotYet, Failed as SentFailed}
use Rattle.world_face.specs.declared.Got.TheVariants.{From, NotYet as GotNotYet, Failed as GotFailed}
use Rattle.net_octets.specs.declared.Endpoint.{Endpoint}
use Rattle.net_octets.specs.Kinds.{arp_kind, ipv4_kind, icmp_proto, udp_proto, tcp_proto}
use Rattle.net_octets.specs.Octets.{two_at, part}
use Rattle.net_octets.proofs.Parts.{two_at-fits}
use Rattle.slirp_settings.specs.declared.Forward.{Forward}
use Rattle.slirp_settings.specs.declared.Proto.{Proto}
use Rattle.slirp_settings.specs.declared.Proto.TheVariants.{Tcp as ByTcp, Udp as ByUdp}
use Rattle.slirp_settings.specs.Addresses.{Config, is_guest, forward_on}
use Rattle.ether_frame.specs.Ether.{Ether, read_ether}
use Rattle.arp_table.specs.Arp.{Arp, read_arp}
use Rattle.ipv4_head.specs.Ip.{Ip, read_ip}
use Rattle.ipv4_head.specs.Sets.{PartSet, OfSets}
use Rattle.ipv4_head.proofs.Members.{of_young}
use Rattle.icmp_echo.specs.Icmp.{Icmp, read_icmp}
use Rattle.udp_datagram.specs.Udp.{Udp, is_udp, read_udp}
use Rattle.tcp_segment.specs.Tcp.{Tcp, read_tcp}
use Rattle.spec_trace.specs.Fragments.{arrived, sets, waiting}
use Rattle.spec_trace.specs.Moments.{moment, waits}
use Rattle.spec_flows.specs.Book.{book}
use Rattle.spec_flows.specs.Segments.{OnTuple}
use Rattle.spec_trace.specs.Happenings.{Arrival, arrival_of, happens, datagram_by, datagram_came}
use Rattle.spec_trace.specs.Packets.{Datagram, Packet, Unheard, ArpPacket, Message, DatagramPacket, Segment, datagram_in, datagram_of, may_come, packet_in, packet_of, packet_of_ip}
use Rattle.spec_trace.specs.Packets.{whole_packet}
use Rattle.spec_run.specs.Ports.{last_datagram, last_port, opened_by, opened_for, given_by, given_port, port_for}
use Rattle.spec_run.specs.Answers.{begins_again, identification, ledger, may_go_again, serving}
use Rattle.spec_run.specs.Names.{questions}
use Rattle.rules_dns.specs.declared.Question.{Question}
use Rattle.rules_dns.specs.Questions.{numbered}
use Rattle.rules_tftp.specs.Asking.{by_answer}
use Rattle.rules_tftp.specs.Transfers.{Outcome as FileOutcome, Said}
use Rattle.spec_run.specs.Said.{Occasion, Heard, by_call, by_joined, by_made, for_guest, by_outcome, by_said, by_sent, heard_on, last_occasion, occasion_after, refused_or, unsent_or, HasPorts}
use Rattle.spec_run.proofs.Octets.{RangeIp, RangePart, arrived_range, ether_range, frame_octets, in_range, ip_range, range_sets}

-- ---- packets

abbrev InRange : Packet → Type 0
InRange (DatagramPacket d) = IsEndpoint d.from
InRange _ = Unit {0}

abbrev RangeIn : Option Packet → Type 0
RangeIn packet = InRange (unwrap_or packet Unheard)

range_if : (b : Bool) (one two : Option Packet) → RangeIn one → RangeIn two → RangeIn (if b then one else two)
range_if true one two is was = is
range_if false one two is was = was

range_arp : (o : Option Arp) → RangeIn (option_map ArpPacket o)
range_arp None = tt
range_arp (Some arp) = tt

range_icmp : (mac : List ℕ) (ip : Ip) (o : Option Icmp) → RangeIn (option_map (Message mac ip) o)
range_icmp mac ip None = tt
range_icmp mac ip (Some message) = tt

range_tcp : (mac : List ℕ) (ip : Ip) (o : Option Tcp) → RangeIn (option_map (Segment mac ip) o)
range_tcp mac ip None = tt
range_tcp mac ip (Some tcp) = tt

range_udp : (config : Config) (mac : List ℕ) (ip : Ip) (o : Option Udp) → read_udp ip.from ip.to ip.body ≡ o → ip.from < 2 ^ 32 → AreOctets ip.body
    → RangeIn (option_and_then (λ udp. if may_come config ip udp then Some (DatagramPacket (datagram_of mac ip udp)) else None) o)
range_udp config mac ip None is from octets = tt
range_udp config mac ip (Some udp) is from octets =
    let found = cond_some (is_udp ip.from ip.to ip.body) (record { from_port = two_at ip.body 0; to_port = two_at ip.body 2; body = part ip.body 8 (two_at ip.body 4 - 8) }) udp is in
    let port : two_at ip.body 0 ≡ udp.from_port = ap (λ (u : Udp). u.from_port) found.1 in
    range_if (may_come config ip udp) (Some (DatagramPacket (datagram_of mac ip udp))) None
    (from, subst (λ n. n < 2 ^ 16) port (two_at-fits ip.body 0 (in_range ip.body octets))) tt

range_ip : (config : Config) (mac : List ℕ) (ip : Ip) → ip.from < 2 ^ 32 → AreOctets ip.body → RangeIn (packet_of_ip config mac ip)
range_ip config mac ip from octets =
    range_if (ip.proto == udp_proto) (datagram_in config mac ip) _ (range_udp config mac ip (read_udp ip.from ip.to ip.body) refl from octets)
    (range_if (is_guest config ip.from) _ None
    (range_if (ip.proto == icmp_proto) (option_map (Message mac ip) (read_icmp ip.body)) _ (range_icmp mac ip (read_icmp ip.body))
    (range_if (ip.proto == tcp_proto) (option_map (Segment mac ip) (read_tcp ip.from ip.to ip.body)) None (range_tcp mac ip (read_tcp ip.from ip.to ip.body)) tt))
    tt)

-- ---- what came

range_arrived : (config : Config) (mac : List ℕ) (o : Option Ip) → RangeIp o → RangeIn (option_and_then (packet_of_ip config mac) o)
range_arrived config mac None is = tt
range_arrived config mac (Some ip) is = range_ip config mac ip is.0 is.2

range_whole : (config : Config) (now : ℕ) (waiting : List PartSet) (mac octets : List ℕ) (o : Option Ip) → read_ip octets ≡ o → AreOctets octets → OfSets RangePart waiting →
    RangeIn (option_and_then (whole_packet config now waiting mac octets) o)
range_whole config now waiting mac octets None is all kept = tt
range_whole config now waiting mac octets (Some ip) is all kept = range_arrived config mac (arrived config now waiting octets ip)
    (arrived_range config now waiting octets ip (ip_range octets ip is all) kept)

range_ether : (config : Config) (now : ℕ) (waiting : List PartSet) (frame : List ℕ) (o : Option Ether) → read_ether frame ≡ o → AreOctets frame → OfSets RangePart waiting → RangeIn
    (option_and_then (packet_of config now waiting) o)
range_ether config now waiting frame None is all kept = tt
range_ether config now waiting frame (Some ether) is all kept =
    range_if (ether.kind == arp_kind) (option_map ArpPacket (read_arp ether.body)) _ (range_arp (read_arp ether.body))
    (range_if (ether.kind == ipv4_kind) (option_and_then (whole_packet config now waiting ether.from ether.body) (read_ip ether.body)) None
    (range_whole config now waiting ether.from ether.body (read_ip ether.body) refl (ether_range frame ether is all) kept) tt)

range_packet : (config : Config) (now : ℕ) (waiting : List PartSet) (frame : List ℕ) → AreOctets frame → OfSets RangePart waiting → InRange (packet_in config now waiting frame)
range_packet config now waiting frame all kept = range_ether config now waiting frame (read_ether frame) refl all kept

-- ---- ports

abbrev RangeLast : Option Datagram → Type 0
RangeLast None = Unit {0}
RangeLast (Some d) = IsEndpoint d.from

range_by : (packet : Packet) (last : Option Datagram) → InRange packet → RangeLast last → RangeLast (option_or (datagram_by packet) last)
range_by (DatagramPacket d) last is before = is
range_by Unheard last is before = before
range_by (ArpPacket arp) last is before = before
range_by (Message mac ip message) last is before = before
range_by (Segment mac ip tcp) last is before = before

range_came : (config : Config) (now : ℕ) (waiting : List PartSet) (o : Option (List ℕ)) (last : Option Datagram) → ((frame : List ℕ) → o ≡ Some frame → AreOctets frame) →
    OfSets RangePart waiting → RangeLast last
    → RangeLast (option_or (datagram_came (option_map (arrival_of config now waiting) o)) last)
range_came config now waiting None last octets kept before = before
range_came config now waiting (Some frame) last octets kept before = range_by (packet_in config now waiting frame) last (range_packet config now waiting frame (octets frame refl) kept) before

range_last : (config : Config) (past : List Entry) → AreAllowed past → RangeLast (last_datagram config past)
range_last config [] allowed = tt
range_last config (e ∷ past) allowed =
    range_came config (moment past) (waiting config past) (arrives e past) (last_datagram config past) (λ frame is. frame_octets e past frame allowed is)
    (of_young RangePart (moment past) (sets config past) (range_sets config past allowed.1)) (range_last config past allowed.1)

abbrev pub RangePort : Option Endpoint → Type 0
RangePort None = Unit {0}
RangePort (Some port) = IsEndpoint port

range_from : (o : Option Datagram) → RangeLast o → RangePort (option_map (λ (d : Datagram). d.from) o)
range_from None is = tt
range_from (Some d) is = is

range_either : (b : Bool) (one before : Option Endpoint) → RangePort one → RangePort before → RangePort (if b then one else before)
range_either true one before is was = is
range_either false one before is was = was

range_opened : (n : ℕ) (e : Entry) (one : ℕ → Option Endpoint) (before : Option Endpoint) → ((port : ℕ) → RangePort (one port)) → RangePort before → RangePort (opened_by n e one before)
range_opened n (UdpOpen s at answer) one before is was = range_either (s == n) (one at.port) before (is at.port) was
range_opened n _ one before is was = was

range_given_by : (proto : Proto) (guest : Endpoint) → IsEndpoint guest → RangePort (given_by proto guest)
range_given_by ByUdp guest is = is
range_given_by ByTcp guest is = tt

range_given : (config : Config) (n : ℕ) → HasPorts config → RangePort (given_port config n)
range_given config n ports = by (forward_on config n) refl
  where
    by : (o : Option Forward) → forward_on config n ≡ o → RangePort (option_and_then (λ (f : Forward). given_by f.proto f.guest) o)
    by None is = tt
    by (Some f) is = range_given_by f.proto f.guest (ports n f is)

range_next : (config : Config) (port n : ℕ) (past : List Entry) → HasPorts config → AreAllowed past → RangePort (port_for config port n past)
range_next config port n past ports allowed =
    range_either ((port == 0) && nat_lt 0 (waits past)) (last_port config past) (given_port config n) (range_from (last_datagram config past) (range_last config past allowed)) (range_given config n ports)

pub range_port : (config : Config) (n : ℕ) (past : List Entry) → HasPorts config → AreAllowed past → RangePort (opened_for config n past)
range_port config n [] ports allowed = tt
range_port config n (e ∷ past) ports allowed = range_opened n e (λ port. port_for config port n past) (opened_for config n past)
    (λ port. range_next config port n past ports allowed.1) (range_port config n past ports allowed.1)

-- ---- peers

abbrev pub RangePeer : Occasion → Type 0
RangePeer (Heard socket peer octets) = IsEndpoint peer
RangePeer _ = Unit {0}

peer_unsent : (last : Option Datagram) (o : Occasion) → RangePeer o → RangePeer (unsent_or last o)
peer_unsent None o before = before
peer_unsent (Some d) o before = tt

peer_made : (answer : Made) (last : Option Datagram) (o : Occasion) → RangePeer o → RangePeer (by_made answer last o)
peer_made MadeDone last o before = before
peer_made MadeFailed last o before = peer_unsent last o before

peer_sent : (answer : Sent) (last : Option Datagram) (o : Occasion) → RangePeer o → RangePeer (by_sent answer last o)
peer_sent SentDone last o before = before
peer_sent SentNotYet last o before = before
peer_sent SentFailed last o before = peer_unsent last o before

peer_refused : (on : Option OnTuple) (o : Occasion) → RangePeer o → RangePeer (refused_or on o)
peer_refused None o before = before
peer_refused (Some on) o before = tt

peer_joined : (answer : Made) (on : Option OnTuple) (o : Occasion) → RangePeer o → RangePeer (by_joined answer on o)
peer_joined MadeDone on o before = before
peer_joined MadeFailed on o before = peer_refused on o before

peer_said : (o : Option Said) (before : Occasion) → RangePeer before → RangePeer (by_said o before)
peer_said None before is = is
peer_said (Some said) before is = tt

peer_outcome : (o : Option FileOutcome) (before : Occasion) → RangePeer before → RangePeer (by_outcome o before)
peer_outcome None before is = is
peer_outcome (Some o) before is = peer_said o.told before is

peer_heard : (socket : ℕ) (peer : Endpoint) (octets : List ℕ) (o : Option Question) → IsEndpoint peer → RangePeer (heard_on socket peer octets o)
peer_heard socket peer octets None is = is
peer_heard socket peer octets (Some q) is = tt

peer_if : (b : Bool) (one other : Occasion) → RangePeer one → RangePeer other → RangePeer (if b then one else other)
peer_if true one other is else_ = is
peer_if false one other is else_ = else_

peer_by : (config : Config) (e : Entry) (past : List Entry) (last : Option Datagram) (on : Option OnTuple) (o : Occasion) → AreAllowed (e ∷ past) → RangePeer o → RangePeer
    (by_call config past e last on o)
peer_by config (Connect socket to answer) past last on o allowed before = peer_joined answer on o before
peer_by config (UdpOpen socket at answer) past last on o allowed before = peer_made answer (for_guest at.port last) o before
peer_by config (UdpSend socket to octets answer) past last on o allowed before = peer_sent answer last o before
peer_by config (UdpRecv socket asked (From peer n) octets) past last on o allowed before = peer_heard socket peer octets (numbered socket (questions config past)) allowed.0.0.1
peer_by config (UdpRecv socket asked GotNotYet octets) past last on o allowed before = before
peer_by config (UdpRecv socket asked GotFailed octets) past last on o allowed before = before
peer_by config (LinkWrite octets answer) past last on o allowed before =
    peer_if (begins_again config (identification past) (ledger config past) (goes_out (LinkWrite octets answer) past)) _ o (peer_said (may_go_again (serving config past)) o before) before
peer_by config (FileLen name answer) past last on o allowed before = peer_outcome (by_answer (serving config past).now (FileLen name answer) (serving config past).files) o before
peer_by config (FileRead name place asked answer octets) past last on o allowed before = peer_outcome (by_answer (serving config past).now (FileRead name place asked answer octets)
    (serving config past).files) o before
peer_by config _ past last on o allowed before = before

peer_after : (config : Config) (e : Entry) (past : List Entry) (came : Option Arrival) (o : Occasion) → AreAllowed (e ∷ past) → RangePeer o → RangePeer (occasion_after config e past came o)
peer_after config e past None o allowed before = peer_by config e past (last_datagram config past) (book config past).came o allowed before
peer_after config e past (Some arrival) o allowed before = tt

pub range_peer : (config : Config) (past : List Entry) → AreAllowed past → RangePeer (last_occasion config past)
range_peer config [] allowed = tt
range_peer config (e ∷ past) allowed = peer_after config e past (happens config past e).came (last_occasion config past) allowed (range_peer config past allowed.1)

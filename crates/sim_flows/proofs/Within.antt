-- The two ends of the segment that came last are in range where each answer is one that a World may give.
use Rattle.std.proofs.Common.{◌≡◌, ℕ, ◌-◌, ◌^◌, ◌<◌, ◌==◌, Bool, true, false, List, [], ◌∷◌, Option, Some, None, option_map, option_and_then, if◌then◌else◌, refl, sym, subst}
use Rattle.std.specs.Prelude.{unwrap_or}
use Rattle.world_face.specs.Journal.{Entry, FileRead, FileLen, LinkWrite, Connect, UdpOpen, UdpSend, UdpRecv, AreAllowed, AreOctets, IsEndpoint}
use Rattle.world_face.specs.Frames.{arrives, goes_out}
use Rattle.world_face.specs.declared.Made.{Made}
use Rattle.world_face.specs.declared.Made.TheVariants.{Done as MadeDone, Failed as MadeFailed}
use Rattle.world_face.specs.declared.Sent.{Sent}
use Rattle.world_face.specs.declared.Sent.TheVariants.{Done as SentDone, NotYet as SentNotYet, Failed as SentFailed}
use Rattle.world_face.specs.declared.Got.{Got}
use Rattle.world_face.specs.declared.Got.TheVariants.{From, NotYet as GotNotYet, Failed as GotFailed}
use Rattle.net_octets.specs.Kinds.{arp_kind, ipv4_kind, icmp_proto, udp_proto, tcp_proto}
use Rattle.net_octets.specs.Octets.{two_at}
use Rattle.net_octets.proofs.Parts.{two_at-fits}
use Rattle.net_octets.specs.declared.Endpoint.{Endpoint}
use Rattle.slirp_settings.specs.Addresses.{Config, is_guest}
use Rattle.ether_frame.specs.Ether.{Ether, read_ether}
use Rattle.arp_table.specs.Arp.{Arp, read_arp}
use Rattle.ipv4_head.specs.Ip.{Ip, read_ip}
use Rattle.ipv4_head.specs.Sets.{PartSet, OfSets}
use Rattle.ipv4_head.proofs.Members.{of_young}
use Rattle.icmp_echo.specs.Icmp.{Icmp, read_icmp}
use Rattle.udp_datagram.specs.Udp.{Udp, read_udp}
use Rattle.tcp_segment.specs.Tcp.{Tcp, read_tcp}
use Rattle.spec_flows.specs.declared.Tuple.{Tuple}
use Rattle.spec_trace.specs.Fragments.{arrived, sets, waiting}
use Rattle.spec_trace.specs.Moments.{moment}
use Rattle.spec_trace.specs.Happenings.{Arrival, arrival_of, happens}
use Rattle.spec_trace.specs.Packets.{Datagram, Packet, ArpPacket, Message, DatagramPacket, Segment, datagram_in, datagram_of, may_come, packet_of, packet_of_ip, whole_packet, Unheard}
use Rattle.spec_flows.specs.Book.{book}
use Rattle.spec_flows.specs.Segments.{OnTuple, segment_by, segment_came}
use Rattle.spec_flows.proofs.Newest.{is_newest}
use Rattle.spec_run.specs.Ports.{last_datagram}
use Rattle.spec_run.specs.Answers.{begins_again, identification, ledger, may_go_again, serving}
use Rattle.spec_run.specs.Names.{questions}
use Rattle.rules_dns.specs.declared.Question.{Question}
use Rattle.rules_dns.specs.Questions.{numbered}
use Rattle.rules_tftp.specs.Asking.{by_answer}
use Rattle.rules_tftp.specs.Transfers.{Outcome as FileOutcome, Said}
use Rattle.spec_run.specs.Said.{Occasion, Came, Unconnected, by_call, by_got, by_joined, by_made, for_guest, by_outcome, by_said, by_sent, heard_on, last_occasion, occasion_after, refused_or, unsent_or}
use Rattle.spec_run.proofs.Octets.{IsRanged, RangeIp, RangePart, arrived_range, ether_range, frame_octets, in_range, ip_range, range_sets}
use Rattle.spec_run.proofs.Strays.{read_field}

-- ---- segments

abbrev pub IsTuple : Tuple → Type 0
IsTuple tuple = IsEndpoint tuple.guest × IsEndpoint tuple.other

abbrev pub AreEnds : Option OnTuple → Type 0
AreEnds None = Unit {0}
AreEnds (Some on) = IsTuple on.tuple

abbrev EndsIn : Option Packet → Type 0
EndsIn packet = AreEnds (segment_by (unwrap_or packet Unheard))

ends_if : (b : Bool) (one two : Option Packet) → EndsIn one → EndsIn two → EndsIn (if b then one else two)
ends_if true one two is was = is
ends_if false one two is was = was

ends_arp : (o : Option Arp) → EndsIn (option_map ArpPacket o)
ends_arp None = tt
ends_arp (Some arp) = tt

ends_icmp : (mac : List ℕ) (ip : Ip) (o : Option Icmp) → EndsIn (option_map (Message mac ip) o)
ends_icmp mac ip None = tt
ends_icmp mac ip (Some message) = tt

ends_udp : (config : Config) (mac : List ℕ) (ip : Ip) (o : Option Udp) → EndsIn (option_and_then (λ udp. if may_come config ip udp then Some (DatagramPacket (datagram_of mac ip udp)) else None) o)
ends_udp config mac ip None = tt
ends_udp config mac ip (Some udp) = ends_if (may_come config ip udp) (Some (DatagramPacket (datagram_of mac ip udp))) None tt tt

ends_tcp : (mac : List ℕ) (ip : Ip) (o : Option Tcp) → read_tcp ip.from ip.to ip.body ≡ o → IsRanged ip → EndsIn (option_map (Segment mac ip) o)
ends_tcp mac ip None is all = tt
ends_tcp mac ip (Some tcp) is all =
    let octets = in_range ip.body all.2 in
    let from : tcp.from_port ≡ two_at ip.body 0 = read_field (λ (t : Tcp). t.from_port) ip.from ip.to ip.body tcp (two_at ip.body 0) (λ head options. refl) is in
    let to : tcp.to_port ≡ two_at ip.body 2 = read_field (λ (t : Tcp). t.to_port) ip.from ip.to ip.body tcp (two_at ip.body 2) (λ head options. refl) is in
    ((all.0, subst (λ n. n < 2 ^ 16) (sym from) (two_at-fits ip.body 0 octets)), (all.1, subst (λ n. n < 2 ^ 16) (sym to) (two_at-fits ip.body 2 octets)))

ends_ip : (config : Config) (mac : List ℕ) (ip : Ip) → IsRanged ip → EndsIn (packet_of_ip config mac ip)
ends_ip config mac ip all =
    ends_if (ip.proto == udp_proto) (datagram_in config mac ip) _ (ends_udp config mac ip (read_udp ip.from ip.to ip.body))
    (ends_if (is_guest config ip.from) _ None
    (ends_if (ip.proto == icmp_proto) (option_map (Message mac ip) (read_icmp ip.body)) _ (ends_icmp mac ip (read_icmp ip.body))
    (ends_if (ip.proto == tcp_proto) (option_map (Segment mac ip) (read_tcp ip.from ip.to ip.body)) None (ends_tcp mac ip (read_tcp ip.from ip.to ip.body) refl all) tt))
    tt)

-- ---- what came

ends_arrived : (config : Config) (mac : List ℕ) (o : Option Ip) → RangeIp o → EndsIn (option_and_then (packet_of_ip config mac) o)
ends_arrived config mac None is = tt
ends_arrived config mac (Some ip) is = ends_ip config mac ip is

ends_whole : (config : Config) (now : ℕ) (waiting : List PartSet) (mac octets : List ℕ) (o : Option Ip) → read_ip octets ≡ o → AreOctets octets → OfSets RangePart waiting → EndsIn
    (option_and_then (whole_packet config now waiting mac octets) o)
ends_whole config now waiting mac octets None is all kept = tt
ends_whole config now waiting mac octets (Some ip) is all kept = ends_arrived config mac (arrived config now waiting octets ip)
    (arrived_range config now waiting octets ip (ip_range octets ip is all) kept)

ends_ether : (config : Config) (now : ℕ) (waiting : List PartSet) (frame : List ℕ) (o : Option Ether) → read_ether frame ≡ o → AreOctets frame → OfSets RangePart waiting → EndsIn
    (option_and_then (packet_of config now waiting) o)
ends_ether config now waiting frame None is all kept = tt
ends_ether config now waiting frame (Some ether) is all kept =
    ends_if (ether.kind == arp_kind) (option_map ArpPacket (read_arp ether.body)) _ (ends_arp (read_arp ether.body))
    (ends_if (ether.kind == ipv4_kind) (option_and_then (whole_packet config now waiting ether.from ether.body) (read_ip ether.body)) None
    (ends_whole config now waiting ether.from ether.body (read_ip ether.body) refl (ether_range frame ether is all) kept) tt)

ends_came : (config : Config) (now : ℕ) (waiting : List PartSet) (o : Option (List ℕ)) → ((frame : List ℕ) → o ≡ Some frame → AreOctets frame) → OfSets RangePart waiting → AreEnds
    (segment_came (option_map (arrival_of config now waiting) o))
ends_came config now waiting None octets kept = tt
ends_came config now waiting (Some frame) octets kept = ends_ether config now waiting frame (read_ether frame) refl (octets frame refl) kept

-- of the newest entry
ends_by : (config : Config) (e : Entry) (past : List Entry) → AreAllowed (e ∷ past) → AreEnds (segment_came (option_map (arrival_of config (moment past) (waiting config past)) (arrives e past)))
ends_by config e past allowed =
    ends_came config (moment past) (waiting config past) (arrives e past) (λ frame is. frame_octets e past frame allowed is) (of_young RangePart (moment past) (sets config past)
    (range_sets config past allowed.1))

pub ends_on : (config : Config) (past : List Entry) → AreAllowed past → AreEnds (book config past).came
ends_on config [] allowed = tt
ends_on config (e ∷ past) allowed = by (book config (e ∷ past)).came refl
  where
    by : (o : Option OnTuple) → (book config (e ∷ past)).came ≡ o → AreEnds o
    by None is = tt
    by (Some on) is = subst AreEnds (is_newest on config e past is) (ends_by config e past allowed)

-- ---- the last occasion

abbrev pub EndsOf : Occasion → Type 0
EndsOf (Came s stray packet) = AreEnds (segment_by packet)
EndsOf (Unconnected on) = IsTuple on.tuple
EndsOf _ = Unit {0}

ends_unsent : (last : Option Datagram) (o : Occasion) → EndsOf o → EndsOf (unsent_or last o)
ends_unsent None o before = before
ends_unsent (Some d) o before = tt

ends_made : (answer : Made) (last : Option Datagram) (o : Occasion) → EndsOf o → EndsOf (by_made answer last o)
ends_made MadeDone last o before = before
ends_made MadeFailed last o before = ends_unsent last o before

ends_sent : (answer : Sent) (last : Option Datagram) (o : Occasion) → EndsOf o → EndsOf (by_sent answer last o)
ends_sent SentDone last o before = before
ends_sent SentNotYet last o before = before
ends_sent SentFailed last o before = ends_unsent last o before

ends_of_heard : (socket : ℕ) (peer : Endpoint) (octets : List ℕ) (q : Option Question) → EndsOf (heard_on socket peer octets q)
ends_of_heard socket peer octets None = tt
ends_of_heard socket peer octets (Some q) = tt

ends_got : (answer : Got) (socket : ℕ) (octets : List ℕ) (q : Option Question) (o : Occasion) → EndsOf o → EndsOf (by_got answer socket octets q o)
ends_got (From peer n) socket octets q o before = ends_of_heard socket peer octets q
ends_got GotNotYet socket octets q o before = before
ends_got GotFailed socket octets q o before = before

-- a file's answer made a packet, or a packet goes again
ends_said : (said : Option Said) (o : Occasion) → EndsOf o → EndsOf (by_said said o)
ends_said None o before = before
ends_said (Some said) o before = tt

ends_outcome : (outcome : Option FileOutcome) (o : Occasion) → EndsOf o → EndsOf (by_outcome outcome o)
ends_outcome None o before = before
ends_outcome (Some outcome) o before = ends_said outcome.told o before

ends_either : (b : Bool) (one other : Occasion) → EndsOf one → EndsOf other → EndsOf (if b then one else other)
ends_either true one other is else_ = is
ends_either false one other is else_ = else_

ends_refused : (on : Option OnTuple) (o : Occasion) → AreEnds on → EndsOf o → EndsOf (refused_or on o)
ends_refused None o is before = before
ends_refused (Some on) o is before = is

ends_joined : (answer : Made) (on : Option OnTuple) (o : Occasion) → AreEnds on → EndsOf o → EndsOf (by_joined answer on o)
ends_joined MadeDone on o is before = before
ends_joined MadeFailed on o is before = ends_refused on o is before

ends_call : (config : Config) (past : List Entry) (e : Entry) (last : Option Datagram) (on : Option OnTuple) (o : Occasion) → AreEnds on → EndsOf o → EndsOf (by_call config past e last on o)
ends_call config past (Connect socket to answer) last on o is before = ends_joined answer on o is before
ends_call config past (UdpOpen socket at answer) last on o is before = ends_made answer (for_guest at.port last) o before
ends_call config past (UdpSend socket to octets answer) last on o is before = ends_sent answer last o before
ends_call config past (UdpRecv socket asked answer octets) last on o is before = ends_got answer socket octets (numbered socket (questions config past)) o before
ends_call config past (LinkWrite octets answer) last on o is before =
    ends_either (begins_again config (identification past) (ledger config past) (goes_out (LinkWrite octets answer) past)) _ o (ends_said (may_go_again (serving config past)) o before) before
ends_call config past (FileLen name answer) last on o is before = ends_outcome (by_answer (serving config past).now (FileLen name answer) (serving config past).files) o before
ends_call config past (FileRead name place asked answer octets) last on o is before = ends_outcome (by_answer (serving config past).now (FileRead name place asked answer octets)
    (serving config past).files) o before
ends_call config past _ last on o is before = before

ends_after : (config : Config) (e : Entry) (past : List Entry) (frame : Option (List ℕ)) (o : Occasion) → AreEnds
    (segment_came (option_map (arrival_of config (moment past) (waiting config past)) frame)) → AreEnds (book config past).came → EndsOf o
    → EndsOf (occasion_after config e past (option_map (arrival_of config (moment past) (waiting config past)) frame) o)
ends_after config e past None o came on before = ends_call config past e (last_datagram config past) (book config past).came o on before
ends_after config e past (Some frame) o came on before = came

pub ends_last : (config : Config) (past : List Entry) → AreAllowed past → EndsOf (last_occasion config past)
ends_last config [] allowed = tt
ends_last config (e ∷ past) allowed = ends_after config e past (arrives e past) (last_occasion config past) (ends_by config e past allowed) (ends_on config past allowed.1)
    (ends_last config past allowed.1)

-- where no frame came, the ends of what came last stay in range
ends_heard : (o : Option Arrival) (on : OnTuple) (config : Config) (e : Entry) (past : List Entry) (before : Occasion) → segment_came o ≡ Some on → EndsOf
    (occasion_after config e past o before) → IsTuple on.tuple
ends_heard None on config e past before is ends = cc
ends_heard (Some arrival) on config e past before is ends = subst AreEnds is ends

ends_newest : (config : Config) (past : List Entry) (o : Option OnTuple) → (book config past).came ≡ o → EndsOf (last_occasion config past) → AreEnds o
ends_newest config past None is ends = tt
ends_newest config [] (Some on) is ends = cc
ends_newest config (e ∷ past) (Some on) is ends = ends_heard (happens config past e).came on config e past (last_occasion config past) (is_newest on config e past is) ends

pub ends_stay : (config : Config) (e : Entry) (past : List Entry) → (happens config past e).came ≡ None → EndsOf (last_occasion config past) → EndsOf (last_occasion config (e ∷ past))
ends_stay config e past none ends =
    subst (λ o. EndsOf (occasion_after config e past o (last_occasion config past))) (sym none)
    (ends_call config past e (last_datagram config past) (book config past).came (last_occasion config past) (ends_newest config past (book config past).came refl ends) ends)

-- and where one came, they are those of the segment that it brought
pub ends_arrive : (config : Config) (e : Entry) (past : List Entry) (arrival : Arrival) → (happens config past e).came ≡ Some arrival → AreEnds (segment_by arrival.packet) → EndsOf
    (last_occasion config (e ∷ past))
ends_arrive config e past arrival came ends = subst (λ o. EndsOf (occasion_after config e past o (last_occasion config past))) (sym came) ends

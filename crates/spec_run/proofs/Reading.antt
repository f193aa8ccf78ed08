-- Our frames, as they are read.
use Rattle.std.proofs.Common.{◌≡◌, ℕ, ◌+◌, ◌/◌, ◌%◌, ◌^◌, ◌<◌, ◌≤◌, ◌==◌, ◌&&◌, not, nat_le, Bool, true, false, List, [], ◌∷◌, ◌++◌, length, take, drop, filter, find, map, Option, Some}
use Rattle.std.specs.Prelude.{unwrap_or}
use Rattle.std.specs.Option.{option_or}
use Rattle.std.proofs.Common.{None, Result, Ok, Err, option_map, option_and_then, cond, if◌then◌else◌, refl, sym, ◌∙◌, ap, subst, arith, lit<, zero, suc}
use Rattle.std.proofs.lemmas.Bool.Decides.{nat_tests}
use Rattle.std.proofs.lemmas.Nat.{from_be_bytes-to_be_bytes_2}
use Rattle.std.proofs.lemmas.Option.{cond_some}
use Rattle.world_face.specs.Journal.{Entry, Wait, LinkWrite, Connect, Close, UdpOpen, UdpSend, UdpRecv, FileLen, FileRead}
use Rattle.world_face.specs.declared.FileSize.{FileSize}
use Rattle.world_face.specs.declared.FileSize.TheVariants.{Length as FileLength, Missing, Failed as SizeFailed}
use Rattle.world_face.specs.declared.Io.{Io}
use Rattle.world_face.specs.declared.Io.TheVariants.{Done as IoDone, End as IoEnd, NotYet as IoNotYet, Failed as IoFailed}
use Rattle.world_face.specs.declared.Made.{Made}
use Rattle.world_face.specs.declared.Made.TheVariants.{Done as MadeDone, Failed as MadeFailed}
use Rattle.world_face.specs.declared.Sent.{Sent}
use Rattle.world_face.specs.declared.Sent.TheVariants.{Done as SentDone, NotYet as SentNotYet, Failed as SentFailed}
use Rattle.world_face.specs.declared.Got.{Got}
use Rattle.world_face.specs.declared.Got.TheVariants.{From, NotYet as GotNotYet, Failed as GotFailed}
use Rattle.world_face.specs.Frames.{arrives, goes_out}
use Rattle.net_octets.specs.declared.Endpoint.{Endpoint}
use Rattle.net_octets.specs.declared.Ip4.{Ip4}
use Rattle.net_octets.specs.declared.Mac.{Mac}
use Rattle.net_octets.specs.Kinds.{arp_kind, ipv4_kind, icmp_proto, udp_proto, tcp_proto}
use Rattle.net_octets.specs.Octets.{two_at, four_at, part, our_mac}
use Rattle.net_octets.proofs.Parts.{length-part}
use Rattle.slirp_settings.specs.Addresses.{Config, endpoint, is_answered_for, is_guest}
use Rattle.rules_udp.specs.declared.Reply.TheVariants.{Nothing, Datagram as ADatagram}
use Rattle.host_policy.specs.Targets.{is_hidden}
use Rattle.ether_frame.specs.Ether.{Ether, read_ether, ether_octets}
use Rattle.ether_frame.proofs.Encoding.{reads as reads_frame}
use Rattle.arp_table.specs.Arp.{Arp, read_arp, is_arp, arp_octets}
use Rattle.arp_table.specs.Table.{is_for as has_address, mac_of as learnt_for}
use Rattle.ipv4_head.specs.Ip.{Ip, read_ip, ip_octets, fragment_of}
use Rattle.ipv4_head.specs.Sets.{Part, PartSet}
use Rattle.icmp_echo.specs.Icmp.{Icmp, echo, unreachable, other as another, read_icmp}
use Rattle.udp_datagram.specs.Udp.{Udp, read_udp}
use Rattle.tcp_segment.specs.Tcp.{Tcp, read_tcp}
use Rattle.rules_dhcp.specs.declared.Lease.{Lease}
use Rattle.rules_dhcp.specs.declared.Message.{Message as LeaseMessage}
use Rattle.rules_dhcp.specs.declared.Answer.{Answer as LeaseAnswer}
use Rattle.rules_dhcp.specs.Messages.{is_request, message_of, message_with, one_in, options_in, read_message}
use Rattle.tlv_table.specs.Reading.{Found, first_body}
use Rattle.tlv_table.specs.declared.TlvFault.{TlvFault}
use Rattle.rules_dhcp.specs.Replies.{everybody, goes_to_all, is_silence, replied_octets, reply_octets, reply_to}
use Rattle.rules_dhcp.specs.Serving.{served}
use Rattle.rules_dns.specs.declared.Question.{Question}
use Rattle.rules_dns.specs.Questions.{is_answered, moved_last, numbered, without as without_question}
use Rattle.rules_tftp.specs.Asking.{by_answer}
use Rattle.rules_tftp.specs.Packets.{options_octets, Packet as FilePacket, Asks, AsksToWrite, Acknowledges, GivesUp, Unheard as FileUnheard, Request, Terms, is_name}
use Rattle.rules_tftp.specs.Packets.{packet_in as file_packet, request_in, terms_of}
use Rattle.rules_tftp.specs.Transfers.{transfer, Files, Outcome, Quest, Said, Settled as SeeksNothing, SeeksLength, SeeksOctets, Sought, Transfer, acknowledged, are_left, begins, begun}
use Rattle.rules_tftp.specs.Transfers.{is_for, leaves, length_came, measured, most_transfers, next_again, octets_came, octets_of, refuses, requested, requested_file, said_again}
use Rattle.rules_tftp.specs.Transfers.{seeks_block, seeks_next, sending, sends, sent_again, settled, taken_in, ticked, ticked_by, told_length, told_octets, with_again, with_room, without}
use Rattle.spec_trace.specs.Fragments.{arrived, waiting}
use Rattle.spec_trace.specs.Happenings.{Happening, arrival_of, datagram_by, datagram_came, happens}
use Rattle.spec_trace.specs.Guests.{known, with_arrival, with_pair}
use Rattle.spec_trace.specs.Moments.{moment}
use Rattle.spec_trace.specs.Sockets.{is_forward, kind_of}
use Rattle.spec_trace.specs.Packets.{Datagram, Packet, Unheard, ArpPacket, Message, DatagramPacket, Segment, Pair, datagram_in, datagram_of, may_come, packet_in, packet_of, packet_of_ip}
use Rattle.spec_trace.specs.Packets.{pair_by, pair_in, pair_of, whole_packet}
use Rattle.spec_flows.specs.Book.{book}
use Rattle.spec_flows.specs.Segments.{OnTuple, from_guest, segment_by, segment_came}
use Rattle.spec_flows.proofs.Newest.{is_newest}
use Rattle.spec_run.specs.Answers.{Answer, ArpAnswer, IpAnswer, Ledger, Serving, again_by_call, answer_of, answers_of, begins_again, begun_by, files_after, files_begun, files_by_call}
use Rattle.spec_run.specs.Answers.{files_by_verdict, files_by_outcome, files_by_packet, files_sent, identification, is_free, ledger, may_go_again, served_file, serving}
use Rattle.spec_run.specs.Answers.{told_of_files, unless_begun, arp_reply, is_untold, no_network, part_frame, owed_for_verdict, owed_for_icmp, owed_for_packet, reset_for, told_about}
use Rattle.spec_run.specs.Answers.{reply_for}
use Rattle.spec_run.specs.Datagrams.{Errand, DatagramVerdict, Ignored, Refused, ForLeases, ForFiles, GoesTo, asks_a_name, datagram_verdict}
use Rattle.spec_run.specs.Errands.{errand_left}
use Rattle.spec_run.specs.Leasing.{sending_of}
use Rattle.spec_run.specs.Names.{after_call as question_after, question, questions, with_heard as question_heard, with_opened as question_opened, with_sent as question_sent}
use Rattle.spec_run.specs.Ports.{last_datagram, last_mac, mac_by, mac_of, opened_for, mac_for, mac_known}
use Rattle.spec_run.specs.Said.{Carries, is_for_server, Occasion, NoOccasion, Came, Heard, HeardOfName, OfFile, Unsent, Unconnected, by_call, by_got, by_joined, by_made, by_outcome}
use Rattle.spec_run.specs.Said.{by_said, by_sent, for_guest, heard_on, last_occasion, occasion_after, owed_for, refused_or, unsent_or}
use Rattle.spec_run.proofs.Bools.{first_of}
use Rattle.spec_run.proofs.Encoded.{encoded}
use Rattle.spec_run.proofs.Steps.{errand_asks}
use Rattle.spec_run.proofs.Framing.{fragment_fits, our_six, place_kept}

-- ---- hardware addresses have six octets

abbrev pub SixPacket : Packet → Type 0
SixPacket Unheard = Unit {0}
SixPacket (ArpPacket arp) = length arp.sender_mac ≡ 6
SixPacket (Message mac ip message) = length mac ≡ 6
SixPacket (DatagramPacket d) = length d.mac ≡ 6
SixPacket (Segment mac ip tcp) = length mac ≡ 6

abbrev SixIn : Option Packet → Type 0
SixIn packet = SixPacket (unwrap_or packet Unheard)

six_if : (b : Bool) (one other : Option Packet) → SixIn one → SixIn other → SixIn (if b then one else other)
six_if true one other is else_ = is
six_if false one other is else_ = else_

six_arp : (octets : List ℕ) (o : Option Arp) → read_arp octets ≡ o → SixIn (option_map ArpPacket o)
six_arp octets None is = tt
six_arp octets (Some arp) is =
    let found = cond_some (is_arp octets) (record {
      is_reply = two_at octets 6 == 2;
      sender_mac = part octets 8 6;
      sender = four_at octets 14;
      target_mac = part octets 18 6;
      target = four_at octets 24;
    }) arp is in
    let long : nat_le 28 (length octets) ≡ true = first_of _ _ (first_of _ _ (first_of _ _ (first_of _ _ (first_of _ _ found.0)))) in
    let enough : 14 ≤ length octets = grind (arith, nat_tests, long) in
    ap (λ (a : Arp). length a.sender_mac) (sym found.1) ∙ length-part octets 8 6 enough

six_udp : (config : Config) (mac : List ℕ) (ip : Ip) (o : Option Udp) → length mac ≡ 6 → SixIn
    (option_and_then (λ udp. if may_come config ip udp then Some (DatagramPacket (datagram_of mac ip udp)) else None) o)
six_udp config mac ip None is = tt
six_udp config mac ip (Some udp) is = six_if (may_come config ip udp) (Some (DatagramPacket (datagram_of mac ip udp))) None is tt

six_icmp : (mac : List ℕ) (ip : Ip) (o : Option Icmp) → length mac ≡ 6 → SixIn (option_map (Message mac ip) o)
six_icmp mac ip None is = tt
six_icmp mac ip (Some message) is = is

six_tcp : (mac : List ℕ) (ip : Ip) (o : Option Tcp) → length mac ≡ 6 → SixIn (option_map (Segment mac ip) o)
six_tcp mac ip None is = tt
six_tcp mac ip (Some tcp) is = is

six_ip : (config : Config) (mac : List ℕ) (ip : Ip) → length mac ≡ 6 → SixIn (packet_of_ip config mac ip)
six_ip config mac ip is =
    six_if (ip.proto == udp_proto) (datagram_in config mac ip) _ (six_udp config mac ip (read_udp ip.from ip.to ip.body) is)
    (six_if (is_guest config ip.from) _ None
    (six_if (ip.proto == icmp_proto) (option_map (Message mac ip) (read_icmp ip.body)) _ (six_icmp mac ip (read_icmp ip.body) is)
    (six_if (ip.proto == tcp_proto) (option_map (Segment mac ip) (read_tcp ip.from ip.to ip.body)) None (six_tcp mac ip (read_tcp ip.from ip.to ip.body) is) tt))
    tt)

six_arrived : (config : Config) (mac : List ℕ) (o : Option Ip) → length mac ≡ 6 → SixIn (option_and_then (packet_of_ip config mac) o)
six_arrived config mac None is = tt
six_arrived config mac (Some ip) is = six_ip config mac ip is

six_whole : (config : Config) (now : ℕ) (sets : List PartSet) (mac octets : List ℕ) (o : Option Ip) → length mac ≡ 6 → SixIn (option_and_then (whole_packet config now sets mac octets) o)
six_whole config now sets mac octets None is = tt
six_whole config now sets mac octets (Some ip) is = six_arrived config mac (arrived config now sets octets ip) is

six_ether : (config : Config) (now : ℕ) (sets : List PartSet) (frame : List ℕ) (o : Option Ether) → read_ether frame ≡ o → SixIn (option_and_then (packet_of config now sets) o)
six_ether config now sets frame None is = tt
six_ether config now sets frame (Some ether) is =
    let found = cond_some (nat_le 14 (length frame)) (record { to = part frame 0 6; from = part frame 6 6; kind = two_at frame 12; body = drop 14 frame }) ether is in
    let enough : 12 ≤ length frame = (let long = found.0 in grind (arith, nat_tests, long)) in
    let mac : length ether.from ≡ 6 = ap (λ (e : Ether). length e.from) (sym found.1) ∙ length-part frame 6 6 enough in
    six_if (ether.kind == arp_kind) (option_map ArpPacket (read_arp ether.body)) _ (six_arp ether.body (read_arp ether.body) refl)
    (six_if (ether.kind == ipv4_kind) (option_and_then (whole_packet config now sets ether.from ether.body) (read_ip ether.body)) None
    (six_whole config now sets ether.from ether.body (read_ip ether.body) mac) tt)

six_packet : (config : Config) (now : ℕ) (sets : List PartSet) (frame : List ℕ) → SixPacket (packet_in config now sets frame)
six_packet config now sets frame = six_ether config now sets frame (read_ether frame) refl

-- and so has that of the segment that came last
abbrev pub SixOn : Option OnTuple → Type 0
SixOn None = Unit {0}
SixOn (Some on) = length on.mac ≡ 6

six_segment : (packet : Packet) → SixPacket packet → SixOn (segment_by packet)
six_segment (Segment mac ip tcp) is = is
six_segment Unheard is = tt
six_segment (ArpPacket arp) is = tt
six_segment (Message mac ip message) is = tt
six_segment (DatagramPacket d) is = tt

six_arrival : (config : Config) (now : ℕ) (sets : List PartSet) (o : Option (List ℕ)) → SixOn (segment_came (option_map (arrival_of config now sets) o))
six_arrival config now sets None = tt
six_arrival config now sets (Some frame) = six_segment (packet_in config now sets frame) (six_packet config now sets frame)

pub six_on : (config : Config) (past : List Entry) → SixOn (book config past).came
six_on config [] = tt
six_on config (e ∷ past) = by (book config (e ∷ past)).came refl
  where
    by : (o : Option OnTuple) → (book config (e ∷ past)).came ≡ o → SixOn o
    by None is = tt
    by (Some on) is = subst SixOn (is_newest on config e past is) (six_arrival config (moment past) (waiting config past) (arrives e past))

abbrev SixDatagram : Option Datagram → Type 0
SixDatagram None = Unit {0}
SixDatagram (Some d) = length d.mac ≡ 6

six_by : (packet : Packet) (last : Option Datagram) → SixPacket packet → SixDatagram last → SixDatagram (option_or (datagram_by packet) last)
six_by (DatagramPacket d) last is before = is
six_by Unheard last is before = before
six_by (ArpPacket arp) last is before = before
six_by (Message mac ip message) last is before = before
six_by (Segment mac ip tcp) last is before = before

six_came : (config : Config) (now : ℕ) (sets : List PartSet) (o : Option (List ℕ)) (last : Option Datagram) → SixDatagram last → SixDatagram
    (option_or (datagram_came (option_map (arrival_of config now sets) o)) last)
six_came config now sets None last before = before
six_came config now sets (Some frame) last before = six_by (packet_in config now sets frame) last (six_packet config now sets frame) before

six_last : (config : Config) (past : List Entry) → SixDatagram (last_datagram config past)
six_last config [] = tt
six_last config (e ∷ past) = six_came config (moment past) (waiting config past) (arrives e past) (last_datagram config past) (six_last config past)

abbrev pub SixMac : Option (List ℕ) → Type 0
SixMac None = Unit {0}
SixMac (Some mac) = length mac ≡ 6

six_mac_of : (o : Option Datagram) → SixDatagram o → SixMac (option_map (λ (d : Datagram). d.mac) o)
six_mac_of None is = tt
six_mac_of (Some d) is = is

six_either : (b : Bool) (one before : Option (List ℕ)) → SixMac one → SixMac before → SixMac (if b then one else before)
six_either true one before is was = is
six_either false one before is was = was

six_mac_by : (n : ℕ) (e : Entry) (one before : Option (List ℕ)) → SixMac one → SixMac before → SixMac (mac_by n e one before)
six_mac_by n (UdpOpen s at answer) one before is was = six_either (s == n) one before is was
six_mac_by n (UdpSend s to octets answer) one before is was = six_either (s == n) one before is was
six_mac_by n _ one before is was = was

pub six_mac : (config : Config) (n : ℕ) (past : List Entry) → SixMac (mac_of config n past)
six_mac config n [] = tt
six_mac config n (e ∷ past) = six_mac_by n e (last_mac config past) (mac_of config n past) (six_mac_of (last_datagram config past) (six_last config past)) (six_mac config n past)

-- ---- of the guests that are known

abbrev SixPair : Option Pair → Type 0
SixPair None = Unit {0}
SixPair (Some pair) = length pair.mac ≡ 6

six_pair_if : (b : Bool) (one other : Option Pair) → SixPair one → SixPair other → SixPair (if b then one else other)
six_pair_if true one other is else_ = is
six_pair_if false one other is else_ = else_

six_pair_of : (config : Config) (addr : ℕ) (mac : List ℕ) → length mac ≡ 6 → SixPair (pair_of config addr mac)
six_pair_of config addr mac is = six_pair_if (is_guest config addr) (Some (record { address = addr; mac = mac })) None is tt

six_pair_arp : (config : Config) (octets : List ℕ) (o : Option Arp) → read_arp octets ≡ o → SixPair (option_and_then (λ arp. pair_of config arp.sender arp.sender_mac) o)
six_pair_arp config octets None is = tt
six_pair_arp config octets (Some arp) is = six_pair_of config arp.sender arp.sender_mac (six_arp octets (Some arp) is)

six_pair_ip : (config : Config) (mac : List ℕ) (o : Option Ip) → length mac ≡ 6 → SixPair (option_and_then (λ ip. pair_of config ip.from mac) o)
six_pair_ip config mac None is = tt
six_pair_ip config mac (Some ip) is = six_pair_of config ip.from mac is

six_pair_ether : (config : Config) (frame : List ℕ) (o : Option Ether) → read_ether frame ≡ o → SixPair (option_and_then (pair_by config) o)
six_pair_ether config frame None is = tt
six_pair_ether config frame (Some ether) is =
    let found = cond_some (nat_le 14 (length frame)) (record { to = part frame 0 6; from = part frame 6 6; kind = two_at frame 12; body = drop 14 frame }) ether is in
    let enough : 12 ≤ length frame = (let long = found.0 in grind (arith, nat_tests, long)) in
    let mac : length ether.from ≡ 6 = ap (λ (e : Ether). length e.from) (sym found.1) ∙ length-part frame 6 6 enough in
    six_pair_if (ether.kind == arp_kind) (option_and_then (λ arp. pair_of config arp.sender arp.sender_mac) (read_arp ether.body)) _ (six_pair_arp config ether.body (read_arp ether.body) refl)
    (six_pair_if (ether.kind == ipv4_kind) (option_and_then (λ ip. pair_of config ip.from ether.from) (read_ip ether.body)) None (six_pair_ip config ether.from (read_ip ether.body) mac) tt)

six_pair : (config : Config) (frame : List ℕ) → SixPair (pair_in config frame)
six_pair config frame = six_pair_ether config frame (read_ether frame) refl

abbrev SixPairs : List (Ip4 × Mac) → Type 0
SixPairs [] = Unit {0}
SixPairs (pair ∷ pairs) = (length pair.1.0 ≡ 6) × SixPairs pairs

six_filter : (p : Ip4 × Mac → Bool) (pairs : List (Ip4 × Mac)) → SixPairs pairs → SixPairs (filter p pairs)
six_filter p [] is = tt
six_filter p (pair ∷ pairs) is = by (p pair) (six_filter p pairs is.1)
  where
    by : (b : Bool) → SixPairs (filter p pairs) → SixPairs (if b then pair ∷ filter p pairs else filter p pairs)
    by true rest = (is.0, rest)
    by false rest = rest

six_take : (n : ℕ) (pairs : List (Ip4 × Mac)) → SixPairs pairs → SixPairs (take n pairs)
six_take zero [] is = tt
six_take zero (pair ∷ pairs) is = tt
six_take (suc n) [] is = tt
six_take (suc n) (pair ∷ pairs) is = (is.0, six_take n pairs is.1)

six_learnt : (o : Option Pair) (pairs : List (Ip4 × Mac)) → SixPair o → SixPairs pairs → SixPairs (with_pair o pairs)
six_learnt None pairs is before = before
six_learnt (Some pair) pairs is before =
    let address : Ip4 = record { 0 = pair.address } in
    let rest : List (Ip4 × Mac) = filter (λ p. not (has_address address p)) pairs in
    let both : SixPairs ((address, record { 0 = pair.mac }) ∷ rest) = (is, six_filter (λ p. not (has_address address p)) pairs before) in
    six_take 64 ((address, record { 0 = pair.mac }) ∷ rest) both

six_known_by : (config : Config) (now : ℕ) (sets : List PartSet) (o : Option (List ℕ)) (pairs : List (Ip4 × Mac)) → SixPairs pairs → SixPairs
    (with_arrival (option_map (arrival_of config now sets) o) pairs)
six_known_by config now sets None pairs before = before
six_known_by config now sets (Some frame) pairs before = six_learnt (pair_in config frame) pairs (six_pair config frame) before

six_known : (config : Config) (past : List Entry) → SixPairs (known config past)
six_known config [] = tt
six_known config (e ∷ past) = six_known_by config (moment past) (waiting config past) (arrives e past) (known config past) (six_known config past)

six_address : (ip : Ip4) (pairs : List (Ip4 × Mac)) → SixPairs pairs → SixMac (option_map (λ (m : Mac). m.0) (learnt_for ip pairs))
six_address ip [] is = tt
six_address ip (pair ∷ pairs) is = by (has_address ip pair) (six_address ip pairs is.1)
  where
    by : (b : Bool) → SixMac (option_map (λ (m : Mac). m.0) (learnt_for ip pairs)) → SixMac
        (option_map (λ (m : Mac). m.0) (option_map (λ (p : Ip4 × Mac). p.1) (if b then Some pair else find (has_address ip) pairs)))
    by true rest = is.0
    by false rest = rest

six_mac_known : (config : Config) (past : List Entry) (o : Option Endpoint) → SixMac (mac_known config past o)
six_mac_known config past None = tt
six_mac_known config past (Some guest) = six_address guest.addr (known config past) (six_known config past)

pub six_mac_for : (config : Config) (n : ℕ) (past : List Entry) → SixMac (mac_for config n past)
six_mac_for config n past =
    six_either (is_forward (kind_of n past)) (mac_known config past (opened_for config n past)) (mac_of config n past) (six_mac_known config past (opened_for config n past)) (six_mac config n past)

-- and so has that of each question
abbrev SixQuestions : List Question → Type 0
SixQuestions [] = Unit {0}
SixQuestions (q ∷ list) = (length q.mac.0 ≡ 6) × SixQuestions list

abbrev SixQuestion : Option Question → Type 0
SixQuestion None = Unit {0}
SixQuestion (Some q) = length q.mac.0 ≡ 6

six_numbered : (n : ℕ) (list : List Question) → SixQuestions list → SixQuestion (numbered n list)
six_numbered n [] is = tt
six_numbered n (q ∷ list) is = by (q.number == n) (six_numbered n list is.1)
  where
    by : (b : Bool) → SixQuestion (numbered n list) → SixQuestion (if b then Some q else numbered n list)
    by true rest = is.0
    by false rest = rest

six_more : (list : List Question) (q : Question) → SixQuestions list → length q.mac.0 ≡ 6 → SixQuestions (list ++ (q ∷ []))
six_more [] q is one = (one, tt)
six_more (x ∷ list) q is one = (is.0, six_more list q is.1 one)

six_moved : (change : Question → Question) (n : ℕ) (list : List Question) → ((q : Question) → length q.mac.0 ≡ 6 → length (change q).mac.0 ≡ 6) → SixQuestions list → SixQuestions
    (moved_last change n list)
six_moved change n [] keeps is = tt
six_moved change n (q ∷ list) keeps is = by (q.number == n) (six_moved change n list keeps is.1)
  where
    by : (b : Bool) → SixQuestions (moved_last change n list) → SixQuestions (if b then list ++ (change q ∷ []) else q ∷ moved_last change n list)
    by true rest = six_more list (change q) is.1 (keeps q is.0)
    by false rest = (is.0, rest)

six_shut : (n : ℕ) (list : List Question) → SixQuestions list → SixQuestions (without_question n list)
six_shut n [] is = tt
six_shut n (q ∷ list) is = by (q.number == n) (six_shut n list is.1)
  where
    by : (b : Bool) → SixQuestions (without_question n list) → SixQuestions (if not b then q ∷ without_question n list else without_question n list)
    by true rest = rest
    by false rest = (is.0, rest)

abbrev SixErrand : Option Errand → Type 0
SixErrand None = Unit {0}
SixErrand (Some errand) = length errand.datagram.mac ≡ 6

six_errand : (config : Config) (past : List Entry) → SixErrand (errand_left config past)
six_errand config past = by (errand_left config past) refl
  where
    came : (o : Option Datagram) (errand : Errand) → o ≡ Some errand.datagram → SixDatagram o → length errand.datagram.mac ≡ 6
    came None errand is one = cc
    came (Some d) errand is one = (let this : d ≡ errand.datagram = cc in subst (λ x. length x.mac ≡ 6) this one)

    by : (o : Option Errand) → errand_left config past ≡ o → SixErrand o
    by None is = tt
    by (Some errand) is = came (last_datagram config past) errand (errand_asks config past errand is).datagram (six_last config past)

six_asked : (config : Config) (answer : Made) (socket now : ℕ) (o : Option Errand) (list : List Question) → SixErrand o → SixQuestions list → SixQuestions
    (question_opened config answer socket now o list)
six_asked config MadeDone socket now None list one is = is
six_asked config MadeDone socket now (Some errand) list one is = by (asks_a_name config errand)
  where
    by : (b : Bool) → SixQuestions (if b then list ++ (question socket errand now ∷ []) else list)
    by true = six_more list (question socket errand now) is one
    by false = is
six_asked config MadeFailed socket now o list one is = is

six_sent_on : (socket now : ℕ) (o : Option Errand) (list : List Question) → SixErrand o → SixQuestions list → SixQuestions (question_sent socket now o list)
six_sent_on socket now None list one is = is
six_sent_on socket now (Some errand) list one is = six_moved _ socket list (λ q six. one) is

six_heard_by : (answer : Got) (socket now : ℕ) (list : List Question) → SixQuestions list → SixQuestions (question_heard answer socket now list)
six_heard_by (From peer n) socket now list is = six_moved _ socket list (λ q six. six) is
six_heard_by GotNotYet socket now list is = is
six_heard_by GotFailed socket now list is = is

six_questions_by : (config : Config) (e : Entry) (now : ℕ) (o : Option Errand) (list : List Question) → SixErrand o → SixQuestions list → SixQuestions (question_after config e now o list)
six_questions_by config (Close socket) now o list one is = six_shut socket list is
six_questions_by config (UdpOpen socket at answer) now o list one is = six_asked config answer socket now o list one is
six_questions_by config (UdpSend socket to octets answer) now o list one is = six_sent_on socket now o list one is
six_questions_by config (UdpRecv socket asked answer octets) now o list one is = six_heard_by answer socket now list is
six_questions_by config _ now o list one is = is

pub six_questions : (config : Config) (past : List Entry) → SixQuestions (questions config past)
six_questions config [] = tt
six_questions config (e ∷ past) = six_questions_by config e (moment past) (errand_left config past) (questions config past) (six_errand config past) (six_questions config past)

-- ---- of each answer

abbrev pub SixAnswer : Answer → Type 0
SixAnswer (ArpAnswer to arp) = (length to ≡ 6) × (length arp.sender_mac ≡ 6)
SixAnswer (IpAnswer to proto from guest body) = length to ≡ 6

-- a message or a segment, where it isn't a reply to what a peer sent
abbrev pub IsMessage : Answer → Type 0
IsMessage (ArpAnswer to arp) = Unit {0}
IsMessage (IpAnswer to proto from guest body) = proto ≡ udp_proto → ⊥

no_message : ◌≡◌ {A = ℕ} icmp_proto udp_proto → ⊥
no_message is = omega (arith, is)

pub no_segment : ◌≡◌ {A = ℕ} tcp_proto udp_proto → ⊥
no_segment is = omega (arith, is)

abbrev pub AllAnswers : (Answer → Type 0) → List Answer → Type 0
AllAnswers P [] = Unit {0}
AllAnswers P (a ∷ answers) = P a × AllAnswers P answers

abbrev pub IsOurs : Answer → Type 0
IsOurs a = SixAnswer a × IsMessage a

pub all_if : (P : Answer → Type 0) (b : Bool) (one other : List Answer) → AllAnswers P one → AllAnswers P other → AllAnswers P (if b then one else other)
all_if P true one other is else_ = is
all_if P false one other is else_ = else_

all_six : (answers : List Answer) → AllAnswers IsOurs answers → AllAnswers SixAnswer answers
all_six [] is = tt
all_six (a ∷ answers) is = (is.0.0, all_six answers is.1)

ours_icmp : (mac : List ℕ) (ip : Ip) (message : Icmp) → length mac ≡ 6 → AllAnswers IsOurs (owed_for_icmp mac ip message)
ours_icmp mac ip (echo true ident number body) is = tt
ours_icmp mac ip (echo false ident number body) is = ((is, no_message), tt)
ours_icmp mac ip (unreachable code quoted) is = tt
ours_icmp mac ip (another kind code) is = tt

pub ours_told : (config : Config) (code : ℕ) (d : Datagram) → length d.mac ≡ 6 → AllAnswers IsOurs (told_about config code d)
ours_told config code d is = all_if IsOurs (is_untold config d) [] _ tt ((is, no_message), tt)

-- what a server of files tells, as one answer
abbrev pub file_answer : Config → Said → Answer
file_answer config s = answer_of (record { mac = s.mac; from = endpoint config.vhost 69; to = s.guest; body = s.octets })

abbrev pub SixSaid : Option Said → Type 0
SixSaid None = Unit {0}
SixSaid (Some said) = length said.mac ≡ 6

six_told : (config : Config) (o : Option Said) → SixSaid o → AllAnswers SixAnswer (told_of_files config o)
six_told config None is = tt
six_told config (Some said) is = (is, tt)

-- the reply to a client goes to all, or to it
six_client : (octets : List ℕ) (m : LeaseMessage) → read_message octets ≡ Some m → length m.mac.0 ≡ 6
six_client octets m is = by (is_request octets) refl is
  where
    made : (found : List Found) (o : Option ℕ) → 34 ≤ length octets → option_map (message_with octets found) o ≡ Some m → length m.mac.0 ≡ 6
    made found None long is = cc
    made found (Some kind) long is = (let this : message_with octets found kind ≡ m = cc in ap (λ (x : LeaseMessage). length x.mac.0) (sym this) ∙ length-part octets 28 6 long)

    read : (r : Result (List Found) TlvFault) → 34 ≤ length octets → message_of octets r ≡ Some m → length m.mac.0 ≡ 6
    read (Ok found) long is = made found (option_and_then one_in (first_body 53 found)) long is
    read (Err fault) long is = cc

    by : (b : Bool) → is_request octets ≡ b → (if b then message_of octets (options_in octets) else None) ≡ Some m → length m.mac.0 ≡ 6
    by true request is =
        let long : nat_le 240 (length octets) ≡ true = first_of _ _ (first_of _ _ (first_of _ _ (first_of _ _ (first_of _ _ request)))) in
        read (options_in octets) (grind (arith, nat_tests, long)) is
    by false request is = cc

six_lease : (config : Config) (now : ℕ) (leases : List Lease) (octets : List ℕ) (o : Option LeaseMessage) → read_message octets ≡ o → AllAnswers SixAnswer
    (answers_of (sending_of (reply_to config now leases o) (replied_octets config now leases o)))
six_lease config now leases octets None is = tt
six_lease config now leases octets (Some m) is = by (is_silence answer) (goes_to_all m answer)
  where
    answer : LeaseAnswer
    answer = (served config now leases (Some m)).answer

    by : (silent all : Bool) → AllAnswers SixAnswer (answers_of (sending_of
        (if silent then Nothing else (if all then ADatagram (length (reply_octets config m answer)) (endpoint config.vhost 67) (endpoint 0xffffffff 68) (Some everybody)
        else ADatagram (length (reply_octets config m answer)) (endpoint config.vhost 67) (endpoint m.client.0 68) (Some m.mac))) (replied_octets config now leases (Some m))))
    by true all = tt
    by false true = (refl, tt)
    by false false = (six_client octets m is, tt)

-- ---- and so have those that transfers of files have

abbrev pub SixTransfers : List Transfer → Type 0
SixTransfers [] = Unit {0}
SixTransfers (t ∷ transfers) = (length t.mac ≡ 6) × SixTransfers transfers

abbrev pub SixQuest : Quest → Type 0
SixQuest SeeksNothing = Unit {0}
SixQuest (SeeksLength s) = length s.mac ≡ 6
SixQuest (SeeksOctets t there) = length t.mac ≡ 6

pub record SixFiles (files : Files) : Type 0 where
  pub transfers : SixTransfers files.transfers
  pub quest : SixQuest files.quest

record SixOutcome (o : Outcome) : Type 0 where
  files : SixFiles o.files
  told : SixSaid o.told

six_settled : (transfers : List Transfer) → SixTransfers transfers → SixFiles (settled transfers)
six_settled transfers is = record { transfers = is; quest = tt }

six_leaves : (transfers : List Transfer) → SixTransfers transfers → SixOutcome (leaves transfers)
six_leaves transfers is = record { files = six_settled transfers is; told = tt }

six_refuses : (code : ℕ) (mac : List ℕ) (guest : Endpoint) (transfers : List Transfer) → length mac ≡ 6 → SixTransfers transfers → SixOutcome (refuses code mac guest transfers)
six_refuses code mac guest transfers mac_six is = record { files = six_settled transfers is; told = mac_six }

six_outcome_if : (b : Bool) (one other : Outcome) → SixOutcome one → SixOutcome other → SixOutcome (if b then one else other)
six_outcome_if true one other is else_ = is
six_outcome_if false one other is else_ = else_

six_filtered : (p : Transfer → Bool) (transfers : List Transfer) → SixTransfers transfers → SixTransfers (filter p transfers)
six_filtered p [] is = tt
six_filtered p (t ∷ transfers) is = by (p t) (six_filtered p transfers is.1)
  where
    by : (b : Bool) → SixTransfers (filter p transfers) → SixTransfers (if b then t ∷ filter p transfers else filter p transfers)
    by true rest = (is.0, rest)
    by false rest = rest

six_last_of : (transfers : List Transfer) (t : Transfer) → SixTransfers transfers → length t.mac ≡ 6 → SixTransfers (transfers ++ (t ∷ []))
six_last_of [] t is one = (one, tt)
six_last_of (u ∷ transfers) t is one = (is.0, six_last_of transfers t is.1 one)

six_first_gone : (transfers : List Transfer) → SixTransfers transfers → SixTransfers (drop 1 transfers)
six_first_gone [] is = tt
six_first_gone (t ∷ transfers) is = is.1

six_room : (transfers : List Transfer) → SixTransfers transfers → SixTransfers (with_room transfers)
six_room transfers is = by (nat_le most_transfers (length transfers))
  where
    by : (b : Bool) → SixTransfers (if b then drop 1 transfers else transfers)
    by true = six_first_gone transfers is
    by false = is

abbrev SixTransfer : Option Transfer → Type 0
SixTransfer None = Unit {0}
SixTransfer (Some t) = length t.mac ≡ 6

six_found : (p : Transfer → Bool) (transfers : List Transfer) → SixTransfers transfers → SixTransfer (find p transfers)
six_found p [] is = tt
six_found p (t ∷ transfers) is = by (p t) (six_found p transfers is.1)
  where
    by : (b : Bool) → SixTransfer (find p transfers) → SixTransfer (if b then Some t else find p transfers)
    by true rest = is.0
    by false rest = rest

six_sends : (now : ℕ) (last : Bool) (packet : List ℕ) (t : Transfer) (others : List Transfer) → length t.mac ≡ 6 → SixTransfers others → SixOutcome (sends now last packet t others)
six_sends now last packet t others one is = record { files = six_settled _ (six_last_of others (sending now last packet t) is one); told = one }

six_seeks : (now : ℕ) (t : Transfer) (others : List Transfer) → length t.mac ≡ 6 → SixTransfers others → SixOutcome (seeks_block now t others)
six_seeks now t others one is = six_outcome_if (octets_of t == 0) _ _ (six_sends now _ _ t others one is) (record { files = record { transfers = is; quest = one }; told = tt })

six_next : (now : ℕ) (t : Transfer) (others : List Transfer) → length t.mac ≡ 6 → SixTransfers others → SixOutcome (seeks_next now t others)
six_next now t others one is = six_seeks now (record t { block = t.block + 1 }) others one is

six_asked_for : (mac : List ℕ) (guest : Endpoint) (r : Request) (others : List Transfer) (folder : Option (List ℕ)) → length mac ≡ 6 → SixTransfers others → SixOutcome
    (requested_file mac guest r others folder)
six_asked_for mac guest r others None one is = six_refuses 2 mac guest others one is
six_asked_for mac guest r others (Some folder) one is = six_outcome_if (is_name r.name) _ _ (record { files = record { transfers = is; quest = one }; told = tt })
    (six_refuses 2 mac guest others one is)

six_requested : (folder : Option (List ℕ)) (mac : List ℕ) (guest : Endpoint) (r : Option Request) (others : List Transfer) → length mac ≡ 6 → SixTransfers others → SixOutcome
    (requested folder mac guest r others)
six_requested folder mac guest None others one is = six_refuses 4 mac guest others one is
six_requested folder mac guest (Some r) others one is = six_outcome_if _ _ _ (six_asked_for mac guest r others folder one is) (six_refuses 4 mac guest others one is)

six_acknowledged : (now block : ℕ) (o : Option Transfer) (transfers : List Transfer) → SixTransfer o → SixTransfers transfers → SixOutcome (acknowledged now block o transfers)
six_acknowledged now block None transfers one is = six_leaves transfers is
six_acknowledged now block (Some t) transfers one is =
    six_outcome_if (block == t.block % 2 ^ 16) _ _
    (six_outcome_if t.is_last _ _ (six_leaves _ (six_filtered _ transfers is)) (six_next now t (without t.guest transfers) one (six_filtered _ transfers is)))
    (six_leaves transfers is)

six_taken : (folder : Option (List ℕ)) (now : ℕ) (mac : List ℕ) (guest : Endpoint) (p : FilePacket) (transfers : List Transfer) → length mac ≡ 6 → SixTransfers transfers →
    SixOutcome (taken_in folder now mac guest p transfers)
six_taken folder now mac guest (Asks texts) transfers one is = six_requested folder mac guest (request_in texts) (without guest transfers) one (six_filtered _ transfers is)
six_taken folder now mac guest AsksToWrite transfers one is = six_refuses 2 mac guest transfers one is
six_taken folder now mac guest (Acknowledges block) transfers one is = six_acknowledged now block (find (is_for guest) transfers) transfers (six_found (is_for guest) transfers is) is
six_taken folder now mac guest GivesUp transfers one is = six_leaves _ (six_filtered _ transfers is)
six_taken folder now mac guest FileUnheard transfers one is = six_leaves transfers is

six_begins : (now file_length : ℕ) (s : Sought) (terms : Terms) (others : List Transfer) → length s.mac ≡ 6 → SixTransfers others → SixOutcome (begins now file_length s terms others)
six_begins now file_length s terms others one is =
    six_outcome_if (length terms.answered == 0) _ _ (six_next now (transfer file_length s terms) others one is)
    (six_sends now false (options_octets terms) (transfer file_length s terms) others one is)

six_measured : (now file_length : ℕ) (s : Sought) (terms : Option Terms) (others : List Transfer) → length s.mac ≡ 6 → SixTransfers others → SixOutcome (measured now file_length s terms others)
six_measured now file_length s None others one is = six_refuses 8 s.mac s.guest others one is
six_measured now file_length s (Some terms) others one is = six_begins now file_length s terms (with_room others) one (six_room others is)

six_told_length : (now : ℕ) (answer : FileSize) (s : Sought) (others : List Transfer) → length s.mac ≡ 6 → SixTransfers others → SixOutcome (told_length now answer s others)
six_told_length now (FileLength n) s others one is = six_measured now n s (terms_of n s.options) others one is
six_told_length now Missing s others one is = six_refuses 1 s.mac s.guest others one is
six_told_length now SizeFailed s others one is = six_refuses 0 s.mac s.guest others one is

six_told_octets : (now : ℕ) (answer : Io) (octets there : List ℕ) (t : Transfer) (others : List Transfer) → length t.mac ≡ 6 → SixTransfers others → SixOutcome
    (told_octets now answer octets there t others)
six_told_octets now (IoDone n) octets there t others one is =
    six_outcome_if (nat_le (octets_of t) (length (there ++ octets))) _ _ (six_sends now _ _ t others one is) (record { files = record { transfers = is; quest = one }; told = tt })
six_told_octets now IoEnd octets there t others one is = six_refuses 0 t.mac t.guest others one is
six_told_octets now IoNotYet octets there t others one is = six_refuses 0 t.mac t.guest others one is
six_told_octets now IoFailed octets there t others one is = six_refuses 0 t.mac t.guest others one is

six_length : (now : ℕ) (answer : FileSize) (q : Quest) (transfers : List Transfer) → SixQuest q → SixTransfers transfers → SixOutcome (length_came now answer q transfers)
six_length now answer (SeeksLength s) transfers one is = six_told_length now answer s transfers one is
six_length now answer SeeksNothing transfers one is = six_leaves transfers is
six_length now answer (SeeksOctets t there) transfers one is = six_leaves transfers is

six_octets : (now : ℕ) (answer : Io) (octets : List ℕ) (q : Quest) (transfers : List Transfer) → SixQuest q → SixTransfers transfers → SixOutcome (octets_came now answer octets q transfers)
six_octets now answer octets (SeeksOctets t there) transfers one is = six_told_octets now answer octets there t transfers one is
six_octets now answer octets SeeksNothing transfers one is = six_leaves transfers is
six_octets now answer octets (SeeksLength s) transfers one is = six_leaves transfers is

abbrev SixAnswered : Option Outcome → Type 0
SixAnswered None = Unit {0}
SixAnswered (Some o) = SixOutcome o

six_answered : (now : ℕ) (e : Entry) (files : Files) → SixFiles files → SixAnswered (by_answer now e files)
six_answered now (FileLen name answer) files is = six_length now answer files.quest files.transfers is.quest is.transfers
six_answered now (FileRead name place asked answer octets) files is = six_octets now answer octets files.quest files.transfers is.quest is.transfers
six_answered now _ files is = tt

-- packets that go again
six_mapped : (change : Transfer → Transfer) (transfers : List Transfer) → ((t : Transfer) → (change t).mac ≡ t.mac) → SixTransfers transfers → SixTransfers (map change transfers)
six_mapped change [] keeps is = tt
six_mapped change (t ∷ transfers) keeps is = (ap length (keeps t) ∙ is.0, six_mapped change transfers keeps is.1)

same_mac_again : (now : ℕ) (guest : Endpoint) (t : Transfer) → (if is_for guest t then sent_again now t else t).mac ≡ t.mac
same_mac_again now guest t = by (is_for guest t)
  where
    by : (b : Bool) → (if b then sent_again now t else t).mac ≡ t.mac
    by true = refl
    by false = refl

six_with_again : (now : ℕ) (guest : Endpoint) (transfers : List Transfer) → SixTransfers transfers → SixTransfers (with_again now guest transfers)
six_with_again now guest transfers is = six_mapped _ transfers (same_mac_again now guest) is

six_ticked : (now : ℕ) (free : Bool) (transfers : List Transfer) → SixTransfers transfers → SixTransfers (ticked now free transfers)
six_ticked now true transfers is = by (next_again now transfers)
  where
    by : (o : Option Transfer) → SixTransfers (ticked_by now (are_left now transfers) o)
    by None = six_filtered _ transfers is
    by (Some t) = six_with_again now t.guest (are_left now transfers) (six_filtered _ transfers is)
six_ticked now false transfers is = six_filtered _ transfers is

six_said : (o : Option Transfer) → SixTransfer o → SixSaid (option_map said_again o)
six_said None is = tt
six_said (Some t) is = is

six_begun : (now : ℕ) (free : Bool) (transfers : List Transfer) → SixTransfers transfers → SixSaid (begun now free transfers)
six_begun now true transfers is = six_said (next_again now transfers) (six_found _ transfers is)
six_begun now false transfers is = tt

-- ---- of what the services keep

pub record SixServing (s : Serving) : Type 0 where
  pub files : SixFiles s.files
  pub again : SixSaid s.again

six_or : (one other : Option Said) → SixSaid one → SixSaid other → SixSaid (option_or one other)
six_or None other first second = second
six_or (Some said) other first second = first

six_begun_by : (now : ℕ) (o : Option Transfer) (files : Files) → SixFiles files → SixFiles (begun_by now o files)
six_begun_by now None files is = is
six_begun_by now (Some t) files is = record { transfers = six_with_again now t.guest files.transfers is.transfers; quest = is.quest }

six_sent : (b : Bool) (s : Serving) → SixServing s → SixFiles (files_sent b s)
six_sent false s is = is.files
six_sent true s is = by s.again
  where
    by : (o : Option Said) → SixFiles (files_begun s.now o s.files)
    by None = six_begun_by s.now (next_again s.now s.files.transfers) s.files is.files
    by (Some said) = is.files

six_unless : (b : Bool) (o : Option Said) → SixSaid o → SixSaid (unless_begun b o)
six_unless true o is = tt
six_unless false o is = is

six_after_outcome : (o : Option Outcome) (files : Files) → SixAnswered o → SixFiles files → SixFiles (files_by_outcome o files)
six_after_outcome None files one is = is
six_after_outcome (Some o) files one is = one.files

six_by_verdict : (config : Config) (s : Serving) (d : Datagram) (what : DatagramVerdict) → length d.mac ≡ 6 → SixServing s → SixFiles (files_by_verdict config s d what)
six_by_verdict config s d ForFiles one is = (six_taken config.tftp_path s.now d.mac d.from (file_packet d.body) s.files.transfers one is.files.transfers).files
six_by_verdict config s d Ignored one is = is.files
six_by_verdict config s d Refused one is = is.files
six_by_verdict config s d ForLeases one is = is.files
six_by_verdict config s d (GoesTo to) one is = is.files

six_by_packet : (config : Config) (s : Serving) (p : Packet) → SixPacket p → SixServing s → SixFiles (files_by_packet config s p)
six_by_packet config s (DatagramPacket d) one is = six_by_verdict config s d (datagram_verdict config d) one is
six_by_packet config s Unheard one is = is.files
six_by_packet config s (ArpPacket arp) one is = is.files
six_by_packet config s (Message mac ip message) one is = is.files
six_by_packet config s (Segment mac ip tcp) one is = is.files

six_files_by : (config : Config) (past : List Entry) (h : Happening) (e : Entry) (l : Ledger) → SixServing l.serving → SixFiles (files_by_call config past h e l)
six_files_by config past h (Wait wants timeout answer ready) l is = record { transfers = six_ticked l.serving.now (is_free l) l.serving.files.transfers is.files.transfers; quest = is.files.quest }
six_files_by config past h (LinkWrite octets answer) l is = six_sent (begins_again config (identification past) l h.went) l.serving is
six_files_by config past h (FileLen name answer) l is = six_after_outcome (by_answer l.serving.now (FileLen name answer) l.serving.files) l.serving.files
    (six_answered l.serving.now (FileLen name answer) l.serving.files is.files) is.files
six_files_by config past h (FileRead name place asked answer octets) l is = six_after_outcome
    (by_answer l.serving.now (FileRead name place asked answer octets) l.serving.files) l.serving.files
    (six_answered l.serving.now (FileRead name place asked answer octets) l.serving.files is.files) is.files
six_files_by config past h _ l is = is.files

six_again_by : (config : Config) (past : List Entry) (h : Happening) (e : Entry) (l : Ledger) → SixServing l.serving → SixSaid (again_by_call config past h e l)
six_again_by config past h (Wait wants timeout answer ready) l is = six_or l.serving.again _ is.again (six_begun l.serving.now (is_free l) l.serving.files.transfers is.files.transfers)
six_again_by config past h (LinkWrite octets answer) l is = six_unless (begins_again config (identification past) l h.went) l.serving.again is.again
six_again_by config past h _ l is = is.again

six_files_after : (config : Config) (past : List Entry) (h : Happening) (frame : Option (List ℕ)) (l : Ledger) → SixServing l.serving → SixFiles
    (files_after config past h (option_map (arrival_of config (moment past) (waiting config past)) frame) l)
six_files_after config past h None l is = six_files_by config past h h.call l is
six_files_after config past h (Some frame) l is = six_by_packet config l.serving (packet_in config (moment past) (waiting config past) frame)
    (six_packet config (moment past) (waiting config past) frame) is

pub six_serving : (config : Config) (past : List Entry) → SixServing (serving config past)
six_serving config [] = record { files = record { transfers = tt; quest = tt }; again = tt }
six_serving config (e ∷ past) =
    let before = six_serving config past in
    record {
      files = six_files_after config past (happens config past e) (arrives e past) (ledger config past) before;
      again = six_again_by config past (happens config past e) e
          (ledger config past) before;
    }

pub six_again : (config : Config) (past : List Entry) → SixSaid (may_go_again (serving config past))
six_again config past =
    let is = six_serving config past in
    six_or (serving config past).again _ is.again (six_said (next_again (serving config past).now (serving config past).files.transfers)
    (six_found _ (serving config past).files.transfers is.files.transfers))

-- ---- of what is owed for a packet

six_verdict : (config : Config) (s : Serving) (d : Datagram) (what : DatagramVerdict) → SixServing s → length d.mac ≡ 6 → AllAnswers SixAnswer (owed_for_verdict config s d what)
six_verdict config s d Ignored serves is = tt
six_verdict config s d Refused serves is = all_six (told_about config _ d) (ours_told config _ d is)
six_verdict config s d ForLeases serves is = six_lease config s.now s.leases d.body (read_message d.body) refl
six_verdict config s d ForFiles serves is = six_told config (served_file config s d).told
    (six_taken config.tftp_path s.now d.mac d.from (file_packet d.body) s.files.transfers is serves.files.transfers).told
six_verdict config s d (GoesTo to) serves is = tt

pub six_owed_for : (config : Config) (s : Serving) (stray : Bool) (packet : Packet) → SixServing s → SixPacket packet → AllAnswers SixAnswer (owed_for_packet config s stray packet)
six_owed_for config s stray Unheard serves is = tt
six_owed_for config s stray (ArpPacket arp) serves is = all_if SixAnswer (not arp.is_reply && is_answered_for config arp.target) (arp_reply arp ∷ []) [] ((is, our_six arp.target), tt) tt
six_owed_for config s stray (Message mac ip message) serves is = all_if SixAnswer _ (owed_for_icmp mac ip message) [] (all_six _ (ours_icmp mac ip message is)) tt
six_owed_for config s stray (DatagramPacket d) serves is = six_verdict config s d (datagram_verdict config d) serves is
six_owed_for config s stray (Segment mac ip tcp) serves is = all_if SixAnswer stray (reset_for (from_guest mac ip tcp) ∷ []) [] (is, tt) tt

-- one that isn't of a service isn't a datagram of UDP
ours_verdict : (config : Config) (s : Serving) (d : Datagram) (what : DatagramVerdict) → is_for_server what ≡ false → length d.mac ≡ 6 → AllAnswers IsOurs (owed_for_verdict config s d what)
ours_verdict config s d Ignored other is = tt
ours_verdict config s d Refused other is = ours_told config _ d is
ours_verdict config s d ForLeases other is = cc
ours_verdict config s d ForFiles other is = cc
ours_verdict config s d (GoesTo to) other is = tt

abbrev pub is_for_service : Config → Packet → Bool
is_for_service config (DatagramPacket d) = is_for_server (datagram_verdict config d)
is_for_service config _ = false

pub ours_packet : (config : Config) (s : Serving) (stray : Bool) (packet : Packet) → is_for_service config packet ≡ false → SixPacket packet → AllAnswers IsOurs (owed_for_packet config s stray packet)
ours_packet config s stray Unheard other is = tt
ours_packet config s stray (ArpPacket arp) other is = all_if IsOurs (not arp.is_reply && is_answered_for config arp.target) (arp_reply arp ∷ []) [] (((is, our_six arp.target), tt), tt) tt
ours_packet config s stray (Message mac ip message) other is = all_if IsOurs _ (owed_for_icmp mac ip message) [] (ours_icmp mac ip message is) tt
ours_packet config s stray (DatagramPacket d) other is = ours_verdict config s d (datagram_verdict config d) other is
ours_packet config s stray (Segment mac ip tcp) other is = all_if IsOurs stray (reset_for (from_guest mac ip tcp) ∷ []) [] ((is, no_segment), tt) tt

six_reply : (config : Config) (peer : Endpoint) (octets : List ℕ) (port : Option Endpoint) (mac : Option (List ℕ)) → SixMac mac → AllAnswers SixAnswer (reply_for config peer octets port mac)
six_reply config peer octets (Some guest) (Some mac) is = all_if SixAnswer (is_hidden config peer) [] _ tt (is, tt)
six_reply config peer octets (Some guest) None is = all_if SixAnswer (is_hidden config peer) [] _ tt ((refl, our_six config.vhost), tt)
six_reply config peer octets None mac is = tt

abbrev pub SixOccasion : Occasion → Type 0
SixOccasion (Came s stray packet) = SixServing s × SixPacket packet
SixOccasion (HeardOfName q peer octets) = length q.mac.0 ≡ 6
SixOccasion (OfFile said) = length said.mac ≡ 6
SixOccasion (Unsent d) = length d.mac ≡ 6
SixOccasion (Unconnected on) = length on.mac ≡ 6
SixOccasion _ = Unit {0}

six_unsent : (last : Option Datagram) (o : Occasion) → SixDatagram last → SixOccasion o → SixOccasion (unsent_or last o)
six_unsent None o is before = before
six_unsent (Some d) o is before = is

pub six_owed : (config : Config) (past : List Entry) (o : Occasion) → SixOccasion o → AllAnswers SixAnswer (owed_for config past o)
six_owed config past NoOccasion is = tt
six_owed config past (Came s stray packet) is = six_owed_for config s stray packet is.0 is.1
six_owed config past (HeardOfName q peer octets) is = all_if SixAnswer (is_answered config.resolver q peer octets) _ [] (is, tt) tt
six_owed config past (OfFile said) is = (is, tt)
six_owed config past (Heard socket peer octets) is = six_reply config peer octets (opened_for config socket past) (mac_for config socket past) (six_mac_for config socket past)
six_owed config past (Unsent d) is = all_six (told_about config no_network d) (ours_told config no_network d is)
six_owed config past (Unconnected on) is = (is, tt)

six_for_guest : (b : Bool) (last : Option Datagram) → SixDatagram last → SixDatagram (cond b last None)
six_for_guest true last is = is
six_for_guest false last is = tt

six_by_made : (answer : Made) (last : Option Datagram) (o : Occasion) → SixDatagram last → SixOccasion o → SixOccasion (by_made answer last o)
six_by_made MadeDone last o is before = before
six_by_made MadeFailed last o is before = six_unsent last o is before

six_by_sent : (answer : Sent) (last : Option Datagram) (o : Occasion) → SixDatagram last → SixOccasion o → SixOccasion (by_sent answer last o)
six_by_sent SentDone last o is before = before
six_by_sent SentNotYet last o is before = before
six_by_sent SentFailed last o is before = six_unsent last o is before

six_heard_on : (socket : ℕ) (peer : Endpoint) (octets : List ℕ) (o : Option Question) → SixQuestion o → SixOccasion (heard_on socket peer octets o)
six_heard_on socket peer octets None is = tt
six_heard_on socket peer octets (Some q) is = is

six_by_got : (answer : Got) (socket : ℕ) (octets : List ℕ) (q : Option Question) (o : Occasion) → SixQuestion q → SixOccasion o → SixOccasion (by_got answer socket octets q o)
six_by_got (From peer n) socket octets q o is before = six_heard_on socket peer octets q is
six_by_got GotNotYet socket octets q o is before = before
six_by_got GotFailed socket octets q o is before = before

six_by_said : (said : Option Said) (o : Occasion) → SixSaid said → SixOccasion o → SixOccasion (by_said said o)
six_by_said None o is before = before
six_by_said (Some said) o is before = is

six_by_outcome : (outcome : Option Outcome) (o : Occasion) → SixAnswered outcome → SixOccasion o → SixOccasion (by_outcome outcome o)
six_by_outcome None o is before = before
six_by_outcome (Some outcome) o is before = six_by_said outcome.told o is.told before

six_occasion_if : (b : Bool) (one other : Occasion) → SixOccasion one → SixOccasion other → SixOccasion (if b then one else other)
six_occasion_if true one other is else_ = is
six_occasion_if false one other is else_ = else_

six_refused : (on : Option OnTuple) (o : Occasion) → SixOn on → SixOccasion o → SixOccasion (refused_or on o)
six_refused None o is before = before
six_refused (Some on) o is before = is

six_by_joined : (answer : Made) (on : Option OnTuple) (o : Occasion) → SixOn on → SixOccasion o → SixOccasion (by_joined answer on o)
six_by_joined MadeDone on o is before = before
six_by_joined MadeFailed on o is before = six_refused on o is before

six_by_call : (config : Config) (past : List Entry) (e : Entry) (last : Option Datagram) (on : Option OnTuple) (o : Occasion) → SixDatagram last → SixOn on → SixOccasion o →
    SixOccasion (by_call config past e last on o)
six_by_call config past (Connect socket to answer) last on o is one before = six_by_joined answer on o one before
six_by_call config past (UdpOpen socket at answer) last on o is one before = six_by_made answer (for_guest at.port last) o (six_for_guest (at.port == 0) last is) before
six_by_call config past (UdpSend socket to octets answer) last on o is one before = six_by_sent answer last o is before
six_by_call config past (UdpRecv socket asked answer octets) last on o is one before = six_by_got answer socket octets (numbered socket (questions config past)) o
    (six_numbered socket (questions config past) (six_questions config past)) before
six_by_call config past (LinkWrite octets answer) last on o is one before =
    six_occasion_if (begins_again config (identification past) (ledger config past) (goes_out (LinkWrite octets answer) past)) _ o
    (six_by_said (may_go_again (serving config past)) o (six_again config past) before) before
six_by_call config past (FileLen name answer) last on o is one before = six_by_outcome (by_answer (serving config past).now (FileLen name answer) (serving config past).files) o
    (six_answered (serving config past).now (FileLen name answer) (serving config past).files (six_serving config past).files) before
six_by_call config past (FileRead name place asked answer octets) last on o is one before = six_by_outcome
    (by_answer (serving config past).now (FileRead name place asked answer octets) (serving config past).files) o
    (six_answered (serving config past).now (FileRead name place asked answer octets) (serving config past).files (six_serving config past).files) before
six_by_call config past _ last on o is one before = before

six_after : (config : Config) (e : Entry) (past : List Entry) (frame : Option (List ℕ)) (o : Occasion) → SixOccasion o → SixOccasion
    (occasion_after config e past (option_map (arrival_of config (moment past) (waiting config past)) frame) o)
six_after config e past None o before = six_by_call config past e (last_datagram config past) (book config past).came o (six_last config past) (six_on config past) before
six_after config e past (Some frame) o before = (six_serving config past, six_packet config (moment past) (waiting config past) frame)

pub six_occasion : (config : Config) (past : List Entry) → SixOccasion (last_occasion config past)
six_occasion config [] = tt
six_occasion config (e ∷ past) = six_after config e past (arrives e past) (last_occasion config past) (six_occasion config past)

-- ---- what our frames carry

-- a part of a datagram of ours, as it is read
pub record ReadsBack (number front protocol : ℕ) (follows : Bool) (ip : Ip) : Type 0 where
  pub ident : ip.ident ≡ number
  pub place : ip.place ≡ front
  pub more : ip.more ≡ follows
  pub proto : ip.proto ≡ protocol

more_kept : (place : ℕ) (more : Bool) → place < 2 ^ 13 → ((fragment_of more place / 2 ^ 13) % 2 == 1) ≡ more
more_kept place true fits = let is : (8192 + place) / 8192 % 2 ≡ 1 = omega arith in ap (λ n. n == 1) is
more_kept place false fits = let is : (0 + place) / 8192 % 2 ≡ 0 = omega arith in ap (λ n. n == 1) is

reads_ip : (ident place proto from guest : ℕ) (more : Bool) (body : List ℕ) (ip : Ip) → ident < 2 ^ 16 → place < 2 ^ 13 → read_ip
    (ip_octets ident (fragment_of more place) proto from guest body) ≡ Some ip → ReadsBack ident place proto more ip
reads_ip ident place proto from guest more body ip fits within is =
    let octets = ip_octets ident (fragment_of more place) proto from guest body in
    let found = encoded octets ip is in
    let fragment : two_at octets 6 ≡ fragment_of more place = from_be_bytes-to_be_bytes_2 (fragment_of more place) (fragment_fits place more within) in
    record {
      ident = ap (λ (i : Ip). i.ident) (sym found) ∙ from_be_bytes-to_be_bytes_2 ident fits;
      place = ap (λ (i : Ip). i.place) (sym found) ∙ ap (λ n. n % 2 ^ 13) fragment ∙ place_kept place more within;
      more = ap (λ (i : Ip). i.more) (sym found) ∙ ap (λ n. (n / 2 ^ 13) % 2 == 1) fragment ∙ more_kept place more within;
      proto = ap (λ (i : Ip). i.proto) (sym found);
    }

-- the frame of an answer is read as it was written
pub framed_ip : (to from body : List ℕ) (kind : ℕ) → length to ≡ 6 → length from ≡ 6 → kind < 2 ^ 16 → read_ether (ether_octets to from kind body) ≡ Some
    (record { to = to; from = from; kind = kind; body = body })
framed_ip to from body kind to_six from_six fits =
    reads_frame (ether_octets to from kind body) (record { to = to; from = from; kind = kind; body = body }) (record { to = to_six; from = from_six; kind = fits; is = refl })

same_frame : (o : Option Ether) (one other : Ether) → o ≡ Some one → o ≡ Some other → one ≡ other
same_frame o one other is was = let both : Some one ≡ Some other = sym is ∙ was in cc

-- what the frame of a part holds
pub carried_ip : (config : Config) (ident : ℕ) (to : List ℕ) (proto from guest : ℕ) (p : Part) (ip : Ip) → length to ≡ 6 → Carries (part_frame to (our_mac config.vhost) ident proto from guest p) ip
    → read_ip (ip_octets ident (fragment_of p.more p.place) proto from guest p.body) ≡ Some ip
carried_ip config ident to proto from guest p ip to_six c =
    let octets = ip_octets ident (fragment_of p.more p.place) proto from guest p.body in
    let ours = framed_ip to (our_mac config.vhost) octets ipv4_kind to_six (our_six config.vhost) (lit< tt) in
    let same = same_frame (read_ether (ether_octets to (our_mac config.vhost) ipv4_kind octets)) c.ether
    (record { to = to; from = our_mac config.vhost; kind = ipv4_kind; body = octets }) c.framed ours in
    ap (λ (e : Ether). read_ip e.body) (sym same) ∙ c.holds

pub reads_part : (config : Config) (ident : ℕ) (to : List ℕ) (proto from guest : ℕ) (p : Part) (ip : Ip) → ident < 2 ^ 16 → p.place < 2 ^ 13 → length to ≡ 6 → Carries
    (part_frame to (our_mac config.vhost) ident proto from guest p) ip
    → ReadsBack ident p.place proto p.more ip
reads_part config ident to proto from guest p ip fits within to_six c = reads_ip ident p.place proto from guest p.more p.body ip fits within (carried_ip config ident to proto from guest p ip to_six c)

pub no_arp : (to : List ℕ) (arp : Arp) (ip : Ip) → length to ≡ 6 → length arp.sender_mac ≡ 6 → Carries (ether_octets to arp.sender_mac arp_kind (arp_octets arp)) ip → ⊥
no_arp to arp ip to_six from_six c =
    let ours = framed_ip to arp.sender_mac (arp_octets arp) arp_kind to_six from_six (lit< tt) in
    let same = same_frame (read_ether (ether_octets to arp.sender_mac arp_kind (arp_octets arp))) c.ether
    (record { to = to; from = arp.sender_mac; kind = arp_kind; body = arp_octets arp }) c.framed ours in
    let kinds : 2048 ≡ 2054 = sym c.kind ∙ ap (λ (e : Ether). e.kind) same in
    absurd (omega (arith, kinds))

-- The first frame that is left, where a segment is read in it, is the reset that answers what came last.
use Rattle.std.proofs.Common.{◌≡◌, ℕ, ◌+◌, ◌-◌, ◌^◌, ◌<◌, ◌≤◌, ◌==◌, ◌&&◌, not, Bool, true, false, List, [], ◌∷◌, length, take, drop, Option, Some, None, if◌then◌else◌, refl, sym, ◌∙◌, ap}
use Rattle.std.proofs.Common.{subst, arith}
use Rattle.std.proofs.lemmas.List.{take_all}
use Rattle.std.proofs.lemmas.Nat.{from_be_bytes-to_be_bytes_2, from_be_bytes-to_be_bytes_4}
use Rattle.net_octets.specs.declared.Endpoint.{Endpoint}
use Rattle.net_octets.specs.Kinds.{icmp_proto, tcp_proto, udp_proto}
use Rattle.net_octets.specs.Octets.{one_at, part, two_at, our_mac}
use Rattle.world_face.specs.Journal.{Entry, AreAllowed}
use Rattle.slirp_settings.specs.Addresses.{address, Config, is_answered_for, is_ours}
use Rattle.host_policy.specs.Targets.{is_hidden}
use Rattle.ipv4_head.specs.Ip.{Ip, ip_octets, is_unbroken, read_ip}
use Rattle.icmp_echo.specs.Icmp.{Icmp, echo, unreachable, other as another}
use Rattle.tcp_segment.specs.declared.TheConstants.{ACK}
use Rattle.tcp_segment.specs.Tcp.{Tcp, has, read_tcp, tcp_octets}
use Rattle.spec_flows.specs.declared.Tuple.{Tuple}
use Rattle.spec_flow.specs.Event.{Segment}
use Rattle.spec_flows.specs.SegmentVerdicts.{reset_to}
use Rattle.spec_flows.specs.Segments.{OnTuple, from_guest, segment_by, segment_in, tcp_of, to_guest}
use Rattle.spec_trace.specs.Packets.{Datagram, Packet, Unheard, ArpPacket, Message, DatagramPacket, Segment as SegmentPacket}
use Rattle.spec_run.specs.Answers.{Serving, answers_of, served_file, told_of_files, Answer, ArpAnswer, IpAnswer, arp_reply, frames_for, is_untold, left, no_network, owed_for_verdict}
use Rattle.spec_run.specs.Answers.{owed_for_icmp, owed_for_packet, owed_for_segment, part_frame, reply_for, told_about, uncut}
use Rattle.spec_run.specs.Datagrams.{DatagramVerdict, Ignored, Refused, ForLeases, ForFiles, GoesTo, datagram_verdict}
use Rattle.spec_run.specs.Leasing.{Sending, lease_reply}
use Rattle.rules_tftp.specs.Transfers.{Said}
use Rattle.rules_dns.specs.Questions.{is_answered}
use Rattle.spec_run.specs.Laws.{Lawful}
use Rattle.spec_run.specs.Ports.{opened_for, mac_for}
use Rattle.spec_run.specs.Said.{Carries, Occasion, NoOccasion, Came, Heard, HeardOfName, OfFile, Unsent, Unconnected, identification_with, last_occasion, owed_for}
use Rattle.spec_run.proofs.Beside.{carried_segment}
use Rattle.spec_run.proofs.Bools.{equal, first_of, second_of}
use Rattle.spec_run.proofs.Framing.{part_of_frames}
use Rattle.spec_run.proofs.Numbers.{carries_no_arp, ident_fits, reads_cut}
use Rattle.spec_run.proofs.Owing.{next_left, out_six}
use Rattle.spec_run.proofs.ReadBack.{only_cut, unbroken_is}
use Rattle.spec_run.proofs.Reading.{AllAnswers, SixAnswer, all_if, carried_ip}
use Rattle.spec_run.proofs.Strays.{both_tests, carries_one, read_field}
use Rattle.spec_run.proofs.Encoded.{encoded}
use Rattle.sim_flows.proofs.Within.{AreEnds, EndsOf, IsTuple, ends_last}

-- ---- which answers carry segments

-- the segment that a reset answers: one that strays, or whose connection the host refused
abbrev pub answered : Occasion → Option OnTuple
answered (Came s stray packet) = if stray then segment_by packet else None
answered (Unconnected on) = Some on
answered _ = None

-- what is carried is the reset that answers it
pub record ResetOf (o : Option OnTuple) (source guest : ℕ) (body : List ℕ) : Type 0 where
  pub on : OnTuple
  pub is : o ≡ Some on
  pub other_end : source ≡ address on.tuple.other
  pub guest_end : guest ≡ address on.tuple.guest
  pub whole : body ≡ tcp_octets source guest (reset_to on.tuple on.segment)

-- one that carries a segment carries the reset
abbrev pub IsFor : Option OnTuple → Answer → Type 0
IsFor o (ArpAnswer to arp) = Unit {0}
IsFor o (IpAnswer to proto source guest body) = proto ≡ tcp_proto → ResetOf o source guest body

no_message : (o : Option OnTuple) (body : List ℕ) (source guest : ℕ) → ◌≡◌ {A = ℕ} icmp_proto tcp_proto → ResetOf o source guest body
no_message o body source guest is = absurd (omega (arith, is))

no_datagram : (o : Option OnTuple) (body : List ℕ) (source guest : ℕ) → ◌≡◌ {A = ℕ} udp_proto tcp_proto → ResetOf o source guest body
no_datagram o body source guest is = absurd (omega (arith, is))

by_icmp : (o : Option OnTuple) (mac : List ℕ) (ip : Ip) (message : Icmp) → AllAnswers (IsFor o) (owed_for_icmp mac ip message)
by_icmp o mac ip (echo true ident number body) = tt
by_icmp o mac ip (echo false ident number body) = (no_message o _ ip.to ip.from, tt)
by_icmp o mac ip (unreachable code quoted) = tt
by_icmp o mac ip (another kind code) = tt

by_told : (o : Option OnTuple) (config : Config) (code : ℕ) (d : Datagram) → AllAnswers (IsFor o) (told_about config code d)
by_told o config code d = all_if (IsFor o) (is_untold config d) [] _ tt (no_message o _ config.vhost (address d.from), tt)

-- what servers of ours say is no segment
by_sendings : (o : Option OnTuple) (sendings : List Sending) → AllAnswers (IsFor o) (answers_of sendings)
by_sendings o [] = tt
by_sendings o (s ∷ sendings) = (no_datagram o _ _ _, by_sendings o sendings)

by_files : (o : Option OnTuple) (config : Config) (said : Option Said) → AllAnswers (IsFor o) (told_of_files config said)
by_files o config None = tt
by_files o config (Some said) = (no_datagram o _ _ _, tt)

by_datagram_verdict : (o : Option OnTuple) (config : Config) (s : Serving) (d : Datagram) (what : DatagramVerdict) → AllAnswers (IsFor o) (owed_for_verdict config s d what)
by_datagram_verdict o config s d Ignored = tt
by_datagram_verdict o config s d Refused = by_told o config _ d
by_datagram_verdict o config s d ForLeases = by_sendings o (lease_reply config s.now s.leases d)
by_datagram_verdict o config s d ForFiles = by_files o config (served_file config s d).told
by_datagram_verdict o config s d (GoesTo to) = tt

this_reset : (on : OnTuple) → ResetOf (Some on) (address on.tuple.other) (address on.tuple.guest) (tcp_octets (address on.tuple.other) (address on.tuple.guest) (reset_to on.tuple on.segment))
this_reset on = record { on = on; is = refl; other_end = refl; guest_end = refl; whole = refl }

by_segment : (stray : Bool) (on : OnTuple) → AllAnswers (IsFor (if stray then Some on else None)) (owed_for_segment stray on)
by_segment true on = ((λ is. this_reset on), tt)
by_segment false on = tt

by_packet : (config : Config) (s : Serving) (stray : Bool) (packet : Packet) → AllAnswers (IsFor (answered (Came s stray packet))) (owed_for_packet config s stray packet)
by_packet config s stray Unheard = tt
by_packet config s stray (ArpPacket arp) = all_if (IsFor (if stray then None else None)) (not arp.is_reply && is_answered_for config arp.target) (arp_reply arp ∷ []) [] (tt, tt) tt
by_packet config s stray (Message mac ip message) =
    all_if (IsFor (if stray then None else None)) (is_ours config ip.to) (owed_for_icmp mac ip message) [] (by_icmp (if stray then None else None) mac ip message) tt
by_packet config s stray (DatagramPacket d) = by_datagram_verdict (if stray then None else None) config s d (datagram_verdict config d)
by_packet config s stray (SegmentPacket mac ip tcp) = by_segment stray (from_guest mac ip tcp)

by_reply : (o : Option OnTuple) (config : Config) (peer : Endpoint) (octets : List ℕ) (port : Option Endpoint) (mac : Option (List ℕ)) → AllAnswers (IsFor o) (reply_for config peer octets port mac)
by_reply o config peer octets (Some guest) (Some mac) = all_if (IsFor o) (is_hidden config peer) [] _ tt (no_datagram o _ _ _, tt)
by_reply o config peer octets (Some guest) None = all_if (IsFor o) (is_hidden config peer) [] _ tt (tt, tt)
by_reply o config peer octets None mac = tt

by_occasion : (config : Config) (past : List Entry) (o : Occasion) → AllAnswers (IsFor (answered o)) (owed_for config past o)
by_occasion config past NoOccasion = tt
by_occasion config past (Came s stray packet) = by_packet config s stray packet
by_occasion config past (HeardOfName q peer octets) = all_if (IsFor None) (is_answered config.resolver q peer octets) _ [] (no_datagram None _ _ _, tt) tt
by_occasion config past (OfFile said) = by_files None config (Some said)
by_occasion config past (Heard socket peer octets) = by_reply None config peer octets (opened_for config socket past) (mac_for config socket past)
by_occasion config past (Unsent d) = by_told None config no_network d
by_occasion config past (Unconnected on) = ((λ is. this_reset on), tt)

one_of : (P : Answer → Type 0) (answers : List Answer) (a : Answer) → answers ≡ a ∷ [] → AllAnswers P answers → P a
one_of P answers a is all = (subst (AllAnswers P) is all).0

-- what is owed is one answer, and it is for what came last
pub owed_is : (config : Config) (past : List Entry) (a : Answer) → owed_for config past (last_occasion config past) ≡ a ∷ [] → IsFor (answered (last_occasion config past)) a
owed_is config past a owed =
    one_of (IsFor (answered (last_occasion config past))) (owed_for config past (last_occasion config past)) a owed (by_occasion config past (last_occasion config past))

-- ---- a reset as it is read

-- a datagram is read as it was written
record IpBack (source guest : ℕ) (body : List ℕ) (ip : Ip) : Type 0 where
  its_source : ip.from ≡ source
  its_guest : ip.to ≡ guest
  its_body : ip.body ≡ body

ip_back : (ident proto source guest : ℕ) (body : List ℕ) (ip : Ip) → source < 2 ^ 32 → guest < 2 ^ 32 → 20 + length body < 2 ^ 16 → read_ip
    (ip_octets ident 0 proto source guest body) ≡ Some ip → IpBack source guest body ip
ip_back ident proto source guest body ip source_fits guest_fits fits is =
    let octets = ip_octets ident 0 proto source guest body in
    let found = encoded octets ip is in
    let size : two_at octets 2 ≡ 20 + length body = from_be_bytes-to_be_bytes_2 (20 + length body) fits in
    let rest : 20 + length body - 20 ≡ length body = omega arith in
    record {
      its_source = ap (λ (i : Ip). i.from) (sym found) ∙ from_be_bytes-to_be_bytes_4 source source_fits;
      its_guest = ap (λ (i : Ip). i.to) (sym found) ∙ from_be_bytes-to_be_bytes_4 guest guest_fits;
      its_body = ap (λ (i : Ip). i.body) (sym found) ∙ ap (λ n. part octets 20 (n - 20)) size ∙ ap (λ n. take n body) rest ∙ take_all (length body) body (omega arith);
    }

-- ports and flags of a reset
module _ (source guest : ℕ) (tuple : Tuple) (seg : Segment) where
  reset_ack : has ACK (one_at (tcp_octets source guest (reset_to tuple seg)) 13) ≡ not seg.ack
  reset_ack = by seg.ack refl
    where
      by : (b : Bool) → seg.ack ≡ b → has ACK (one_at (tcp_octets source guest (reset_to tuple seg)) 13) ≡ not seg.ack
      by true is = ap (λ (b : Bool). has ACK (one_at (tcp_octets source guest (reset_to tuple (record seg { ack = b }))) 13)) is ∙ sym (ap not is)
      by false is = ap (λ (b : Bool). has ACK (one_at (tcp_octets source guest (reset_to tuple (record seg { ack = b }))) 13)) is ∙ sym (ap not is)

  reset_from : tuple.other.port < 2 ^ 16 → two_at (tcp_octets source guest (reset_to tuple seg)) 0 ≡ tuple.other.port
  reset_from fits = by seg.ack refl
    where
      by : (b : Bool) → seg.ack ≡ b → two_at (tcp_octets source guest (reset_to tuple seg)) 0 ≡ tuple.other.port
      by true is = ap (λ (b : Bool). two_at (tcp_octets source guest (reset_to tuple (record seg { ack = b }))) 0) is ∙ from_be_bytes-to_be_bytes_2 tuple.other.port fits
      by false is = ap (λ (b : Bool). two_at (tcp_octets source guest (reset_to tuple (record seg { ack = b }))) 0) is ∙ from_be_bytes-to_be_bytes_2 tuple.other.port fits

  reset_to_port : tuple.guest.port < 2 ^ 16 → two_at (tcp_octets source guest (reset_to tuple seg)) 2 ≡ tuple.guest.port
  reset_to_port fits = by seg.ack refl
    where
      by : (b : Bool) → seg.ack ≡ b → two_at (tcp_octets source guest (reset_to tuple seg)) 2 ≡ tuple.guest.port
      by true is = ap (λ (b : Bool). two_at (tcp_octets source guest (reset_to tuple (record seg { ack = b }))) 2) is ∙ from_be_bytes-to_be_bytes_2 tuple.guest.port fits
      by false is = ap (λ (b : Bool). two_at (tcp_octets source guest (reset_to tuple (record seg { ack = b }))) 2) is ∙ from_be_bytes-to_be_bytes_2 tuple.guest.port fits

-- the reset that answers a segment, as it is read: on the same two ends, and with ACK where the segment had none
pub record Answering (o : Option OnTuple) (on : OnTuple) : Type 0 where
  pub asked : OnTuple
  pub is : o ≡ Some asked
  pub tuple : on.tuple ≡ asked.tuple
  pub ack : on.segment.ack ≡ not asked.segment.ack

-- of the segment that a frame of an answer carries
of_answer : (config : Config) (past : List Entry) (o : Option OnTuple) (a : Answer) (k : ℕ) (frame : List ℕ) (rest : List (List ℕ)) (mac : List ℕ) (ip : Ip) (tcp : Tcp) →
    28 ≤ config.mtu → SixAnswer a → AreEnds o → IsFor o a
    → drop k (frames_for config (identification_with k past) a) ≡ frame ∷ rest → Carries frame ip → tcp_of ip ≡ Some tcp → Answering o (to_guest mac ip tcp)
of_answer config past o (ArpAnswer to arp) k frame rest mac ip tcp fits six ends is_for is c read = absurd (carries_no_arp config (identification_with k past) k to arp frame rest ip six is c)
of_answer config past o (IpAnswer to proto source guest body) k frame rest mac ip tcp fits six ends is_for is c read =
    let ident = identification_with k past in
    let p = part_of_frames config ident to proto source guest body frame rest k is in
    let r = reads_cut config ident to proto source guest body frame k ip fits (ident_fits k past) six p c in
    let t = both_tests ((ip.proto == tcp_proto) && is_unbroken ip) (read_tcp ip.from ip.to ip.body) tcp read in
    let is_tcp : proto ≡ tcp_proto = sym r.proto ∙ equal ip.proto tcp_proto (first_of (ip.proto == tcp_proto) (is_unbroken ip) t.0) in
    let tests = unbroken_is ip.more ip.place (second_of (ip.proto == tcp_proto) (is_unbroken ip) t.0) in
    let only = only_cut config.mtu body k fits (sym r.place ∙ tests.1) (sym r.more ∙ tests.0) in
    let held = carried_ip config ident to proto source guest (uncut body) ip six (subst (λ f. Carries f ip) (p.is ∙ ap (part_frame to (our_mac config.vhost) ident proto source guest) only) c) in
    let short = p.short in
    let w = is_for is_tcp in
    let on = w.on in
    let ranged : IsTuple on.tuple = subst AreEnds w.is ends in
    let b = ip_back ident proto source guest body ip (subst (λ n. n < 2 ^ 32) (sym w.other_end) ranged.1.0) (subst (λ n. n < 2 ^ 32) (sym w.guest_end) ranged.0.0) (omega (arith, short)) held in
    let octets = tcp_octets source guest (reset_to on.tuple on.segment) in
    let whole : ip.body ≡ octets = b.its_body ∙ w.whole in
    let flags : tcp.flags ≡ one_at ip.body 13 = read_field (λ (u : Tcp). u.flags) ip.from ip.to ip.body tcp (one_at ip.body 13) (λ head options. refl) t.1 in
    let source_port : tcp.from_port ≡ two_at ip.body 0 = read_field (λ (u : Tcp). u.from_port) ip.from ip.to ip.body tcp (two_at ip.body 0) (λ head options. refl) t.1 in
    let guest_port : tcp.to_port ≡ two_at ip.body 2 = read_field (λ (u : Tcp). u.to_port) ip.from ip.to ip.body tcp (two_at ip.body 2) (λ head options. refl) t.1 in
    let source_addr : ip.from ≡ address on.tuple.other = b.its_source ∙ w.other_end in
    let guest_addr : ip.to ≡ address on.tuple.guest = b.its_guest ∙ w.guest_end in
    let other_port : tcp.from_port ≡ on.tuple.other.port = source_port ∙ ap (λ l. two_at l 0) whole ∙ reset_from source guest on.tuple on.segment ranged.1.1 in
    let its_port : tcp.to_port ≡ on.tuple.guest.port = guest_port ∙ ap (λ l. two_at l 2) whole ∙ reset_to_port source guest on.tuple on.segment ranged.0.1 in
    record {
      asked = on;
      is = w.is;
      tuple = λ i. record { guest = record { addr = record { 0 = guest_addr i }; port = its_port i }; other = record { addr = record { 0 = source_addr i }; port = other_port i } };
      ack = ap (has ACK) (flags ∙ ap (λ l. one_at l 13) whole) ∙ reset_ack source guest on.tuple on.segment;
    }

-- the ends of the segment that a reset answers are in range
abbrev pub HasEnds : Config → List Entry → Type 0
HasEnds config past = AreEnds (answered (last_occasion config past))

ends_answered : (o : Occasion) → EndsOf o → AreEnds (answered o)
ends_answered NoOccasion is = tt
ends_answered (Came s true packet) is = is
ends_answered (Came s false packet) is = tt
ends_answered (HeardOfName q peer octets) is = tt
ends_answered (OfFile said) is = tt
ends_answered (Heard socket peer octets) is = tt
ends_answered (Unsent d) is = tt
ends_answered (Unconnected on) is = is

-- so they are where those of what came last are, and where each answer is one that a World may give
pub has_ends : (config : Config) (past : List Entry) → EndsOf (last_occasion config past) → HasEnds config past
has_ends config past is = ends_answered (last_occasion config past) is

pub ends_allowed : (config : Config) (past : List Entry) → AreAllowed past → HasEnds config past
ends_allowed config past allowed = has_ends config past (ends_last config past allowed)

-- the first frame that is left, where a segment is read in it, is the reset that answers what came last
pub left_answers : (config : Config) (past : List Entry) (frame : List ℕ) (rest : List (List ℕ)) (on : OnTuple) → 28 ≤ config.mtu → Lawful config past → HasEnds config past →
    left config past ≡ frame ∷ rest → segment_in frame ≡ Some on
    → Answering (answered (last_occasion config past)) on
left_answers config past frame rest on fits lawful ends is read =
    let a = next_left config past frame rest fits lawful is in
    let carried = carries_one frame on read in
    let s = carried_segment frame carried.0 on carried.1 read in
    subst (Answering (answered (last_occasion config past))) s.2
    (of_answer config past (answered (last_occasion config past)) a.answer a.out frame a.rest carried.1.ether.to carried.0 s.0 fits (out_six config past a.answer a.owed)
    ends (owed_is config past a.answer a.owed) a.is carried.1 s.1)

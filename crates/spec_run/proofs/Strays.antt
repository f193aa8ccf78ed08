-- Of the frames of answers only those of resets are read as segments.
use Rattle.std.proofs.Common.{◌≡◌, ℕ, ◌+◌, ◌-◌, ◌^◌, ◌<◌, ◌≤◌, ◌==◌, ◌&&◌, not, Bool, true, false, List, [], ◌∷◌, length, take, drop, Option, Some, None, option_and_then, Result, Ok, Err}
use Rattle.std.proofs.Common.{if◌then◌else◌, refl, sym, ◌∙◌, ap, subst, arith}
use Rattle.std.proofs.lemmas.List.{take_all}
use Rattle.std.proofs.lemmas.Nat.{from_be_bytes-to_be_bytes_2}
use Rattle.std.specs.Result.{result_ok}
use Rattle.net_octets.specs.declared.Endpoint.{Endpoint}
use Rattle.net_octets.specs.declared.Fault.{Fault}
use Rattle.net_octets.specs.Kinds.{icmp_proto, ipv4_kind, tcp_proto, udp_proto}
use Rattle.net_octets.specs.Octets.{one_at, part, two_at, our_mac}
use Rattle.world_face.specs.Journal.{Entry}
use Rattle.slirp_settings.specs.Addresses.{address, Config, is_answered_for, is_ours}
use Rattle.host_policy.specs.Targets.{is_hidden}
use Rattle.ether_frame.specs.Ether.{Ether, read_ether}
use Rattle.ipv4_head.specs.Ip.{Ip, ip_octets, is_unbroken, read_ip}
use Rattle.icmp_echo.specs.Icmp.{Icmp, echo, unreachable, other as another}
use Rattle.tcp_segment.specs.declared.TheConstants.{RST}
use Rattle.tcp_segment.specs.Tcp.{Tcp, fields_of, has, head_reading, options_reading, read_tcp, tcp_octets, ◌>>=◌}
use Rattle.spec_flows.specs.declared.Tuple.{Tuple}
use Rattle.spec_flow.specs.Event.{Segment}
use Rattle.spec_flows.specs.SegmentVerdicts.{reset_to}
use Rattle.spec_flows.specs.Segments.{OnTuple, from_guest, segment_in, tcp_of, went_by, went_of}
use Rattle.spec_trace.specs.Packets.{Datagram, Packet, Unheard, ArpPacket, Message, DatagramPacket, Segment as SegmentPacket}
use Rattle.spec_run.specs.Leasing.{Sending, lease_reply}
use Rattle.rules_tftp.specs.Transfers.{Said}
use Rattle.rules_dns.specs.Questions.{is_answered}
use Rattle.spec_run.specs.Answers.{Serving, answers_of, served_file, told_of_files, Answer, ArpAnswer, IpAnswer, arp_reply, frames_for, is_untold, left, no_network, owed_for_verdict}
use Rattle.spec_run.specs.Answers.{owed_for_icmp, owed_for_packet, part_frame, reply_for, reset_for, told_about, uncut}
use Rattle.spec_run.specs.Datagrams.{DatagramVerdict, Ignored, Refused, ForLeases, ForFiles, GoesTo, datagram_verdict}
use Rattle.spec_run.specs.Laws.{Lawful}
use Rattle.spec_run.specs.Ports.{opened_for, mac_for}
use Rattle.spec_run.specs.Said.{Carries, Occasion, NoOccasion, Came, Heard, HeardOfName, OfFile, Unsent, Unconnected, identification_with, last_occasion, owed_for}
use Rattle.spec_run.proofs.Beside.{carried_segment}
use Rattle.spec_run.proofs.Bools.{equal, first_of, second_of}
use Rattle.spec_run.proofs.Framing.{part_of_frames}
use Rattle.spec_run.proofs.Numbers.{carries_no_arp, ident_fits, reads_cut}
use Rattle.spec_run.proofs.Owing.{next_left, out_six}
use Rattle.spec_run.proofs.ReadBack.{only_cut, unbroken_is}
use Rattle.spec_run.proofs.Reading.{AllAnswers, SixAnswer, all_if, carried_ip}
use Rattle.spec_run.proofs.Encoded.{encoded}

-- ---- which answers carry segments

-- one that carries a segment carries a reset
abbrev pub IsReset : Answer → Type 0
IsReset (ArpAnswer to arp) = Unit {0}
IsReset (IpAnswer to proto from guest body) = proto ≡ tcp_proto → (tuple : Tuple) × (seg : Segment) × (body ≡ tcp_octets from guest (reset_to tuple seg))

no_message : (body : List ℕ) (from guest : ℕ) → ◌≡◌ {A = ℕ} icmp_proto tcp_proto → (tuple : Tuple) × (seg : Segment) × (body ≡ tcp_octets from guest (reset_to tuple seg))
no_message body from guest is = absurd (omega (arith, is))

no_datagram : (body : List ℕ) (from guest : ℕ) → ◌≡◌ {A = ℕ} udp_proto tcp_proto → (tuple : Tuple) × (seg : Segment) × (body ≡ tcp_octets from guest (reset_to tuple seg))
no_datagram body from guest is = absurd (omega (arith, is))

by_icmp : (mac : List ℕ) (ip : Ip) (message : Icmp) → AllAnswers IsReset (owed_for_icmp mac ip message)
by_icmp mac ip (echo true ident number body) = tt
by_icmp mac ip (echo false ident number body) = (no_message _ ip.to ip.from, tt)
by_icmp mac ip (unreachable code quoted) = tt
by_icmp mac ip (another kind code) = tt

by_told : (config : Config) (code : ℕ) (d : Datagram) → AllAnswers IsReset (told_about config code d)
by_told config code d = all_if IsReset (is_untold config d) [] _ tt (no_message _ config.vhost (address d.from), tt)

-- what servers of ours say is no segment
by_sendings : (sendings : List Sending) → AllAnswers IsReset (answers_of sendings)
by_sendings [] = tt
by_sendings (s ∷ sendings) = (no_datagram _ _ _, by_sendings sendings)

by_files : (config : Config) (o : Option Said) → AllAnswers IsReset (told_of_files config o)
by_files config None = tt
by_files config (Some said) = (no_datagram _ _ _, tt)

by_datagram_verdict : (config : Config) (s : Serving) (d : Datagram) (what : DatagramVerdict) → AllAnswers IsReset (owed_for_verdict config s d what)
by_datagram_verdict config s d Ignored = tt
by_datagram_verdict config s d Refused = by_told config _ d
by_datagram_verdict config s d ForLeases = by_sendings (lease_reply config s.now s.leases d)
by_datagram_verdict config s d ForFiles = by_files config (served_file config s d).told
by_datagram_verdict config s d (GoesTo to) = tt

by_packet : (config : Config) (s : Serving) (stray : Bool) (packet : Packet) → AllAnswers IsReset (owed_for_packet config s stray packet)
by_packet config s stray Unheard = tt
by_packet config s stray (ArpPacket arp) = all_if IsReset (not arp.is_reply && is_answered_for config arp.target) (arp_reply arp ∷ []) [] (tt, tt) tt
by_packet config s stray (Message mac ip message) = all_if IsReset (is_ours config ip.to) (owed_for_icmp mac ip message) [] (by_icmp mac ip message) tt
by_packet config s stray (DatagramPacket d) = by_datagram_verdict config s d (datagram_verdict config d)
by_packet config s stray (SegmentPacket mac ip tcp) =
    let on = from_guest mac ip tcp in
    all_if IsReset stray (reset_for on ∷ []) [] ((λ is. (on.tuple, on.segment, refl)), tt) tt

by_reply : (config : Config) (peer : Endpoint) (octets : List ℕ) (port : Option Endpoint) (mac : Option (List ℕ)) → AllAnswers IsReset (reply_for config peer octets port mac)
by_reply config peer octets (Some guest) (Some mac) = all_if IsReset (is_hidden config peer) [] _ tt (no_datagram _ _ _, tt)
by_reply config peer octets (Some guest) None = all_if IsReset (is_hidden config peer) [] _ tt (tt, tt)
by_reply config peer octets None mac = tt

by_occasion : (config : Config) (past : List Entry) (o : Occasion) → AllAnswers IsReset (owed_for config past o)
by_occasion config past NoOccasion = tt
by_occasion config past (Came s stray packet) = by_packet config s stray packet
by_occasion config past (HeardOfName q peer octets) = all_if IsReset (is_answered config.resolver q peer octets) _ [] (no_datagram _ _ _, tt) tt
by_occasion config past (OfFile said) = by_files config (Some said)
by_occasion config past (Heard socket peer octets) = by_reply config peer octets (opened_for config socket past) (mac_for config socket past)
by_occasion config past (Unsent d) = by_told config no_network d
by_occasion config past (Unconnected on) = ((λ is. (on.tuple, on.segment, refl)), tt)

one_reset : (answers : List Answer) (a : Answer) → answers ≡ a ∷ [] → AllAnswers IsReset answers → IsReset a
one_reset answers a is all = (subst (AllAnswers IsReset) is all).0

-- ---- what is read of them

-- a frame in which a segment is read carries a datagram
of_datagram : (frame : List ℕ) (on : OnTuple) (ether : Ether) (o : Option Ip) → read_ether frame ≡ Some ether → (ether.kind == ipv4_kind) ≡ true → read_ip ether.body ≡ o →
    option_and_then (went_by ether.to) o ≡ Some on
    → (ip : Ip) × Carries frame ip
of_datagram frame on ether None framed kind holds is = cc
of_datagram frame on ether (Some ip) framed kind holds is = (ip, record { ether = ether; framed = framed; kind = equal ether.kind ipv4_kind kind; holds = holds })

of_kind : (frame : List ℕ) (on : OnTuple) (ether : Ether) (b : Bool) → read_ether frame ≡ Some ether → (ether.kind == ipv4_kind) ≡ b →
    (if b then option_and_then (went_by ether.to) (read_ip ether.body) else None) ≡ Some on
    → (ip : Ip) × Carries frame ip
of_kind frame on ether true framed kind is = of_datagram frame on ether (read_ip ether.body) framed kind refl is
of_kind frame on ether false framed kind is = cc

of_ether : (frame : List ℕ) (on : OnTuple) (o : Option Ether) → read_ether frame ≡ o → option_and_then went_of o ≡ Some on → (ip : Ip) × Carries frame ip
of_ether frame on None framed is = cc
of_ether frame on (Some ether) framed is = of_kind frame on ether (ether.kind == ipv4_kind) framed refl is

pub carries_one : (frame : List ℕ) (on : OnTuple) → segment_in frame ≡ Some on → (ip : Ip) × Carries frame ip
carries_one frame on is = of_ether frame on (read_ether frame) refl is

-- the body of a datagram is read as it was written
body_back : (ident proto from to : ℕ) (body : List ℕ) (ip : Ip) → 20 + length body < 2 ^ 16 → read_ip (ip_octets ident 0 proto from to body) ≡ Some ip → ip.body ≡ body
body_back ident proto from to body ip fits is =
    let octets = ip_octets ident 0 proto from to body in
    let found = encoded octets ip is in
    let size : two_at octets 2 ≡ 20 + length body = from_be_bytes-to_be_bytes_2 (20 + length body) fits in
    let rest : 20 + length body - 20 ≡ length body = omega arith in
    ap (λ (i : Ip). i.body) (sym found) ∙ ap (λ n. part octets 20 (n - 20)) size ∙ ap (λ n. take n body) rest ∙ take_all (length body) body (omega arith)

-- a field that doesn't come from options is read where it stands
kept : {A B : Type 0} (field : Tcp → B) (o : Result A Fault) (make : A → Tcp) (x : B) (tcp : Tcp) → ((a : A) → field (make a) ≡ x) → result_ok (o >>= λ a. Ok (make a)) ≡ Some tcp → field tcp ≡ x
kept field (Ok a) make x tcp all is = let this : make a ≡ tcp = cc in ap field (sym this) ∙ all a
kept field (Err fault) make x tcp all is = cc

module _ {B : Type 0} (field : Tcp → B) (from to : ℕ) (octets : List ℕ) (tcp : Tcp) (x : B) where
  by_head : ((head : ℕ) (options : _) → field (fields_of octets head options) ≡ x) → (h : Result ℕ Fault)
      → result_ok (h >>= λ head. options_reading (part octets 20 (head - 20)) >>= λ options. Ok (fields_of octets head options)) ≡ Some tcp → field tcp ≡ x
  by_head all (Ok head) is = kept field (options_reading (part octets 20 (head - 20))) (fields_of octets head) x tcp (all head) is
  by_head all (Err fault) is = cc

  pub read_field : ((head : ℕ) (options : _) → field (fields_of octets head options) ≡ x) → read_tcp from to octets ≡ Some tcp → field tcp ≡ x
  read_field all is = by_head all (head_reading from to octets) is

-- the flags that are read are those that stand there
read_flags : (from to : ℕ) (octets : List ℕ) (tcp : Tcp) → read_tcp from to octets ≡ Some tcp → tcp.flags ≡ one_at octets 13
read_flags from to octets tcp is = read_field (λ (t : Tcp). t.flags) from to octets tcp (one_at octets 13) (λ head options. refl) is

reset_flags : (from to : ℕ) (tuple : Tuple) (seg : Segment) → has RST (one_at (tcp_octets from to (reset_to tuple seg)) 13) ≡ true
reset_flags from to tuple seg = by seg.ack refl
  where
    by : (b : Bool) → seg.ack ≡ b → has RST (one_at (tcp_octets from to (reset_to tuple seg)) 13) ≡ true
    by true is = ap (λ (b : Bool). has RST (one_at (tcp_octets from to (reset_to tuple (record seg { ack = b }))) 13)) is
    by false is = ap (λ (b : Bool). has RST (one_at (tcp_octets from to (reset_to tuple (record seg { ack = b }))) 13)) is

pub both_tests : (b : Bool) (o : Option Tcp) (tcp : Tcp) → (if b then o else None) ≡ Some tcp → (b ≡ true) × (o ≡ Some tcp)
both_tests true o tcp is = (refl, is)
both_tests false o tcp is = cc

-- a frame of an answer in which a segment is read has a reset
of_answer : (config : Config) (past : List Entry) (a : Answer) (k : ℕ) (frame : List ℕ) (rest : List (List ℕ)) (ip : Ip) (tcp : Tcp) → 28 ≤ config.mtu → SixAnswer a → IsReset a
    → drop k (frames_for config (identification_with k past) a) ≡ frame ∷ rest → Carries frame ip → tcp_of ip ≡ Some tcp → has RST tcp.flags ≡ true
of_answer config past (ArpAnswer to arp) k frame rest ip tcp fits six reset is c read = absurd (carries_no_arp config (identification_with k past) k to arp frame rest ip six is c)
of_answer config past (IpAnswer to proto from guest body) k frame rest ip tcp fits six reset is c read =
    let ident = identification_with k past in
    let p = part_of_frames config ident to proto from guest body frame rest k is in
    let r = reads_cut config ident to proto from guest body frame k ip fits (ident_fits k past) six p c in
    let t = both_tests ((ip.proto == tcp_proto) && is_unbroken ip) (read_tcp ip.from ip.to ip.body) tcp read in
    let is_tcp : proto ≡ tcp_proto = sym r.proto ∙ equal ip.proto tcp_proto (first_of (ip.proto == tcp_proto) (is_unbroken ip) t.0) in
    let tests = unbroken_is ip.more ip.place (second_of (ip.proto == tcp_proto) (is_unbroken ip) t.0) in
    let only = only_cut config.mtu body k fits (sym r.place ∙ tests.1) (sym r.more ∙ tests.0) in
    let held = carried_ip config ident to proto from guest (uncut body) ip six (subst (λ f. Carries f ip) (p.is ∙ ap (part_frame to (our_mac config.vhost) ident proto from guest) only) c) in
    let short = p.short in
    let whole : ip.body ≡ body = body_back ident proto from guest body ip (omega (arith, short)) held in
    let w = reset is_tcp in
    let flags : tcp.flags ≡ one_at (tcp_octets from guest (reset_to w.0 w.1)) 13 = read_flags ip.from ip.to ip.body tcp t.1 ∙ ap (λ octets. one_at octets 13) (whole ∙ w.2) in
    ap (has RST) flags ∙ reset_flags from guest w.0 w.1

-- the first frame that is left, where a segment is read in it, is a reset
pub left_resets : (config : Config) (past : List Entry) (frame : List ℕ) (rest : List (List ℕ)) (on : OnTuple) → 28 ≤ config.mtu → Lawful config past → left config past ≡ frame
    ∷ rest → segment_in frame ≡ Some on → on.segment.rst ≡ true
left_resets config past frame rest on fits lawful is read =
    let a = next_left config past frame rest fits lawful is in
    let carried = carries_one frame on read in
    let s = carried_segment frame carried.0 on carried.1 read in
    ap (λ (o : OnTuple). o.segment.rst) (sym s.2)
    ∙ of_answer config past a.answer a.out frame a.rest carried.0 s.0 fits (out_six config past a.answer a.owed)
    (one_reset (owed_for config past (last_occasion config past)) a.answer a.owed (by_occasion config past (last_occasion config past))) a.is carried.1 s.1

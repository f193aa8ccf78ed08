-- What a flow sends is read back.
use Rattle.std.proofs.Common.{◌≡◌, ℕ, ◌+◌, ◌^◌, ◌<◌, ◌≤◌, ◌==◌, ◌&&◌, not, Bool, true, false, List, [], ◌∷◌, ◌++◌, length, take, drop, bytes_eq, Option, Some, None, IfSome, option_map}
use Rattle.std.proofs.Common.{option_and_then, if◌then◌else◌, refl, sym, ◌∙◌, ap, arith, append-nil, length-append, lit<}
use Rattle.std.specs.Result.{result_ok}
use Rattle.std.proofs.lemmas.List.{take_all, take_at}
use Rattle.std.proofs.lemmas.Nat.{from_be_bytes-to_be_bytes_4}
use Rattle.net_octets.specs.declared.Mac.{Mac}
use Rattle.net_octets.specs.Kinds.{arp_kind, ipv4_kind, tcp_proto}
use Rattle.net_octets.specs.Octets.{checksum, two, our_mac}
use Rattle.world_face.specs.Frames.{encoding}
use Rattle.slirp_settings.specs.Addresses.{Config}
use Rattle.arp_table.specs.Arp.{arp_octets}
use Rattle.ether_frame.specs.Ether.{Ether, ether_octets, read_ether}
use Rattle.ether_frame.proofs.Encoding.{reads as reads_frame}
use Rattle.ipv4_head.specs.Ip.{Ip, ip_octets, read_ip, summed_head}
use Rattle.ipv4_head.proofs.Plain.{written_is as datagram_is}
use Rattle.ipv4_head.proofs.Encoding.{reads as reads_datagram}
use Rattle.tcp_segment.specs.declared.TheConstants.{SYN, FIN, RST, ACK}
use Rattle.tcp_segment.specs.Tcp.{Tcp, Fits, has, mss_octets, options_octets, read_tcp, scale_octets, summed, tcp_length, tcp_octets, tcp_with, words_of}
use Rattle.tcp_segment.proofs.Encoding.{length-segment, reads as reads_segment}
use Rattle.tcp_segment.proofs.Writing.{written_is as segment_is}
use Rattle.spec_flow.specs.Event.{Segment}
use Rattle.spec_flow.specs.Guest.{is_empty}
use Rattle.spec_flow.specs.Segments.{segment_of}
use Rattle.spec_flows.specs.Segments.{OnTuple, asked_in, asked_of, segment_in, to_guest, went_by, went_of}
use Rattle.spec_run.specs.Answers.{begins_datagram, datagrams_in, part_frame, uncut}
use Rattle.arp_table.specs.Arp.{everyone, nobody}
use Rattle.spec_run.specs.Sending.{ip_in, ip_of, is_written, request_for, tcp_for}
use Rattle.spec_run.proofs.Bools.{and_both, first_of, second_of, same}
use Rattle.spec_run.proofs.Framing.{our_six, part_begins}
use Rattle.flow_splice.specs.Frames.{IsSized, bit_if, flags_of, request_frame, segment_frame, tcp_out}
use Rattle.flow_splice.specs.Splice.{Face}

-- ---- flags

abbrev are_same : Bool → Bool → Bool
are_same true b = b
are_same false b = not b

same_bools : (a b : Bool) → are_same a b ≡ true → a ≡ b
same_bools true b is = sym is
same_bools false true is = cc
same_bools false false is = refl

abbrev of_both : (Bool → Bool) → Bool
of_both test = test true && test false

of_each : (test : Bool → Bool) → of_both test ≡ true → (b : Bool) → test b ≡ true
of_each test is true = first_of (test true) (test false) is
of_each test is false = second_of (test true) (test false) is

abbrev flags_by : (fin syn rst psh ack : Bool) → ℕ
flags_by fin syn rst psh ack = bit_if fin 1 + bit_if syn 2 + bit_if rst 4 + bit_if psh 8 + bit_if ack 16

abbrev are_kept : (fin syn rst psh ack : Bool) → Bool
are_kept fin syn rst psh ack =
    let flags = flags_by fin syn rst psh ack in
    (are_same (has FIN flags) fin && are_same (has SYN flags) syn) && (are_same (has RST flags) rst && are_same (has ACK flags) ack)

all_kept : (fin syn rst psh ack : Bool) → are_kept fin syn rst psh ack ≡ true
all_kept fin syn rst psh ack =
    let by_fin = of_each (λ fin. of_both (λ syn. of_both (λ rst. of_both (λ psh. of_both (λ ack. are_kept fin syn rst psh ack))))) refl fin in
    let by_syn = of_each (λ syn. of_both (λ rst. of_both (λ psh. of_both (λ ack. are_kept fin syn rst psh ack)))) by_fin syn in
    let by_rst = of_each (λ rst. of_both (λ psh. of_both (λ ack. are_kept fin syn rst psh ack))) by_syn rst in
    let by_psh = of_each (λ psh. of_both (λ ack. are_kept fin syn rst psh ack)) by_rst psh in
    of_each (λ ack. are_kept fin syn rst psh ack) by_psh ack

record Kept (fin syn rst psh ack : Bool) : Type 0 where
  is_fin : has FIN (flags_by fin syn rst psh ack) ≡ fin
  is_syn : has SYN (flags_by fin syn rst psh ack) ≡ syn
  is_rst : has RST (flags_by fin syn rst psh ack) ≡ rst
  is_ack : has ACK (flags_by fin syn rst psh ack) ≡ ack

kept : (fin syn rst psh ack : Bool) → Kept fin syn rst psh ack
kept fin syn rst psh ack =
    let flags = flags_by fin syn rst psh ack in
    let is = all_kept fin syn rst psh ack in
    let front = first_of (are_same (has FIN flags) fin && are_same (has SYN flags) syn) (are_same (has RST flags) rst && are_same (has ACK flags) ack) is in
    let back = second_of (are_same (has FIN flags) fin && are_same (has SYN flags) syn) (are_same (has RST flags) rst && are_same (has ACK flags) ack) is in
    record {
      is_fin = same_bools (has FIN flags) fin (first_of (are_same (has FIN flags) fin) (are_same (has SYN flags) syn) front);
      is_syn = same_bools (has SYN flags) syn (second_of (are_same (has FIN flags) fin) (are_same (has SYN flags) syn) front);
      is_rst = same_bools (has RST flags) rst (first_of (are_same (has RST flags) rst) (are_same (has ACK flags) ack) back);
      is_ack = same_bools (has ACK flags) ack (second_of (are_same (has RST flags) rst) (are_same (has ACK flags) ack) back);
    }

-- the segment that is read of what goes out is the one that was to go
same_segment : (face : Face) (seg : Segment) → segment_of (tcp_out face seg) ≡ seg
same_segment face seg =
    let k = kept seg.fin seg.syn seg.rst (not (is_empty seg.octets)) seg.ack in
    let flags = flags_of seg in
    ap (λ b. record seg { ack = b; syn = has SYN flags; rst = has RST flags; fin = has FIN flags }) k.is_ack
    ∙ ap (λ b. record seg { syn = b; rst = has RST flags; fin = has FIN flags }) k.is_syn
    ∙ ap (λ b. record seg { rst = b; fin = has FIN flags }) k.is_rst
    ∙ ap (λ b. record seg { fin = b }) k.is_fin

-- ---- each layer is read back

mss_few : (mss : Option ℕ) → length (mss_octets mss) ≤ 4
mss_few None = omega arith
mss_few (Some mss) = omega arith

scale_few : (scale : Option ℕ) → length (scale_octets scale) ≤ 4
scale_few None = omega arith
scale_few (Some shift) = omega arith

tcp_long : (from to : ℕ) (tcp : Tcp) → length (tcp_octets from to tcp) ≡ tcp_length tcp
tcp_long from to tcp =
    length-segment (words_of tcp) 0 (checksum (summed from to (tcp_with 0 tcp))) 0 (options_octets tcp) tcp
    ∙ omega (arith, length-append (mss_octets tcp.mss) (scale_octets tcp.scale))

tcp_few : (from to : ℕ) (tcp : Tcp) → length (tcp_octets from to tcp) ≤ 28 + length tcp.body
tcp_few from to tcp = omega (arith, tcp_long from to tcp, mss_few tcp.mss, scale_few tcp.scale)

tcp_back : (from to : ℕ) (tcp : Tcp) → Fits tcp → IfSome tcp.mss (λ (m : ℕ). m < 2 ^ 16) → read_tcp from to (tcp_octets from to tcp) ≡ Some tcp
tcp_back from to tcp fits small =
    let now = tcp_octets from to tcp in
    let all : take (tcp_length tcp) (now ++ []) ≡ now = take_at now [] (tcp_length tcp) (tcp_long from to tcp) in
    let written = segment_is from to tcp (tcp_length tcp) now [] fits small refl refl in
    ap (read_tcp from to) (sym all) ∙ ap result_ok (reads_segment from to (take (tcp_length tcp) (now ++ [])) tcp written)

-- a datagram that isn't cut, as it is read
abbrev datagram : (ident proto from to : ℕ) → List ℕ → Ip
datagram ident proto from to body = record { ident = ident; more = false; place = 0; proto = proto; from = from; to = to; head = summed_head 64 ident 0 proto from to (length body); body = body }

ip_back : (ident proto from to : ℕ) (body : List ℕ) → ident < 2 ^ 16 → from < 2 ^ 32 → to < 2 ^ 32 → 20 + length body < 2 ^ 16 → read_ip
    (ip_octets ident 0 proto from to body) ≡ Some (datagram ident proto from to body)
ip_back ident proto from to body i f t size =
    let now = ip_octets ident 0 proto from to body in
    let long : length now ≡ 20 + length body = omega arith in
    let all : take (20 + length body) now ≡ now = take_all (20 + length body) now (omega (arith, long)) in
    let written = datagram_is 64 ident 0 proto from to false body now [] i (omega arith) f t size (sym (append-nil now)) in
    ap read_ip (sym all) ∙ reads_datagram (take (20 + length body) now) _ written.0

ether_back : (to from body : List ℕ) (kind : ℕ) → length to ≡ 6 → length from ≡ 6 → kind < 2 ^ 16 → read_ether (ether_octets to from kind body) ≡ Some
    (record { to = to; from = from; kind = kind; body = body })
ether_back to from body kind to_six from_six fits =
    reads_frame (ether_octets to from kind body) (record { to = to; from = from; kind = kind; body = body }) (record { to = to_six; from = from_six; kind = fits; is = refl })

-- ---- the frame of a segment

module _ (face : Face) (to : Mac) (ident : ℕ) (seg : Segment) (sized : IsSized face to ident seg) where
  abbrev source : ℕ
  source = face.other.addr.0

  abbrev guest : ℕ
  guest = face.guest.addr.0

  abbrev carried : List ℕ
  carried = tcp_octets source guest (tcp_out face seg)

  abbrev packet : List ℕ
  packet = ip_octets ident 0 tcp_proto source guest carried

  abbrev ether : Ether
  ether = record { to = to.0; from = our_mac face.vhost.0; kind = ipv4_kind; body = packet }

  framed : read_ether (segment_frame face to ident seg) ≡ Some ether
  framed = ether_back to.0 (our_mac face.vhost.0) packet ipv4_kind sized.to_six (our_six face.vhost.0) (lit< tt)

  carried_few : length carried ≤ 1488
  carried_few = omega (arith, tcp_few source guest (tcp_out face seg), sized.few)

  held : read_ip packet ≡ Some (datagram ident tcp_proto source guest carried)
  held = ip_back ident tcp_proto source guest carried sized.ident_fits sized.other sized.guest (omega (arith, carried_few))

  said : read_tcp source guest carried ≡ Some (tcp_out face seg)
  said =
      tcp_back source guest (tcp_out face seg)
      (record { from_port = sized.other_port; to_port = sized.guest_port; seq = sized.number; ack = sized.acknowledgement; window = sized.window }) sized.mss

  pub segment_back : segment_in (segment_frame face to ident seg) ≡ Some (record { mac = to.0; tuple = record { guest = face.guest; other = face.other }; segment = seg })
  segment_back =
      let ip = datagram ident tcp_proto source guest carried in
      ap (option_and_then went_of) framed
      ∙ ap (option_and_then (went_by to.0)) held
      ∙ ap (option_map (to_guest to.0 ip)) said
      ∙ ap (λ s. Some (record { mac = to.0; tuple = record { guest = face.guest; other = face.other }; segment = s })) (same_segment face seg)

  -- it is no packet of ARP
  pub asks_none : asked_in (segment_frame face to ident seg) ≡ None
  asks_none = ap (option_and_then asked_of) framed

  -- it carries one datagram, which isn't cut
  datagram_back : ip_in (segment_frame face to ident seg) ≡ Some (datagram ident tcp_proto source guest carried)
  datagram_back = ap (option_and_then ip_of) framed ∙ held

  begins : begins_datagram (segment_frame face to ident seg) ≡ true
  begins = part_begins to.0 (our_mac face.vhost.0) ident tcp_proto source guest (uncut carried) sized.to_six (our_six face.vhost.0) (lit< tt)

  pub one_datagram : datagrams_in (segment_frame face to ident seg) ≡ 1
  one_datagram = ap (λ (b : Bool). if b then 1 else 0) begins

  -- headers of 14, 20 and 20 octets, options, and what it carries
  pub frame_long : length (segment_frame face to ident seg) ≡ 54 + length (mss_octets seg.mss) + length (scale_octets seg.scale) + length seg.octets
  frame_long =
      let ours = our_mac face.vhost.0 in
      let long : length packet ≡ 20 + length carried = omega arith in
      omega (
        arith,
        tcp_long source guest (tcp_out face seg),
        sized.to_six,
        long,
        length-append (to.0 ++ ours ++ two ipv4_kind) packet,
        length-append (to.0 ++ ours)
            (two ipv4_kind),
        length-append to.0 ours,
      )

  pub frame_few : length (segment_frame face to ident seg) ≤ 1522
  frame_few = omega (arith, frame_long, mss_few seg.mss, scale_few seg.scale, sized.few)

-- it is written as the laws want a frame that isn't owed
same_octets : (octets : List ℕ) → bytes_eq octets octets ≡ true
same_octets [] = refl
same_octets (x ∷ octets) = and_both (x == x) (bytes_eq octets octets) (same x) (same_octets octets)

pub written_back : (face : Face) (to : Mac) (ident : ℕ) (seg : Segment) (config : Config) → IsSized face to ident seg → config.vhost ≡ face.vhost.0
    → is_written config ident (segment_frame face to ident seg) (record { mac = to.0; tuple = record { guest = face.guest; other = face.other }; segment = seg })
    (ip_in (segment_frame face to ident seg)) ≡ true
written_back face to ident seg config sized vhost =
    let frame = segment_frame face to ident seg in
    let source = face.other.addr.0 in
    let guest = face.guest.addr.0 in
    let carried = tcp_octets source guest (tcp_out face seg) in
    let on : OnTuple = record { mac = to.0; tuple = record { guest = face.guest; other = face.other }; segment = seg } in
    ap (is_written config ident frame on) (datagram_back face to ident seg sized)
    ∙ and_both (bytes_eq frame (part_frame to.0 (our_mac config.vhost) ident tcp_proto source guest (uncut carried))) (bytes_eq carried (tcp_octets source guest (tcp_for on)))
    (ap (λ a. bytes_eq frame (part_frame to.0 (our_mac a) ident tcp_proto source guest (uncut carried))) vhost ∙ same_octets frame) (same_octets carried)

-- ---- the request for a guest's hardware address

-- it asks for the guest
pub request_back : (face : Face) → face.guest.addr.0 < 2 ^ 32 → asked_in (request_frame face) ≡ Some face.guest.addr.0
request_back face fits = ap Some (from_be_bytes-to_be_bytes_4 face.guest.addr.0 fits)

-- it carries no segment, and no datagram
pub no_segment : (face : Face) → segment_in (request_frame face) ≡ None
no_segment face = refl

pub no_datagram : (face : Face) → datagrams_in (request_frame face) ≡ 0
no_datagram face = refl

pub request_long : (face : Face) → length (request_frame face) ≡ 42
request_long face = refl

-- it is the one that the laws want
pub request_is : (face : Face) (config : Config) → config.vhost ≡ face.vhost.0 → request_frame face ≡ request_for config face.guest.addr.0
request_is face config vhost =
    ap (λ a. ether_octets everyone (our_mac a) arp_kind (arp_octets (record { is_reply = false; sender_mac = our_mac a; sender = a; target_mac = nobody; target = face.guest.addr.0 }))) (sym vhost)

pub request_written : (face : Face) (config : Config) → config.vhost ≡ face.vhost.0 → bytes_eq (request_frame face) (request_for config face.guest.addr.0) ≡ true
request_written face config vhost = ap (bytes_eq (request_frame face)) (sym (request_is face config vhost)) ∙ same_octets (request_frame face)

-- ---- its length stands before it

pub four_off : (frame : List ℕ) → drop 4 (encoding frame) ≡ frame
unfolding encoding
four_off frame = refl

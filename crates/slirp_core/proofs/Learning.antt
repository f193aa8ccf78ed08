-- The frame that brings a segment teaches the hardware address of its guest.
use Rattle.std.proofs.Common.{◌≡◌, ℕ, ◌==◌, ◌&&◌, not, Bool, true, false, List, Option, Some, None, option_map, slice_get, if◌then◌else◌, refl, sym, ◌∙◌, ap}
use Rattle.std.specs.Prelude.{unwrap_or}
use Rattle.std.specs.Option.{option_and_then}
use Rattle.net_octets.specs.Kinds.{arp_kind, icmp_proto, ipv4_kind, tcp_proto, udp_proto}
use Rattle.slirp_settings.specs.Addresses.{Config, is_guest}
use Rattle.arp_table.specs.Arp.{Arp, read_arp}
use Rattle.ether_frame.specs.Ether.{Ether, read_ether}
use Rattle.icmp_echo.specs.Icmp.{Icmp, read_icmp}
use Rattle.ipv4_head.specs.Ip.{Ip, is_unbroken, read_ip}
use Rattle.ipv4_head.specs.Sets.{Key, Outcome, UnevenPart, LongPart, Clashes, Waits, Joined, Part, PartSet, changed_by, joined, outcome_among, parts_for, place_of, set_for, whole_by, whole_with}
use Rattle.ipv4_head.proofs.Members.{found_key, same_key}
use Rattle.tcp_segment.specs.Tcp.{Tcp, read_tcp}
use Rattle.udp_datagram.specs.Udp.{Udp, read_udp}
use Rattle.spec_trace.specs.Fragments.{arrived, joined_by, key_by, part_by}
use Rattle.spec_trace.specs.Packets.{Packet, ArpPacket, Message, DatagramPacket, Pair, Segment, datagram_in, datagram_of, may_come, packet_in, packet_of, packet_of_ip, pair_by, pair_in, Unheard}
use Rattle.spec_trace.specs.Packets.{whole_packet}

none_some : {A : Type 0} {x : A} → None ≡ Some x → ⊥
none_some is = cc

-- ---- a joined datagram comes from the source of its parts

joined_from : (key : Key) (sets : List PartSet) (ip : Ip) → option_map joined (set_for key sets) ≡ Some ip → ip.from ≡ key.from
joined_from key sets ip is = by (slice_get sets (place_of key sets)) refl is
  where
    by : (o : Option PartSet) → slice_get sets (place_of key sets) ≡ o → option_map joined o ≡ Some ip → ip.from ≡ key.from
    by None at is = absurd (none_some is)
    by (Some s) at is =
        let this : joined s ≡ ip = cc in
        sym (ap (λ (i : Ip). i.from) this) ∙ sym (ap (λ (k : Key). k.from) (same_key key s.key (found_key (λ k p. Unit {0}) key sets s at)))

whole_from : (now : ℕ) (key : Key) (p : Part) (waiting : List PartSet) (ip : Ip) → whole_with now key p waiting ≡ Some ip → ip.from ≡ key.from
whole_from now key p waiting ip is = by (outcome_among p (parts_for key waiting)) is
  where
    by : (o : Outcome) → whole_by o (set_for key (changed_by o now key p waiting)) ≡ Some ip → ip.from ≡ key.from
    by Joined is = joined_from key (changed_by Joined now key p waiting) ip is
    by UnevenPart is = absurd (none_some is)
    by LongPart is = absurd (none_some is)
    by Clashes is = absurd (none_some is)
    by Waits is = absurd (none_some is)

arrived_from : (config : Config) (now : ℕ) (waiting : List PartSet) (octets : List ℕ) (part ip : Ip) → arrived config now waiting octets part ≡ Some ip → ip.from ≡ part.from
arrived_from config now waiting octets part ip is = by (is_unbroken part) (is_guest config part.from && not (is_unbroken part)) is
  where
    by_part : (b : Bool) → joined_by now waiting (if b then Some (record { key = key_by part; part = part_by octets part }) else None) ≡ Some ip → ip.from ≡ part.from
    by_part true is = whole_from now (key_by part) (part_by octets part) waiting ip is
    by_part false is = absurd (none_some is)

    by : (whole b : Bool) → (if whole then Some part else joined_by now waiting (if b then Some (record { key = key_by part; part = part_by octets part }) else None)) ≡ Some ip → ip.from ≡ part.from
    by true b is = let this : part ≡ ip = cc in sym (ap (λ (i : Ip). i.from) this)
    by false b is = by_part b is

-- ---- a segment is a guest's

record IsOf (config : Config) (mac : List ℕ) (ip : Ip) (to : List ℕ) (of : Ip) : Type 0 where
  mac_is : to ≡ mac
  ip_is : of ≡ ip
  guest : is_guest config ip.from ≡ true

segment_of_guest : (config : Config) (mac : List ℕ) (ip : Ip) (to : List ℕ) (of : Ip) (tcp : Tcp) → packet_of_ip config mac ip ≡ Some (Segment to of tcp) → IsOf config mac ip to of
segment_of_guest config mac ip to of tcp is = by (ip.proto == udp_proto) (is_guest config ip.from) (ip.proto == icmp_proto) (ip.proto == tcp_proto) refl is
  where
    no_datagram : (o : Option Udp) → option_and_then (λ udp. if may_come config ip udp then Some (DatagramPacket (datagram_of mac ip udp)) else None) o ≡ Some (Segment to of tcp) → ⊥
    no_datagram None is = none_some is
    no_datagram (Some udp) is = by_source (may_come config ip udp) is
      where
        by_source : (b : Bool) → (if b then Some (DatagramPacket (datagram_of mac ip udp)) else None) ≡ Some (Segment to of tcp) → ⊥
        by_source true is = cc
        by_source false is = none_some is

    no_message : (o : Option Icmp) → option_map (Message mac ip) o ≡ Some (Segment to of tcp) → ⊥
    no_message None is = none_some is
    no_message (Some m) is = cc

    one : (o : Option Tcp) → is_guest config ip.from ≡ true → option_map (Segment mac ip) o ≡ Some (Segment to of tcp) → IsOf config mac ip to of
    one None guest is = absurd (none_some is)
    one (Some seg) guest is = record { mac_is = cc; ip_is = cc; guest = guest }

    by : (udp guest icmp segment : Bool) → is_guest config ip.from ≡ guest
        → (if udp then datagram_in config mac ip
        else (if guest then (if icmp then option_map (Message mac ip) (read_icmp ip.body) else
        (if segment then option_map (Segment mac ip) (read_tcp ip.from ip.to ip.body) else None)) else None)) ≡ Some (Segment to of tcp)
        → IsOf config mac ip to of
    by true guest icmp segment of_guest is = absurd (no_datagram (read_udp ip.from ip.to ip.body) is)
    by false true true segment of_guest is = absurd (no_message (read_icmp ip.body) is)
    by false true false true of_guest is = one (read_tcp ip.from ip.to ip.body) of_guest is
    by false true false false of_guest is = absurd (none_some is)
    by false false icmp segment of_guest is = absurd (none_some is)

-- ---- so its frame teaches where it is

heard_is : (o : Option Packet) (mac : List ℕ) (ip : Ip) (tcp : Tcp) → unwrap_or o Unheard ≡ Segment mac ip tcp → o ≡ Some (Segment mac ip tcp)
heard_is None mac ip tcp is = cc
heard_is (Some p) mac ip tcp is = ap Some is

module _ (config : Config) (now : ℕ) (waiting : List PartSet) (mac : List ℕ) (ip : Ip) (tcp : Tcp) where
  abbrev taught_it : Option Pair
  taught_it = Some (record { address = ip.from; mac = mac })

  by_whole : (to octets : List ℕ) (part : Ip) (o : Option Ip) → arrived config now waiting octets part ≡ o → option_and_then (packet_of_ip config to) o ≡ Some (Segment mac ip tcp)
      → (if is_guest config part.from then Some (record { address = part.from; mac = to }) else None) ≡ taught_it
  by_whole to octets part None at is = absurd (none_some is)
  by_whole to octets part (Some whole) at is =
      let of = segment_of_guest config to whole mac ip tcp is in
      let from : ip.from ≡ part.from = ap (λ (i : Ip). i.from) of.ip_is ∙ arrived_from config now waiting octets part whole at in
      let guest : is_guest config part.from ≡ true = ap (is_guest config) (sym (arrived_from config now waiting octets part whole at)) ∙ of.guest in
      ap (λ (b : Bool). if b then Some (record { address = part.from; mac = to }) else None) guest
      ∙ (λ i. Some (record { address = sym from i; mac = sym of.mac_is i }))

  by_ip : (to octets : List ℕ) (o : Option Ip) → option_and_then (whole_packet config now waiting to octets) o ≡ Some (Segment mac ip tcp)
      → option_and_then (λ (part : Ip). if is_guest config part.from then Some (record { address = part.from; mac = to }) else None) o ≡ taught_it
  by_ip to octets None is = absurd (none_some is)
  by_ip to octets (Some part) is = by_whole to octets part (arrived config now waiting octets part) refl is

  no_arp : (o : Option Arp) → option_map ArpPacket o ≡ Some (Segment mac ip tcp) → ⊥
  no_arp None is = none_some is
  no_arp (Some arp) is = cc

  by_ether : (o : Option Ether) → option_and_then (packet_of config now waiting) o ≡ Some (Segment mac ip tcp) → option_and_then (pair_by config) o ≡ taught_it
  by_ether None is = absurd (none_some is)
  by_ether (Some ether) is = by (ether.kind == arp_kind) (ether.kind == ipv4_kind) is
    where
      by : (arp of_ip : Bool) → (if arp then option_map ArpPacket (read_arp ether.body) else (if of_ip then option_and_then (whole_packet config now waiting ether.from ether.body)
          (read_ip ether.body) else None)) ≡ Some (Segment mac ip tcp)
          → (if arp then option_and_then (λ (a : Arp). if is_guest config a.sender then Some (record { address = a.sender; mac = a.sender_mac }) else None) (read_arp ether.body)
          else (if of_ip then option_and_then (λ (part : Ip). if is_guest config part.from then Some (record { address = part.from; mac = ether.from }) else None)
          (read_ip ether.body) else None)) ≡ taught_it
      by true of_ip is = absurd (no_arp (read_arp ether.body) is)
      by false true is = by_ip ether.from ether.body (read_ip ether.body) is
      by false false is = absurd (none_some is)

  pub teaches_sender : (frame : List ℕ) → packet_in config now waiting frame ≡ Segment mac ip tcp → pair_in config frame ≡ taught_it
  teaches_sender frame is = by_ether (read_ether frame) (heard_is (option_and_then (packet_of config now waiting) (read_ether frame)) mac ip tcp is)

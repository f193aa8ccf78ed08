-- Segments of TCP that come from a guest or go out to one, and requests for a guest's hardware address.
use Rattle.std.specs.Prelude.{ℕ, ◌==◌, ◌&&◌, not, Bool, List, Option, Some, None, option_map, option_and_then, if◌then◌else◌}
use Rattle.net_octets.specs.Kinds.{arp_kind, ipv4_kind, tcp_proto}
use Rattle.slirp_settings.specs.Addresses.{endpoint}
use Rattle.slirp_settings.specs.Classes.{same_endpoint}
use Rattle.ether_frame.specs.Ether.{Ether, read_ether}
use Rattle.arp_table.specs.Arp.{Arp, read_arp}
use Rattle.ipv4_head.specs.Ip.{Ip, read_ip, is_unbroken}
use Rattle.tcp_segment.specs.Tcp.{Tcp, read_tcp}
use Rattle.spec_flows.specs.declared.Tuple.{Tuple}
use Rattle.spec_flow.specs.Event.{Segment}
pub use Rattle.spec_flow.specs.Segments.{segment_of}
use Rattle.spec_trace.specs.Happenings.{Arrival}
use Rattle.spec_trace.specs.Packets.{Packet, Segment as SegmentPacket}

-- a segment, the two ends between which it goes, and the guest's hardware address on its frame
pub record OnTuple : Type 0 where
  pub mac : List ℕ
  pub tuple : Tuple
  pub segment : Segment

abbrev pub same_tuple : Tuple → Tuple → Bool
same_tuple a b = same_endpoint a.guest b.guest && same_endpoint a.other b.other

-- between the guest that it comes from and the end that it goes to
abbrev pub from_guest : List ℕ → Ip → Tcp → OnTuple
from_guest mac ip tcp = record { mac = mac; tuple = record { guest = endpoint ip.from tcp.from_port; other = endpoint ip.to tcp.to_port }; segment = segment_of tcp }

-- and the other way
abbrev pub to_guest : List ℕ → Ip → Tcp → OnTuple
to_guest mac ip tcp = record { mac = mac; tuple = record { guest = endpoint ip.to tcp.to_port; other = endpoint ip.from tcp.from_port }; segment = segment_of tcp }

-- the segment that came from a guest
abbrev pub segment_by : Packet → Option OnTuple
segment_by (SegmentPacket mac ip tcp) = Some (from_guest mac ip tcp)
segment_by _ = None

abbrev pub segment_came : Option Arrival → Option OnTuple
segment_came None = None
segment_came (Some arrival) = segment_by arrival.packet

-- the segment that a frame to the guests carries: each of ours is in a datagram of its own
abbrev pub tcp_of : Ip → Option Tcp
tcp_of ip = if (ip.proto == tcp_proto) && is_unbroken ip then read_tcp ip.from ip.to ip.body else None

abbrev pub went_by : List ℕ → Ip → Option OnTuple
went_by mac ip = option_map (to_guest mac ip) (tcp_of ip)

abbrev pub went_of : Ether → Option OnTuple
went_of ether = if ether.kind == ipv4_kind then option_and_then (went_by ether.to) (read_ip ether.body) else None

abbrev pub segment_in : List ℕ → Option OnTuple
segment_in frame = option_and_then went_of (read_ether frame)

-- the guest whose hardware address a frame to the guests asks for (RFC 826)
abbrev pub asked_by : Arp → Option ℕ
asked_by arp = if not arp.is_reply then Some arp.target else None

abbrev pub asked_of : Ether → Option ℕ
asked_of ether = if ether.kind == arp_kind then option_and_then asked_by (read_arp ether.body) else None

abbrev pub asked_in : List ℕ → Option ℕ
asked_in frame = option_and_then asked_of (read_ether frame)

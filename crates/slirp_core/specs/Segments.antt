-- Segments of TCP as the core has them.
use Rattle.std.specs.Prelude.{ℕ, ◌==◌, List, Option, Some, None, option_map, if◌then◌else◌}
use Rattle.std.specs.Option.{option_and_then}
use Rattle.net_octets.specs.Kinds.{ipv4_kind}
use Rattle.slirp_settings.specs.Addresses.{Config}
use Rattle.ether_frame.specs.Ether.{Ether, read_ether}
use Rattle.ipv4_head.specs.Ip.{Ip, read_ip}
use Rattle.ipv4_head.specs.Sets.{PartSet}
use Rattle.tcp_segment.specs.Tcp.{Tcp, read_tcp, tcp_of}
use Rattle.spec_flows.specs.Segments.{OnTuple, from_guest}
use Rattle.spec_trace.specs.Fragments.{arrived}
use Rattle.spec_trace.specs.Packets.{Packet, Segment}
use Rattle.slirp_core.specs.Packets.{is_segment}
use Rattle.tcp_flows.specs.Receiving.{on_of}
use Rattle.tcp_flows.specs.declared.receiving.SegmentView.{SegmentView}

-- a guest's segment: between which ends it goes, from which hardware address its frame came, and what it holds
pub record Coming : Type 0 where
  pub on : OnTuple
  pub tcp : Tcp

abbrev pub coming : List ℕ → Ip → Tcp → Coming
coming mac ip tcp = record { on = from_guest mac ip tcp; tcp = tcp }

abbrev pub coming_of : SegmentView → Coming
coming_of s = record { on = on_of s; tcp = tcp_of s.segment }

-- the segment of a packet, and that which a whole datagram holds
abbrev pub coming_by : Packet → Option Coming
coming_by (Segment mac ip tcp) = Some (coming mac ip tcp)
coming_by _ = None

abbrev pub segment_of_ip : Config → List ℕ → Ip → Option Coming
segment_of_ip config mac ip = if is_segment config ip then option_map (coming mac ip) (read_tcp ip.from ip.to ip.body) else None

-- the same of what arrives by a frame at this moment, while these sets wait
abbrev pub segment_of_arrived : Config → ℕ → List PartSet → List ℕ → List ℕ → Ip → Option Coming
segment_of_arrived config now waiting mac octets ip = option_and_then (segment_of_ip config mac) (arrived config now waiting octets ip)

abbrev pub segment_of_ether : Config → ℕ → List PartSet → Ether → Option Coming
segment_of_ether config now waiting ether = if ether.kind == ipv4_kind then option_and_then (segment_of_arrived config now waiting ether.from ether.body) (read_ip ether.body) else None

abbrev pub segment_in : Config → ℕ → List PartSet → List ℕ → Option Coming
segment_in config now waiting frame = option_and_then (segment_of_ether config now waiting) (read_ether frame)

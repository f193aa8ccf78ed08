-- The frames of a flow.
use Rattle.std.specs.Prelude.{◌≡◌, ℕ, ◌+◌, ◌^◌, ◌<◌, ◌≤◌, length, List, Bool, not, IfSome, if◌then◌else◌}
use Rattle.net_octets.specs.Kinds.{arp_kind, ipv4_kind, tcp_proto}
use Rattle.net_octets.specs.Octets.{our_mac}
use Rattle.net_octets.specs.declared.Mac.{Mac}
use Rattle.arp_table.specs.Arp.{Arp, arp_octets, asking, everyone}
use Rattle.ether_frame.specs.Ether.{ether_octets}
use Rattle.ipv4_head.specs.Ip.{ip_octets}
use Rattle.tcp_segment.specs.Tcp.{Tcp, mss_octets, scale_octets, tcp_octets}
use Rattle.sock_buffers.specs.Downward.{Downward}
use Rattle.tcp_connection.specs.declared.Head.{Head}
use Rattle.tcp_connection.specs.declared.Owed.{Owed}
use Rattle.tcp_connection.specs.declared.Owed.TheVariants.{Syn, SynAck, Data, Ack, Reset}
use Rattle.spec_flow.specs.Event.{Segment}
use Rattle.spec_flow.specs.Guest.{is_empty}
use Rattle.sim_connection.specs.Sending.{carried, mss_in}
use Rattle.flow_splice.specs.Splice.{Face}

abbrev pub bit_if : Bool → ℕ → ℕ
bit_if b n = if b then n else 0

-- the flags of a segment: PSH where it carries octets (RFC 9293, 3.9.1.2)
abbrev pub flags_of : Segment → ℕ
flags_of seg = bit_if seg.fin 1 + bit_if seg.syn 2 + bit_if seg.rst 4 + bit_if (not (is_empty seg.octets)) 8 + bit_if seg.ack 16

-- a segment that goes out to the guest, with its ports
abbrev pub tcp_out : Face → Segment → Tcp
tcp_out face seg = record {
  from_port = face.other.port;
  to_port = face.guest.port;
  seq = seg.number;
  ack = seg.acknowledgement;
  flags = flags_of seg;
  window = seg.window;
  mss = seg.mss;
  scale = seg.scale;
  body = seg.octets;
}

-- the frame of a segment, with an identification, to a hardware address
abbrev pub segment_frame : Face → Mac → (ident : ℕ) → Segment → List ℕ
segment_frame face mac ident seg =
    ether_octets mac.0 (our_mac face.vhost.0) ipv4_kind
    (ip_octets ident 0 tcp_proto face.other.addr.0 face.guest.addr.0 (tcp_octets face.other.addr.0 face.guest.addr.0 (tcp_out face seg)))

-- the request for the guest's hardware address (RFC 826), from the virtual host to everyone
abbrev pub request : Face → Arp
request face = asking face.vhost.0 face.guest.addr.0

-- its frame
abbrev pub request_frame : Face → List ℕ
request_frame face = ether_octets everyone (our_mac face.vhost.0) arp_kind (arp_octets (request face))

-- addresses have 32 bits, ports and identifications 16, hardware addresses six octets; and so have the fields of a segment their sizes, which carries no more than a frame has room for
pub record IsSized (face : Face) (to : Mac) (ident : ℕ) (seg : Segment) : Type 0 where
  pub guest : face.guest.addr.0 < 2 ^ 32
  pub guest_port : face.guest.port < 2 ^ 16
  pub other : face.other.addr.0 < 2 ^ 32
  pub other_port : face.other.port < 2 ^ 16
  pub to_six : length to.0 ≡ 6
  pub ident_fits : ident < 2 ^ 16
  pub number : seg.number < 2 ^ 32
  pub acknowledgement : seg.acknowledgement < 2 ^ 32
  pub window : seg.window < 2 ^ 16
  pub mss : IfSome seg.mss (λ (m : ℕ). m < 2 ^ 16)
  pub few : length seg.octets ≤ 1460

-- what a segment carries is held, and fits a frame
abbrev pub IsHeld : Downward → Owed → Type 0
IsHeld down Syn = Unit {0}
IsHeld down SynAck = Unit {0}
IsHeld down (Data p) = (down.first ≤ p.place) × (p.place + p.length ≤ down.first + length down.octets) × (p.length ≤ 1460)
IsHeld down Ack = Unit {0}
IsHeld down (Reset seq ack) = Unit {0}

-- how many octets the frame has
abbrev pub frame_length : Head → (mru : ℕ) → Downward → Owed → ℕ
frame_length h mru down what = 54 + length (mss_octets (mss_in mru what)) + length (scale_octets h.scale) + length (carried down what)

-- Why a frame may go out: it is owed for what came last; or where nothing is left of that, a flow sends it, it asks for the hardware address of a flow's guest,
-- or it is of a file's packet that goes again.
use Rattle.std.specs.Prelude.{ℕ, ◌+◌, ◌*◌, ◌==◌, ◌&&◌, ◌||◌, not, nat_lt, Bool, true, false, List, [], ◌∷◌, length, filter, bytes_eq, Option, Some, None, is_some, option_and_then, if◌then◌else◌}
use Rattle.std.specs.List.{list_any}
use Rattle.net_octets.specs.Kinds.{arp_kind, ipv4_kind}
use Rattle.net_octets.specs.declared.Mac.{Mac}
use Rattle.world_face.specs.Journal.{Entry}
use Rattle.world_face.specs.Frames.{goes_out}
use Rattle.net_octets.specs.Octets.{our_mac}
use Rattle.slirp_settings.specs.Addresses.{Config, address}
use Rattle.ether_frame.specs.Ether.{Ether, ether_octets, read_ether}
use Rattle.arp_table.specs.Arp.{arp_octets}
use Rattle.arp_table.specs.Table.{mac_of as learnt_for}
use Rattle.ipv4_head.specs.Ip.{Ip, read_ip}
use Rattle.tcp_segment.specs.Tcp.{Tcp, tcp_octets}
use Rattle.spec_flow.specs.Event.{Segment}
use Rattle.spec_flow.specs.Guest.{is_empty}
use Rattle.spec_flow.specs.Flow.{is_accepted, is_closed, syn_is_out}
use Rattle.spec_flows.specs.Book.{book}
use Rattle.spec_flows.specs.Flows.{Flow, TimeWait, is_strange, owner, is_among_time_waits}
use Rattle.spec_flows.specs.Segments.{OnTuple, asked_in, segment_in}
use Rattle.spec_flows.specs.Taught.{is_pair, taught}
use Rattle.spec_trace.specs.Guests.{known}
use Rattle.spec_run.specs.Answers.{again_frames, identification, is_first, is_out, left, part_frame, request, serving, starts, uncut}
use Rattle.arp_table.specs.Arp.{everyone}

-- ---- segments of flows

-- the datagram that a frame to the guests carries
abbrev pub ip_of : Ether → Option Ip
ip_of ether = if ether.kind == ipv4_kind then read_ip ether.body else None

abbrev pub ip_in : List ℕ → Option Ip
ip_in frame = option_and_then ip_of (read_ether frame)

-- the flags of a segment: PSH where it carries octets (RFC 9293, 3.9.1.2)
abbrev pub bit_if : Bool → ℕ → ℕ
bit_if b n = if b then n else 0

abbrev pub flags_of : Segment → ℕ
flags_of s = bit_if s.fin 1 + bit_if s.syn 2 + bit_if s.rst 4 + bit_if (not (is_empty s.octets)) 8 + bit_if s.ack 16

-- the segment with its ports: no options but its own, no flags but its own
abbrev pub tcp_for : OnTuple → Tcp
tcp_for on = record {
  from_port = on.tuple.other.port;
  to_port = on.tuple.guest.port;
  seq = on.segment.number;
  ack = on.segment.acknowledgement;
  flags = flags_of on.segment;
  window = on.segment.window;
  mss = on.segment.mss;
  scale = on.segment.scale;
  body = on.segment.octets;
}

-- a frame is exactly that of its segment, in a whole datagram with this identification
abbrev pub is_written : Config → ℕ → List ℕ → OnTuple → Option Ip → Bool
is_written config ident frame on None = false
is_written config ident frame on (Some ip) =
    bytes_eq frame (part_frame on.mac (our_mac config.vhost) ident ip.proto ip.from ip.to (uncut ip.body))
    && bytes_eq ip.body (tcp_octets ip.from ip.to (tcp_for on))

-- the hardware address is the one that was learnt last, where one is known
abbrev pub is_latest : List ℕ → Option Mac → Bool
is_latest mac None = true
is_latest mac (Some latest) = bytes_eq mac latest.0

-- it goes to the hardware address that was learnt last for its guest (RFC 826), with the next identification
abbrev pub is_well_sent : Config → List Entry → List ℕ → OnTuple → Bool
is_well_sent config past frame on =
    list_any (is_pair (address on.tuple.guest) on.mac) (taught config past)
    && is_latest on.mac (learnt_for on.tuple.guest.addr (known config past))
    && is_written config (identification past) frame on (ip_in frame)

-- a flow that was closed says nothing but its reset once its TIME-WAIT is over, by time, by crowding or by a later flow (RFC 9293, 3.6)
abbrev pub speaks_yet : Segment → List TimeWait → Flow → Bool
speaks_yet segment time_waits f = segment.rst || (not (is_closed f.story) || is_among_time_waits time_waits (Some f))

-- the segment is one of the flow that was opened last between these two ends, and answers no stray one
abbrev pub is_own : Segment → List TimeWait → Option Flow → Bool
is_own segment time_waits None = false
is_own segment time_waits (Some f) = not (is_strange segment f) && speaks_yet segment time_waits f

abbrev pub sends_segment : Config → List Entry → List ℕ → Option OnTuple → Bool
sends_segment config past frame None = false
sends_segment config past frame (Some on) = is_own on.segment (book config past).time_waits (owner on.tuple (book config past).flows) && is_well_sent config past frame on

-- ---- requests for hardware addresses

-- the frame by which a guest is asked for
abbrev pub request_for : Config → ℕ → List ℕ
request_for config guest = ether_octets everyone (our_mac config.vhost) arp_kind (arp_octets (request config guest))

-- the guests that were asked for, each as often, but by frames that were owed
abbrev pub asked_beside : Bool → Option ℕ → List ℕ → List ℕ
asked_beside owed None asked = asked
asked_beside owed (Some guest) asked = if owed then asked else guest ∷ asked

abbrev pub requests_by : List (List ℕ) → Option (List ℕ) → List ℕ → List ℕ
requests_by frames None asked = asked
requests_by frames (Some frame) asked = asked_beside (is_first frame frames) (asked_in frame) asked

abbrev pub requests : Config → List Entry → List ℕ
requests config [] = []
requests config (e ∷ past) = requests_by (left config past) (goes_out e past) (requests config past)

abbrev pub times : ℕ → List ℕ → ℕ
times guest asked = length (filter (λ g. g == guest) asked)

abbrev pub accepted_for : ℕ → List Flow → List Flow
accepted_for guest flows = filter (λ f. is_accepted f.story && (address f.tuple.guest == guest)) flows

-- a flow whose SYN isn't out, and whose socket is open
abbrev pub is_silent : Flow → Bool
is_silent f = not (syn_is_out f.story) && not (is_closed f.story)

abbrev pub is_known : Config → ℕ → List Entry → Bool
is_known config guest past = is_some (learnt_for (record { 0 = guest }) (known config past))

-- A guest's hardware address may be asked for where it isn't known and an open flow was accepted for it whose SYN isn't out, nine times for each flow that was.
abbrev pub may_ask : Config → List Entry → List ℕ → Option ℕ → Bool
may_ask config past frame None = false
may_ask config past frame (Some guest) =
    bytes_eq frame (request_for config guest)
    && list_any is_silent (accepted_for guest (book config past).flows)
    && not (is_known config guest past)
    && nat_lt (times guest (requests config past)) (9 * length (accepted_for guest (book config past).flows))

-- ---- packets of files that go again

-- the first frame of a packet that wasn't acknowledged for its timeout, as it was (RFC 1350, 2); the others are left then
abbrev pub sends_again : Config → List Entry → List ℕ → Bool
sends_again config past frame = starts frame (again_frames config (identification past) (serving config past))

-- ---- all frames

-- what else may go out, where nothing is left of the answer to what came last
abbrev pub is_beside : Config → List Entry → List ℕ → Bool
is_beside config past frame = sends_segment config past frame (segment_in frame) || may_ask config past frame (asked_in frame) || sends_again config past frame

-- A frame may go out that is the next one of the answer to what came last, or that has another reason where nothing is left of that answer.
abbrev pub is_explained : Config → List Entry → List ℕ → Bool
is_explained config past frame = is_first frame (left config past) || (is_out (left config past) && is_beside config past frame)

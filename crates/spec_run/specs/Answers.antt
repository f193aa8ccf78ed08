-- What is owed to a guest for the frame or datagram that came last, and what of it isn't out yet.
use Rattle.std.specs.Prelude.{ℕ, ◌+◌, ◌%◌, ◌^◌, ◌==◌, ◌&&◌, ◌||◌, not, nat_le, Bool, true, false, is_some, List, [], ◌∷◌, ◌++◌, drop, length, map, bytes_eq, Option, Some, None, option_map}
use Rattle.std.specs.Option.{option_or}
use Rattle.std.specs.Prelude.{if◌then◌else◌}
use Rattle.world_face.specs.Frames.{goes_out}
use Rattle.world_face.specs.Journal.{Entry, Wait, LinkWrite, Connect, UdpOpen, UdpSend, UdpRecv, FileLen, FileRead}
use Rattle.world_face.specs.declared.Made.TheVariants.{Failed as MadeFailed}
use Rattle.world_face.specs.declared.Sent.TheVariants.{Failed as SentFailed}
use Rattle.world_face.specs.declared.Got.TheVariants.{From}
use Rattle.net_octets.specs.declared.Endpoint.{Endpoint}
use Rattle.net_octets.specs.Kinds.{arp_kind, ipv4_kind, icmp_proto, tcp_proto, udp_proto}
use Rattle.net_octets.specs.Octets.{two_at, our_mac}
use Rattle.slirp_settings.specs.Addresses.{address, Config, endpoint, is_answered_for, is_ours, last_address}
use Rattle.host_policy.specs.Targets.{shown, is_hidden}
use Rattle.slirp_settings.specs.Classes.{is_group_or_reserved}
use Rattle.ether_frame.specs.Ether.{ether_octets}
use Rattle.arp_table.specs.Arp.{Arp, arp_octets, asking, everyone}
use Rattle.ipv4_head.specs.Cuts.{cuts}
use Rattle.ipv4_head.specs.Ip.{Ip, fragment_of, ip_octets}
use Rattle.ipv4_head.specs.Sets.{Part}
use Rattle.icmp_echo.specs.Icmp.{Icmp, echo, echo_octets, unreachable_octets}
use Rattle.udp_datagram.specs.Udp.{udp_octets}
use Rattle.tcp_segment.specs.Tcp.{tcp_octets}
use Rattle.spec_flows.specs.Book.{book}
use Rattle.spec_flows.specs.Flows.{Book}
use Rattle.spec_flows.specs.SegmentVerdicts.{is_reset, reset_to}
use Rattle.spec_flows.specs.Segments.{OnTuple, asked_in, from_guest, segment_in}
use Rattle.rules_dhcp.specs.declared.Lease.{Lease}
use Rattle.rules_dns.specs.declared.Question.{Question}
use Rattle.rules_dns.specs.Questions.{is_answered, numbered}
use Rattle.rules_tftp.specs.Transfers.{Files, Outcome, Said, Transfer, begun, came, next_again, said_again, settled, ticked, with_again}
use Rattle.rules_tftp.specs.Asking.{by_answer}
use Rattle.spec_trace.specs.Moments.{moment}
use Rattle.spec_trace.specs.Happenings.{Arrival, Happening, happens}
use Rattle.spec_trace.specs.Packets.{Packet, Unheard, ArpPacket, Message, DatagramPacket, Segment, Datagram}
use Rattle.spec_run.specs.Asking.{step}
use Rattle.spec_run.specs.Datagrams.{DatagramVerdict, Refused, ForLeases, ForFiles, datagram_verdict, Step, NeedsSocket, NeedsSending}
use Rattle.spec_run.specs.Leasing.{Sending, lease_reply, leases}
use Rattle.spec_run.specs.Names.{questions}
use Rattle.spec_run.specs.Ports.{mac_for, opened_for}
use Rattle.slirp_settings.specs.Ports.{files_port, names_port}

-- One answer to a guest: an ARP packet, or a datagram, and the hardware address to which it goes.
pub data Answer : Type 0 where
  ArpAnswer : (to : List ℕ) → Arp → Answer
  IpAnswer : (to : List ℕ) (proto from guest : ℕ) (body : List ℕ) → Answer

-- we answer for the addresses of the virtual host, of the name server and of forwards of guests (RFC 826)
abbrev pub arp_reply : Arp → Answer
arp_reply arp = ArpAnswer arp.sender_mac (record { is_reply = true; sender_mac = our_mac arp.target; sender = arp.target; target_mac = arp.sender_mac; target = arp.sender })

abbrev pub owed_for_arp : Config → Arp → List Answer
owed_for_arp config arp = if not arp.is_reply && is_answered_for config arp.target then arp_reply arp ∷ [] else []

-- an echo is answered with its own identifier, number and payload, to the hardware address from which it came (RFC 792; RFC 1122, 3.2.2.6)
abbrev pub owed_for_icmp : List ℕ → Ip → Icmp → List Answer
owed_for_icmp mac ip (echo false ident number body) = IpAnswer mac icmp_proto ip.to ip.from (echo_octets true ident number body) ∷ []
owed_for_icmp mac ip _ = []

-- no unreachable is sent to nobody, nor about what went to many (RFC 1122, 3.2.2)
abbrev pub is_untold : Config → Datagram → Bool
is_untold config d = (address d.from == 0) || is_group_or_reserved (address d.to) || (address d.to == last_address config)

-- the code of an unreachable: communication is prohibited (RFC 1122, 3.2.2.1)
abbrev pub prohibited : ℕ
prohibited = 10

-- and: the network can't be reached (RFC 792)
abbrev pub no_network : ℕ
no_network = 0

abbrev pub told_about : Config → ℕ → Datagram → List Answer
told_about config code d = if is_untold config d then [] else IpAnswer d.mac icmp_proto config.vhost (address d.from) (unreachable_octets code d.quote) ∷ []

-- a datagram of ours
abbrev pub answer_of : Sending → Answer
answer_of s = IpAnswer s.mac udp_proto (address s.from) (address s.to) (udp_octets (address s.from) (address s.to) (record { from_port = s.from.port; to_port = s.to.port; body = s.body }))

abbrev pub answers_of : List Sending → List Answer
answers_of sendings = map answer_of sendings

-- what the server of files tells a guest, from port 69 of the virtual host
abbrev pub told_of_files : Config → Option Said → List Answer
told_of_files config None = []
told_of_files config (Some s) = answer_of (record { mac = s.mac; from = endpoint config.vhost files_port; to = s.guest; body = s.octets }) ∷ []

-- what the services of ours keep: who has which address, the transfers of files, and a packet of these that is to go again and isn't out yet
pub record Serving : Type 0 where
  pub now : ℕ
  pub leases : List Lease
  pub files : Files
  pub again : Option Said

-- a datagram for the server of files
abbrev pub served_file : Config → Serving → Datagram → Outcome
served_file config s d = came config.tftp_path s.now d.mac d.from d.body s.files

-- a datagram that may go nowhere is answered, and so are those for servers of ours
abbrev pub owed_for_verdict : Config → Serving → Datagram → DatagramVerdict → List Answer
owed_for_verdict config s d Refused = told_about config prohibited d
owed_for_verdict config s d ForLeases = answers_of (lease_reply config s.now s.leases d)
owed_for_verdict config s d ForFiles = told_of_files config (served_file config s d).told
owed_for_verdict config s d _ = []

-- a reset, from the end to which the segment went, to the hardware address from which it came (RFC 9293, 3.10.7.1)
abbrev pub reset_for : OnTuple → Answer
reset_for on = IpAnswer on.mac tcp_proto (address on.tuple.other) (address on.tuple.guest) (tcp_octets (address on.tuple.other) (address on.tuple.guest) (reset_to on.tuple on.segment))

-- a segment is no flow's, or takes another SYN for the one that went out
abbrev pub strays : Config → Book → Packet → Bool
strays config b (Segment mac ip tcp) = is_reset config b (from_guest mac ip tcp)
strays config b _ = false

-- one that strays is answered by a reset
abbrev pub owed_for_segment : Bool → OnTuple → List Answer
owed_for_segment stray on = if stray then reset_for on ∷ [] else []

-- what a packet of the guests owes, a message only where it went to one of ours
abbrev pub owed_for_packet : Config → Serving → (stray : Bool) → Packet → List Answer
owed_for_packet config s stray Unheard = []
owed_for_packet config s stray (ArpPacket arp) = owed_for_arp config arp
owed_for_packet config s stray (Message mac ip message) = if is_ours config ip.to then owed_for_icmp mac ip message else []
owed_for_packet config s stray (DatagramPacket d) = owed_for_verdict config s d (datagram_verdict config d)
owed_for_packet config s stray (Segment mac ip tcp) = owed_for_segment stray (from_guest mac ip tcp)

-- the virtual host asks everyone for the hardware address of a guest (RFC 826)
abbrev pub request : Config → ℕ → Arp
request config guest = asking config.vhost guest

-- What a peer's datagram owes: its payload, whole, to the port of a guest for which the socket was opened, at this hardware address. Where that isn't known the
-- guest is asked for it in place of the datagram. Nothing where the peer isn't shown.
abbrev pub asks_for : Config → Endpoint → Endpoint → List Answer
asks_for config peer guest = if is_hidden config peer then [] else ArpAnswer everyone (request config (address guest)) ∷ []

abbrev pub reply_at : Config → Endpoint → List ℕ → Endpoint → List ℕ → List Answer
reply_at config peer octets guest mac =
    let from = shown config peer in
    if is_hidden config peer then []
    else IpAnswer mac udp_proto (address from) (address guest) (udp_octets (address from) (address guest) (record { from_port = from.port; to_port = guest.port; body = octets })) ∷ []

abbrev pub reply_for : Config → Endpoint → List ℕ → Option Endpoint → Option (List ℕ) → List Answer
reply_for config peer octets (Some guest) (Some mac) = reply_at config peer octets guest mac
reply_for config peer octets (Some guest) None = asks_for config peer guest
reply_for config peer octets None mac = []

-- What came on the socket of a question: where it answers it, its payload, whole, to the port that asked, from port 53 of the name server.
abbrev pub name_answer : Config → Question → List ℕ → Answer
name_answer config q octets = answer_of (record { mac = q.mac.0; from = endpoint config.vnameserver names_port; to = q.guest; body = octets })

abbrev pub name_reply : Config → Question → Endpoint → List ℕ → List Answer
name_reply config q peer octets = if is_answered config.resolver q peer octets then name_answer config q octets ∷ [] else []

abbrev pub reply_on : Config → List Entry → ℕ → Endpoint → List ℕ → Option Question → List Answer
reply_on config past socket peer octets None = reply_for config peer octets (opened_for config socket past) (mac_for config socket past)
reply_on config past socket peer octets (Some q) = name_reply config q peer octets

-- a datagram that isn't cut yet, as a part of its own
abbrev pub uncut : List ℕ → Part
uncut body = record { place = 0; more = false; life = 64; head = []; body = body }

-- the frame in which a part of a datagram goes out
abbrev pub part_frame : (to from : List ℕ) (ident proto source guest : ℕ) → Part → List ℕ
part_frame to from ident proto source guest p = ether_octets to from ipv4_kind (ip_octets ident (fragment_of p.more p.place) proto source guest p.body)

-- A datagram goes out in the parts that fit a frame, in their order, all with its identification (RFC 791, 2.3; RFC 894; the settings say how long a part may be).
abbrev pub datagram_frames : (mtu : ℕ) (to from : List ℕ) (ident proto source guest : ℕ) → List ℕ → List (List ℕ)
datagram_frames mtu to from ident proto source guest body = map (part_frame to from ident proto source guest) (cuts mtu (uncut body))

-- A datagram carries at most 65,515 octets behind a header of 20 (RFC 791, 3.1). An answer that is longer has no frames; no World gives one.
abbrev pub fits_datagram : List ℕ → Bool
fits_datagram body = nat_le (length body) 65515

-- The frames of an answer as they go out, those of a datagram with this identification. Nothing else can go out before them, so the identification is that of
-- the moment at which they came to be owed.
abbrev pub frames_for : Config → ℕ → Answer → List (List ℕ)
frames_for config ident (ArpAnswer to arp) = ether_octets to arp.sender_mac arp_kind (arp_octets arp) ∷ []
frames_for config ident (IpAnswer to proto from guest body) = if fits_datagram body then datagram_frames config.mtu to (our_mac config.vhost) ident proto from guest body else []

abbrev pub frames_of : Config → ℕ → List Answer → List (List ℕ)
frames_of config ident [] = []
frames_of config ident (answer ∷ answers) = frames_for config ident answer ++ frames_of config ident answers

-- A frame that carries a datagram, or the first part of one. Its place is 0; the parts behind it aren't counted.
abbrev pub begins_datagram : List ℕ → Bool
begins_datagram frame = nat_le 22 (length frame) && (two_at frame 12 == ipv4_kind) && (two_at frame 20 % 2 ^ 13 == 0)

abbrev pub datagrams_in : List ℕ → ℕ
datagrams_in frame = if begins_datagram frame then 1 else 0

abbrev pub with_datagrams : Option (List ℕ) → ℕ → ℕ
with_datagrams None out = out
with_datagrams (Some frame) out = datagrams_in frame + out

-- datagrams that went out, by their first parts; their count is the next one's identification (RFC 791, 3.2)
abbrev pub datagrams_out : List Entry → ℕ
datagrams_out [] = 0
datagrams_out (e ∷ past) = with_datagrams (goes_out e past) (datagrams_out past)

abbrev pub identification : List Entry → ℕ
identification past = datagrams_out past % 2 ^ 16

-- a datagram that could get no socket, or couldn't be sent on it
abbrev pub unsent : Config → ℕ → Step → List (List ℕ) → List (List ℕ)
unsent config ident (NeedsSocket errand) left = frames_of config ident (told_about config no_network errand.datagram)
unsent config ident (NeedsSending socket errand) left = frames_of config ident (told_about config no_network errand.datagram)
unsent config ident _ left = left

-- a guest whose connection the host refused at once gets a reset (RFC 9293, 3.10.7.1)
abbrev pub unconnected : Config → ℕ → Option OnTuple → List (List ℕ) → List (List ℕ)
unconnected config ident None left = left
unconnected config ident (Some on) left = frames_of config ident (reset_for on ∷ [])

-- this frame is the first that is left
abbrev pub is_first : List ℕ → List (List ℕ) → Bool
is_first frame [] = false
is_first frame (first ∷ frames) = bytes_eq frame first

-- nothing is left
abbrev pub is_out : List (List ℕ) → Bool
is_out [] = true
is_out (frame ∷ frames) = false

-- ---- what is left, and what the services keep

-- the frames that aren't out of what is owed for what came last, or of a packet of a file that goes again
pub record Ledger : Type 0 where
  pub left : List (List ℕ)
  pub serving : Serving

-- A packet that may go again: the one that is on its way, else the longest unused one that is due. Its frames, as they would go out now.
abbrev pub may_go_again : Serving → Option Said
may_go_again s = option_or s.again (option_map said_again (next_again s.now s.files.transfers))

abbrev pub again_frames : Config → ℕ → Serving → List (List ℕ)
again_frames config ident s = frames_of config ident (told_of_files config (may_go_again s))

-- a frame, which is no segment's and no request for a hardware address, is the first of these
abbrev pub is_flows : List ℕ → Bool
is_flows frame = is_some (segment_in frame) || is_some (asked_in frame)

abbrev pub starts : List ℕ → List (List ℕ) → Bool
starts frame again = not (is_flows frame) && is_first frame again

-- a frame that goes out takes the first one away where it is that one; where none is left it may begin a packet that goes again, of which the others are left then
abbrev pub taken : Option (List ℕ) → List (List ℕ) → List (List ℕ) → List (List ℕ)
taken None again left = left
taken (Some frame) again [] = if starts frame again then drop 1 again else []
taken (Some frame) again (first ∷ left) = if bytes_eq frame first then left else first ∷ left

abbrev pub left_by_file : Config → ℕ → Option Said → List (List ℕ) → List (List ℕ)
left_by_file config ident None left = left
left_by_file config ident (Some said) left = frames_of config ident (told_of_files config (Some said))

abbrev pub left_by_outcome : Config → ℕ → Option Outcome → List (List ℕ) → List (List ℕ)
left_by_outcome config ident None left = left
left_by_outcome config ident (Some o) left = left_by_file config ident o.told left

abbrev pub left_by_call : Config → List Entry → Happening → Entry → Ledger → List (List ℕ)
left_by_call config past h (LinkWrite octets answer) l = taken h.went (again_frames config (identification past) l.serving) l.left
left_by_call config past h (Connect socket to MadeFailed) l = unconnected config (identification past) (book config past).came l.left
left_by_call config past h (UdpOpen socket at MadeFailed) l = unsent config (identification past) (step config past) l.left
left_by_call config past h (UdpSend socket to octets SentFailed) l = unsent config (identification past) (step config past) l.left
left_by_call config past h (UdpRecv socket asked (From peer n) octets) l =
    frames_of config (identification past) (reply_on config past socket peer octets (numbered socket (questions config past)))
left_by_call config past h (FileLen name answer) l = left_by_outcome config (identification past) (by_answer l.serving.now (FileLen name answer) l.serving.files) l.left
left_by_call config past h (FileRead name place asked answer octets) l = left_by_outcome config (identification past)
    (by_answer l.serving.now (FileRead name place asked answer octets) l.serving.files) l.left
left_by_call config past h _ l = l.left

-- the frames that are owed for the frame or datagram that came last and aren't out; a datagram has the identification that was the next one when it came to be owed
abbrev pub left_after : Config → List Entry → Happening → Option Arrival → Ledger → List (List ℕ)
left_after config past h None l = left_by_call config past h h.call l
left_after config past h (Some arrival) l =
    frames_of config (identification past) (owed_for_packet config l.serving (strays config (book config (h.call ∷ past)) arrival.packet) arrival.packet)

-- ---- files

abbrev pub files_by_verdict : Config → Serving → Datagram → DatagramVerdict → Files
files_by_verdict config s d ForFiles = (served_file config s d).files
files_by_verdict config s d _ = s.files

abbrev pub files_by_packet : Config → Serving → Packet → Files
files_by_packet config s (DatagramPacket d) = files_by_verdict config s d (datagram_verdict config d)
files_by_packet config s _ = s.files

-- a packet began to go again by this frame
abbrev pub begins_again : Config → ℕ → Ledger → Option (List ℕ) → Bool
begins_again config ident l None = false
begins_again config ident l (Some frame) = is_out l.left && starts frame (again_frames config ident l.serving)

abbrev pub begun_by : ℕ → Option Transfer → Files → Files
begun_by now None files = files
begun_by now (Some t) files = record files { transfers = with_again now t.guest files.transfers }

-- one that was on its way was counted when it was due
abbrev pub files_begun : ℕ → Option Said → Files → Files
files_begun now None files = begun_by now (next_again now files.transfers) files
files_begun now (Some said) files = files

abbrev pub files_sent : Bool → Serving → Files
files_sent true s = files_begun s.now s.again s.files
files_sent false s = s.files

abbrev pub files_by_outcome : Option Outcome → Files → Files
files_by_outcome None files = files
files_by_outcome (Some o) files = o.files

-- nothing else is to be sent
abbrev pub is_free : Ledger → Bool
is_free l = is_out l.left && not (is_some l.serving.again)

abbrev pub files_by_call : Config → List Entry → Happening → Entry → Ledger → Files
files_by_call config past h (Wait wants timeout answer ready) l = record l.serving.files { transfers = ticked l.serving.now (is_free l) l.serving.files.transfers }
files_by_call config past h (LinkWrite octets answer) l = files_sent (begins_again config (identification past) l h.went) l.serving
files_by_call config past h e l = files_by_outcome (by_answer l.serving.now e l.serving.files) l.serving.files

abbrev pub files_after : Config → List Entry → Happening → Option Arrival → Ledger → Files
files_after config past h None l = files_by_call config past h h.call l
files_after config past h (Some arrival) l = files_by_packet config l.serving arrival.packet

-- a packet that is on its way, until the link takes some of it
abbrev pub unless_begun : Bool → Option Said → Option Said
unless_begun true again = None
unless_begun false again = again

abbrev pub again_by_call : Config → List Entry → Happening → Entry → Ledger → Option Said
again_by_call config past h (Wait wants timeout answer ready) l = option_or l.serving.again (begun l.serving.now (is_free l) l.serving.files.transfers)
again_by_call config past h (LinkWrite octets answer) l = unless_begun (begins_again config (identification past) l h.went) l.serving.again
again_by_call config past h _ l = l.serving.again

abbrev pub ledger_after : Config → List Entry → Happening → Ledger → Ledger
ledger_after config past h l = record {
  left = left_after config past h h.came l;
  serving = record {
    now = moment (h.call ∷ past);
    leases = leases config (h.call ∷ past);
    files = files_after config past h h.came l;
    again = again_by_call config past h h.call l;
  };
}

abbrev pub ledger : Config → List Entry → Ledger
ledger config [] = record { left = []; serving = record { now = 0; leases = leases config []; files = settled []; again = None } }
ledger config (e ∷ past) = ledger_after config past (happens config past e) (ledger config past)

abbrev pub left : Config → List Entry → List (List ℕ)
left config past = (ledger config past).left

abbrev pub serving : Config → List Entry → Serving
serving config past = (ledger config past).serving

-- What the laws come to, in the words of guests, their ports and their datagrams.
use Rattle.std.specs.Prelude.{◌≡◌, ℕ, zero, suc, ◌+◌, ◌-◌, ◌%◌, ◌^◌, ◌==◌, ◌<◌, ◌≤◌, ◌⊎◌, Bool, true, false, List, [], ◌∷◌, drop, length, slice_get, Option, Some, None, if◌then◌else◌}
use Rattle.world_face.specs.Frames.{goes_out}
use Rattle.world_face.specs.Journal.{Entry, Connect, LinkWrite, UdpOpen, UdpSend, UdpRecv, IsEndpoint}
use Rattle.world_face.specs.declared.Made.{Made}
use Rattle.world_face.specs.declared.Made.TheVariants.{Done as MadeDone, Failed as MadeFailed}
use Rattle.world_face.specs.declared.Sent.{Sent}
use Rattle.world_face.specs.declared.Sent.TheVariants.{Done as SentDone, NotYet as SentNotYet, Failed as SentFailed}
use Rattle.world_face.specs.declared.Got.{Got}
use Rattle.world_face.specs.declared.Got.TheVariants.{From, NotYet as GotNotYet, Failed as GotFailed}
use Rattle.world_face.specs.Limits.{most_to_udp}
use Rattle.net_octets.specs.declared.Endpoint.{Endpoint}
use Rattle.net_octets.specs.Kinds.{ipv4_kind, udp_proto}
use Rattle.slirp_settings.specs.declared.Forward.{Forward}
use Rattle.slirp_settings.specs.declared.Proto.{Proto}
use Rattle.slirp_settings.specs.declared.Proto.TheVariants.{Udp as ByUdp}
use Rattle.host_policy.specs.declared.Verdict.TheVariants.{Go}
use Rattle.slirp_settings.specs.Addresses.{Config, address, endpoint, forward_on}
use Rattle.host_policy.specs.Targets.{is_hidden, shown, target}
use Rattle.ether_frame.specs.Ether.{Ether, read_ether}
use Rattle.ipv4_head.specs.Ip.{Ip, read_ip}
use Rattle.rules_udp.specs.Associations.{idle_life, most_associations}
use Rattle.rules_udp.specs.declared.Association.{Association}
use Rattle.udp_datagram.specs.Udp.{Udp, udp_octets}
use Rattle.spec_flows.specs.Book.{book}
use Rattle.spec_flows.specs.Flows.{Flow, is_strange, owner}
use Rattle.spec_flows.specs.Segments.{OnTuple, asked_in, segment_in}
use Rattle.rules_dns.specs.declared.Question.{Question}
use Rattle.rules_dns.specs.Questions.{is_answered, numbered as numbered_question}
use Rattle.rules_tftp.specs.Asking.{by_answer}
use Rattle.rules_tftp.specs.Transfers.{Outcome, Said}
use Rattle.spec_run.specs.Names.{questions}
use Rattle.spec_trace.specs.Happenings.{Arrival, happens}
use Rattle.spec_trace.specs.Moments.{moment}
use Rattle.spec_trace.specs.Packets.{Datagram, DatagramPacket, Packet}
use Rattle.spec_run.specs.Datagrams.{DatagramVerdict, ForLeases, ForFiles, datagram_verdict}
use Rattle.spec_trace.specs.Sockets.{Kind, Association as OfAssociation, DnsSocket, Forward as OfForward, Listener as OfListener, Flow as OfFlow, is_among}
use Rattle.spec_run.specs.Answers.{Answer, IpAnswer, Serving, begins_again, ledger, may_go_again, name_reply, serving, told_of_files, datagrams_out, frames_for, frames_of}
use Rattle.spec_run.specs.Answers.{identification, is_first, left, no_network, owed_for_packet, reply_for, reset_for, strays, told_about}
use Rattle.spec_run.specs.Ports.{associations_open, last_datagram, last_use, mac_for, mac_of, opened_for, used_at}
use Rattle.spec_run.specs.Sending.{is_well_sent, may_ask, speaks_yet}

-- A socket for datagrams is opened at port 0, which the host chooses: at every address of the host, or at that from which datagrams are to go out.
abbrev pub IsFromHost : Config → Endpoint → Type 0
IsFromHost config at = (at.port ≡ 0) × ((address at ≡ 0) ⊎ (config.outbound ≡ Some (address at)))

-- A datagram that is sent is the payload, whole, of the one that came last; it goes where that one may go, on a socket that was opened for the port from which it came.
pub record SendsWhatCame (config : Config) (past : List Entry) (socket : ℕ) (to : Endpoint) (octets : List ℕ) : Type 0 where
  pub datagram : Datagram
  pub last : last_datagram config past ≡ Some datagram
  pub port : opened_for config socket past ≡ Some datagram.from
  pub goes : target config ByUdp datagram.to ≡ Go to
  pub whole : octets ≡ datagram.body

-- As many sockets of guests' ports are open as may be, and none of them was used before this one.
pub record IsLongestUnused (config : Config) (socket : ℕ) (past : List Entry) : Type 0 where
  pub full : most_associations ≤ length (associations_open config past)
  pub least : (other : ℕ) → is_among other (associations_open config past) ≡ true → last_use socket past ≤ last_use other past

-- the life of a socket is over that was not used for so long (RFC 4787, 4.3)
abbrev pub IsIdle : ℕ → List Entry → Type 0
IsIdle socket past = used_at socket past + idle_life ≤ moment past

-- the datagram is for a server of ours
abbrev pub is_for_server : DatagramVerdict → Bool
is_for_server ForLeases = true
is_for_server ForFiles = true
is_for_server _ = false

-- What came last that an answer may be owed for: a packet of the guests, a segment among them that is no flow's or not; or a peer's datagram, on a socket; or
-- word that the datagram of a guest that came last could get no socket, or couldn't be sent; or that the host refused the connection for which the segment
-- asked that came last.
pub data Occasion : Type 0 where
  NoOccasion : Occasion
  Came : Serving → (stray : Bool) → Packet → Occasion
  Heard : (socket : ℕ) (peer : Endpoint) (octets : List ℕ) → Occasion
  HeardOfName : Question → (peer : Endpoint) (octets : List ℕ) → Occasion
  OfFile : Said → Occasion
  Unsent : Datagram → Occasion
  Unconnected : OnTuple → Occasion

abbrev pub unsent_or : Option Datagram → Occasion → Occasion
unsent_or None before = before
unsent_or (Some d) before = Unsent d

-- a socket for datagrams that is opened at a port of the host's choice is for a guest's datagram, and another for none
abbrev pub for_guest : (port : ℕ) → Option Datagram → Option Datagram
for_guest port last = if port == 0 then last else None

abbrev pub by_made : Made → Option Datagram → Occasion → Occasion
by_made MadeDone last before = before
by_made MadeFailed last before = unsent_or last before

abbrev pub by_sent : Sent → Option Datagram → Occasion → Occasion
by_sent SentDone last before = before
by_sent SentNotYet last before = before
by_sent SentFailed last before = unsent_or last before

abbrev pub heard_on : ℕ → Endpoint → List ℕ → Option Question → Occasion
heard_on socket peer octets None = Heard socket peer octets
heard_on socket peer octets (Some q) = HeardOfName q peer octets

abbrev pub by_got : Got → ℕ → List ℕ → Option Question → Occasion → Occasion
by_got (From peer n) socket octets q before = heard_on socket peer octets q
by_got GotNotYet socket octets q before = before
by_got GotFailed socket octets q before = before

-- a file's answer made a packet, or a packet goes again
abbrev pub by_said : Option Said → Occasion → Occasion
by_said None before = before
by_said (Some said) before = OfFile said

abbrev pub by_outcome : Option Outcome → Occasion → Occasion
by_outcome None before = before
by_outcome (Some o) before = by_said o.told before

abbrev pub refused_or : Option OnTuple → Occasion → Occasion
refused_or None before = before
refused_or (Some on) before = Unconnected on

abbrev pub by_joined : Made → Option OnTuple → Occasion → Occasion
by_joined MadeDone on before = before
by_joined MadeFailed on before = refused_or on before

abbrev pub by_call : Config → List Entry → Entry → Option Datagram → Option OnTuple → Occasion → Occasion
by_call config past (Connect socket to answer) last on before = by_joined answer on before
by_call config past (UdpOpen socket at answer) last on before = by_made answer (for_guest at.port last) before
by_call config past (UdpSend socket to octets answer) last on before = by_sent answer last before
by_call config past (UdpRecv socket asked answer octets) last on before = by_got answer socket octets (numbered_question socket (questions config past)) before
by_call config past (LinkWrite octets answer) last on before =
    if begins_again config (identification past) (ledger config past) (goes_out (LinkWrite octets answer) past) then by_said (may_go_again (serving config past)) before else before
by_call config past e last on before = by_outcome (by_answer (serving config past).now e (serving config past).files) before

abbrev pub occasion_after : Config → Entry → List Entry → Option Arrival → Occasion → Occasion
occasion_after config e past None before = by_call config past e (last_datagram config past) (book config past).came before
occasion_after config e past (Some arrival) before = Came (serving config past) (strays config (book config (e ∷ past)) arrival.packet) arrival.packet

abbrev pub last_occasion : Config → List Entry → Occasion
last_occasion config [] = NoOccasion
last_occasion config (e ∷ past) = occasion_after config e past (happens config past e).came (last_occasion config past)

-- what is owed for it
abbrev pub owed_for : Config → List Entry → Occasion → List Answer
owed_for config past NoOccasion = []
owed_for config past (Came s stray packet) = owed_for_packet config s stray packet
owed_for config past (Heard socket peer octets) = reply_for config peer octets (opened_for config socket past) (mac_for config socket past)
owed_for config past (HeardOfName q peer octets) = name_reply config q peer octets
owed_for config past (OfFile said) = told_of_files config (Some said)
owed_for config past (Unsent d) = told_about config no_network d
owed_for config past (Unconnected on) = reset_for on ∷ []

-- the identification of an answer of which so many frames are out: where none is it is the next one, and later that of the datagram that began last
abbrev pub identification_with : ℕ → List Entry → ℕ
identification_with zero past = identification past
identification_with (suc frames) past = (datagrams_out past - 1) % 2 ^ 16

-- What is left is what is owed for what came last, but for so many frames, which are out.
pub record IsRest (config : Config) (past : List Entry) (left : List (List ℕ)) : Type 0 where
  pub out : ℕ
  pub is : left ≡ drop out (frames_of config (identification_with out past) (owed_for config past (last_occasion config past)))

-- A frame answers what came last: one answer is owed for that, so many of its frames are out, and this is the next one, which the others follow.
pub record AnswersLast (config : Config) (past : List Entry) (frame : List ℕ) : Type 0 where
  pub answer : Answer
  pub owed : owed_for config past (last_occasion config past) ≡ answer ∷ []
  pub out : ℕ
  pub rest : List (List ℕ)
  pub is : drop out (frames_for config (identification_with out past) answer) ≡ frame ∷ rest

-- A frame is a flow's own: nothing is left of the answer to what came last; the frame carries a segment between the two ends of the flow, which was opened last
-- on these, and answers no stray segment, nor speaks where the flow was closed and its TIME-WAIT is over, but for its reset; it is exactly the frame of that
-- segment, in a whole datagram with the next identification, and goes to a hardware address from which the flow's guest was learnt.
pub record IsOfFlow (config : Config) (past : List Entry) (frame : List ℕ) : Type 0 where
  pub nothing : left config past ≡ []
  pub on : OnTuple
  pub carried : segment_in frame ≡ Some on
  pub flow : Flow
  pub owner : owner on.tuple (book config past).flows ≡ Some flow
  pub own : is_strange on.segment flow ≡ false
  pub speaks : speaks_yet on.segment (book config past).time_waits flow ≡ true
  pub sent : is_well_sent config past frame on ≡ true

-- A frame asks for the hardware address of a guest for which a flow was accepted, and nothing is left of the answer to what came last.
pub record AsksForGuest (config : Config) (past : List Entry) (frame : List ℕ) : Type 0 where
  pub nothing : left config past ≡ []
  pub guest : ℕ
  pub asked : asked_in frame ≡ Some guest
  pub may : may_ask config past frame (Some guest) ≡ true

-- at the port of the host of one of these forwards, with this protocol
abbrev pub OpensGiven : List Forward → Proto → Endpoint → Type 0
OpensGiven forwards proto at = (k : ℕ) × (f : Forward) × (slice_get forwards k ≡ Some f) × (f.proto ≡ proto) × (at ≡ f.host)

-- at the port of the host of the forward that was asked for with the number of this socket, with this protocol
abbrev pub IsForAdded : Config → Proto → ℕ → Endpoint → Type 0
IsForAdded config proto socket at = (f : Forward) × (forward_on config socket ≡ Some f) × (f.proto ≡ proto) × (at ≡ f.host)

-- the socket of a port of the host that is given to a guest, for connections or for datagrams
abbrev pub is_given : Option Kind → Bool
is_given None = false
is_given (Some OfAssociation) = false
is_given (Some DnsSocket) = false
is_given (Some OfForward) = true
is_given (Some OfListener) = true
is_given (Some OfFlow) = false

-- the ports of guests to which ports of the host are given are endpoints
abbrev pub HasPorts : Config → Type 0
HasPorts config = (n : ℕ) (f : Forward) → forward_on config n ≡ Some f → IsEndpoint f.guest

-- A frame is the first of a packet of a file that wasn't acknowledged for its timeout and goes again as it was, and nothing is left of the answer to what came last.
pub record GoesAgain (config : Config) (past : List Entry) (frame : List ℕ) : Type 0 where
  pub nothing : left config past ≡ []
  pub said : Said
  pub may : may_go_again (serving config past) ≡ Some said
  pub first : is_first frame (frames_of config (identification past) (told_of_files config (Some said))) ≡ true

-- what a frame carries, as it is read: a datagram of IPv4 (RFC 894; RFC 791, 3.1)
pub record Carries (frame : List ℕ) (ip : Ip) : Type 0 where
  pub ether : Ether
  pub framed : read_ether frame ≡ Some ether
  pub kind : ether.kind ≡ ipv4_kind
  pub holds : read_ip ether.body ≡ Some ip

-- A frame is one of the reply to what was received last: on a socket that was opened for this port of a guest, its payload whole, from the peer as it is shown. So many frames of the reply are out.
pub record RepliesToItsPort (config : Config) (past : List Entry) (frame : List ℕ) : Type 0 where
  pub socket : ℕ
  pub peer : Endpoint
  pub octets : List ℕ
  pub last : last_occasion config past ≡ Heard socket peer octets
  pub seen : is_hidden config peer ≡ false
  pub fits : length octets ≤ most_to_udp
  pub guest : Endpoint
  pub port : opened_for config socket past ≡ Some guest
  pub mac : List ℕ
  pub at : mac_for config socket past ≡ Some mac
  pub out : ℕ
  pub rest : List (List ℕ)
  pub is : drop out (frames_for config (identification_with out past) (IpAnswer mac udp_proto (address (shown config peer)) (address guest)
      (udp_octets (address (shown config peer)) (address guest) (record { from_port = (shown config peer).port; to_port = guest.port; body = octets }))))
      ≡ frame ∷ rest

-- A frame is one of the answer to a question to the name server, to the port that asked it, and from port 53 of the name server: what was received last came on
-- the socket of that question, from the resolver, and has its identifier. So many frames of it are out.
pub record AnswersQuestion (config : Config) (past : List Entry) (frame : List ℕ) : Type 0 where
  pub question : Question
  pub peer : Endpoint
  pub octets : List ℕ
  pub last : last_occasion config past ≡ HeardOfName question peer octets
  pub counts : is_answered config.resolver question peer octets ≡ true
  pub out : ℕ
  pub rest : List (List ℕ)
  pub is : drop out (frames_of config (identification_with out past) (name_reply config question peer octets)) ≡ frame ∷ rest

-- A frame is one of what a server of ours says: a reply to a client's message or to a packet for the server of files, which came last; what was made by an
-- answer of a file; or a packet that goes again.
pub data IsOfServer (config : Config) (past : List Entry) (frame : List ℕ) : Type 0 where
  ForPacket : (s : Serving) (stray : Bool) (d : Datagram) → last_occasion config past ≡ Came s stray (DatagramPacket d) → is_for_server (datagram_verdict config d) ≡ true → IsOfServer config past frame
  ByFile : (said : Said) → last_occasion config past ≡ OfFile said → IsOfServer config past frame
  Again : GoesAgain config past frame → IsOfServer config past frame

-- The same of a frame as it is read: what it carries is what was received last, whole; it goes to the port for which the socket was opened, and from the peer as it is shown.
pub record IsReplyToItsPort (config : Config) (past : List Entry) (ip : Ip) (udp : Udp) : Type 0 where
  pub socket : ℕ
  pub peer : Endpoint
  pub last : last_occasion config past ≡ Heard socket peer udp.body
  pub port : opened_for config socket past ≡ Some (endpoint ip.to udp.to_port)
  pub seen : is_hidden config peer ≡ false
  pub source : shown config peer ≡ endpoint ip.from udp.from_port

-- what an association of the list in the order of use has of its socket is what the trace says
pub record SaysOf (config : Config) (past : List Entry) (n : ℕ) (a : Association) : Type 0 where
  pub guest : opened_for config n past ≡ Some a.guest
  pub mac : mac_of config n past ≡ Some a.mac.0
  pub used : used_at n past ≡ a.used

-- sockets by rising last use
abbrev pub AllUsedAfter : List Entry → ℕ → List ℕ → Type 0
AllUsedAfter past socket [] = Unit {0}
AllUsedAfter past socket (other ∷ sockets) = (last_use socket past < last_use other past) × AllUsedAfter past socket sockets

-- these sockets stand by rising last use
abbrev pub AreByLastUse : List Entry → List ℕ → Type 0
AreByLastUse past [] = Unit {0}
AreByLastUse past (socket ∷ sockets) = AllUsedAfter past socket sockets × AreByLastUse past sockets

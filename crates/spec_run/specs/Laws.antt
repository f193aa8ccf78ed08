-- What call may follow what past.
use Rattle.std.specs.Prelude.{◌≡◌, ℕ, ◌+◌, ◌==◌, ◌&&◌, ◌||◌, not, nat_le, nat_lt, Bool, true, false, is_some, List, [], ◌∷◌, drop, length, MatchOption, Option, Some, None, option_map, if◌then◌else◌}
use Rattle.std.specs.Option.{option_or}
use Rattle.poll_list.specs.Listing.{reads, writes}
use Rattle.poll_list.specs.declared.Who.TheVariants.{Link, Listener as AListener, Tcp, Udp}
use Rattle.world_face.specs.Journal.{Entry, Call, Follows, Close, TcpWrite, CallNow, CallWait, CallLinkOpen, CallLinkRead, CallLinkWrite, CallConnect, CallConnected, CallListen}
use Rattle.world_face.specs.Journal.{CallAccept, CallTcpRead, CallTcpWrite, CallTcpEnd, CallClose, CallUdpOpen, CallUdpSend, CallUdpRecv, CallFileLen, CallFileRead}
use Rattle.world_face.specs.Frames.{MayFrame, tail}
use Rattle.world_face.specs.Limits.{most_to_udp}
use Rattle.net_octets.specs.declared.Endpoint.{Endpoint}
use Rattle.slirp_settings.specs.Addresses.{Config, forward_on}
use Rattle.slirp_settings.specs.declared.Forward.{Forward as Given}
use Rattle.rules_udp.specs.Associations.{idle_life}
use Rattle.spec_trace.specs.Moments.{moment, waits}
use Rattle.spec_trace.specs.Shape.{phase, may_turn, is_working, is_over, is_ended, due_in}
use Rattle.spec_trace.specs.Sockets.{Kind, Association, DnsSocket, Flow, Forward, Listener, first, is_among, is_association, is_flow, is_forward, is_listener, kind_of, next_number, open_sockets}
use Rattle.spec_flow.specs.Guest.{is_empty}
use Rattle.spec_flow.specs.Close.{is_done, host_failed, finds_no_guest, follows_reset, gives_up, newest_rst, waits_too_long}
use Rattle.spec_flows.specs.Book.{book, port_of, scene}
use Rattle.spec_flows.specs.Flows.{Flow as AFlow, Book, Scene, comes_directly, flow_of, guest_is_known, has_room_for_peer, is_it}
use Rattle.spec_flows.specs.Laws.{MayFlow}
use Rattle.spec_flows.specs.SegmentVerdicts.{due_for_flows}
use Rattle.spec_run.specs.Agenda.{agenda}
use Rattle.spec_run.specs.Answers.{is_out, left, serving}
use Rattle.spec_run.specs.Names.{answered, has_waited, kind_for}
use Rattle.rules_tftp.specs.Asking.{call_for}
use Rattle.spec_run.specs.Asking.{step}
use Rattle.spec_run.specs.Datagrams.{Step, NeedsRoom, asks_a_name, due_for}
use Rattle.spec_run.specs.Ports.{given_port, is_port, used_at}
use Rattle.spec_run.specs.Sending.{is_explained}

-- for a service of ours: the socket of a question that was answered is closed at once, or a file is asked for
abbrev pub due_for_services : Config → List Entry → Option Call
due_for_services config past = option_or (option_map CallClose (answered config past)) (call_for (serving config past).files.quest)

-- the call that must come next, if one must: by where the run stands, else for the datagram that came last, for a service or for a flow
abbrev pub due : Config → List Entry → Option Call
due config past =
    option_or (due_in (phase config past) past)
    (option_or (due_for config (step config past) (next_number past))
    (option_or (due_for_services config past) (due_for_flows config (book config past) (next_number past))))

-- Where a call is due, it is the one that comes.
abbrev pub MayDue : Config → List Entry → Call → Type 0
MayDue config past call = MatchOption (due config past) (Unit {0}) (λ d. call ≡ d)

-- A port of the host may be given to a guest while the run goes on: its socket is opened in a turn, where nothing is due, at the port of the host of the
-- forward that was asked for with the number of the socket, which leads to this port of the guest.
abbrev pub is_added : Config → List Entry → ℕ → Endpoint → Option Endpoint → Bool
is_added config past socket at guest =
    is_working (phase config past) && is_some guest && is_port at (option_map (λ (f : Given). f.host) (forward_on config socket)) && not (at.port == 0)

-- The shape of a run. The clock is asked, sockets connect and send datagrams, and files are asked for only where that is due; sockets are opened where it is,
-- and for ports of the host that are given to guests. A turn begins with a wait, of which there are only so many; the other calls come after it. The link isn't
-- opened by these calls.
abbrev pub has_place : Config → List Entry → Call → Bool
has_place config past CallNow = is_some (due config past)
has_place config past (CallWait wants timeout) = may_turn (phase config past) && nat_lt (waits past) config.turns
has_place config past (CallLinkOpen at) = false
has_place config past (CallConnect socket to) = is_some (due config past)
has_place config past (CallListen socket at) = is_some (due config past) || is_added config past socket at (port_of config socket)
has_place config past (CallClose socket) = is_working (phase config past) || is_over (phase config past)
has_place config past (CallUdpOpen socket at) = is_some (due config past) || is_added config past socket at (given_port config socket)
has_place config past (CallUdpSend socket to octets) = is_some (due config past)
has_place config past (CallFileLen name) = is_some (due config past)
has_place config past (CallFileRead name place asked) = is_some (due config past)
has_place config past _ = is_working (phase config past)

-- the longest unused of as many as may be open gives way, of each kind to one of its kind
abbrev pub gives_way : Config → (for_name : Bool) → ℕ → Step → Bool
gives_way config for_name socket (NeedsRoom oldest errand) = (socket == oldest) && (if for_name then asks_a_name config errand else not (asks_a_name config errand))
gives_way config for_name socket _ = false

-- the idle life of a socket is over (RFC 4787, 4.3)
abbrev pub is_unused : ℕ → List Entry → Bool
is_unused socket past = nat_le (used_at socket past + idle_life) (moment past)

-- A flow has a cause of its own to be closed: both ends passed, a call on its socket failed, its guest isn't found or acknowledges nothing, the host doesn't
-- connect, its peer is gone, or the guest's reset came directly before. A peer that was refused has no flow; one flow gives way to a SYN.
abbrev pub may_leave : Scene → Book → ℕ → Option AFlow → Bool
may_leave at b socket None = is_it socket b.doomed
may_leave at b socket (Some f) =
    is_it socket b.doomed || is_done f.story || host_failed f.story || finds_no_guest (guest_is_known at f) at.moment f.story
    || (not (follows_reset (comes_directly b.came f) f.story) && (gives_up at.moment f.story || waits_too_long at.moment f.story))
    || (comes_directly b.came f && is_some (newest_rst f.story))

-- whether the flow of a socket may leave, by the trace of calls. It is a test, in which a guest's reset that came directly before stands for its exact
-- condition; that one is asked for by the sentence on flows.
abbrev pub leaves : Config → List Entry → ℕ → Bool
leaves config past socket = may_leave (scene config past) (book config past) socket (flow_of socket (book config past).flows)

-- Why a socket may be closed before the end, by its kind: an association, or one of a question, gives way as the longest unused of its kind, or its idle life
-- is over; that of a question also where the answer came; a flow has its cause. That of a port of the host that is given to a guest may be closed where it is
-- taken back while the run goes on.
abbrev pub may_part : Config → List Entry → ℕ → Option Kind → Bool
may_part config past socket (Some Association) = gives_way config false socket (step config past) || is_unused socket past
may_part config past socket (Some DnsSocket) =
    gives_way config true socket (step config past) || is_it socket (answered config past) || has_waited config past socket
may_part config past socket (Some Flow) = leaves config past socket
may_part config past socket (Some Forward) = is_among socket config.removed
may_part config past socket (Some Listener) = is_among socket config.removed
may_part config past socket None = false

-- by the kind of the socket with this number
abbrev pub parts : Config → List Entry → ℕ → Bool
parts config past socket = may_part config past socket (kind_for config socket past)

-- A close that only the end allows begins the closing.
abbrev pub begins_closing : Config → List Entry → Entry → Bool
begins_closing config past (Close socket) = not (parts config past socket)
begins_closing config past _ = false

-- a close came that only the end allows: from then on nothing comes but closes
abbrev pub is_closing : Config → List Entry → Bool
is_closing config [] = false
is_closing config (e ∷ past) = if begins_closing config past e then true else is_closing config past

-- a socket is closed once: for a reason of its kind, or after the end as the least that is open; once the closing has begun, always so
abbrev pub may_close : Config → List Entry → ℕ → Bool
may_close config past socket =
    is_among socket (open_sockets past)
    && (if is_closing config past then is_it socket (first (open_sockets past))
    else parts config past socket || (is_ended config past && is_it socket (first (open_sockets past))))

-- an open socket that carries a guest's datagrams
abbrev pub carries : List Entry → ℕ → Bool
carries past socket = is_among socket (open_sockets past) && is_association (kind_of socket past)

-- one, or an open port of the host for datagrams that is given to a guest
abbrev pub is_for_datagrams : Option Kind → Bool
is_for_datagrams kind = is_association kind || is_forward kind

abbrev pub relays : List Entry → ℕ → Bool
relays past socket = is_among socket (open_sockets past) && is_for_datagrams (kind_of socket past)

-- an open connection; a port of the host that is given to a guest, while there is room for the flow of a peer
abbrev pub joins : List Entry → ℕ → Bool
joins past socket = is_among socket (open_sockets past) && is_flow (kind_of socket past)

abbrev pub takes_peers : Config → List Entry → ℕ → Bool
takes_peers config past listener = is_among listener (open_sockets past) && is_listener (kind_of listener past) && has_room_for_peer config.flows (book config past).flows

-- the most wants of one wait of the network: the link, 32 ports of the host, 512 sockets of guests' ports, 512 of questions, and 4,096 connections
abbrev pub most_wanted : ℕ
most_wanted = 5153

-- Numbers of sockets are drawn upward; calls on sockets are on such as are open, and of their kind. A wait is for as many as may be open at most.
abbrev pub has_socket : Config → List Entry → Call → Bool
has_socket config past (CallWait wants timeout) = nat_le (length wants) most_wanted
has_socket config past (CallConnect socket to) = socket == next_number past
has_socket config past (CallConnected socket) = joins past socket
has_socket config past (CallListen socket at) = socket == next_number past
has_socket config past (CallAccept listener socket) = takes_peers config past listener && (socket == next_number past)
has_socket config past (CallTcpRead socket asked) = joins past socket
has_socket config past (CallTcpWrite socket octets) = joins past socket
has_socket config past (CallTcpEnd socket) = joins past socket
has_socket config past (CallClose socket) = may_close config past socket
has_socket config past (CallUdpOpen socket at) = socket == next_number past
has_socket config past (CallUdpSend socket to octets) = relays past socket
has_socket config past (CallUdpRecv socket asked) = relays past socket && (asked == most_to_udp)
has_socket config past _ = true

-- The newest call wrote to this connection. So one report may be for octets and the end at once.
abbrev pub has_just_written : ℕ → List Entry → Bool
has_just_written socket [] = false
has_just_written socket (TcpWrite s octets answer ∷ past) = s == socket
has_just_written socket (_ ∷ past) = false

-- Frames and datagrams are read, peers accepted, and connections asked, written to and read only where the last wait wanted and reported it, in the order of
-- its list, and once for each report. A connection is ended for a report, or directly after what was written for one.
abbrev pub is_served : List Entry → Call → Bool
is_served past (CallLinkRead asked) = reads Link (agenda past)
is_served past (CallConnected socket) = writes (Tcp socket) (agenda past)
is_served past (CallAccept listener socket) = reads (AListener listener) (agenda past)
is_served past (CallTcpRead socket asked) = reads (Tcp socket) (agenda past)
is_served past (CallTcpWrite socket octets) = writes (Tcp socket) (agenda past)
is_served past (CallTcpEnd socket) = writes (Tcp socket) (agenda past) || has_just_written socket past
is_served past (CallUdpRecv socket asked) = reads (Udp socket) (agenda past)
is_served past _ = true

-- nothing is left of the frame before, nor of the answer to what came last
abbrev pub is_all_out : Config → List Entry → Bool
is_all_out config past = is_empty (tail past) && is_out (left config past)

-- a write begins a frame where nothing is left of the one before
abbrev pub may_begin : Config → List Entry → List ℕ → List ℕ → Bool
may_begin config past [] octets = is_explained config past (drop 4 octets)
may_begin config past (x ∷ rest) octets = true

-- Each frame that goes out has its reason. Frames and datagrams are read only where all that was owed is out.
abbrev pub is_answered : Config → List Entry → Call → Bool
is_answered config past (CallLinkRead asked) = is_all_out config past
is_answered config past (CallLinkWrite octets) = may_begin config past (tail past) octets
is_answered config past (CallUdpRecv socket asked) = is_all_out config past
is_answered config past _ = true

-- Once the closing has begun nothing comes but that sockets are closed. A socket may still be closed before for a reason of its kind, also after the end.
abbrev pub goes_on : Config → List Entry → Call → Bool
goes_on config past (CallClose socket) = true
goes_on config past _ = not (is_closing config past)

-- the next call is one that may come
pub record May (config : Config) (past : List Entry) (call : Call) : Type 0 where
  pub framed : MayFrame past call
  pub due : MayDue config past call
  pub place : has_place config past call ≡ true
  pub socket : has_socket config past call ≡ true
  pub served : is_served past call ≡ true
  pub answered : is_answered config past call ≡ true
  pub goes_on : goes_on config past call ≡ true
  pub flows : MayFlow config past call

-- every call was one that may follow its past
abbrev pub Lawful : Config → List Entry → Type 0
Lawful config past = Follows (May config) past

-- nothing more is to be done: the run has ended, no call is due, and each socket is closed
pub record Finished (config : Config) (past : List Entry) : Type 0 where
  pub ended : is_ended config past ≡ true
  pub none_due : due config past ≡ None
  pub closed : open_sockets past ≡ []

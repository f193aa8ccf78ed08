-- What a run waits for: frames, peers and datagrams while there is room for them, and of each flow what its story asks for.
use Rattle.std.specs.Prelude.{◌≡◌, ℕ, ◌==◌, ◌&&◌, ◌||◌, not, nat_lt, Bool, true, false, List, [], ◌∷◌, Option, Some, None, is_some}
use Rattle.poll_list.specs.Listing.{reads, writes}
use Rattle.poll_list.specs.declared.Want.{Want}
use Rattle.poll_list.specs.declared.Who.{Who}
use Rattle.poll_list.specs.declared.Who.TheVariants.{Link, Listener, Tcp, Udp}
use Rattle.world_face.specs.Journal.{Entry}
use Rattle.world_face.specs.Frames.{is_blocked}
use Rattle.slirp_settings.specs.Addresses.{Config}
use Rattle.spec_trace.specs.Sockets.{Kind, Association, DnsSocket, Forward, Listener as AListener, Flow as AFlow, is_among, kind_of, open_sockets}
use Rattle.spec_flow.specs.Dutiful.{waits_to_read, must_wait_to_write, MayWaitToWrite}
use Rattle.spec_flows.specs.Book.{book}
use Rattle.spec_flows.specs.Flows.{Flow, flow_of}
use Rattle.spec_flows.specs.Laws.{flow_settings}
use Rattle.spec_run.specs.Answers.{may_go_again, serving}
use Rattle.spec_run.specs.Laws.{is_all_out, takes_peers}

-- an open socket for datagrams, of whatever kind
abbrev pub is_for_datagrams : Option Kind → Bool
is_for_datagrams None = false
is_for_datagrams (Some Association) = true
is_for_datagrams (Some DnsSocket) = true
is_for_datagrams (Some Forward) = true
is_for_datagrams (Some AListener) = false
is_for_datagrams (Some AFlow) = false

abbrev pub takes_datagrams : List Entry → ℕ → Bool
takes_datagrams past socket = is_among socket (open_sockets past) && is_for_datagrams (kind_of socket past)

-- All that is owed is out: of the answer to what came last, and of a packet of a file that goes again. The program counts such a packet as sent before the
-- trace does, so nothing is taken in while the link is blocked and one waits.
abbrev pub is_all_sent : Config → List Entry → Bool
is_all_sent config past = is_all_out config past && not (is_some (may_go_again (serving config past)))

-- frames and datagrams are taken in, but where the link is blocked and something is left of what is owed
abbrev pub takes_in : Config → List Entry → Bool
takes_in config past = not (is_blocked past) || is_all_sent config past

-- what the story of a flow asks for; a socket without one asks for nothing
abbrev pub reads_flow : Config → Option Flow → Bool
reads_flow config None = false
reads_flow config (Some f) = waits_to_read (flow_settings config) f.story

abbrev pub writes_flow : Option Flow → Bool
writes_flow None = false
writes_flow (Some f) = must_wait_to_write f.story

-- of a flow's socket: that it takes octets or the end may be waited for where something came that the host hasn't
abbrev pub MayWriteFlow : Option Flow → Type 0
MayWriteFlow None = ⊥
MayWriteFlow (Some f) = MayWaitToWrite f.story

-- what is waited for to be read: exactly these
abbrev pub is_read : Config → List Entry → Who → Bool
is_read config past Link = takes_in config past
is_read config past (Listener socket) = takes_peers config past socket
is_read config past (Udp socket) = takes_datagrams past socket && takes_in config past
is_read config past (Tcp socket) = reads_flow config (flow_of socket (book config past).flows)

-- what has to be waited for to be written, and what may be: the link where it is blocked, and flows
abbrev pub is_written : Config → List Entry → Who → Bool
is_written config past Link = is_blocked past
is_written config past (Listener socket) = false
is_written config past (Udp socket) = false
is_written config past (Tcp socket) = writes_flow (flow_of socket (book config past).flows)

abbrev pub MayBeWritten : Config → List Entry → Who → Type 0
MayBeWritten config past Link = is_blocked past ≡ true
MayBeWritten config past (Listener socket) = ⊥
MayBeWritten config past (Udp socket) = ⊥
MayBeWritten config past (Tcp socket) = MayWriteFlow (flow_of socket (book config past).flows)

-- The order of the list: the link, then the host's ports that are given to guests, sockets for datagrams, and flows, each kind by rising number. So nothing stands twice.
abbrev pub rank : Who → ℕ
rank Link = 0
rank (Listener socket) = 1
rank (Udp socket) = 2
rank (Tcp socket) = 3

abbrev pub number : Who → ℕ
number Link = 0
number (Listener socket) = socket
number (Udp socket) = socket
number (Tcp socket) = socket

abbrev pub comes_before : Who → Who → Bool
comes_before a b = nat_lt (rank a) (rank b) || ((rank a == rank b) && nat_lt (number a) (number b))

abbrev pub comes_first : Who → List Want → Bool
comes_first who [] = true
comes_first who (want ∷ wants) = comes_before who want.of && comes_first who wants

abbrev pub are_in_order : List Want → Bool
are_in_order [] = true
are_in_order (want ∷ wants) = comes_first want.of wants && are_in_order wants

-- a list has what is waited for, and nothing else
pub record WaitsFor (config : Config) (past : List Entry) (wants : List Want) : Type 0 where
  pub to_read : (who : Who) → reads who wants ≡ is_read config past who
  pub to_write : (who : Who) → is_written config past who ≡ true → writes who wants ≡ true
  pub only_to_write : (who : Who) → writes who wants ≡ true → MayBeWritten config past who
  pub order : are_in_order wants ≡ true

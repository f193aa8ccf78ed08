-- What call may come where there is a control, and what a run with one is.
use Rattle.std.specs.Prelude.{◌≡◌, ◌⊎◌, ℕ, ◌==◌, ◌||◌, Bool, true, false, is_some, List, [], ◌∷◌, ◌++◌, take, length, map, reverse, Option, Some, None, if◌then◌else◌}
use Rattle.std.specs.List.{list_any}
use Rattle.std.specs.Option.{option_map_or}
use Rattle.net_octets.specs.declared.Endpoint.{Endpoint}
use Rattle.poll_list.specs.Listing.{reads, writes}
use Rattle.poll_list.specs.declared.Want.{Want}
use Rattle.poll_list.specs.declared.Who.{Who}
use Rattle.poll_list.specs.declared.Who.TheVariants.{Listener as AListener, Tcp}
use Rattle.world_face.specs.Journal.{Entry, Call, Follows, Wait, Accept, Close, TcpRead, TcpWrite, Listen}
use Rattle.world_face.specs.Journal.{CallNow, CallWait, CallConnect, CallConnected, CallListen, CallAccept, CallTcpRead, CallTcpWrite, CallTcpEnd, CallClose, CallUdpOpen, CallUdpSend, CallUdpRecv}
use Rattle.world_face.specs.declared.Made.TheVariants.{Failed as MadeFailed}
use Rattle.slirp_settings.specs.Addresses.{Config}
use Rattle.spec_trace.specs.Shape.{Opening as OpeningPorts, opening_of, phase, is_ended, is_opening}
use Rattle.spec_trace.specs.Sockets.{is_forward, is_listener, kind_of, next_number, open_sockets}
use Rattle.spec_run.specs.Laws.{Finished, Lawful}
use Rattle.spec_duties.specs.Duties.{Dutiful}
use Rattle.rules_control.specs.Talk.{Talk, free, is_out, listener, most_at_once, next_peer, want_of}
use Rattle.rules_control.specs.Apart.{controls, is_controls, reported_of, without_control}
use Rattle.rules_control.specs.Commands.{Means}
use Rattle.spec_control.specs.ControlServer.{Awaited, Nothing, Opening, Shutting, Reads, by_control, control_server}

-- ---- what it waits for

abbrev pub wants_of : Talk → List Want
wants_of t = option_map_or (λ want. want ∷ []) (want_of t) []

-- ---- what was reported and isn't served yet: items in the directions in which they were wanted

abbrev pub without_read : Who → List Want → List Want
without_read who [] = []
without_read who (item ∷ items) = if reads who (item ∷ []) then without_read who items else item ∷ without_read who items

abbrev pub without_write : Who → List Want → List Want
without_write who [] = []
without_write who (item ∷ items) = if writes who (item ∷ []) then without_write who items else item ∷ without_write who items

abbrev pub reported_after : Entry → List Want → List Want
reported_after (Wait wants timeout answer ready) items = reported_of (controls wants) ready
reported_after (Accept from socket answer) items = without_read (AListener from) items
reported_after (TcpRead socket asked answer octets) items = without_read (Tcp socket) items
reported_after (TcpWrite socket octets answer) items = without_write (Tcp socket) items
reported_after _ items = items

abbrev pub reported : List Entry → List Want
reported [] = []
reported (e ∷ past) = reported_after e (reported past)

-- ---- calls on the control's sockets

abbrev pub is_its_listen : Entry → Bool
is_its_listen (Listen socket at answer) = socket == listener
is_its_listen _ = false

-- It listens once, where the settings have a control, when all forwards are open and before the clock is asked.
pub record MayListen (read : Reads) (config : Config) (past : List Entry) (socket : ℕ) (at : Endpoint) : Type 0 where
  pub number : socket ≡ listener
  pub configured : config.control ≡ Some at
  pub opening : (opened : ℕ) × (phase (by_control read config past) (without_control past) ≡ OpeningPorts opened [])
  pub first : list_any is_its_listen past ≡ false

-- A peer is taken on the listener where none is connected, by the next number, for a report.
pub record MayAccept (read : Reads) (config : Config) (past : List Entry) (from socket : ℕ) : Type 0 where
  pub on : from ≡ listener
  pub number : socket ≡ next_peer (control_server read config past).talk
  pub alone : (control_server read config past).talk.peer ≡ None
  pub reported : reads (AListener from) (reported past) ≡ true

-- What is free of a line is asked for, where no reply is left.
pub record MayRead (read : Reads) (config : Config) (past : List Entry) (socket count : ℕ) : Type 0 where
  pub peer : (control_server read config past).talk.peer ≡ Some socket
  pub out : is_out (control_server read config past).talk ≡ true
  pub asked : count ≡ free (control_server read config past).talk.kept
  pub reported : reads (Tcp socket) (reported past) ≡ true

-- The front of what is left of the reply is offered.
pub record MayWrite (read : Reads) (config : Config) (past : List Entry) (socket : ℕ) (octets : List ℕ) : Type 0 where
  pub peer : (control_server read config past).talk.peer ≡ Some socket
  pub left : is_out (control_server read config past).talk ≡ false
  pub front : octets ≡ take most_at_once (control_server read config past).talk.left
  pub reported : writes (Tcp socket) (reported past) ≡ true

-- Where no close is awaited its sockets are closed at the end alone, each once and by rising number: when none of the network's is open the listener, and then the connection.
abbrev pub first_open : Talk → Option ℕ
first_open t = if t.listening then Some listener else t.peer

-- the listener or the connection is closed
pub record MayClose (read : Reads) (config : Config) (past : List Entry) (socket : ℕ) : Type 0 where
  pub ended : is_ended (by_control read config past) (without_control past) ≡ true
  pub others : open_sockets (without_control past) ≡ []
  pub next : first_open (control_server read config past).talk ≡ Some socket

-- ---- calls of the network

-- The socket of a port of the host that is given to a guest is closed for a command, or at the end.
abbrev pub is_given : List Entry → ℕ → Bool
is_given past socket = is_listener (kind_of socket (without_control past)) || is_forward (kind_of socket (without_control past))

-- where no command awaits it, at the end alone
abbrev pub MayGiveUp : Reads → Config → List Entry → ℕ → Type 0
MayGiveUp read config past socket = is_given past socket ≡ true → is_ended (by_control read config past) (without_control past) ≡ true

-- A port of the host that is named is opened for a command, or before the first wait, for a forward of the settings.
abbrev pub MayOpen : Reads → Config → List Entry → Endpoint → Type 0
MayOpen read config past at = (at.port == 0) ≡ false → is_opening (phase (by_control read config past) (without_control past)) ≡ true

-- The clock is asked where the control listens, if the settings have one.
abbrev pub MayAsk : Reads → Config → List Entry → Type 0
MayAsk read config past = (control_server read config past).talk.listening ≡ is_some config.control

-- A wait is for what the control waits for, too, and comes when all that the one before reported of it was served.
pub record MayWait (read : Reads) (config : Config) (past : List Entry) (wants : List Want) : Type 0 where
  pub own : controls wants ≡ wants_of (control_server read config past).talk
  pub served : reported past ≡ []

-- ---- all calls

-- one of two sentences, by whether a call is on a socket of the control's
abbrev pub Either : (controls_it : Bool) → (its other : Type 0) → Type 0
Either true its other = its
Either false its other = other

-- a call that may come where none is awaited: on the control's own sockets by its rules, and else one of the network's
abbrev pub MayByItself : Reads → Config → List Entry → Call → Type 0
MayByItself read config past CallNow = MayAsk read config past
MayByItself read config past (CallWait wants timeout) = MayWait read config past wants
MayByItself read config past (CallListen socket at) = Either (is_controls socket) (MayListen read config past socket at) (MayOpen read config past at)
MayByItself read config past (CallUdpOpen socket at) = (is_controls socket ≡ false) × MayOpen read config past at
MayByItself read config past (CallAccept from socket) = Either (is_controls from) (MayAccept read config past from socket) (Unit {0})
MayByItself read config past (CallTcpRead socket asked) = Either (is_controls socket) (MayRead read config past socket asked) (Unit {0})
MayByItself read config past (CallTcpWrite socket octets) = Either (is_controls socket) (MayWrite read config past socket octets) (Unit {0})
MayByItself read config past (CallClose socket) = Either (is_controls socket) (MayClose read config past socket) (MayGiveUp read config past socket)
MayByItself read config past (CallConnect socket to) = is_controls socket ≡ false
MayByItself read config past (CallConnected socket) = is_controls socket ≡ false
MayByItself read config past (CallTcpEnd socket) = is_controls socket ≡ false
MayByItself read config past (CallUdpSend socket to octets) = is_controls socket ≡ false
MayByItself read config past (CallUdpRecv socket asked) = is_controls socket ≡ false
MayByItself read config past _ = Unit {0}

-- Where a call is awaited it comes next.
abbrev pub MayWhere : Awaited → Reads → Config → List Entry → Call → Type 0
MayWhere Nothing read config past call = MayByItself read config past call
MayWhere (Opening f) read config past call = call ≡ opening_of f.proto (next_number (without_control past)) f
MayWhere (Shutting socket) read config past call = call ≡ CallClose socket

-- A call may come in a run with a control, by what the control has come to. That it may come in the network's run is said of what the network sees
-- (`RunsBy`).
abbrev pub MayControl : Reads → Config → List Entry → Call → Type 0
MayControl read config past call = MayWhere (control_server read config past).awaited read config past call

-- ---- a run

-- Each call is one that may come; what the network sees of the run is lawful and dutiful by the settings with all that was added and taken back; and nothing is left to be done, nor a socket of the control's open.
pub record RunsBy (read : Reads) (config : Config) (past : List Entry) : Type 0 where
  pub control : Follows (MayControl read config) past
  pub lawful : Lawful (by_control read config past) (without_control past)
  pub dutiful : Dutiful (by_control read config past) (without_control past)
  pub finished : Finished (by_control read config past) (without_control past)
  pub unawaited : (control_server read config past).awaited ≡ Nothing
  pub deaf : (control_server read config past).talk.listening ≡ false
  pub alone : (control_server read config past).talk.peer ≡ None

-- The host refused the control: all forwards were opened, its listener was refused, and each forward was closed.
pub record Refuses (config : Config) (past : List Entry) : Type 0 where
  pub before : List Entry
  pub at : Endpoint
  -- by rising number, the newest entry first
  pub is : past ≡ map Close (reverse (open_sockets before)) ++ (Listen listener at MadeFailed ∷ before)
  pub configured : config.control ≡ Some at
  pub lawful : Lawful config before
  pub opening : phase config before ≡ OpeningPorts (length config.forwards) []

-- whatever reads lines as they are meant; in a RULE without an address of a guest it is the first that is leased
abbrev pub IsReading : Config → Reads → Type 0
IsReading config read = (line : List ℕ) → Means config.dhcp_start line (read line)

-- What call may follow what past, as far as flows of TCP have a say in it.
use Rattle.std.specs.Prelude.{◌≡◌, ℕ, true, List, [], ◌∷◌, drop, MatchBool, MatchOption, Option, Some, None}
use Rattle.world_face.specs.Journal.{Entry, Call, Follows, CallLinkWrite, CallConnect, CallConnected, CallAccept, CallTcpRead, CallTcpWrite, CallTcpEnd, CallClose}
use Rattle.world_face.specs.Frames.{tail}
use Rattle.slirp_settings.specs.Addresses.{Config}
use Rattle.spec_flow.specs.Event.{Segment}
use Rattle.spec_flow.specs.Lawful.{Act, AskConnected, Write, EndHost, Read, Send, May}
use Rattle.spec_flow.specs.Dutiful.{Must, MustClose, read_size}
use Rattle.spec_flow.specs.Settings.{Settings}
use Rattle.spec_trace.specs.Moments.{moment}
use Rattle.spec_trace.specs.Sockets.{next_number}
use Rattle.spec_flows.specs.Book.{book, scene}
use Rattle.spec_flows.specs.Flows.{Flow, Scene, closing, flow_of, is_strange, owner}
use Rattle.spec_flows.specs.SegmentVerdicts.{due_for_flows}
use Rattle.spec_flows.specs.Segments.{OnTuple, segment_in}

-- what each flow is to keep to
abbrev pub flow_settings : Config → Settings
flow_settings config = record { ring = config.ring; mru = config.mru; mtu = config.mtu; scales = true; congestion = config.congestion }

-- a call on the socket of a flow is one that may be made for this flow
abbrev pub MayAct : Settings → ℕ → Option Flow → Act → Type 0
MayAct s now None act = ⊥
MayAct s now (Some f) act = May s f.story now act

-- the socket of a flow is closed where that may be; of other sockets nothing is said here
abbrev pub MayShut : Settings → Scene → Option OnTuple → Option Flow → Type 0
MayShut s scene came None = Unit {0}
MayShut s scene came (Some f) = May s f.story scene.moment (closing scene came f)

-- a segment goes out that its flow may send, or a reset of a segment without a flow
abbrev pub MaySend : Settings → ℕ → Segment → Option Flow → Type 0
MaySend s now segment None = segment.rst ≡ true
MaySend s now segment (Some f) = MatchBool (is_strange segment f) (Unit {0}) (May s f.story now (Send segment))

-- what is said of a segment and its flow holds of the one that goes out, if one does
abbrev pub SendsOn : (Segment → Option Flow → Type 0) → List Flow → Option OnTuple → Type 0
SendsOn Sends flows None = Unit {0}
SendsOn Sends flows (Some on) = Sends on.segment (owner on.tuple flows)

-- a write begins a frame where nothing is left of the one before
abbrev pub WritesBy : (Segment → Option Flow → Type 0) → List Flow → List ℕ → List ℕ → Type 0
WritesBy Sends flows [] octets = SendsOn Sends flows (segment_in (drop 4 octets))
WritesBy Sends flows (x ∷ rest) octets = Unit {0}

-- Each call on a flow's socket, each segment that goes out and each close is one that may be, by what happened to the flow. A socket connects
-- only where a guest's SYN asks for it; a peer gets the next number.
abbrev pub MayTouch : Config → List Entry → Call → Type 0
MayTouch config past (CallLinkWrite octets) = WritesBy (MaySend (flow_settings config) (moment past)) (book config past).flows (tail past) octets
MayTouch config past (CallConnect socket to) = due_for_flows config (book config past) (next_number past) ≡ Some (CallConnect socket to)
MayTouch config past (CallConnected socket) = MayAct (flow_settings config) (moment past) (flow_of socket (book config past).flows) AskConnected
MayTouch config past (CallAccept listener socket) = socket ≡ next_number past
MayTouch config past (CallTcpRead socket asked) = MayAct (flow_settings config) (moment past) (flow_of socket (book config past).flows) Read
MayTouch config past (CallTcpWrite socket octets) = MayAct (flow_settings config) (moment past) (flow_of socket (book config past).flows) (Write octets)
MayTouch config past (CallTcpEnd socket) = MayAct (flow_settings config) (moment past) (flow_of socket (book config past).flows) EndHost
MayTouch config past (CallClose socket) = MayShut (flow_settings config) (scene config past) (book config past).came (flow_of socket (book config past).flows)
MayTouch config past _ = Unit {0}

-- where a flow asks for a call, a connect or a close, that call comes
abbrev pub MayDue : Config → List Entry → Call → Type 0
MayDue config past call = MatchOption (due_for_flows config (book config past) (next_number past)) (Unit {0}) (λ d. call ≡ d)

-- ---- as it must be

-- a call on the socket of a flow is made as it must be, by what happened to the flow
abbrev pub MustAct : Settings → ℕ → Option Flow → Act → Type 0
MustAct s now None act = Unit {0}
MustAct s now (Some f) act = Must s f.story now act

-- a read asks for all that there is room for
abbrev pub AsksForRoom : Settings → Option Flow → ℕ → Type 0
AsksForRoom s None asked = Unit {0}
AsksForRoom s (Some f) asked = asked ≡ read_size s f.story

-- a segment of a flow goes out as it must be; a reset that answers a segment without a flow is none of its own (RFC 9293, 3.8.6)
abbrev pub MustSend : Settings → ℕ → Segment → Option Flow → Type 0
MustSend s now segment None = Unit {0}
MustSend s now segment (Some f) = MatchBool (is_strange segment f) (Unit {0}) (Must s f.story now (Send segment))

-- Each segment tells the room that is left, the host is offered all that was acknowledged and asked for all that there is room for, and after a
-- guest's reset at the next number nothing is done for the flow but its close.
abbrev pub MustTouch : Config → List Entry → Call → Type 0
MustTouch config past (CallLinkWrite octets) = WritesBy (MustSend (flow_settings config) (moment past)) (book config past).flows (tail past) octets
MustTouch config past (CallConnected socket) = MustAct (flow_settings config) (moment past) (flow_of socket (book config past).flows) AskConnected
MustTouch config past (CallTcpRead socket asked) =
    MustAct (flow_settings config) (moment past) (flow_of socket (book config past).flows) Read × AsksForRoom (flow_settings config) (flow_of socket (book config past).flows) asked
MustTouch config past (CallTcpWrite socket octets) = MustAct (flow_settings config) (moment past) (flow_of socket (book config past).flows) (Write octets)
MustTouch config past (CallTcpEnd socket) = MustAct (flow_settings config) (moment past) (flow_of socket (book config past).flows) EndHost
MustTouch config past _ = Unit {0}

-- Where a guest has just reset a flow at the next number, the next call closes its socket (RFC 9293, 3.10.7.4). It is no part of what is due, since it is
-- asked of the flow of a conforming guest alone, which no test decides.
abbrev pub ClosesAtOnce : Config → List Entry → Call → Type 0
ClosesAtOnce config past call = (number : ℕ) (f : Flow) → flow_of number (book config past).flows ≡ Some f → MustClose f.story → call ≡ CallClose number

-- no flow is one that the next call must close
abbrev pub NoneMustClose : Config → List Entry → Type 0
NoneMustClose config past = (number : ℕ) (f : Flow) → flow_of number (book config past).flows ≡ Some f → MustClose f.story → ⊥

-- the next call is one that may come, and is made as it must be
pub record MayFlow (config : Config) (past : List Entry) (call : Call) : Type 0 where
  pub due : MayDue config past call
  pub touches : MayTouch config past call
  pub must : MustTouch config past call
  pub at_once : ClosesAtOnce config past call

-- every call was one that may follow its past
abbrev pub KeepsFlows : Config → List Entry → Type 0
KeepsFlows config past = Follows (MayFlow config) past

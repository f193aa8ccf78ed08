-- A test that says of a trace whether its flows keep the law, by computing. It asks of every guest what the law asks of a conforming one.
use Rattle.std.specs.Prelude.{ℕ, ◌==◌, ◌&&◌, ◌||◌, not, Bool, true, false, List, [], ◌∷◌, drop, Option, Some, None}
use Rattle.net_octets.specs.declared.Endpoint.{Endpoint}
use Rattle.world_face.specs.Journal.{Entry, Call, call_of, CallLinkWrite, CallConnect, CallConnected, CallAccept, CallTcpRead, CallTcpWrite, CallTcpEnd, CallClose}
use Rattle.world_face.specs.Frames.{tail}
use Rattle.slirp_settings.specs.Addresses.{Config}
use Rattle.slirp_settings.specs.Classes.{same_endpoint}
use Rattle.spec_flow.specs.Check.{may}
use Rattle.spec_flow.specs.CheckDuty.{must, must_close}
use Rattle.spec_flow.specs.Dutiful.{read_size}
use Rattle.spec_flow.specs.Event.{Segment}
use Rattle.spec_flow.specs.Lawful.{Act, AskConnected, Write, EndHost, Read, Send}
use Rattle.spec_flow.specs.Settings.{Settings}
use Rattle.spec_trace.specs.Moments.{moment}
use Rattle.spec_trace.specs.Sockets.{next_number}
use Rattle.spec_flows.specs.Book.{book, scene}
use Rattle.spec_flows.specs.Flows.{Flow, Scene, closing, flow_of, is_strange, owner}
use Rattle.spec_flows.specs.Laws.{flow_settings}
use Rattle.spec_flows.specs.SegmentVerdicts.{due_for_flows}
use Rattle.spec_flows.specs.Segments.{OnTuple, segment_in}

abbrev pub may_act : Settings → ℕ → Option Flow → Act → Bool
may_act s now None act = false
may_act s now (Some f) act = may s f.story now act

abbrev pub may_shut : Settings → Scene → Option OnTuple → Option Flow → Bool
may_shut s scene came None = true
may_shut s scene came (Some f) = may s f.story scene.moment (closing scene came f)

abbrev pub may_send : Settings → ℕ → Segment → Option Flow → Bool
may_send s now segment None = segment.rst
may_send s now segment (Some f) = is_strange segment f || may s f.story now (Send segment)

abbrev pub may_send_on : Settings → ℕ → List Flow → Option OnTuple → Bool
may_send_on s now flows None = true
may_send_on s now flows (Some on) = may_send s now on.segment (owner on.tuple flows)

abbrev pub may_write : Settings → ℕ → List Flow → List ℕ → List ℕ → Bool
may_write s now flows [] octets = may_send_on s now flows (segment_in (drop 4 octets))
may_write s now flows (x ∷ rest) octets = true

-- the call that is due
abbrev pub is_close : ℕ → Call → Bool
is_close socket (CallClose s) = s == socket
is_close socket _ = false

abbrev pub is_connect : ℕ → Endpoint → Call → Bool
is_connect socket to (CallConnect s t) = (s == socket) && same_endpoint t to
is_connect socket to _ = false

abbrev pub is_call : Call → Call → Bool
is_call (CallClose socket) call = is_close socket call
is_call (CallConnect socket to) call = is_connect socket to call
is_call _ call = false

abbrev pub may_due : Option Call → Call → Bool
may_due None call = true
may_due (Some d) call = is_call d call

abbrev pub is_due : Option Call → Call → Bool
is_due None call = false
is_due (Some d) call = is_call d call

abbrev pub may_touch : Config → List Entry → Call → Bool
may_touch config past (CallLinkWrite octets) = may_write (flow_settings config) (moment past) (book config past).flows (tail past) octets
may_touch config past (CallConnect socket to) = is_due (due_for_flows config (book config past) (next_number past)) (CallConnect socket to)
may_touch config past (CallConnected socket) = may_act (flow_settings config) (moment past) (flow_of socket (book config past).flows) AskConnected
may_touch config past (CallAccept listener socket) = socket == next_number past
may_touch config past (CallTcpRead socket asked) = may_act (flow_settings config) (moment past) (flow_of socket (book config past).flows) Read
may_touch config past (CallTcpWrite socket octets) = may_act (flow_settings config) (moment past) (flow_of socket (book config past).flows) (Write octets)
may_touch config past (CallTcpEnd socket) = may_act (flow_settings config) (moment past) (flow_of socket (book config past).flows) EndHost
may_touch config past (CallClose socket) = may_shut (flow_settings config) (scene config past) (book config past).came (flow_of socket (book config past).flows)
may_touch config past _ = true

-- ---- as it must be

abbrev pub must_act : Settings → ℕ → Option Flow → Act → Bool
must_act s now None act = true
must_act s now (Some f) act = must s f.story now act

abbrev pub asks_for_room : Settings → Option Flow → ℕ → Bool
asks_for_room s None asked = true
asks_for_room s (Some f) asked = asked == read_size s f.story

abbrev pub must_send : Settings → ℕ → Segment → Option Flow → Bool
must_send s now segment None = true
must_send s now segment (Some f) = is_strange segment f || must s f.story now (Send segment)

abbrev pub must_send_on : Settings → ℕ → List Flow → Option OnTuple → Bool
must_send_on s now flows None = true
must_send_on s now flows (Some on) = must_send s now on.segment (owner on.tuple flows)

abbrev pub must_write : Settings → ℕ → List Flow → List ℕ → List ℕ → Bool
must_write s now flows [] octets = must_send_on s now flows (segment_in (drop 4 octets))
must_write s now flows (x ∷ rest) octets = true

abbrev pub must_touch : Config → List Entry → Call → Bool
must_touch config past (CallLinkWrite octets) = must_write (flow_settings config) (moment past) (book config past).flows (tail past) octets
must_touch config past (CallConnected socket) = must_act (flow_settings config) (moment past) (flow_of socket (book config past).flows) AskConnected
must_touch config past (CallTcpRead socket asked) =
    must_act (flow_settings config) (moment past) (flow_of socket (book config past).flows) Read && asks_for_room (flow_settings config) (flow_of socket (book config past).flows) asked
must_touch config past (CallTcpWrite socket octets) = must_act (flow_settings config) (moment past) (flow_of socket (book config past).flows) (Write octets)
must_touch config past (CallTcpEnd socket) = must_act (flow_settings config) (moment past) (flow_of socket (book config past).flows) EndHost
must_touch config past _ = true

abbrev pub closes_at_once : List Flow → Call → Bool
closes_at_once [] call = true
closes_at_once (f ∷ flows) call = (not (must_close f.story) || is_close f.number call) && closes_at_once flows call

-- the next call may come, and is made as it must be
abbrev pub may_flow : Config → List Entry → Call → Bool
may_flow config past call = may_due (due_for_flows config (book config past) (next_number past)) call &&
    (may_touch config past call && must_touch config past call && closes_at_once (book config past).flows call)

-- every call could follow its past
abbrev pub keeps_flows : Config → List Entry → Bool
keeps_flows config [] = true
keeps_flows config (e ∷ past) = may_flow config past (call_of e) && keeps_flows config past

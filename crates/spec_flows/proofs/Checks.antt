-- What the test passes keeps the law.
use Rattle.std.proofs.Common.{◌≡◌, ℕ, ◌==◌, ◌&&◌, ◌||◌, not, Bool, true, false, cond, List, [], ◌∷◌, drop, MatchBool, MatchOption, Option, Some, None, refl, sym, ◌∙◌, ap, subst}
use Rattle.net_octets.specs.declared.Endpoint.{Endpoint}
use Rattle.world_face.specs.Journal.{Entry, Call, call_of, CallNow, CallWait, CallLinkOpen, CallLinkRead, CallLinkWrite, CallConnect, CallConnected, CallListen, CallAccept, CallTcpRead}
use Rattle.world_face.specs.Journal.{CallTcpWrite, CallTcpEnd, CallClose, CallUdpOpen, CallUdpSend, CallUdpRecv, CallFileLen, CallFileRead}
use Rattle.world_face.specs.Frames.{tail}
use Rattle.slirp_settings.specs.Addresses.{Config}
use Rattle.slirp_settings.specs.Classes.{same_endpoint}
use Rattle.spec_flow.specs.Check.{may}
use Rattle.spec_flow.specs.CheckDuty.{must, must_close}
use Rattle.spec_flow.specs.Dutiful.{Must, MustClose, read_size}
use Rattle.spec_flow.specs.Event.{Segment}
use Rattle.spec_flow.specs.Lawful.{Act, AskConnected, Write, EndHost, Read, Send, May}
use Rattle.spec_flow.specs.Settings.{Settings}
use Rattle.spec_flow.proofs.Duties.{must_close_is, must_is}
use Rattle.spec_flow.proofs.Sound.{may_is}
use Rattle.spec_trace.specs.Moments.{moment}
use Rattle.spec_trace.specs.Sockets.{next_number}
use Rattle.spec_flows.specs.Book.{book, scene}
use Rattle.spec_flows.specs.Check.{may_act, may_shut, may_send, may_send_on, may_write, is_close, is_connect, is_call, may_due, is_due, may_touch, must_act, asks_for_room, must_send}
use Rattle.spec_flows.specs.Check.{must_send_on, must_write, must_touch, closes_at_once, may_flow, keeps_flows}
use Rattle.spec_flows.specs.Flows.{Flow, Scene, closing, flow_of, is_strange, owner}
use Rattle.spec_flows.specs.Laws.{flow_settings, MayAct, MayShut, MaySend, SendsOn, WritesBy, MayTouch, MustAct, AsksForRoom, MustSend, MustTouch, MayFlow, KeepsFlows}
use Rattle.spec_flows.specs.SegmentVerdicts.{due_for_flows}
use Rattle.spec_flows.specs.Segments.{OnTuple, segment_in}
use Rattle.spec_flows.proofs.Lists.{numbers_same}

both : (a b : Bool) → (a && b) ≡ true → (a ≡ true) × (b ≡ true)
both true b is = (refl, is)
both false b is = cc

acts : (s : Settings) (now : ℕ) (o : Option Flow) (act : Act) → may_act s now o act ≡ true → MayAct s now o act
acts s now None act is = absurd cc
acts s now (Some f) act is = may_is s f.story now act is

shuts : (s : Settings) (sc : Scene) (came : Option OnTuple) (o : Option Flow) → may_shut s sc came o ≡ true → MayShut s sc came o
shuts s sc came None is = tt
shuts s sc came (Some f) is = may_is s f.story sc.moment (closing sc came f) is

sends : (s : Settings) (now : ℕ) (seg : Segment) (o : Option Flow) → may_send s now seg o ≡ true → MaySend s now seg o
sends s now seg None is = is
sends s now seg (Some f) is = by_test (is_strange seg f) is
  where
    by_test : (b : Bool) → (b || may s f.story now (Send seg)) ≡ true → MatchBool b (Unit {0}) (May s f.story now (Send seg))
    by_test true is = tt
    by_test false is = may_is s f.story now (Send seg) is

sends_on : (s : Settings) (now : ℕ) (flows : List Flow) (o : Option OnTuple) → may_send_on s now flows o ≡ true → SendsOn (MaySend s now) flows o
sends_on s now flows None is = tt
sends_on s now flows (Some on) is = sends s now on.segment (owner on.tuple flows) is

writes : (s : Settings) (now : ℕ) (flows : List Flow) (rest octets : List ℕ) → may_write s now flows rest octets ≡ true → WritesBy (MaySend s now) flows rest octets
writes s now flows [] octets is = sends_on s now flows (segment_in (drop 4 octets)) is
writes s now flows (x ∷ rest) octets is = tt

-- ---- calls that are due

ends_same : (a b : Endpoint) → same_endpoint a b ≡ true → a ≡ b
ends_same a b is =
    let parts = both (a.addr.0 == b.addr.0) (a.port == b.port) is in
    let addr = numbers_same a.addr.0 b.addr.0 parts.0 in
    let port = numbers_same a.port b.port parts.1 in
    λ i. record { addr = record { 0 = addr i }; port = port i }

pub closes : (socket : ℕ) (call : Call) → is_close socket call ≡ true → call ≡ CallClose socket
closes socket (CallClose s) is = ap CallClose (numbers_same s socket is)
closes socket CallNow is = cc
closes socket (CallWait wants timeout) is = cc
closes socket (CallLinkOpen at) is = cc
closes socket (CallLinkRead asked) is = cc
closes socket (CallLinkWrite octets) is = cc
closes socket (CallConnect s to) is = cc
closes socket (CallConnected s) is = cc
closes socket (CallListen s at) is = cc
closes socket (CallAccept l s) is = cc
closes socket (CallTcpRead s asked) is = cc
closes socket (CallTcpWrite s octets) is = cc
closes socket (CallTcpEnd s) is = cc
closes socket (CallUdpOpen s at) is = cc
closes socket (CallUdpSend s to octets) is = cc
closes socket (CallUdpRecv s asked) is = cc
closes socket (CallFileLen name) is = cc
closes socket (CallFileRead name place asked) is = cc

pub connects : (socket : ℕ) (to : Endpoint) (call : Call) → is_connect socket to call ≡ true → call ≡ CallConnect socket to
connects socket to (CallConnect s t) is =
    let parts = both (s == socket) (same_endpoint t to) is in
    let number = numbers_same s socket parts.0 in
    let at = ends_same t to parts.1 in
    λ i. CallConnect (number i) (at i)
connects socket to CallNow is = cc
connects socket to (CallWait wants timeout) is = cc
connects socket to (CallLinkOpen at) is = cc
connects socket to (CallLinkRead asked) is = cc
connects socket to (CallLinkWrite octets) is = cc
connects socket to (CallConnected s) is = cc
connects socket to (CallListen s at) is = cc
connects socket to (CallAccept l s) is = cc
connects socket to (CallTcpRead s asked) is = cc
connects socket to (CallTcpWrite s octets) is = cc
connects socket to (CallTcpEnd s) is = cc
connects socket to (CallClose s) is = cc
connects socket to (CallUdpOpen s at) is = cc
connects socket to (CallUdpSend s t octets) is = cc
connects socket to (CallUdpRecv s asked) is = cc
connects socket to (CallFileLen name) is = cc
connects socket to (CallFileRead name place asked) is = cc

calls : (d call : Call) → is_call d call ≡ true → call ≡ d
calls (CallClose socket) call is = closes socket call is
calls (CallConnect socket to) call is = connects socket to call is
calls CallNow call is = cc
calls (CallWait wants timeout) call is = cc
calls (CallLinkOpen at) call is = cc
calls (CallLinkRead asked) call is = cc
calls (CallLinkWrite octets) call is = cc
calls (CallConnected s) call is = cc
calls (CallListen s at) call is = cc
calls (CallAccept l s) call is = cc
calls (CallTcpRead s asked) call is = cc
calls (CallTcpWrite s octets) call is = cc
calls (CallTcpEnd s) call is = cc
calls (CallUdpOpen s at) call is = cc
calls (CallUdpSend s to octets) call is = cc
calls (CallUdpRecv s asked) call is = cc
calls (CallFileLen name) call is = cc
calls (CallFileRead name place asked) call is = cc

due : (d : Option Call) (call : Call) → may_due d call ≡ true → MatchOption d (Unit {0}) (λ e. call ≡ e)
due None call is = tt
due (Some d) call is = calls d call is

asked : (d : Option Call) (call : Call) → is_due d call ≡ true → d ≡ Some call
asked None call is = cc
asked (Some d) call is = ap Some (sym (calls d call is))

-- ---- as it must be

must_acts : (s : Settings) (now : ℕ) (o : Option Flow) (act : Act) → must_act s now o act ≡ true → MustAct s now o act
must_acts s now None act is = tt
must_acts s now (Some f) act is = must_is s f.story now act is

asks_room : (s : Settings) (o : Option Flow) (asked : ℕ) → asks_for_room s o asked ≡ true → AsksForRoom s o asked
asks_room s None asked is = tt
asks_room s (Some f) asked is = numbers_same asked (read_size s f.story) is

must_sends : (s : Settings) (now : ℕ) (seg : Segment) (o : Option Flow) → must_send s now seg o ≡ true → MustSend s now seg o
must_sends s now seg None is = tt
must_sends s now seg (Some f) is = by_test (is_strange seg f) is
  where
    by_test : (b : Bool) → (b || must s f.story now (Send seg)) ≡ true → MatchBool b (Unit {0}) (Must s f.story now (Send seg))
    by_test true is = tt
    by_test false is = must_is s f.story now (Send seg) is

must_sends_on : (s : Settings) (now : ℕ) (flows : List Flow) (o : Option OnTuple) → must_send_on s now flows o ≡ true → SendsOn (MustSend s now) flows o
must_sends_on s now flows None is = tt
must_sends_on s now flows (Some on) is = must_sends s now on.segment (owner on.tuple flows) is

must_writes : (s : Settings) (now : ℕ) (flows : List Flow) (rest octets : List ℕ) → must_write s now flows rest octets ≡ true → WritesBy (MustSend s now) flows rest octets
must_writes s now flows [] octets is = must_sends_on s now flows (segment_in (drop 4 octets)) is
must_writes s now flows (x ∷ rest) octets is = tt

musts : (config : Config) (past : List Entry) (call : Call) → must_touch config past call ≡ true → MustTouch config past call
musts config past (CallLinkWrite octets) is = must_writes (flow_settings config) (moment past) (book config past).flows (tail past) octets is
musts config past (CallConnected socket) is = must_acts (flow_settings config) (moment past) (flow_of socket (book config past).flows) AskConnected is
musts config past (CallTcpRead socket asked) is =
    let parts = both (must_act (flow_settings config) (moment past) (flow_of socket (book config past).flows) Read)
    (asks_for_room (flow_settings config) (flow_of socket (book config past).flows) asked) is in
    (must_acts (flow_settings config) (moment past) (flow_of socket (book config past).flows) Read parts.0, asks_room (flow_settings config) (flow_of socket (book config past).flows) asked parts.1)
musts config past (CallTcpWrite socket octets) is = must_acts (flow_settings config) (moment past) (flow_of socket (book config past).flows) (Write octets) is
musts config past (CallTcpEnd socket) is = must_acts (flow_settings config) (moment past) (flow_of socket (book config past).flows) EndHost is
musts config past _ is = tt

-- the test of a close goes through all flows
at_once : (flows : List Flow) (call : Call) (number : ℕ) (f : Flow) → closes_at_once flows call ≡ true → flow_of number flows ≡ Some f → MustClose f.story → call ≡ CallClose number
at_once [] call number f is found must = absurd cc
at_once (g ∷ flows) call number f is found must =
    let parts = both (not (must_close g.story) || is_close g.number call) (closes_at_once flows call) is in
    by_test (g.number == number) refl found parts.0 (λ behind. at_once flows call number f parts.1 behind must)
  where
    this_one : (g : Flow) → MustClose g.story → (not (must_close g.story) || is_close g.number call) ≡ true → is_close g.number call ≡ true
    this_one g must is = sym (ap (λ b. not b || is_close g.number call) (must_close_is g.story must)) ∙ is

    by_test : (b : Bool) → (g.number == number) ≡ b → cond b (Some g) (flow_of number flows) ≡ Some f → (not (must_close g.story) || is_close g.number call) ≡ true
        → (flow_of number flows ≡ Some f → call ≡ CallClose number) → call ≡ CallClose number
    by_test true same is test rest =
        let one : f ≡ g = cc in
        closes g.number call (this_one g (subst (λ h. MustClose h.story) one must) test) ∙ ap CallClose (numbers_same g.number number same)
    by_test false other is test rest = rest is

-- ---- all

touches : (config : Config) (past : List Entry) (call : Call) → may_touch config past call ≡ true → MayTouch config past call
touches config past (CallLinkWrite octets) is = writes (flow_settings config) (moment past) (book config past).flows (tail past) octets is
touches config past (CallConnect socket to) is = asked (due_for_flows config (book config past) (next_number past)) (CallConnect socket to) is
touches config past (CallConnected socket) is = acts (flow_settings config) (moment past) (flow_of socket (book config past).flows) AskConnected is
touches config past (CallAccept listener socket) is = numbers_same socket (next_number past) is
touches config past (CallTcpRead socket asked) is = acts (flow_settings config) (moment past) (flow_of socket (book config past).flows) Read is
touches config past (CallTcpWrite socket octets) is = acts (flow_settings config) (moment past) (flow_of socket (book config past).flows) (Write octets) is
touches config past (CallTcpEnd socket) is = acts (flow_settings config) (moment past) (flow_of socket (book config past).flows) EndHost is
touches config past (CallClose socket) is = shuts (flow_settings config) (scene config past) (book config past).came (flow_of socket (book config past).flows) is
touches config past _ is = tt

pub passes : (config : Config) (past : List Entry) (call : Call) → may_flow config past call ≡ true → MayFlow config past call
passes config past call is =
    let parts = both (may_due (due_for_flows config (book config past) (next_number past)) call) (may_touch config past call && must_touch config past call && closes_at_once
    (book config past).flows call) is in
    let rest = both (may_touch config past call && must_touch config past call) (closes_at_once (book config past).flows call) parts.1 in
    let done = both (may_touch config past call) (must_touch config past call) rest.0 in
    record {
      due = due (due_for_flows config (book config past) (next_number past)) call parts.0;
      touches = touches config past call done.0;
      must = musts config past call done.1;
      at_once = λ number f found must. at_once (book config past).flows call number f rest.1 found must;
    }

-- a trace that passes keeps the law of flows
pub is_sound : (config : Config) (past : List Entry) → keeps_flows config past ≡ true → KeepsFlows config past
is_sound config [] is = tt
is_sound config (e ∷ past) is =
    let parts = both (may_flow config past (call_of e)) (keeps_flows config past) is in
    (passes config past (call_of e) parts.0, is_sound config past parts.1)

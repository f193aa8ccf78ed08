-- Where no port of the host is given to a guest no flow was opened by a peer.
use Rattle.std.proofs.Common.{◌≡◌, ℕ, Bool, true, false, List, [], ◌∷◌, map, Option, Some, None, option_and_then, refl, sym, ap, subst, if◌then◌else◌, cond}
use Rattle.net_octets.specs.declared.Endpoint.{Endpoint}
use Rattle.world_face.specs.Journal.{Entry, Now, Wait, LinkOpen, LinkRead, LinkWrite, Connect, Connected, Listen, Accept, TcpRead, TcpWrite, TcpEnd, Close, UdpOpen, UdpSend, UdpRecv}
use Rattle.world_face.specs.Journal.{FileLen, FileRead}
use Rattle.world_face.specs.declared.Io.{Io}
use Rattle.world_face.specs.declared.Io.TheVariants.{Done, End, NotYet, Failed}
use Rattle.world_face.specs.declared.Made.{Made}
use Rattle.world_face.specs.declared.Made.TheVariants.{Done as MadeDone, Failed as MadeFailed}
use Rattle.world_face.specs.declared.Joined.{Joined}
use Rattle.world_face.specs.declared.Joined.TheVariants.{Yes, NotYet as NotYetJoined, Failed as JoinFailed}
use Rattle.world_face.specs.declared.Accepted.{Accepted}
use Rattle.world_face.specs.declared.Accepted.TheVariants.{From, NotYet as NotYetAccepted, Failed as AcceptFailed}
use Rattle.slirp_settings.specs.Addresses.{Config}
use Rattle.slirp_settings.specs.declared.Forward.{Forward}
use Rattle.spec_trace.specs.Happenings.{Arrival, happens}
use Rattle.spec_flow.specs.Event.{Event, Accepts, Arrives, Departs, AsksAddress}
use Rattle.spec_flow.specs.Flow.{is_accepted}
use Rattle.spec_flows.specs.Book.{book, port_by, port_of, scene, turned, visits_for}
use Rattle.spec_flows.specs.Doings.{Doing, Nothing, Comes, Goes, Resolves, Pauses, Joins, Visits, Calls, Shuts, by_call, comes, doing, doing_by, ended_by, goes, joined, joins, read_by}
use Rattle.spec_flows.specs.Doings.{visits, written_by}
use Rattle.spec_flows.specs.Flows.{Book, Flow, Scene, flow_of, is_numbered, is_on, is_strange, resolves_for, sends, shuts, tell, with_event}
use Rattle.spec_flows.specs.Said.{Each}
use Rattle.spec_flows.specs.Segments.{OnTuple, asked_in, segment_came, segment_in}
use Rattle.spec_trace.specs.Shape.{GivesNone}
use Rattle.spec_run.proofs.Given.{leads_nowhere}

abbrev pub IsOurs : Flow → Type 0
IsOurs f = is_accepted f.story ≡ false

-- ---- no call on a socket opens a flow

accepts_it : Event → Bool
accepts_it (Accepts ours) = true
accepts_it _ = false

calls_accept : Doing → Bool
unfolding accepts_it
calls_accept (Calls socket event) = accepts_it event
calls_accept _ = false

looks_on : (answer : Joined) → accepts_it (joined answer) ≡ false
unfolding accepts_it
looks_on Yes = refl
looks_on NotYetJoined = refl
looks_on JoinFailed = refl

reads_on : (answer : Io) (octets : List ℕ) → accepts_it (read_by answer octets) ≡ false
unfolding accepts_it
reads_on (Done n) octets = refl
reads_on End octets = refl
reads_on NotYet octets = refl
reads_on Failed octets = refl

writes_on : (answer : Io) (octets : List ℕ) → accepts_it (written_by answer octets) ≡ false
unfolding accepts_it
writes_on (Done n) octets = refl
writes_on End octets = refl
writes_on NotYet octets = refl
writes_on Failed octets = refl

ends_on : (answer : Made) → accepts_it (ended_by answer) ≡ false
unfolding accepts_it
ends_on MadeDone = refl
ends_on MadeFailed = refl

made_on : (answer : Made) (socket : ℕ) → calls_accept (joins answer socket) ≡ false
unfolding calls_accept
made_on MadeDone socket = refl
made_on MadeFailed socket = refl

peer_on : (answer : Accepted) (listener socket : ℕ) → calls_accept (visits answer listener socket) ≡ false
unfolding calls_accept
peer_on (From peer) listener socket = refl
peer_on NotYetAccepted listener socket = refl
peer_on AcceptFailed listener socket = refl

by_calls : (e : Entry) → calls_accept (by_call e) ≡ false
unfolding calls_accept
by_calls (Connect socket to answer) = made_on answer socket
by_calls (Connected socket answer) = looks_on answer
by_calls (Accept listener socket answer) = peer_on answer listener socket
by_calls (TcpRead socket asked answer octets) = reads_on answer octets
by_calls (TcpWrite socket octets answer) = writes_on answer octets
by_calls (TcpEnd socket answer) = ends_on answer
by_calls (Now told) = refl
by_calls (Wait wants timeout answer ready) = refl
by_calls (LinkOpen at answer) = refl
by_calls (LinkRead asked answer octets) = refl
by_calls (LinkWrite octets answer) = refl
by_calls (Listen socket at answer) = refl
by_calls (Close socket) = refl
by_calls (UdpOpen socket at answer) = refl
by_calls (UdpSend socket to octets answer) = refl
by_calls (UdpRecv socket asked answer octets) = refl
by_calls (FileLen name answer) = refl
by_calls (FileRead name place asked answer octets) = refl

comes_on : (o : Option OnTuple) → calls_accept (comes o) ≡ false
unfolding calls_accept
comes_on None = refl
comes_on (Some on) = refl

goes_on : (o : Option OnTuple) (asked : Option ℕ) → calls_accept (goes o asked) ≡ false
unfolding calls_accept
goes_on (Some on) asked = refl
goes_on None None = refl
goes_on None (Some guest) = refl

by_any : (came : Option Arrival) (went : Option (List ℕ)) (e : Entry) → calls_accept (doing_by came went e) ≡ false
by_any (Some arrival) went e = comes_on (segment_came (Some arrival))
by_any None (Some frame) e = goes_on (segment_in frame) (asked_in frame)
by_any None None e = by_calls e

-- ---- each flow

each_told : (test : Flow → Bool) (change : Flow → Flow) → ((f : Flow) → IsOurs f → IsOurs (change f)) → (flows : List Flow) → Each IsOurs flows → Each IsOurs (tell test change flows)
each_told test change keep [] each = tt
each_told test change keep (f ∷ flows) each = by (test f) (each_told test change keep flows each.1)
  where
    by : (b : Bool) → Each IsOurs (tell test change flows) → Each IsOurs (if b then change f ∷ flows else f ∷ tell test change flows)
    by true rest = (keep f each.0, each.1)
    by false rest = (each.0, rest)

each_mapped : (change : Flow → Flow) → ((f : Flow) → IsOurs f → IsOurs (change f)) → (flows : List Flow) → Each IsOurs flows → Each IsOurs (map change flows)
each_mapped change keep [] each = tt
each_mapped change keep (f ∷ flows) each = (keep f each.0, each_mapped change keep flows each.1)

told_ours : (now : ℕ) (event : Event) → accepts_it event ≡ false → (f : Flow) → IsOurs f → IsOurs (with_event now event f)
unfolding accepts_it
told_ours now (Accepts ours) is f old = absurd cc
told_ours now _ is f old = old

sent_ours : (now : ℕ) (on : OnTuple) (f : Flow) → IsOurs f → IsOurs (sends now on.segment f)
sent_ours now on f old = by (is_strange on.segment f)
  where
    by : (b : Bool) → IsOurs (if b then f else with_event now (Departs on.segment) f)
    by true = old
    by false = old

resolved_ours : (now guest : ℕ) (f : Flow) → IsOurs f → IsOurs (resolves_for now guest f)
resolved_ours now guest f old = by _
  where
    by : (b : Bool) → IsOurs (if b then with_event now AsksAddress f else f)
    by true = old
    by false = old

no_port : (config : Config) → GivesNone config → (listener : ℕ) → port_of config listener ≡ None
no_port config none listener = ap (option_and_then (λ (f : Forward). port_by f.proto f.guest)) (leads_nowhere config listener none)

turns : (config : Config) (sc : Scene) (d : Doing) (b : Book) → calls_accept d ≡ false → GivesNone config → Each IsOurs b.flows → Each IsOurs (turned config sc d b).flows
unfolding calls_accept
turns config sc Nothing b is none each = each
turns config sc (Comes on) b is none each = each_told (is_on on.tuple) (with_event sc.moment (Arrives on.segment)) (λ f old. old) b.flows each
turns config sc (Goes on) b is none each = each_told (is_on on.tuple) (sends sc.moment on.segment) (sent_ours sc.moment on) b.flows each
turns config sc (Resolves guest) b is none each = each_mapped (resolves_for sc.moment guest) (resolved_ours sc.moment guest) b.flows each
turns config sc Pauses b is none each = each
turns config sc (Joins socket) b is none each = by b.came
  where
    by : (o : Option OnTuple) → Each IsOurs (turned config sc (Joins socket) (record b { came = o })).flows
    by None = each
    by (Some on) = (refl, each)
turns config sc (Visits listener socket peer) b is none each =
    subst (λ (o : Option Endpoint). Each IsOurs (visits_for config sc.moment socket peer o b).flows) (sym (no_port config none listener)) each
turns config sc (Calls socket event) b is none each = each_told (is_numbered socket) (with_event sc.moment event) (told_ours sc.moment event is) b.flows each
turns config sc (Shuts socket) b is none each = each_told (is_numbered socket) (shuts sc b.came) (λ f old. old) b.flows each

each_ours : (config : Config) → GivesNone config → (past : List Entry) → Each IsOurs (book config past).flows
each_ours config none [] = tt
each_ours config none (e ∷ past) =
    turns config (scene config past) (doing config past e) (book config past) (by_any (happens config past e).came (happens config past e).went e) none (each_ours config none past)

found : (n : ℕ) (flows : List Flow) (f : Flow) → Each IsOurs flows → flow_of n flows ≡ Some f → IsOurs f
found n [] f each is = absurd cc
found n (g ∷ flows) f each is = by (is_numbered n g) (found n flows f each.1) is
  where
    by : (b : Bool) → (flow_of n flows ≡ Some f → IsOurs f) → cond b (Some g) (flow_of n flows) ≡ Some f → IsOurs f
    by true rest one = let here : g ≡ f = cc in subst IsOurs here each.0
    by false rest one = rest one

pub none_accepted : (config : Config) → GivesNone config → (past : List Entry) (n : ℕ) (f : Flow) → flow_of n (book config past).flows ≡ Some f → is_accepted f.story ≡ false
none_accepted config none past n f is = found n (book config past).flows f (each_ours config none past) is

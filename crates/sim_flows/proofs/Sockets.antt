-- In a lawful trace each flow that isn't closed has its socket, which is open and a connection's; one that is closed has none.
use Rattle.std.proofs.Common.{◌≡◌, ℕ, ◌<◌, ◌==◌, ◌&&◌, ◌||◌, not, Bool, true, false, List, [], ◌∷◌, ◌++◌, length, Option, Some, None, if◌then◌else◌, refl, sym, ◌∙◌, ap, subst, arith}
use Rattle.std.proofs.lemmas.Bool.Decides.{nat_tests}
use Rattle.net_octets.specs.declared.Endpoint.{Endpoint}
use Rattle.world_face.specs.Journal.{Entry, Connect, Listen, Accept, Close, UdpOpen, call_of, Connected, TcpRead, TcpWrite, TcpEnd}
use Rattle.world_face.specs.declared.Made.{Made}
use Rattle.world_face.specs.declared.Made.TheVariants.{Done, Failed}
use Rattle.world_face.specs.declared.Accepted.{Accepted}
use Rattle.world_face.specs.declared.Accepted.TheVariants.{From, NotYet as NotYetAccepted, Failed as AcceptFailed}
use Rattle.world_face.specs.declared.Io.{Io}
use Rattle.world_face.specs.declared.Io.TheVariants.{Done as IoDone, End, NotYet, Failed as IoFailed}
use Rattle.world_face.specs.declared.Joined.{Joined}
use Rattle.world_face.specs.declared.Joined.TheVariants.{Yes, NotYet as NotJoined, Failed as JoinFailed}
use Rattle.slirp_settings.specs.Addresses.{Config, address}
use Rattle.spec_flows.specs.declared.Tuple.{Tuple}
use Rattle.spec_trace.specs.Happenings.{Arrival, happens}
use Rattle.spec_trace.specs.Sockets.{Kind, Listener, Flow as AFlow, is_among, is_flow, kind_of, next_number, open_sockets, with_made, with_peer}
use Rattle.spec_flow.specs.Event.{Segment, Event, Connects, Accepts, Arrives, Departs, AsksAddress, At, Story, Closes}
use Rattle.spec_flow.specs.Flow.{first_number, is_accepted, is_closed}
use Rattle.spec_flows.specs.Book.{book, doom, is_refused, joins_for, opens, port_of, scene, tuple_for, turned, visits_for}
use Rattle.spec_flows.specs.Doings.{Doing, Nothing, Comes, Goes, Resolves, Pauses, Joins, Visits, Calls, Shuts, by_call, comes, doing, doing_by, goes, resolves, joined as joined_by, read_by}
use Rattle.spec_flows.specs.Doings.{written_by, ended_by, joins as joined_one, visits}
use Rattle.spec_flows.specs.Flows.{Flow, Book, Scene, flow_of, is_on, is_numbered, resolves_for, sends, shuts, tell, with_event, is_strange}
use Rattle.spec_flows.specs.Said.{Differ, Each}
use Rattle.spec_flows.specs.Segments.{OnTuple, asked_in, segment_came, segment_in}
use Rattle.spec_flows.proofs.Apart.{resolves_number, sends_number}
use Rattle.spec_flows.proofs.Keeping.{are_kept}
use Rattle.spec_flows.proofs.Lists.{each_as, each_map, each_numbered, each_told, found_number, each_both, each_found}
use Rattle.spec_run.specs.Laws.{Lawful, May, joins}
use Rattle.spec_run.proofs.Bools.{among_last, among_without, and_both, or_second, same, second_of}
use Rattle.spec_run.proofs.KeepingFlows.{keeps_flows}
use Rattle.spec_run.proofs.OpenSockets.{joins_open, open_below, peer_next, gone_by}
use Rattle.sim_flows.proofs.Options.{none_some, some_same, true_false}

-- the number of a flow was drawn
pub open_is_young : (config : Config) (past : List Entry) (n : ℕ) (f : Flow) → Lawful config past → flow_of n (book config past).flows ≡ Some f → n < next_number past
open_is_young config past n f lawful is =
    subst (λ m. m < next_number past) (found_number n (book config past).flows f is)
    (each_found (λ g. g.number < next_number past) (is_numbered n) (book config past).flows f (are_kept config past (keeps_flows config past lawful)).below is)

-- ---- a flow that is opened

-- the socket of the flow that is opened, where one is
abbrev opened_by : Doing → Option ℕ
opened_by (Joins socket) = Some socket
opened_by (Visits listener socket peer) = Some socket
opened_by _ = None

comes_opens : (o : Option OnTuple) → opened_by (comes o) ≡ None
comes_opens None = refl
comes_opens (Some on) = refl

resolves_opens : (o : Option ℕ) → opened_by (resolves o) ≡ None
resolves_opens None = refl
resolves_opens (Some guest) = refl

goes_opens : (o : Option OnTuple) (asked : Option ℕ) → opened_by (goes o asked) ≡ None
goes_opens None asked = resolves_opens asked
goes_opens (Some on) asked = refl

-- no frame opens one
by_frames : (came : Option Arrival) (went : Option (List ℕ)) (e : Entry) (s : ℕ) → opened_by (doing_by came went e) ≡ Some s → opened_by (by_call e) ≡ Some s
by_frames (Some arrival) went e s is = absurd (none_some (sym (comes_opens (segment_came (Some arrival))) ∙ is))
by_frames None (Some frame) e s is = absurd (none_some (sym (goes_opens (segment_in frame) (asked_in frame)) ∙ is))
by_frames None None e s is = is

-- a socket that was opened last, for a connection
made_now : (socket : ℕ) (sockets : List ℕ) (k : Option Kind) → (is_among socket (sockets ++ (socket ∷ [])) && is_flow (if socket == socket then Some AFlow else k)) ≡ true
made_now socket sockets k =
    and_both (is_among socket (sockets ++ (socket ∷ []))) (is_flow (if socket == socket then Some AFlow else k))
    (among_last socket socket sockets ∙ or_second (is_among socket sockets) (socket == socket) (same socket))
    (ap (λ b. is_flow (if b then Some AFlow else k)) (same socket))

call_opens : (e : Entry) (past : List Entry) (s : ℕ) → opened_by (by_call e) ≡ Some s → joins (e ∷ past) s ≡ true
call_opens (Connect socket to Done) past s is =
    subst (λ n. joins (Connect socket to Done ∷ past) n ≡ true) (some_same socket s is) (made_now socket (open_sockets past) (kind_of socket past))
call_opens (Connect socket to Failed) past s is = absurd (none_some is)
call_opens (Accept listener socket (From peer)) past s is =
    subst (λ n. joins (Accept listener socket (From peer) ∷ past) n ≡ true) (some_same socket s is) (made_now socket (open_sockets past) (kind_of socket past))
call_opens (Accept listener socket NotYetAccepted) past s is = absurd (none_some is)
call_opens (Accept listener socket AcceptFailed) past s is = absurd (none_some is)
call_opens _ past s is = absurd (none_some is)

-- its socket is open then
opens_joined : (config : Config) (e : Entry) (past : List Entry) (s : ℕ) → opened_by (doing config past e) ≡ Some s → joins (e ∷ past) s ≡ true
opens_joined config e past s is = call_opens e past s (by_frames (happens config past e).came (happens config past e).went e s is)

-- ---- sockets that are open stay so

-- the socket of this number is closed
abbrev pub shut_by : Doing → ℕ → Bool
shut_by (Shuts socket) n = n == socket
shut_by _ n = false

with_one : (answer : Made) (n socket : ℕ) (sockets : List ℕ) → is_among n sockets ≡ true → is_among n (with_made answer socket sockets) ≡ true
with_one Done n socket sockets is = among_last n socket sockets ∙ ap (λ b. b || (n == socket)) is
with_one Failed n socket sockets is = is

with_visitor : (answer : Accepted) (n socket : ℕ) (sockets : List ℕ) → is_among n sockets ≡ true → is_among n (with_peer answer socket sockets) ≡ true
with_visitor (From peer) n socket sockets is = with_one Done n socket sockets is
with_visitor NotYetAccepted n socket sockets is = is
with_visitor AcceptFailed n socket sockets is = is

-- the next number is that of no socket that was drawn
not_next : (socket n next : ℕ) → (socket == next) ≡ true → n < next → (socket == n) ≡ false
not_next socket n next is below = grind (arith, nat_tests, is, below)

not_shut : (b : Bool) → b ≡ false → not b ≡ true
not_shut true is = absurd (true_false is)
not_shut false is = refl

module _ (config : Config) (past : List Entry) (lawful : Lawful config past) (n : ℕ) (joined : joins past n ≡ true) where
  among : is_among n (open_sockets past) ≡ true
  among = joins_open past n joined

  of_flow : is_flow (kind_of n past) ≡ true
  of_flow = second_of (is_among n (open_sockets past)) (is_flow (kind_of n past)) joined

  -- where one more is opened, of whichever kind
  beside : (socket : ℕ) (k : Option Kind) (sockets : List ℕ) → (socket == next_number past) ≡ true → is_among n sockets ≡ true
      → (is_among n sockets && is_flow (if socket == n then k else kind_of n past)) ≡ true
  beside socket k sockets next is =
      and_both (is_among n sockets) (is_flow (if socket == n then k else kind_of n past)) is
      (ap (λ b. is_flow (if b then k else kind_of n past)) (not_next socket n (next_number past) next (open_below config past lawful n among)) ∙ of_flow)

  joins_stays : (e : Entry) → May config past (call_of e) → shut_by (doing config past e) n ≡ false → joins (e ∷ past) n ≡ true
  joins_stays (Connect socket to answer) may not_it = beside socket (Some AFlow) (with_made answer socket (open_sockets past)) may.socket (with_one answer n socket (open_sockets past) among)
  joins_stays (Listen socket at answer) may not_it = beside socket (Some Listener) (with_made answer socket (open_sockets past)) may.socket (with_one answer n socket (open_sockets past) among)
  joins_stays (UdpOpen socket at answer) may not_it = beside socket _ (with_made answer socket (open_sockets past)) may.socket (with_one answer n socket (open_sockets past) among)
  joins_stays (Accept listener socket answer) may not_it =
      beside socket (Some AFlow) (with_peer answer socket (open_sockets past)) (peer_next config past listener socket answer may) (with_visitor answer n socket (open_sockets past) among)
  joins_stays (Close socket) may not_it =
      and_both _ (is_flow (kind_of n past)) (among_without n socket (open_sockets past) ∙ and_both (not (n == socket)) (is_among n (open_sockets past)) (not_shut (n == socket) not_it) among) of_flow
  joins_stays _ may not_it = joined

-- ---- a socket that is closed

-- the one that is closed isn't open then
comes_shuts : (o : Option OnTuple) (n : ℕ) → shut_by (comes o) n ≡ false
comes_shuts None n = refl
comes_shuts (Some on) n = refl

resolves_shuts : (o : Option ℕ) (n : ℕ) → shut_by (resolves o) n ≡ false
resolves_shuts None n = refl
resolves_shuts (Some guest) n = refl

goes_shuts : (o : Option OnTuple) (asked : Option ℕ) (n : ℕ) → shut_by (goes o asked) n ≡ false
goes_shuts None asked n = resolves_shuts asked n
goes_shuts (Some on) asked n = refl

false_true : {b : Bool} → b ≡ false → b ≡ true → ⊥
false_true none is = true_false (sym is ∙ none)

made_shuts : (answer : Made) (socket n : ℕ) → shut_by (joined_one answer socket) n ≡ false
made_shuts Done socket n = refl
made_shuts Failed socket n = refl

peer_shuts : (answer : Accepted) (listener socket n : ℕ) → shut_by (visits answer listener socket) n ≡ false
peer_shuts (From peer) listener socket n = refl
peer_shuts NotYetAccepted listener socket n = refl
peer_shuts AcceptFailed listener socket n = refl

call_shuts : (e : Entry) (past : List Entry) (n : ℕ) → shut_by (by_call e) n ≡ true → is_among n (open_sockets (e ∷ past)) ≡ false
call_shuts (Close socket) past n is = among_without n socket (open_sockets past) ∙ ap (λ b. not b && is_among n (open_sockets past)) is
call_shuts (Connect socket to answer) past n is = absurd (false_true (made_shuts answer socket n) is)
call_shuts (Accept listener socket answer) past n is = absurd (false_true (peer_shuts answer listener socket n) is)
call_shuts _ past n is = absurd (true_false (sym is))

frames_shut : (came : Option Arrival) (went : Option (List ℕ)) (e : Entry) (past : List Entry) (n : ℕ) → shut_by (doing_by came went e) n ≡ true → is_among n (open_sockets (e ∷ past)) ≡ false
frames_shut (Some arrival) went e past n is = absurd (false_true (comes_shuts (segment_came (Some arrival)) n) is)
frames_shut None (Some frame) e past n is = absurd (false_true (goes_shuts (segment_in frame) (asked_in frame) n) is)
frames_shut None None e past n is = call_shuts e past n is

-- ---- what closes a flow

-- the event is a close
abbrev shuts_it : Event → Bool
shuts_it (Closes directly ended known) = true
shuts_it _ = false

closed_same : (m : ℕ) (ev : Event) (story : Story) → shuts_it ev ≡ false → is_closed (At m ev ∷ story) ≡ is_closed story
closed_same m (Closes directly ended known) story none = absurd (true_false none)
closed_same m _ story none = refl

-- no call but a close is one
abbrev calls_shut : Doing → Bool
calls_shut (Calls socket ev) = shuts_it ev
calls_shut _ = false

looks_on : (answer : Joined) → shuts_it (joined_by answer) ≡ false
looks_on Yes = refl
looks_on NotJoined = refl
looks_on JoinFailed = refl

reads_on : (answer : Io) (octets : List ℕ) → shuts_it (read_by answer octets) ≡ false
reads_on (IoDone n) octets = refl
reads_on End octets = refl
reads_on NotYet octets = refl
reads_on IoFailed octets = refl

writes_on : (answer : Io) (octets : List ℕ) → shuts_it (written_by answer octets) ≡ false
writes_on (IoDone n) octets = refl
writes_on End octets = refl
writes_on NotYet octets = refl
writes_on IoFailed octets = refl

ends_on : (answer : Made) → shuts_it (ended_by answer) ≡ false
ends_on Done = refl
ends_on Failed = refl

made_on : (answer : Made) (socket : ℕ) → calls_shut (joined_one answer socket) ≡ false
made_on Done socket = refl
made_on Failed socket = refl

peer_on : (answer : Accepted) (listener socket : ℕ) → calls_shut (visits answer listener socket) ≡ false
peer_on (From peer) listener socket = refl
peer_on NotYetAccepted listener socket = refl
peer_on AcceptFailed listener socket = refl

by_calls : (e : Entry) → calls_shut (by_call e) ≡ false
by_calls (Connect socket to answer) = made_on answer socket
by_calls (Connected socket answer) = looks_on answer
by_calls (Accept listener socket answer) = peer_on answer listener socket
by_calls (TcpRead socket asked answer octets) = reads_on answer octets
by_calls (TcpWrite socket octets answer) = writes_on answer octets
by_calls (TcpEnd socket answer) = ends_on answer
by_calls (Close socket) = refl
by_calls _ = refl

comes_on : (o : Option OnTuple) → calls_shut (comes o) ≡ false
comes_on None = refl
comes_on (Some on) = refl

resolves_on : (o : Option ℕ) → calls_shut (resolves o) ≡ false
resolves_on None = refl
resolves_on (Some guest) = refl

goes_on_then : (o : Option OnTuple) (asked : Option ℕ) → calls_shut (goes o asked) ≡ false
goes_on_then None asked = resolves_on asked
goes_on_then (Some on) asked = refl

by_any : (came : Option Arrival) (went : Option (List ℕ)) (e : Entry) → calls_shut (doing_by came went e) ≡ false
by_any (Some arrival) went e = comes_on (segment_came (Some arrival))
by_any None (Some frame) e = goes_on_then (segment_in frame) (asked_in frame)
by_any None None e = by_calls e

-- ---- what an entry makes of the flows

sends_same : (now : ℕ) (seg : Segment) (f : Flow) → is_closed (sends now seg f).story ≡ is_closed f.story
sends_same now seg f = by_test (is_strange seg f)
  where
    by_test : (t : Bool) → is_closed (if t then f else with_event now (Departs seg) f).story ≡ is_closed f.story
    by_test true = refl
    by_test false = refl

resolves_same : (now guest : ℕ) (f : Flow) → is_closed (resolves_for now guest f).story ≡ is_closed f.story
resolves_same now guest f = by_test (is_accepted f.story && (address f.tuple.guest == guest))
  where
    by_test : (t : Bool) → is_closed (if t then with_event now AsksAddress f else f).story ≡ is_closed f.story
    by_test true = refl
    by_test false = refl

-- P holds of each flow before, and Q after
module _ (P Q : Flow → Type 0) (config : Config) (sc : Scene) (b : Book) where
  -- a flow of the same number, which is closed as it was
  abbrev GoesOn : Type 0
  GoesOn = (f g : Flow) → g.number ≡ f.number → is_closed g.story ≡ is_closed f.story → P f → Q g

  -- a flow that is opened
  abbrev IsOpened : ℕ → Type 0
  IsOpened socket = (f : Flow) → f.number ≡ socket → is_closed f.story ≡ false → Q f

  all_stay : GoesOn → Each P b.flows → Each Q b.flows
  all_stay goes_on each = each_as P Q (λ f has. goes_on f f refl refl has) b.flows each

  one_more : GoesOn → (socket : ℕ) (tuple : Tuple) (e : Event) → IsOpened socket → is_closed (At sc.moment e ∷ []) ≡ false → Each P b.flows → Each Q (opens config sc.moment socket tuple e b).flows
  one_more goes_on socket tuple e opened open_yet each = (opened (record { number = socket; tuple = tuple; story = At sc.moment e ∷ [] }) refl open_yet, all_stay goes_on each)

  with_joined : GoesOn → (socket : ℕ) → IsOpened socket → Each P b.flows → (came : Option OnTuple) → Each Q (joins_for config sc.moment socket came b).flows
  with_joined goes_on socket opened each None = all_stay goes_on each
  with_joined goes_on socket opened each (Some on) = one_more goes_on socket on.tuple (Connects (first_number sc.moment (length b.flows)) on.segment) opened refl each

  with_visit : GoesOn → (socket : ℕ) (peer : Endpoint) → IsOpened socket → Each P b.flows → (port : Option Endpoint) → Each Q (visits_for config sc.moment socket peer port b).flows
  with_visit goes_on socket peer opened each None = all_stay goes_on each
  with_visit goes_on socket peer opened each (Some guest) = by_test (is_refused config guest peer b)
    where
      by_test : (t : Bool) → Each Q (if t then doom socket b else opens config sc.moment socket (tuple_for config guest peer) (Accepts (first_number sc.moment (length b.flows))) b).flows
      by_test true = all_stay goes_on each
      by_test false = one_more goes_on socket (tuple_for config guest peer) (Accepts (first_number sc.moment (length b.flows))) opened refl each

  one_told : GoesOn → (test : Flow → Bool) (change : Flow → Flow) → ((f : Flow) → (change f).number ≡ f.number) → ((f : Flow) → is_closed (change f).story ≡ is_closed f.story)
      → Each P b.flows → Each Q (tell test change b.flows)
  one_told goes_on test change number closed each =
      each_told P Q test change (λ f has. goes_on f f refl refl has) b.flows (λ f found has. goes_on f (change f) (number f) (closed f) has) each

  turn : (d : Doing) → Differ b.flows → calls_shut d ≡ false → ((f g : Flow) → shut_by d f.number ≡ false → g.number ≡ f.number → is_closed g.story ≡ is_closed f.story → P f → Q g)
      → ((socket : ℕ) → opened_by d ≡ Some socket → IsOpened socket) → ((f g : Flow) → shut_by d f.number ≡ true → g.number ≡ f.number → is_closed g.story ≡ true → P f → Q g)
      → Each P b.flows → Each Q (turned config sc d b).flows
  turn Nothing differ calm stays opened shut each = all_stay (λ f g. stays f g refl) each
  turn (Comes on) differ calm stays opened shut each = one_told (λ f g. stays f g refl) (is_on on.tuple) (with_event sc.moment (Arrives on.segment)) (λ f. refl) (λ f. refl) each
  turn (Goes on) differ calm stays opened shut each =
      one_told (λ f g. stays f g refl) (is_on on.tuple) (sends sc.moment on.segment) (sends_number sc.moment on.segment) (sends_same sc.moment on.segment) each
  turn (Resolves guest) differ calm stays opened shut each =
      each_map P Q (resolves_for sc.moment guest)
      (λ f has. stays f (resolves_for sc.moment guest f) refl (resolves_number sc.moment guest f) (resolves_same sc.moment guest f) has) b.flows each
  turn Pauses differ calm stays opened shut each = all_stay (λ f g. stays f g refl) each
  turn (Joins socket) differ calm stays opened shut each = with_joined (λ f g. stays f g refl) socket (opened socket refl) each b.came
  turn (Visits listener socket peer) differ calm stays opened shut each = with_visit (λ f g. stays f g refl) socket peer (opened socket refl) each (port_of config listener)
  turn (Calls socket e) differ calm stays opened shut each =
      one_told (λ f g. stays f g refl) (is_numbered socket) (with_event sc.moment e) (λ f. refl) (λ f. closed_same sc.moment e f.story calm) each
  turn (Shuts socket) differ calm stays opened shut each =
      each_numbered P Q socket (shuts sc b.came) (λ f other has. stays f f other refl refl has) b.flows differ
      (λ f found has. shut f (shuts sc b.came f) (ap (λ n. n == socket) (found_number socket b.flows f found) ∙ same socket) refl refl has) each

-- ---- the trace

-- the socket of a flow is open, and a connection's, where the flow is open, and else it isn't open
pub record InStep (past : List Entry) (f : Flow) : Type 0 where
  pub opened : is_closed f.story ≡ false → joins past f.number ≡ true
  pub shut : is_closed f.story ≡ true → is_among f.number (open_sockets past) ≡ false

pub each_in_step : (config : Config) (past : List Entry) → Lawful config past → Each (InStep past) (book config past).flows
each_in_step config [] lawful = tt
each_in_step config (e ∷ past) lawful =
    let kept = are_kept config past (keeps_flows config past lawful.1) in
    let now = happens config past e in
    turn (λ f. (f.number < next_number past) × InStep past f) (InStep (e ∷ past)) config (scene config past) (book config past) (doing config past e) kept.differ (by_any now.came now.went e)
    (λ f g other number closed has. record {
      opened = λ open_yet. ap (joins (e ∷ past)) number ∙ joins_stays config past lawful.1 f.number (has.1.opened (sym closed ∙ open_yet)) e lawful.0 other;
      shut = λ is. ap (λ n. is_among n (open_sockets (e ∷ past))) number ∙ (gone_by config f.number e past lawful.0 (record { drawn = has.0; shut = has.1.shut (sym closed ∙ is) })).shut;
    })
    (λ socket opens f number open_yet. record {
      opened = λ is. ap (joins (e ∷ past)) number ∙ opens_joined config e past socket opens;
      shut = λ is. absurd (true_false (sym is ∙ open_yet));
    })
    (λ f g its number closed has. record {
      opened = λ open_yet. absurd (true_false (sym closed ∙ open_yet));
      shut = λ is. ap (λ n. is_among n (open_sockets (e ∷ past))) number ∙ frames_shut now.came now.went e past f.number its;
    })
    (each_both (λ f. f.number < next_number past) (InStep past) (book config past).flows kept.below (each_in_step config past lawful.1))

pub open_has_socket : (config : Config) (past : List Entry) (n : ℕ) (f : Flow) → Lawful config past → flow_of n (book config past).flows ≡ Some f → is_closed f.story ≡ false → joins past n ≡ true
open_has_socket config past n f lawful is open_yet =
    subst (λ m. joins past m ≡ true) (found_number n (book config past).flows f is)
    ((each_found (InStep past) (is_numbered n) (book config past).flows f (each_in_step config past lawful) is).opened open_yet)

-- In a lawful trace each open socket of a connection has a flow that isn't closed, unless its peer was refused; and the core has a slot for it.
use Rattle.std.proofs.Common.{◌≡◌, ℕ, ◌<◌, ◌==◌, ◌&&◌, ◌||◌, not, nat_lt, Bool, true, false, cond, List, [], ◌∷◌, length, map, is_some, slice_get, MatchOption, Option, Some, None}
use Rattle.std.proofs.Common.{option_map, option_and_then, if◌then◌else◌, ◌⊎◌, inl, inr, refl, sym, ◌∙◌, ap, subst, arith}
use Rattle.std.proofs.lemmas.Bool.Decides.{nat_tests}
use Rattle.net_octets.specs.declared.Endpoint.{Endpoint}
use Rattle.world_face.specs.Journal.{Entry, Call, Connect, Listen, Accept, Close, UdpOpen, CallConnect, CallClose, call_of}
use Rattle.world_face.specs.declared.Accepted.{Accepted}
use Rattle.world_face.specs.declared.Accepted.TheVariants.{From, NotYet as NotYetAccepted, Failed as AcceptFailed}
use Rattle.world_face.specs.declared.Made.{Made}
use Rattle.world_face.specs.declared.Made.TheVariants.{Done, Failed}
use Rattle.slirp_settings.specs.Addresses.{Config}
use Rattle.spec_flows.specs.declared.Tuple.{Tuple}
use Rattle.spec_trace.specs.Moments.{moment, waits}
use Rattle.spec_trace.specs.Sockets.{Kind, Association, DnsSocket, Forward, Listener, Flow as OfFlow, datagram_kind, is_among, is_association, is_flow, kind_of, next_number, open_sockets}
use Rattle.spec_trace.specs.Sockets.{with_made, with_peer}
use Rattle.spec_flow.specs.Close.{owes_reset}
use Rattle.spec_flow.specs.Event.{Event, Connects, Accepts, Arrives, Story}
use Rattle.spec_flow.specs.Flow.{first_number, is_closed}
use Rattle.spec_flow.specs.Settings.{Settings}
use Rattle.spec_flows.specs.Book.{book, doom, is_refused, joins_for, opens, port_of, scene, tuple_for, turned, visits_for}
use Rattle.spec_flows.specs.Doings.{Doing, Nothing, Comes, Goes, Resolves, Pauses, Joins, Visits, Calls, Shuts, doing}
use Rattle.spec_flows.specs.Flows.{Flow, Book, Scene, flow_of, is_numbered, is_on, resolves_for, sends, shuts, tell, uses, with_event}
use Rattle.spec_flows.specs.Laws.{flow_settings}
use Rattle.spec_flows.specs.SegmentVerdicts.{asked_for, connects_to, due_by, segment_verdict}
use Rattle.spec_flows.specs.Segments.{OnTuple}
use Rattle.spec_flows.proofs.Apart.{map_found, resolves_number, sends_number}
use Rattle.sim_flows.specs.FlowsHold.{FlowsState}
use Rattle.spec_run.specs.Laws.{Lawful, May, carries, joins}
use Rattle.spec_run.proofs.Bools.{among_last, among_without, and_both, and_false, equal, first_of, or_false, same, second_of, turned as turned_about}
use Rattle.spec_run.proofs.OpenSockets.{joins_open, open_below, peer_next, peers_listened_for}
use Rattle.flow_splice.specs.Follows.{Follows, FollowsAt}
use Rattle.flow_splice.specs.Splice.{Splice, is_in_use, is_open}
use Rattle.flow_splice.specs.declared.Place.{Place}
use Rattle.flow_splice.specs.declared.Place.TheVariants.{Empty, InUse, InTimeWait}
use Rattle.flow_splice.proofs.Opened.{open_is}
use Rattle.sim_flows.specs.Core.{CoreHolds, number_of}
use Rattle.sim_flows.proofs.Ending.{closed_has_none}
use Rattle.sim_flows.proofs.Listening.{listener_has_port, port_given}
use Rattle.sim_flows.proofs.Looking.{part_of}
use Rattle.sim_flows.proofs.Options.{none_some, some_same, true_false}
use Rattle.sim_flows.proofs.Sockets.{open_has_socket}
use Rattle.spec_trace.specs.Shape.{GivesNone}

-- ---- flows stay

-- a flow of this number was opened
abbrev Has : ℕ → List Flow → Type 0
Has n flows = is_some (flow_of n flows) ≡ true

found_or : (t : Bool) (f : Flow) (o : Option Flow) → is_some o ≡ true → is_some (cond t (Some f) o) ≡ true
found_or true f o has = refl
found_or false f o has = has

found_here : (t : Bool) (f : Flow) (o : Option Flow) → t ≡ true → is_some (cond t (Some f) o) ≡ true
found_here true f o is = refl
found_here false f o is = absurd (true_false (sym is))

module _ (n : ℕ) (change : Flow → Flow) (keeps : (f : Flow) → (change f).number ≡ f.number) where
  head_has : (f : Flow) (flows : List Flow) → Has n (f ∷ flows) → Has n (change f ∷ flows)
  head_has f flows has = ap (λ m. is_some (cond (m == n) (Some (change f)) (flow_of n flows))) (keeps f) ∙ by (f.number == n) has
    where
      by : (t : Bool) → is_some (cond t (Some f) (flow_of n flows)) ≡ true → is_some (cond t (Some (change f)) (flow_of n flows)) ≡ true
      by true is = refl
      by false is = is

  rest_has : (f : Flow) (flows others : List Flow) → (Has n flows → Has n others) → Has n (f ∷ flows) → Has n (f ∷ others)
  rest_has f flows others go = by (f.number == n)
    where
      by : (t : Bool) → is_some (cond t (Some f) (flow_of n flows)) ≡ true → is_some (cond t (Some f) (flow_of n others)) ≡ true
      by true is = refl
      by false is = go is

  told_has : (test : Flow → Bool) (flows : List Flow) → Has n flows → Has n (tell test change flows)
  told_has test [] has = has
  told_has test (f ∷ flows) has = by (test f) (told_has test flows)
    where
      by : (t : Bool) → (Has n flows → Has n (tell test change flows)) → Has n (if t then change f ∷ flows else f ∷ tell test change flows)
      by true go = head_has f flows has
      by false go = rest_has f flows (tell test change flows) go has

  mapped_has : (flows : List Flow) → Has n flows → Has n (map change flows)
  mapped_has flows has = ap is_some (map_found n change keeps flows) ∙ by (flow_of n flows) has
    where
      by : (o : Option Flow) → is_some o ≡ true → is_some (option_map change o) ≡ true
      by None is = is
      by (Some f) is = refl

module _ (n : ℕ) (config : Config) (sc : Scene) (b : Book) (has : Has n b.flows) where
  one_more : (socket : ℕ) (tuple : Tuple) (e : Event) → Has n (opens config sc.moment socket tuple e b).flows
  one_more socket tuple e = found_or (socket == n) _ (flow_of n b.flows) has

  with_joined : (socket : ℕ) (came : Option OnTuple) → Has n (joins_for config sc.moment socket came b).flows
  with_joined socket None = has
  with_joined socket (Some on) = one_more socket on.tuple (Connects (first_number sc.moment (length b.flows)) on.segment)

  with_visit : (socket : ℕ) (peer : Endpoint) (port : Option Endpoint) → Has n (visits_for config sc.moment socket peer port b).flows
  with_visit socket peer None = has
  with_visit socket peer (Some guest) = by (is_refused config guest peer b)
    where
      by : (t : Bool) → Has n (if t then doom socket b else opens config sc.moment socket (tuple_for config guest peer) (Accepts (first_number sc.moment (length b.flows))) b).flows
      by true = has
      by false = one_more socket (tuple_for config guest peer) (Accepts (first_number sc.moment (length b.flows)))

  flow_stays : (d : Doing) → Has n (turned config sc d b).flows
  flow_stays Nothing = has
  flow_stays (Comes on) = told_has n (with_event sc.moment (Arrives on.segment)) (λ f. refl) (is_on on.tuple) b.flows has
  flow_stays (Goes on) = told_has n (sends sc.moment on.segment) (sends_number sc.moment on.segment) (is_on on.tuple) b.flows has
  flow_stays (Resolves guest) = mapped_has n (resolves_for sc.moment guest) (resolves_number sc.moment guest) b.flows has
  flow_stays Pauses = has
  flow_stays (Joins socket) = with_joined socket b.came
  flow_stays (Visits listener socket peer) = with_visit socket peer (port_of config listener)
  flow_stays (Calls socket e) = told_has n (with_event sc.moment e) (λ f. refl) (is_numbered socket) b.flows has
  flow_stays (Shuts socket) = told_has n (shuts sc b.came) (λ f. refl) (is_numbered socket) b.flows has

-- ---- a flow is opened, or the peer is refused

-- a flow of this number was opened; or its peer was refused, who came to a port of the host that is given to a guest
abbrev IsMet : Config → ℕ → Book → Type 0
IsMet config n b = Has n b.flows ⊎ ((b.doomed ≡ Some n) × (GivesNone config → ⊥))

module _ (config : Config) (now socket : ℕ) (b : Book) where
  -- where a socket connects a guest's segment asked for that
  opened_for : (doomed : Option ℕ) (came : Option OnTuple) (number : ℕ) (to : Endpoint) → due_by doomed (option_and_then (λ on. asked_for (segment_verdict config b on)) came) number ≡ Some (CallConnect socket to)
      → Has socket (joins_for config now socket came b).flows
  opened_for (Some other) came number to is = cc
  opened_for None None number to is = absurd (none_some is)
  opened_for None (Some on) number to is = found_here (socket == socket) _ (flow_of socket b.flows) (same socket)

  -- a peer comes to a guest's port
  met : (peer : Endpoint) (port : Option Endpoint) → is_some port ≡ true → (GivesNone config → ⊥) → IsMet config socket (visits_for config now socket peer port b)
  met peer None is given = absurd (true_false (sym is))
  met peer (Some guest) is given = by (is_refused config guest peer b)
    where
      by : (t : Bool) → IsMet config socket (if t then doom socket b else opens config now socket (tuple_for config guest peer) (Accepts (first_number now (length b.flows))) b)
      by true = inr (refl, given)
      by false = inl (found_here (socket == socket) _ (flow_of socket b.flows) (same socket))

-- ---- which sockets were open before

made_before : (answer : Made) (n socket : ℕ) (sockets : List ℕ) → (socket == n) ≡ false → is_among n (with_made answer socket sockets) ≡ true → is_among n sockets ≡ true
made_before Done n socket sockets other is =
    sym (or_false (is_among n sockets)) ∙ ap (λ b. is_among n sockets || b) (sym (turned_about socket n false other)) ∙ sym (among_last n socket sockets) ∙ is
made_before Failed n socket sockets other is = is

peer_before : (answer : Accepted) (n socket : ℕ) (sockets : List ℕ) → (socket == n) ≡ false → is_among n (with_peer answer socket sockets) ≡ true → is_among n sockets ≡ true
peer_before (From peer) n socket sockets other is = made_before Done n socket sockets other is
peer_before NotYetAccepted n socket sockets other is = is
peer_before AcceptFailed n socket sockets other is = is

-- the next number is that of no socket that was drawn
not_next : (socket n next : ℕ) → (socket == next) ≡ true → n < next → (socket == n) ≡ false
not_next socket n next is below = grind (arith, nat_tests, is, below)

-- a socket that is for something else has another number
not_this : (t : Bool) (k before : Option Kind) → is_flow k ≡ false → is_flow (if t then k else before) ≡ true → t ≡ false
not_this true k before none is = absurd (true_false (sym is ∙ none))
not_this false k before none is = refl

no_datagrams : (waited : Bool) (port : ℕ) → is_flow (Some (datagram_kind waited port)) ≡ false
no_datagrams true port = by (port == 0)
  where
    by : (z : Bool) → is_flow (Some (if z then Association else Forward)) ≡ false
    by true = refl
    by false = refl
no_datagrams false port = refl

not_true : (b : Bool) → not b ≡ true → b ≡ false
not_true true is = absurd (true_false (sym is))
not_true false is = refl

-- ---- the trace

-- where a call failed on a socket, or its peer was refused, its close is the next call
close_comes : (config : Config) (past : List Entry) (n : ℕ) (call : Call) → May config past call → (book config past).doomed ≡ Some n → call ≡ CallClose n
close_comes config past n call may refused = subst (λ o. MatchOption (due_by o (connects_to config (book config past)) (next_number past)) (Unit {0}) (λ d. call ≡ d)) refused may.flows.due

module _ (config : Config) (past : List Entry) (lawful : Lawful config past) (n : ℕ) (before : joins past n ≡ true → IsMet config n (book config past)) where
  -- one that was open
  stays_met : (e : Entry) → May config past (call_of e) → (call_of e ≡ CallClose n → ⊥) → joins past n ≡ true → IsMet config n (book config (e ∷ past))
  stays_met e may other joined = elim (before joined) [
    | inl has ↦ inl (flow_stays n config (scene config past) (book config past) has (doing config past e))
    | inr refused ↦ absurd (other (close_comes config past n (call_of e) may refused.0))
  ]

  -- it is open beside a socket of another number
  joined_before : (socket : ℕ) (k : Option Kind) (sockets : List ℕ) → (socket == n) ≡ false → (is_among n sockets ≡ true → is_among n (open_sockets past) ≡ true)
      → (is_among n sockets && is_flow (if socket == n then k else kind_of n past)) ≡ true → joins past n ≡ true
  joined_before socket k sockets other older joined =
      and_both (is_among n (open_sockets past)) (is_flow (kind_of n past)) (older (first_of (is_among n sockets) (is_flow (if socket == n then k else kind_of n past)) joined))
      (sym (ap (λ b. is_flow (if b then k else kind_of n past)) other) ∙ second_of (is_among n sockets) (is_flow (if socket == n then k else kind_of n past)) joined)

  connect_met : (socket : ℕ) (to : Endpoint) → May config past (CallConnect socket to) → joins (Connect socket to Done ∷ past) n ≡ true → IsMet config n (book config (Connect socket to Done ∷ past))
  connect_met socket to may joined = by (socket == n) refl
    where
      opened : IsMet config socket (book config (Connect socket to Done ∷ past))
      opened = inl (opened_for config (moment past) socket (book config past) (book config past).doomed (book config past).came (next_number past) to may.flows.touches)

      by : (t : Bool) → (socket == n) ≡ t → IsMet config n (book config (Connect socket to Done ∷ past))
      by true this = subst (λ m. IsMet config m (book config (Connect socket to Done ∷ past))) (equal socket n this) opened
      by false other = stays_met (Connect socket to Done) may (λ is. cc) (joined_before socket (Some OfFlow) (with_made Done socket (open_sockets past)) other
          (made_before Done n socket (open_sockets past) other) joined)

  peer_met : (listener socket : ℕ) (peer : Endpoint) → May config past (call_of (Accept listener socket (From peer))) → joins (Accept listener socket (From peer) ∷ past) n ≡ true
      → IsMet config n (book config (Accept listener socket (From peer) ∷ past))
  peer_met listener socket peer may joined = by (socket == n) refl
    where
      opened : IsMet config socket (book config (Accept listener socket (From peer) ∷ past))
      opened =
          let has = listener_has_port config past listener lawful (peers_listened_for config past listener socket (From peer) may) in
          met config (moment past) socket (book config past) peer (port_of config listener) has (port_given config listener has)

      by : (t : Bool) → (socket == n) ≡ t → IsMet config n (book config (Accept listener socket (From peer) ∷ past))
      by true this = subst (λ m. IsMet config m (book config (Accept listener socket (From peer) ∷ past))) (equal socket n this) opened
      by false other =
          stays_met (Accept listener socket (From peer)) may (λ is. cc)
          (joined_before socket (Some OfFlow) (with_peer (From peer) socket (open_sockets past)) other (peer_before (From peer) n socket (open_sockets past) other) joined)

  -- no socket was opened
  none_met : (e : Entry) (socket : ℕ) → May config past (call_of e) → (call_of e ≡ CallClose n → ⊥) → (socket == next_number past) ≡ true
      → (is_among n (open_sockets past) && is_flow (if socket == n then Some OfFlow else kind_of n past)) ≡ true → IsMet config n (book config (e ∷ past))
  none_met e socket may no_close next joined =
      let among = first_of (is_among n (open_sockets past)) (is_flow (if socket == n then Some OfFlow else kind_of n past)) joined in
      stays_met e may no_close (joined_before socket (Some OfFlow) (open_sockets past) (not_next socket n (next_number past) next (open_below config past lawful n among)) (λ is. is) joined)

  -- one of another kind was
  other_met : (e : Entry) (socket : ℕ) (answer : Made) (k : Option Kind) → is_flow k ≡ false → May config past (call_of e) → (call_of e ≡ CallClose n → ⊥)
      → (is_among n (with_made answer socket (open_sockets past)) && is_flow (if socket == n then k else kind_of n past)) ≡ true → IsMet config n (book config (e ∷ past))
  other_met e socket answer k none may no_close joined =
      let other = not_this (socket == n) k (kind_of n past) none (second_of (is_among n (with_made answer socket (open_sockets past))) (is_flow (if socket == n then k else kind_of n past)) joined) in
      stays_met e may no_close (joined_before socket k (with_made answer socket (open_sockets past)) other (made_before answer n socket (open_sockets past) other) joined)

  close_met : (socket : ℕ) → May config past (CallClose socket) → joins (Close socket ∷ past) n ≡ true → IsMet config n (book config (Close socket ∷ past))
  close_met socket may joined =
      let both = sym (among_without n socket (open_sockets past)) ∙ first_of (is_among n (open_sockets (Close socket ∷ past))) (is_flow (kind_of n past)) joined in
      let other = not_true (n == socket) (first_of (not (n == socket)) (is_among n (open_sockets past)) both) in
      stays_met (Close socket) may (λ is. let this : socket ≡ n = cc in true_false (sym (same n) ∙ ap (λ m. n == m) (sym this) ∙ other))
      (and_both (is_among n (open_sockets past)) (is_flow (kind_of n past)) (second_of (not (n == socket)) (is_among n (open_sockets past)) both)
      (second_of (is_among n (open_sockets (Close socket ∷ past))) (is_flow (kind_of n past)) joined))

  is_met : (e : Entry) → May config past (call_of e) → joins (e ∷ past) n ≡ true → IsMet config n (book config (e ∷ past))
  is_met (Connect socket to Done) may joined = connect_met socket to may joined
  is_met (Connect socket to Failed) may joined = none_met (Connect socket to Failed) socket may (λ is. cc) may.socket joined
  is_met (Accept listener socket (From peer)) may joined = peer_met listener socket peer may joined
  is_met (Accept listener socket NotYetAccepted) may joined =
      none_met (Accept listener socket NotYetAccepted) socket may (λ is. cc) (peer_next config past listener socket NotYetAccepted may) joined
  is_met (Accept listener socket AcceptFailed) may joined =
      none_met (Accept listener socket AcceptFailed) socket may (λ is. cc) (peer_next config past listener socket AcceptFailed may) joined
  is_met (Listen socket at answer) may joined = other_met (Listen socket at answer) socket answer (Some Listener) refl may (λ is. cc) joined
  is_met (UdpOpen socket at answer) may joined =
      other_met (UdpOpen socket at answer) socket answer (Some (datagram_kind (nat_lt 0 (waits past)) at.port)) (no_datagrams (nat_lt 0 (waits past)) at.port) may (λ is. cc) joined
  is_met (Close socket) may joined = close_met socket may joined
  is_met e may joined = stays_met e may (λ is. cc) joined

each_is_met : (config : Config) (past : List Entry) (n : ℕ) → Lawful config past → joins past n ≡ true → IsMet config n (book config past)
each_is_met config [] n lawful joined = absurd (true_false (sym joined))
each_is_met config (e ∷ past) n lawful joined = is_met config past lawful.1 n (each_is_met config past n lawful.1) e lawful.0 joined

abbrev OpenFlow : Config → List Entry → ℕ → Type 0
OpenFlow config past n = (f : Flow) × (flow_of n (book config past).flows ≡ Some f) × (is_closed f.story ≡ false)

-- a flow on an open socket isn't closed
flow_open : (config : Config) (past : List Entry) (n : ℕ) → Lawful config past → joins past n ≡ true → Has n (book config past).flows → OpenFlow config past n
flow_open config past n lawful joined = by (flow_of n (book config past).flows) refl
  where
    still_open : (f : Flow) → flow_of n (book config past).flows ≡ Some f → (t : Bool) → is_closed f.story ≡ t → t ≡ false
    still_open f found true shut = absurd (true_false (sym (joins_open past n joined) ∙ closed_has_none config past n f lawful found shut))
    still_open f found false shut = refl

    by : (o : Option Flow) → flow_of n (book config past).flows ≡ o → is_some o ≡ true → OpenFlow config past n
    by None found has = absurd (true_false (sym has))
    by (Some f) found has = (f, found, still_open f found (is_closed f.story) refl)

-- an open socket of a connection has a flow that isn't closed, unless its peer was refused
pub open_flow : (config : Config) (past : List Entry) (n : ℕ) → Lawful config past → joins past n ≡ true
    → ((f : Flow) × (flow_of n (book config past).flows ≡ Some f) × (is_closed f.story ≡ false)) ⊎ ((book config past).doomed ≡ Some n)
open_flow config past n lawful joined = elim (each_is_met config past n lawful joined) [ inl has ↦ inl (flow_open config past n lawful joined has) | inr refused ↦ inr refused.0 ]

-- where no port of the host is given to a guest no peer comes, and each has its flow
pub open_flow_alone : (config : Config) (past : List Entry) (n : ℕ) → GivesNone config → Lawful config past → joins past n ≡ true
    → (f : Flow) × (flow_of n (book config past).flows ≡ Some f) × (is_closed f.story ≡ false)
open_flow_alone config past n none lawful joined = elim (each_is_met config past n lawful joined) [ inl has ↦ flow_open config past n lawful joined has | inr refused ↦ absurd (refused.1 none) ]

-- ---- the slots of the core

-- a flow that isn't closed is open
open_place : (s : Settings) (p : Splice) (story : Story) (now : ℕ) → Follows s p story now → is_closed story ≡ false → is_open p ≡ true
open_place s p story now follows open_yet = by p.place p.shut follows
  where
    by : (place : Place) (shut : Bool) → FollowsAt place shut s p story now → (is_in_use place && not shut) ≡ true
    by Empty shut h = absurd (true_false (sym h.over.closed ∙ open_yet))
    by InUse false h = refl
    by InUse true h = absurd (true_false (sym h.over.closed ∙ open_yet))
    by (InTimeWait since) shut h = absurd (true_false (sym h.time_waits.over.closed ∙ open_yet))

-- a flow that isn't closed has its slot, and is open there
pub open_seat : (config : Config) (now : ℕ) (aged : Bool) (task : Option Call) (state : FlowsState Splice) (past : List Entry) (n : ℕ) (f : Flow) → CoreHolds config now aged task state past
    → flow_of n (book config past).flows ≡ Some f → is_closed f.story ≡ false → (k : ℕ) × (p : Splice) × (slice_get state.slots k ≡ Some (Some p)) × (is_open p ≡ true) × (number_of p ≡ n)
open_seat config now aged task state past n f holds found open_yet =
    let had = holds.seats.found n (ap uses found ∙ ap (λ b. not b || owes_reset f.story) open_yet) in
    let part = part_of number_of (slice_get state.slots had.0) n had.1 in
    let seat = holds.seats.seated had.0 part.0 part.1 in
    let one : seat.0 ≡ f = some_same seat.0 f (sym seat.2 ∙ ap (λ m. flow_of m (book config past).flows) part.2 ∙ found) in
    (had.0, part.0, part.1, open_place (flow_settings config) part.0 seat.0.story now seat.4 (ap (λ (g : Flow). is_closed g.story) one ∙ open_yet), part.2)

-- and only such are open there
pub seat_open : (config : Config) (now : ℕ) (aged : Bool) (task : Option Call) (state : FlowsState Splice) (past : List Entry) → CoreHolds config now aged task state past → Lawful config past
    → (k : ℕ) (p : Splice) → slice_get state.slots k ≡ Some (Some p) → is_open p ≡ true → joins past (number_of p) ≡ true
seat_open config now aged task state past holds lawful k p here is =
    let seat = holds.seats.seated k p here in
    open_has_socket config past (number_of p) seat.0 lawful seat.2 (open_is (flow_settings config) p seat.0.story now is seat.4).holds.goes.open_yet

-- ---- associations

flow_or_association : (k : Option Kind) → is_flow k ≡ true → is_association k ≡ false
flow_or_association None is = refl
flow_or_association (Some Association) is = cc
flow_or_association (Some DnsSocket) is = refl
flow_or_association (Some Forward) is = refl
flow_or_association (Some Listener) is = refl
flow_or_association (Some OfFlow) is = refl

-- the number of a connection is no association's
pub joins_carries_none : (past : List Entry) (n : ℕ) → joins past n ≡ true → carries past n ≡ false
joins_carries_none past n joined =
    ap (λ b. is_among n (open_sockets past) && b) (flow_or_association (kind_of n past) (second_of (is_among n (open_sockets past)) (is_flow (kind_of n past)) joined)) ∙ and_false
    (is_among n (open_sockets past))

-- and the other way round
pub carries_joins_none : (past : List Entry) (n : ℕ) → carries past n ≡ true → joins past n ≡ false
carries_joins_none past n carried = by (joins past n) refl
  where
    by : (t : Bool) → joins past n ≡ t → t ≡ false
    by true joined = absurd (true_false (sym carried ∙ joins_carries_none past n joined))
    by false joined = refl

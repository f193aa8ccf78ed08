-- How often guests were asked for, where the calls on flows' sockets go on, and where a flow begins.
use Rattle.std.proofs.Common.{refl, ◌≡◌, ℕ, ◌≤◌, ◌==◌, ◌&&◌, ◌||◌, Bool, true, false, cond, List, [], ◌∷◌, ◌++◌, map, set, slice_get, Option, Some, None, if◌then◌else◌, inl, inr, ap, sym}
use Rattle.std.proofs.Common.{◌∙◌, subst, arith}
use Rattle.world_face.specs.Journal.{Entry, Now, Wait, LinkOpen, LinkRead, LinkWrite, Connect, Connected, Listen, Accept, TcpRead, TcpWrite, TcpEnd, Close, UdpOpen, UdpSend, UdpRecv}
use Rattle.world_face.specs.Journal.{FileLen, FileRead}
use Rattle.world_face.specs.Frames.{opens, tail}
use Rattle.world_face.specs.declared.Accepted.{Accepted}
use Rattle.world_face.specs.declared.Accepted.TheVariants.{From, NotYet as NotYetAccepted, Failed as AcceptFailed}
use Rattle.world_face.specs.declared.Io.{Io}
use Rattle.world_face.specs.declared.Io.TheVariants.{Done, End, NotYet, Failed}
use Rattle.world_face.specs.declared.Joined.{Joined}
use Rattle.world_face.specs.declared.Joined.TheVariants.{Yes, NotYet as NotYetJoined, Failed as JoinFailed}
use Rattle.world_face.specs.declared.Made.{Made}
use Rattle.world_face.specs.declared.Made.TheVariants.{Done as MadeDone, Failed as MadeFailed}
use Rattle.slirp_settings.specs.Addresses.{Config, address}
use Rattle.spec_trace.specs.Happenings.{Arrival, happens}
use Rattle.spec_trace.specs.Sockets.{is_among}
use Rattle.spec_flow.specs.Event.{Arrives, At, Departs, Segment, Story}
use Rattle.spec_flow.specs.Flow.{is_accepted}
use Rattle.spec_flows.specs.Book.{book, scene, turned}
use Rattle.spec_flows.specs.Doings.{Doing, Nothing, Comes, Goes, Resolves, Pauses, Joins, Visits, Calls, Shuts, by_call, comes, doing, doing_by, ended_by, goes, joined, joins, read_by}
use Rattle.spec_flows.specs.Doings.{resolves, visits, written_by}
use Rattle.spec_flows.specs.Flows.{Book, Flow, Scene, flow_of, is_on, is_numbered, is_strange, sends, shuts, tell, with_event}
use Rattle.spec_flows.specs.Segments.{OnTuple, asked_in, segment_came, segment_in}
use Rattle.sim_flows.specs.Only.{AreOf, IsOf}
use Rattle.sim_flows.proofs.Seats.{differ, same_or_not}
use Rattle.sim_flows.proofs.Tables.{get_set_other, get_set_same}
use Rattle.spec_run.specs.Answers.{left}
use Rattle.spec_run.specs.Sending.{accepted_for, requests, requests_by, times}
use Rattle.spec_run.proofs.Bools.{turned as swapped}
use Rattle.flow_splice.specs.Splice.{Splice}
use Rattle.sim_flows.specs.Asked.{AreAsked, accepted_numbers, sum_of, was_accepted}
use Rattle.sim_flows.specs.Core.{number_of}
use Rattle.sim_flows.proofs.Options.{none_some}
use Rattle.sim_flows.proofs.Requests.{ComeFrom, accepted_same}

-- ---- what was asked for

abbrev pub is_frame : Entry → Bool
is_frame (LinkWrite octets answer) = true
is_frame _ = false

-- a frame is written by one of them
abbrev pub has_frame : List Entry → Bool
has_frame [] = false
has_frame (e ∷ made) = is_frame e || has_frame made

none_goes : (e : Entry) (rest : List ℕ) → is_frame e ≡ false → opens e rest ≡ None
none_goes (LinkWrite octets answer) rest is = absurd cc
none_goes (_) rest is = refl

neither : (a b : Bool) → (a || b) ≡ false → (a ≡ false) × (b ≡ false)
neither false false is = (refl, refl)
neither true b is = absurd cc
neither false true is = absurd cc

-- Where no frame is written nothing more was asked for.
pub requests_stay : (config : Config) (past made : List Entry) → has_frame made ≡ false → requests config (made ++ past) ≡ requests config past
requests_stay config past [] none = refl
requests_stay config past (e ∷ made) none =
    let both = neither (is_frame e) (has_frame made) none in
    ap (λ o. requests_by (left config (made ++ past)) o (requests config (made ++ past))) (none_goes e (tail (made ++ past)) both.0) ∙ requests_stay config past made both.1

-- ---- which flows were accepted

-- a flow was accepted for this guest
abbrev pub is_for : ℕ → Flow → Bool
is_for guest f = is_accepted f.story && (address f.tuple.guest == guest)

-- no call on a socket is the beginning of a flow that was accepted
abbrev KeepsKind : Doing → Type 0
KeepsKind (Calls socket e) = (m : ℕ) (story : Story) → is_accepted (At m e ∷ story) ≡ is_accepted story
KeepsKind _ = Unit {0}

joins_keeps : (made : Made) (socket : ℕ) → KeepsKind (joins made socket)
joins_keeps MadeDone socket = tt
joins_keeps MadeFailed socket = tt

visits_keeps : (answer : Accepted) (listener socket : ℕ) → KeepsKind (visits answer listener socket)
visits_keeps (From peer) listener socket = tt
visits_keeps NotYetAccepted listener socket = tt
visits_keeps AcceptFailed listener socket = tt

joined_keeps : (answer : Joined) (m : ℕ) (story : Story) → is_accepted (At m (joined answer) ∷ story) ≡ is_accepted story
joined_keeps Yes m story = refl
joined_keeps NotYetJoined m story = refl
joined_keeps JoinFailed m story = refl

read_keeps : (answer : Io) (octets : List ℕ) (m : ℕ) (story : Story) → is_accepted (At m (read_by answer octets) ∷ story) ≡ is_accepted story
read_keeps (Done n) octets m story = refl
read_keeps End octets m story = refl
read_keeps NotYet octets m story = refl
read_keeps Failed octets m story = refl

written_keeps : (answer : Io) (octets : List ℕ) (m : ℕ) (story : Story) → is_accepted (At m (written_by answer octets) ∷ story) ≡ is_accepted story
written_keeps (Done n) octets m story = refl
written_keeps End octets m story = refl
written_keeps NotYet octets m story = refl
written_keeps Failed octets m story = refl

ended_keeps : (answer : Made) (m : ℕ) (story : Story) → is_accepted (At m (ended_by answer) ∷ story) ≡ is_accepted story
ended_keeps MadeDone m story = refl
ended_keeps MadeFailed m story = refl

call_keeps : (e : Entry) → KeepsKind (by_call e)
call_keeps (Now told) = tt
call_keeps (Wait wants timeout answer ready) = tt
call_keeps (LinkOpen at answer) = tt
call_keeps (LinkRead asked answer octets) = tt
call_keeps (LinkWrite octets answer) = tt
call_keeps (Connect socket to answer) = joins_keeps answer socket
call_keeps (Connected socket answer) = joined_keeps answer
call_keeps (Listen socket at answer) = tt
call_keeps (Accept listener socket answer) = visits_keeps answer listener socket
call_keeps (TcpRead socket asked answer octets) = read_keeps answer octets
call_keeps (TcpWrite socket octets answer) = written_keeps answer octets
call_keeps (TcpEnd socket answer) = ended_keeps answer
call_keeps (Close socket) = tt
call_keeps (UdpOpen socket at answer) = tt
call_keeps (UdpSend socket to octets answer) = tt
call_keeps (UdpRecv socket asked answer octets) = tt
call_keeps (FileLen name answer) = tt
call_keeps (FileRead name place asked answer octets) = tt

comes_keeps : (o : Option OnTuple) → KeepsKind (comes o)
comes_keeps None = tt
comes_keeps (Some on) = tt

resolves_keeps : (o : Option ℕ) → KeepsKind (resolves o)
resolves_keeps None = tt
resolves_keeps (Some guest) = tt

goes_keeps : (o : Option OnTuple) (asked : Option ℕ) → KeepsKind (goes o asked)
goes_keeps None asked = resolves_keeps asked
goes_keeps (Some on) asked = tt

doing_keeps : (came : Option Arrival) (went : Option (List ℕ)) (e : Entry) → KeepsKind (doing_by came went e)
doing_keeps (Some arrival) went e = comes_keeps (segment_came (Some arrival))
doing_keeps None (Some frame) e = goes_keeps (segment_in frame) (asked_in frame)
doing_keeps None None e = call_keeps e

module _ (guest : ℕ) where
  abbrev Numbers : Bool → ℕ → List ℕ → List ℕ
  Numbers b n ns = if b then n ∷ ns else ns

  split : (g : Flow) (rest : List Flow) → accepted_numbers guest (g ∷ rest) ≡ Numbers (is_for guest g) g.number (accepted_numbers guest rest)
  split g rest = by (is_for guest g)
    where
      by : (b : Bool) → map (λ (h : Flow). h.number) (if b then g ∷ accepted_for guest rest else accepted_for guest rest) ≡ Numbers b g.number (accepted_numbers guest rest)
      by true = refl
      by false = refl

  -- one flow has changed, and was accepted for this guest or not as before
  pub told_numbers : (test : Flow → Bool) (change : Flow → Flow) → ((f : Flow) → (change f).number ≡ f.number) → ((f : Flow) → is_for guest (change f) ≡ is_for guest f) → (flows : List Flow)
      → accepted_numbers guest (tell test change flows) ≡ accepted_numbers guest flows
  told_numbers test change numbers same [] = refl
  told_numbers test change numbers same (f ∷ flows) = by (test f) (told_numbers test change numbers same flows)
    where
      by : (b : Bool) → accepted_numbers guest (tell test change flows) ≡ accepted_numbers guest flows
          → accepted_numbers guest (if b then change f ∷ flows else f ∷ tell test change flows) ≡ accepted_numbers guest (f ∷ flows)
      by true rest =
          split (change f) flows ∙ ap (λ b. Numbers b (change f).number (accepted_numbers guest flows)) (same f)
          ∙ ap (λ n. Numbers (is_for guest f) n (accepted_numbers guest flows)) (numbers f) ∙ sym (split f flows)
      by false rest = split f (tell test change flows) ∙ ap (Numbers (is_for guest f) f.number) rest ∙ sym (split f flows)

  sent_is : (now : ℕ) (segment : Segment) (f : Flow) → ((sends now segment f).number ≡ f.number) × (is_for guest (sends now segment f) ≡ is_for guest f)
  sent_is now segment f = by (is_strange segment f)
    where
      by : (b : Bool) → ((if b then f else with_event now (Departs segment) f).number ≡ f.number) × (is_for guest (if b then f else with_event now (Departs segment) f) ≡ is_for guest f)
      by true = (refl, refl)
      by false = (refl, refl)

  -- by what happens to one flow the same flows were accepted
  turned_numbers : (config : Config) (sc : Scene) (b : Book) (number : ℕ) (d : Doing) → IsOf number b d → KeepsKind d → accepted_numbers guest
      (turned config sc d b).flows ≡ accepted_numbers guest b.flows
  turned_numbers config sc b number Nothing of keeps = refl
  turned_numbers config sc b number (Comes on) of keeps = told_numbers (is_on on.tuple) (with_event sc.moment (Arrives on.segment)) (λ f. refl) (λ f. refl) b.flows
  turned_numbers config sc b number (Goes on) of keeps = told_numbers (is_on on.tuple) (sends sc.moment on.segment) (λ f. (sent_is sc.moment on.segment f).0)
      (λ f. (sent_is sc.moment on.segment f).1) b.flows
  turned_numbers config sc b number (Resolves seeked) of keeps = absurd of
  turned_numbers config sc b number Pauses of keeps = absurd of
  turned_numbers config sc b number (Joins socket) of keeps = absurd of
  turned_numbers config sc b number (Visits listener socket peer) of keeps = absurd of
  turned_numbers config sc b number (Calls socket e) of keeps = told_numbers (is_numbered socket) (with_event sc.moment e) (λ f. refl)
      (λ f. ap (λ b. b && (address f.tuple.guest == guest)) (keeps sc.moment f.story)) b.flows
  turned_numbers config sc b number (Shuts socket) of keeps = told_numbers (is_numbered socket) (shuts sc b.came) (λ f. refl) (λ f. refl) b.flows

  -- After what is about one flow, or about none, the same flows were accepted.
  pub numbers_stay : (config : Config) (number : ℕ) (past made : List Entry) → AreOf config number past made → accepted_numbers guest
      (book config (made ++ past)).flows ≡ accepted_numbers guest (book config past).flows
  numbers_stay config number past [] of = refl
  numbers_stay config number past (e ∷ made) of =
      let before = made ++ past in
      turned_numbers config (scene config before) (book config before) number (doing config before e) of.0
      (doing_keeps (happens config before e).came (happens config before e).went (happens config before e).call)
      ∙ numbers_stay config number past made of.1

-- ---- the count goes on

-- Each part has an old part's number and asked no less; nothing more was asked for, and the same flows were accepted.
pub asked_then : (config : Config) (past later : List Entry) (parts new : List (Option Splice)) → requests config later ≡ requests config past
    → ((guest : ℕ) → accepted_numbers guest (book config later).flows ≡ accepted_numbers guest (book config past).flows)
    → ComeFrom parts new
    → AreAsked config parts past → AreAsked config new later
asked_then config past later parts new silent same from a = record {
  asks = a.asks;
  few = a.few;
  began = λ k q here. let old = from k q here in
      old.5 ∙ a.began old.1 old.0 old.2 ∙ ap (λ n. was_accepted n (book config past).flows) (sym old.3)
      ∙ sym (accepted_same (book config later).flows (book config past).flows same (number_of q));
  own = λ k q here. let old = from k q here in let own = a.own old.1 old.0 old.2 in let more = old.4 in let number = ap a.asks old.3 in omega (arith, own, more, number);
  counted = λ guest. subst (λ ns. times guest (requests config later) ≤ sum_of a.asks ns) (sym (same guest))
      (subst (λ l. times guest l ≤ sum_of a.asks (accepted_numbers guest (book config past).flows)) (sym silent) (a.counted guest));
}

-- By calls on a flow's socket.
pub asked_by_calls : (config : Config) (number : ℕ) (past made : List Entry) (parts new : List (Option Splice)) → AreOf config number past made → has_frame made ≡ false
    → ComeFrom parts new
    → AreAsked config parts past → AreAsked config new (made ++ past)
asked_by_calls config number past made parts new of none from =
    asked_then config past (made ++ past) parts new (requests_stay config past made none) (λ guest. numbers_stay guest config number past made of) from

-- the flow of one slot has changed, and asked no less
pub asked_from : (parts : List (Option Splice)) (k : ℕ) (p : Splice) (x : Option Splice) → slice_get parts k ≡ Some (Some p) →
    ((q : Splice) → x ≡ Some q → (number_of q ≡ number_of p) × (p.asked ≤ q.asked) × (q.accepted ≡ p.accepted)) → ComeFrom parts (set parts k x)
asked_from parts k p x at one j q here = elim (same_or_not j k) [
  | inl at_k ↦
      let is = one q (sym (get_set_same parts k (Some p) x (Some q) at (subst (λ i. slice_get (set parts k x) i ≡ Some (Some q)) at_k here))) in
      (p, k, at, is.0, is.1, is.2)
  | inr other ↦ (q, j, sym (get_set_other parts k j x (differ j k other)) ∙ here, refl, omega arith, refl)
]

-- ---- a flow begins

abbrev pub with_number : Bool → ℕ → List ℕ → List ℕ
with_number b n ns = if b then n ∷ ns else ns

-- the numbers of those that were accepted for a guest, with a flow more
pub numbers_more : (guest : ℕ) (f : Flow) (flows : List Flow) → accepted_numbers guest (f ∷ flows) ≡ with_number (is_for guest f) f.number (accepted_numbers guest flows)
numbers_more guest f flows = split guest f flows

-- a number that no flow has is none of theirs
pub fresh_number : (guest n : ℕ) (flows : List Flow) → flow_of n flows ≡ None → is_among n (accepted_numbers guest flows) ≡ false
fresh_number guest n [] none = refl
fresh_number guest n (f ∷ flows) none = by (f.number == n) refl none (λ rest. fresh_number guest n flows rest)
  where
    by : (b : Bool) → (f.number == n) ≡ b → cond b (Some f) (flow_of n flows) ≡ None → (flow_of n flows ≡ None → is_among n (accepted_numbers guest flows) ≡ false) → is_among n
        (accepted_numbers guest (f ∷ flows)) ≡ false
    by true it none rest = absurd (none_some (sym none))
    by false other none rest = ap (is_among n) (split guest f flows) ∙ by_test (is_for guest f)
      where
        by_test : (b : Bool) → is_among n (with_number b f.number (accepted_numbers guest flows)) ≡ false
        by_test true = ap (λ c. c || is_among n (accepted_numbers guest flows)) (swapped f.number n false other) ∙ rest none
        by_test false = rest none

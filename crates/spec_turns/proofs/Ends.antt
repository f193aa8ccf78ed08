-- A host that was told the end since the last wait isn't told it again.
use Rattle.std.proofs.Common.{◌≡◌, ℕ, ◌<◌, ◌==◌, ◌&&◌, ◌||◌, Bool, true, false, cond, List, [], ◌∷◌, length, Option, Some, None, option_map, if◌then◌else◌, refl, sym, ◌∙◌, ap, subst, arith}
use Rattle.std.proofs.lemmas.Bool.Decides.{nat_tests}
use Rattle.net_octets.specs.declared.Endpoint.{Endpoint}
use Rattle.world_face.specs.Journal.{Entry, call_of, Now, Wait, LinkOpen, LinkRead, LinkWrite, Connect, Connected, Listen, Accept, TcpRead, TcpWrite, TcpEnd, Close, UdpOpen, UdpSend}
use Rattle.world_face.specs.Journal.{UdpRecv, FileLen, FileRead, CallTcpEnd}
use Rattle.world_face.specs.declared.Made.{Made}
use Rattle.world_face.specs.declared.Made.TheVariants.{Done, Failed}
use Rattle.world_face.specs.declared.Accepted.{Accepted}
use Rattle.world_face.specs.declared.Accepted.TheVariants.{From, NotYet, Failed as AcceptFailed}
use Rattle.slirp_settings.specs.Addresses.{Config, address}
use Rattle.spec_flows.specs.declared.Tuple.{Tuple}
use Rattle.spec_flow.specs.Event.{Event, Accepts, Arrives, Connects, Departs, AsksAddress, Closes, At, Story}
use Rattle.spec_flow.specs.Flow.{first_number, guest, is_accepted, push, up_of}
use Rattle.spec_flow.specs.Guest.{Up, has_ended}
use Rattle.spec_flow.specs.Lawful.{EndHost}
use Rattle.spec_flow.specs.Settings.{Settings}
use Rattle.spec_flow.proofs.Grows.{has_ended_stays}
use Rattle.spec_trace.specs.Happenings.{Arrival, happens}
use Rattle.spec_trace.specs.Sockets.{next_number}
use Rattle.spec_flows.specs.Book.{book, doom, is_refused, joins_for, opens, port_of, scene, tuple_for, turned, visits_for}
use Rattle.spec_flows.specs.Doings.{Doing, Nothing, Comes, Goes, Resolves, Pauses, Joins, Visits, Calls, Shuts, by_call, comes, doing, doing_by, ended_by, goes, joins, resolves, visits}
use Rattle.spec_flows.specs.Flows.{Book, Flow, Scene, comes_directly, comes_last, flow_of, guest_is_known, is_numbered, is_on, is_strange, resolves_for, sends, shuts, tell, with_event}
use Rattle.spec_flows.specs.Laws.{MayAct, flow_settings}
use Rattle.spec_flows.specs.SegmentVerdicts.{connects_to}
use Rattle.spec_flows.specs.Said.{Each}
use Rattle.spec_flows.specs.Segments.{OnTuple, asked_in, segment_came, segment_in}
use Rattle.spec_flows.proofs.Apart.{map_found, own_call, resolves_number, sends_number}
use Rattle.spec_flows.proofs.Keeping.{are_kept, connects_next}
use Rattle.spec_flows.proofs.Lists.{each_found, found_number}
use Rattle.spec_run.specs.Laws.{May, Lawful}
use Rattle.spec_run.proofs.KeepingFlows.{keeps_flows}

-- since the last wait
abbrev pub told_by : ℕ → Entry → Bool → Bool
told_by n (Wait wants timeout answer ready) before = false
told_by n (TcpEnd socket answer) before = (socket == n) || before
told_by n _ before = before

abbrev pub told : List Entry → ℕ → Bool
told [] n = false
told (e ∷ past) n = told_by n e (told past n)

-- ---- what a story has of it stays

abbrev HasEnded : Option Flow → Type 0
HasEnded None = ⊥
HasEnded (Some f) = has_ended (guest f.story) ≡ true

story_stays : (now : ℕ) (event : Event) (story : Story) → has_ended (guest story) ≡ true → has_ended (guest (At now event ∷ story)) ≡ true
story_stays now event story is = by (up_of story event)
  where
    by : (o : Option Up) → has_ended (push o (guest story)) ≡ true
    by None = is
    by (Some up) = has_ended_stays up (guest story) is

module _ (n : ℕ) where
  one_more : (b t : Bool) (x y : Flow) (rest other : List Flow) → (x.number == n) ≡ t → y.number ≡ x.number → (has_ended (guest x.story) ≡ true → has_ended (guest y.story) ≡ true)
      → (HasEnded (flow_of n rest) → HasEnded (flow_of n other)) → HasEnded (cond t (Some x) (flow_of n rest)) → HasEnded (flow_of n (if b then y ∷ rest else x ∷ other))
  one_more true t x y rest other this keeps stays more has = subst (λ (k : Bool). HasEnded (cond k (Some y) (flow_of n rest))) (sym (ap (λ m. m == n) keeps ∙ this)) (by t has)
    where
      by : (k : Bool) → HasEnded (cond k (Some x) (flow_of n rest)) → HasEnded (cond k (Some y) (flow_of n rest))
      by true has = stays has
      by false has = has
  one_more false t x y rest other this keeps stays more has = subst (λ (k : Bool). HasEnded (cond k (Some x) (flow_of n other))) (sym this) (by t has)
    where
      by : (k : Bool) → HasEnded (cond k (Some x) (flow_of n rest)) → HasEnded (cond k (Some x) (flow_of n other))
      by true has = has
      by false has = more has

  tell_stays : (test : Flow → Bool) (change : Flow → Flow) → ((f : Flow) → (change f).number ≡ f.number) → ((f : Flow) → has_ended (guest f.story) ≡ true → has_ended (guest (change f).story) ≡ true)
      → (flows : List Flow) → HasEnded (flow_of n flows) → HasEnded (flow_of n (tell test change flows))
  tell_stays test change keeps stays [] has = has
  tell_stays test change keeps stays (f ∷ flows) has =
      one_more (test f) (f.number == n) f (change f) flows (tell test change flows) refl (keeps f) (stays f) (tell_stays test change keeps stays flows) has

  sends_stays : (now : ℕ) (on : OnTuple) (f : Flow) → has_ended (guest f.story) ≡ true → has_ended (guest (sends now on.segment f).story) ≡ true
  sends_stays now on f is = by (is_strange on.segment f)
    where
      by : (b : Bool) → has_ended (guest (if b then f else with_event now (Departs on.segment) f).story) ≡ true
      by true = is
      by false = story_stays now (Departs on.segment) f.story is

  resolves_stays : (now asked : ℕ) (f : Flow) → has_ended (guest f.story) ≡ true → has_ended (guest (resolves_for now asked f).story) ≡ true
  resolves_stays now asked f is = by (is_accepted f.story && (address f.tuple.guest == asked))
    where
      by : (b : Bool) → has_ended (guest (if b then with_event now AsksAddress f else f).story) ≡ true
      by true = story_stays now AsksAddress f.story is
      by false = is

  map_stays : (change : Flow → Flow) → ((f : Flow) → has_ended (guest f.story) ≡ true → has_ended (guest (change f).story) ≡ true) → (o : Option Flow) → HasEnded o → HasEnded (option_map change o)
  map_stays change stays None has = has
  map_stays change stays (Some f) has = stays f has

  -- a flow that is opened has another number
  abbrev IsOther : Doing → Type 0
  IsOther (Joins socket) = (socket == n) ≡ false
  IsOther (Visits listener socket peer) = (socket == n) ≡ false
  IsOther _ = Unit {0}

  opened_stays : (config : Config) (now socket : ℕ) (tuple : Tuple) (event : Event) (b : Book) → (socket == n) ≡ false → HasEnded (flow_of n b.flows) → HasEnded
      (flow_of n (opens config now socket tuple event b).flows)
  opened_stays config now socket tuple event b other has =
      let new : Flow = record { number = socket; tuple = tuple; story = At now event ∷ [] } in
      subst (λ (k : Bool). HasEnded (cond k (Some new) (flow_of n b.flows))) (sym other) has

  turned_stays : (config : Config) (sc : Scene) (d : Doing) (b : Book) → IsOther d → HasEnded (flow_of n b.flows) → HasEnded (flow_of n (turned config sc d b).flows)
  turned_stays config sc Nothing b other has = has
  turned_stays config sc (Comes on) b other has = tell_stays (is_on on.tuple) (with_event sc.moment (Arrives on.segment)) (λ f. refl)
      (λ f is. story_stays sc.moment (Arrives on.segment) f.story is) b.flows has
  turned_stays config sc (Goes on) b other has = tell_stays (is_on on.tuple) (sends sc.moment on.segment) (sends_number sc.moment on.segment) (sends_stays sc.moment on) b.flows has
  turned_stays config sc (Resolves asked) b other has =
      subst HasEnded (sym (map_found n (resolves_for sc.moment asked) (resolves_number sc.moment asked) b.flows)) (map_stays (resolves_for sc.moment asked) (resolves_stays sc.moment asked)
      (flow_of n b.flows) has)
  turned_stays config sc Pauses b other has = has
  turned_stays config sc (Joins socket) b other has = by b.came
    where
      by : (o : Option OnTuple) → HasEnded (flow_of n (joins_for config sc.moment socket o b).flows)
      by None = has
      by (Some on) = opened_stays config sc.moment socket on.tuple (Connects (first_number sc.moment (length b.flows)) on.segment) b other has
  turned_stays config sc (Visits listener socket peer) b other has = by (port_of config listener)
    where
      by_test : (at : Endpoint) (t : Bool) → HasEnded (flow_of n (if t then doom socket b else opens config sc.moment socket (tuple_for config at peer)
          (Accepts (first_number sc.moment (length b.flows))) b).flows)
      by_test at true = has
      by_test at false = opened_stays config sc.moment socket (tuple_for config at peer) (Accepts (first_number sc.moment (length b.flows))) b other has

      by : (o : Option Endpoint) → HasEnded (flow_of n (visits_for config sc.moment socket peer o b).flows)
      by None = has
      by (Some at) = by_test at (is_refused config at peer b)
  turned_stays config sc (Calls socket event) b other has = tell_stays (is_numbered socket) (with_event sc.moment event) (λ f. refl) (λ f is. story_stays sc.moment event f.story is) b.flows has
  turned_stays config sc (Shuts socket) b other has =
      tell_stays (is_numbered socket) (shuts sc b.came) (λ f. refl) (λ f is. story_stays sc.moment (Closes (comes_directly b.came f) (comes_last sc f) (guest_is_known sc f)) f.story is) b.flows has

  -- ---- the trace

  other_comes : (o : Option OnTuple) → IsOther (comes o)
  other_comes None = tt
  other_comes (Some on) = tt

  other_resolves : (o : Option ℕ) → IsOther (resolves o)
  other_resolves None = tt
  other_resolves (Some asked) = tt

  other_goes : (o : Option OnTuple) (asked : Option ℕ) → IsOther (goes o asked)
  other_goes None asked = other_resolves asked
  other_goes (Some on) asked = tt

  other_by : (came : Option Arrival) (went : Option (List ℕ)) (e : Entry) → IsOther (by_call e) → IsOther (doing_by came went e)
  other_by (Some arrival) went e is = other_comes (segment_came (Some arrival))
  other_by None (Some frame) e is = other_goes (segment_in frame) (asked_in frame)
  other_by None None e is = is

  other_joins : (answer : Made) (socket : ℕ) → (socket == n) ≡ false → IsOther (joins answer socket)
  other_joins Done socket is = is
  other_joins Failed socket is = tt

  other_visits : (answer : Accepted) (listener socket : ℕ) → (socket == n) ≡ false → IsOther (visits answer listener socket)
  other_visits (From peer) listener socket is = is
  other_visits NotYet listener socket is = tt
  other_visits AcceptFailed listener socket is = tt

  below_next : (next : ℕ) (flows : List Flow) → Each (λ f. f.number < next) flows → HasEnded (flow_of n flows) → n < next
  below_next next flows below has = by (flow_of n flows) refl has
    where
      by : (o : Option Flow) → flow_of n flows ≡ o → HasEnded o → n < next
      by None is has = absurd has
      by (Some f) is has = let less = each_found (λ (g : Flow). g.number < next) (is_numbered n) flows f below is in let this = found_number n flows f is in omega (arith, less, this)

  another : (next socket : ℕ) → n < next → socket ≡ next → (socket == n) ≡ false
  another next socket less is = grind (arith, nat_tests, less, is)

  other_call : (config : Config) (e : Entry) (past : List Entry) → May config past (call_of e) → n < next_number past → IsOther (by_call e)
  other_call config (Connect socket to answer) past may less =
      other_joins answer socket (another (next_number past) socket less (connects_next (book config past).doomed (connects_to config (book config past))
      (next_number past) socket to may.flows.touches))
  other_call config (Accept listener socket answer) past may less = other_visits answer listener socket (another (next_number past) socket less may.flows.touches)
  other_call config (Wait wants timeout answer ready) past may less = tt
  other_call config (Connected socket answer) past may less = tt
  other_call config (TcpRead socket asked answer octets) past may less = tt
  other_call config (TcpWrite socket octets answer) past may less = tt
  other_call config (TcpEnd socket answer) past may less = tt
  other_call config (Close socket) past may less = tt
  other_call config (Now moment) past may less = tt
  other_call config (LinkOpen at answer) past may less = tt
  other_call config (LinkRead asked answer octets) past may less = tt
  other_call config (LinkWrite octets answer) past may less = tt
  other_call config (Listen socket at answer) past may less = tt
  other_call config (UdpOpen socket at answer) past may less = tt
  other_call config (UdpSend socket to octets answer) past may less = tt
  other_call config (UdpRecv socket asked answer octets) past may less = tt
  other_call config (FileLen name answer) past may less = tt
  other_call config (FileRead name place asked answer octets) past may less = tt

  has_on : (config : Config) (e : Entry) (past : List Entry) → Lawful config (e ∷ past) → HasEnded (flow_of n (book config past).flows) → HasEnded (flow_of n (book config (e ∷ past)).flows)
  has_on config e past lawful has =
      turned_stays config (scene config past) (doing config past e) (book config past)
      (other_by (happens config past e).came (happens config past e).went e
      (other_call config e past lawful.0 (below_next (next_number past) (book config past).flows (are_kept config past (keeps_flows config past lawful.1)).below has))) has

ends_now : (now : ℕ) (answer : Made) (story : Story) → has_ended (guest (At now (ended_by answer) ∷ story)) ≡ true
ends_now now Done story = refl
ends_now now Failed story = refl

its_flow : (s : Settings) (now : ℕ) (o : Option Flow) → MayAct s now o EndHost → (f : Flow) × (o ≡ Some f)
its_flow s now None may = absurd may
its_flow s now (Some f) may = (f, refl)

has_now : (config : Config) (socket : ℕ) (answer : Made) (past : List Entry) → May config past (CallTcpEnd socket) → HasEnded (flow_of socket (book config (TcpEnd socket answer ∷ past)).flows)
has_now config socket answer past may =
    let its = its_flow (flow_settings config) (scene config past).moment (flow_of socket (book config past).flows) may.flows.touches in
    subst HasEnded (sym (own_call config (scene config past) (book config past) socket (ended_by answer) its.0 its.1)) (ends_now (scene config past).moment answer its.0.story)

has_told : (config : Config) (n : ℕ) (past : List Entry) → Lawful config past → told past n ≡ true → HasEnded (flow_of n (book config past).flows)
has_told config n [] lawful is = cc
has_told config n (Wait wants timeout answer ready ∷ past) lawful is = cc
has_told config n (TcpEnd socket answer ∷ past) lawful is = by (socket == n) refl is (λ more. has_on n config (TcpEnd socket answer) past lawful (has_told config n past lawful.1 more))
  where
    by : (b : Bool) → (socket == n) ≡ b → (b || told past n) ≡ true → (told past n ≡ true → HasEnded (flow_of n (book config (TcpEnd socket answer ∷ past)).flows)) → HasEnded
        (flow_of n (book config (TcpEnd socket answer ∷ past)).flows)
    by true this is more = let same : socket ≡ n = grind (arith, nat_tests, this) in subst (λ m. HasEnded (flow_of m (book config (TcpEnd socket answer ∷ past)).flows)) same
        (has_now config socket answer past lawful.0)
    by false this is more = more is
has_told config n (Now moment ∷ past) lawful is = has_on n config (Now moment) past lawful (has_told config n past lawful.1 is)
has_told config n (LinkOpen at answer ∷ past) lawful is = has_on n config (LinkOpen at answer) past lawful (has_told config n past lawful.1 is)
has_told config n (LinkRead asked answer octets ∷ past) lawful is = has_on n config (LinkRead asked answer octets) past lawful (has_told config n past lawful.1 is)
has_told config n (LinkWrite octets answer ∷ past) lawful is = has_on n config (LinkWrite octets answer) past lawful (has_told config n past lawful.1 is)
has_told config n (Connect socket to answer ∷ past) lawful is = has_on n config (Connect socket to answer) past lawful (has_told config n past lawful.1 is)
has_told config n (Connected socket answer ∷ past) lawful is = has_on n config (Connected socket answer) past lawful (has_told config n past lawful.1 is)
has_told config n (Listen socket at answer ∷ past) lawful is = has_on n config (Listen socket at answer) past lawful (has_told config n past lawful.1 is)
has_told config n (Accept listener socket answer ∷ past) lawful is = has_on n config (Accept listener socket answer) past lawful (has_told config n past lawful.1 is)
has_told config n (TcpRead socket asked answer octets ∷ past) lawful is = has_on n config (TcpRead socket asked answer octets) past lawful (has_told config n past lawful.1 is)
has_told config n (TcpWrite socket octets answer ∷ past) lawful is = has_on n config (TcpWrite socket octets answer) past lawful (has_told config n past lawful.1 is)
has_told config n (Close socket ∷ past) lawful is = has_on n config (Close socket) past lawful (has_told config n past lawful.1 is)
has_told config n (UdpOpen socket at answer ∷ past) lawful is = has_on n config (UdpOpen socket at answer) past lawful (has_told config n past lawful.1 is)
has_told config n (UdpSend socket to octets answer ∷ past) lawful is = has_on n config (UdpSend socket to octets answer) past lawful (has_told config n past lawful.1 is)
has_told config n (UdpRecv socket asked answer octets ∷ past) lawful is = has_on n config (UdpRecv socket asked answer octets) past lawful (has_told config n past lawful.1 is)
has_told config n (FileLen name answer ∷ past) lawful is = has_on n config (FileLen name answer) past lawful (has_told config n past lawful.1 is)
has_told config n (FileRead name place asked answer octets ∷ past) lawful is = has_on n config (FileRead name place asked answer octets) past lawful (has_told config n past lawful.1 is)

-- a host that is told the end wasn't told before
pub untold : (config : Config) (socket : ℕ) (past : List Entry) → Lawful config past → May config past (CallTcpEnd socket) → told past socket ≡ false
untold config socket past lawful may = by (told past socket) refl
  where
    never : (o : Option Flow) → MayAct (flow_settings config) (scene config past).moment o EndHost → HasEnded o → ⊥
    never None act has = has
    never (Some f) act has = clash (has_ended (guest f.story)) has act.ends_after_all.0
      where
        clash : (b : Bool) → b ≡ true → b ≡ false → ⊥
        clash true one two = cc
        clash false one two = cc

    by : (b : Bool) → told past socket ≡ b → told past socket ≡ false
    by false is = is
    by true is = absurd (never (flow_of socket (book config past).flows) may.flows.touches (has_told config socket past lawful is))

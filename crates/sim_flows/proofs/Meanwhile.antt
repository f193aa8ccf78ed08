-- A tuple on which no flow owes a reset, and none can before it sends its SYN, stays so while no flow sends anything.
use Rattle.std.proofs.Common.{◌≡◌, ℕ, ◌==◌, ◌&&◌, ◌||◌, not, Bool, true, false, cond, List, [], ◌∷◌, length, map, find, Option, Some, None, if◌then◌else◌, refl, sym, ap, subst}
use Rattle.net_octets.specs.declared.Endpoint.{Endpoint}
use Rattle.slirp_settings.specs.Addresses.{Config, address}
use Rattle.spec_flows.specs.declared.Tuple.{Tuple}
use Rattle.spec_flow.specs.Event.{Segment, Event, Connects, Accepts, Arrives, Departs, Connected, ConnectsYet, ConnectFails, Writes, WriteFails, Reads, ReadsEnd, ReadFails, EndsHost}
use Rattle.spec_flow.specs.Event.{EndFails, AsksAddress, Closes, At, Story}
use Rattle.spec_flow.specs.Close.{must_part, waits_too_long, follows_reset, gives_up, host_failed, is_done, owes_reset}
use Rattle.spec_flow.specs.Flow.{first_number, is_accepted, is_closed, syn_is_out}
use Rattle.spec_flows.specs.Book.{doom, is_refused, joins_for, opens, port_of, tuple_for, turned, visits_for}
use Rattle.spec_flows.specs.Doings.{Doing, Nothing, Comes, Goes, Resolves, Pauses, Joins, Visits, Calls, Shuts}
use Rattle.spec_flows.specs.Flows.{Flow, Book, Scene, comes_directly, comes_last, flow_of, guest_is_known, is_numbered, is_on, is_strange, owner, resolves_for, sends, shuts, tell, uses, with_event}
use Rattle.spec_flows.specs.Segments.{OnTuple, same_tuple}

-- ---- flows that owe nothing

-- A flow owes no reset, and is closed, or was accepted and sent nothing yet: so it goes on while it sends nothing.
abbrev pub is_quiet : Story → Bool
is_quiet story = not (owes_reset story) && (is_closed story || (is_accepted story && not (syn_is_out story)))

-- so is the flow that was opened last on a tuple, where there is one
abbrev pub is_free : Option Flow → Bool
is_free None = true
is_free (Some f) = is_quiet f.story

-- an event of the host, an arrival or a request
abbrev pub is_apart : Event → Bool
is_apart (Connects ours syn) = false
is_apart (Accepts ours) = false
is_apart (Departs seg) = false
is_apart (Closes directly ended known) = false
is_apart _ = true

apart_quiet : (now : ℕ) (event : Event) (story : Story) → is_apart event ≡ true → is_quiet story ≡ true → is_quiet (At now event ∷ story) ≡ true
apart_quiet now (Connects ours syn) story apart is = cc
apart_quiet now (Accepts ours) story apart is = cc
apart_quiet now (Departs seg) story apart is = cc
apart_quiet now (Closes directly ended known) story apart is = cc
apart_quiet now (Arrives seg) story apart is = is
apart_quiet now Connected story apart is = is
apart_quiet now ConnectsYet story apart is = is
apart_quiet now ConnectFails story apart is = is
apart_quiet now (Writes octets taken) story apart is = is
apart_quiet now (WriteFails octets) story apart is = is
apart_quiet now (Reads octets) story apart is = is
apart_quiet now ReadsEnd story apart is = is
apart_quiet now ReadFails story apart is = is
apart_quiet now EndsHost story apart is = is
apart_quiet now EndFails story apart is = is
apart_quiet now AsksAddress story apart is = is

-- a close, where the flow wasn't closed: it was accepted, and nothing was sent
close_quiet : (now : ℕ) (directly ended known : Bool) (story : Story) → is_closed story ≡ false → is_quiet story ≡ true → is_quiet (At now (Closes directly ended known) ∷ story) ≡ true
close_quiet now directly ended known story open_yet is =
    ap (λ b. not b && true) (owes_none (not (is_done story)) (not (follows_reset directly story))
    (must_part now story || (not ended && (gives_up now story || waits_too_long now story))) (is_accepted story && not (syn_is_out story))
    (is_unsent (owes_reset story) (is_closed story) (is_accepted story && not (syn_is_out story)) open_yet is))
  where
    is_unsent : (owes closed unsent : Bool) → closed ≡ false → (not owes && (closed || unsent)) ≡ true → unsent ≡ true
    is_unsent true closed unsent open_yet is = cc
    is_unsent false true unsent open_yet is = cc
    is_unsent false false unsent open_yet is = is

    owes_none : (a b c d : Bool) → d ≡ true → (a && b && c && not d) ≡ false
    owes_none a b c false is = cc
    owes_none true true true true is = refl
    owes_none true true false true is = refl
    owes_none true false c true is = refl
    owes_none false b c true is = refl

-- a quiet flow owes no reset
pub quiet_owes : (story : Story) → is_quiet story ≡ true → owes_reset story ≡ false
quiet_owes story is = by (owes_reset story) (is_closed story || (is_accepted story && not (syn_is_out story))) is
  where
    by : (owes c : Bool) → (not owes && c) ≡ true → owes ≡ false
    by true c is = cc
    by false c is = refl

-- a tuple that isn't used is free
pub unused_free : (o : Option Flow) → uses o ≡ false → is_free o ≡ true
unused_free None is = refl
unused_free (Some f) is = by (is_closed f.story) (owes_reset f.story) (is_accepted f.story && not (syn_is_out f.story)) is
  where
    by : (closed owes unsent : Bool) → (not closed || owes) ≡ false → (not owes && (closed || unsent)) ≡ true
    by true true unsent is = cc
    by true false unsent is = refl
    by false owes unsent is = cc

-- ---- what happens leaves a tuple free

-- a change of one flow, which keeps its tuple and leaves it quiet
told_free : (tuple : Tuple) (test : Flow → Bool) (change : Flow → Flow) → ((f : Flow) → (change f).tuple ≡ f.tuple) → (flows : List Flow)
    → ((f : Flow) → find test flows ≡ Some f → is_quiet f.story ≡ true → is_quiet (change f).story ≡ true) → is_free (owner tuple flows) ≡ true → is_free (owner tuple (tell test change flows)) ≡ true
told_free tuple test change keeps [] goes is = is
told_free tuple test change keeps (f ∷ flows) goes is = by_test (test f) goes (told_free tuple test change keeps flows)
  where
    changed : (b : Bool) → (is_quiet f.story ≡ true → is_quiet (change f).story ≡ true) → is_free (cond b (Some f) (owner tuple flows)) ≡ true → is_free
        (cond b (Some (change f)) (owner tuple flows)) ≡ true
    changed true goes is = goes is
    changed false goes is = is

    later : (b : Bool) → (is_free (owner tuple flows) ≡ true → is_free (owner tuple (tell test change flows)) ≡ true) → is_free (cond b (Some f) (owner tuple flows)) ≡ true
        → is_free (cond b (Some f) (owner tuple (tell test change flows))) ≡ true
    later true rest is = is
    later false rest is = rest is

    by_test : (b : Bool) → ((g : Flow) → cond b (Some f) (find test flows) ≡ Some g → is_quiet g.story ≡ true → is_quiet (change g).story ≡ true)
        → (((g : Flow) → find test flows ≡ Some g → is_quiet g.story ≡ true → is_quiet (change g).story ≡ true) → is_free (owner tuple flows) ≡ true → is_free
        (owner tuple (tell test change flows)) ≡ true)
        → is_free (owner tuple (if b then change f ∷ flows else f ∷ tell test change flows)) ≡ true
    by_test true goes rest =
        subst (λ t. is_free (cond (same_tuple t tuple) (Some (change f)) (owner tuple flows)) ≡ true) (sym (keeps f)) (changed (is_on tuple f) (goes f refl) is)
    by_test false goes rest = later (is_on tuple f) (rest goes) is

-- one of each
mapped_free : (tuple : Tuple) (change : Flow → Flow) → ((f : Flow) → (change f).tuple ≡ f.tuple) → ((f : Flow) → is_quiet f.story ≡ true → is_quiet (change f).story ≡ true) → (flows : List Flow)
    → is_free (owner tuple flows) ≡ true → is_free (owner tuple (map change flows)) ≡ true
mapped_free tuple change keeps goes [] is = is
mapped_free tuple change keeps goes (f ∷ flows) is =
    subst (λ t. is_free (cond (same_tuple t tuple) (Some (change f)) (owner tuple (map change flows))) ≡ true) (sym (keeps f)) (by (is_on tuple f) is (mapped_free tuple change keeps goes flows))
  where
    by : (b : Bool) → is_free (cond b (Some f) (owner tuple flows)) ≡ true → (is_free (owner tuple flows) ≡ true → is_free (owner tuple (map change flows)) ≡ true)
        → is_free (cond b (Some (change f)) (owner tuple (map change flows))) ≡ true
    by true is rest = goes f is
    by false is rest = rest is

-- a flow that is opened for a peer
one_more : (tuple : Tuple) (f : Flow) (flows : List Flow) → is_quiet f.story ≡ true → is_free (owner tuple flows) ≡ true → is_free (owner tuple (f ∷ flows)) ≡ true
one_more tuple f flows quiet is = by (is_on tuple f)
  where
    by : (b : Bool) → is_free (cond b (Some f) (owner tuple flows)) ≡ true
    by true = quiet
    by false = is

resolves_tuple : (now guest : ℕ) (f : Flow) → (resolves_for now guest f).tuple ≡ f.tuple
resolves_tuple now guest f = by (is_accepted f.story && (address f.tuple.guest == guest))
  where
    by : (b : Bool) → (if b then with_event now AsksAddress f else f).tuple ≡ f.tuple
    by true = refl
    by false = refl

resolves_quiet : (now guest : ℕ) (f : Flow) → is_quiet f.story ≡ true → is_quiet (resolves_for now guest f).story ≡ true
resolves_quiet now guest f is = by (is_accepted f.story && (address f.tuple.guest == guest))
  where
    by : (b : Bool) → is_quiet (if b then with_event now AsksAddress f else f).story ≡ true
    by true = is
    by false = is

-- a segment of no flow's own changes none
pub strange_sends : (now : ℕ) (seg : Segment) (f : Flow) → is_strange seg f ≡ true → sends now seg f ≡ f
strange_sends now seg f strange = ap (λ b. if b then f else with_event now (Departs seg) f) strange

-- what is found is changed to itself
pub told_same : (test : Flow → Bool) (change : Flow → Flow) (flows : List Flow) → ((f : Flow) → find test flows ≡ Some f → change f ≡ f) → tell test change flows ≡ flows
told_same test change [] same = refl
told_same test change (f ∷ flows) same = by (test f) same (told_same test change flows)
  where
    by : (b : Bool) → ((g : Flow) → cond b (Some f) (find test flows) ≡ Some g → change g ≡ g) → (((g : Flow) → find test flows ≡ Some g → change g ≡ g) → tell test change flows ≡ flows)
        → (if b then change f ∷ flows else f ∷ tell test change flows) ≡ f ∷ flows
    by true same rest = ap (λ g. g ∷ flows) (same f refl)
    by false same rest = ap (λ l. f ∷ l) (rest same)

-- What may happen to the flows meanwhile: no segment of a flow's own goes out, none connects, and a flow is closed once.
abbrev pub IsMeanwhile : Book → Doing → Type 0
IsMeanwhile b (Goes on) = (f : Flow) → owner on.tuple b.flows ≡ Some f → is_strange on.segment f ≡ true
IsMeanwhile b (Joins socket) = b.came ≡ None
IsMeanwhile b (Calls socket event) = is_apart event ≡ true
IsMeanwhile b (Shuts socket) = (f : Flow) → flow_of socket b.flows ≡ Some f → is_closed f.story ≡ false
IsMeanwhile b _ = Unit {0}

module _ (config : Config) (sc : Scene) (b : Book) (tuple : Tuple) (free : is_free (owner tuple b.flows) ≡ true) where
  visits_free : (socket : ℕ) (peer : Endpoint) (port : Option Endpoint) → is_free (owner tuple (visits_for config sc.moment socket peer port b).flows) ≡ true
  visits_free socket peer None = free
  visits_free socket peer (Some guest) = by_test (is_refused config guest peer b)
    where
      by_test : (t : Bool) → is_free (owner tuple (if t then doom socket b else opens config sc.moment socket (tuple_for config guest peer)
          (Accepts (first_number sc.moment (length b.flows))) b).flows) ≡ true
      by_test true = free
      by_test false = one_more tuple (record { number = socket; tuple = tuple_for config guest peer; story = At sc.moment (Accepts (first_number sc.moment (length b.flows))) ∷ [] }) b.flows refl free

  joins_free : (socket : ℕ) (came : Option OnTuple) → came ≡ None → is_free (owner tuple (joins_for config sc.moment socket came b).flows) ≡ true
  joins_free socket None none = free
  joins_free socket (Some on) none = absurd (none_some (sym none))
    where
      none_some : None ≡ Some on → ⊥
      none_some is = cc

  pub meanwhile : (d : Doing) → IsMeanwhile b d → is_free (owner tuple (turned config sc d b).flows) ≡ true
  meanwhile Nothing is = free
  meanwhile (Comes on) is = told_free tuple (is_on on.tuple) (with_event sc.moment (Arrives on.segment)) (λ f. refl) b.flows (λ f found quiet. quiet) free
  meanwhile (Goes on) is = subst (λ flows. is_free (owner tuple flows) ≡ true)
      (sym (told_same (is_on on.tuple) (sends sc.moment on.segment) b.flows (λ f found. strange_sends sc.moment on.segment f (is f found)))) free
  meanwhile (Resolves guest) is = mapped_free tuple (resolves_for sc.moment guest) (resolves_tuple sc.moment guest) (resolves_quiet sc.moment guest) b.flows free
  meanwhile Pauses is = free
  meanwhile (Joins socket) is = joins_free socket b.came is
  meanwhile (Visits listener socket peer) is = visits_free socket peer (port_of config listener)
  meanwhile (Calls socket event) is = told_free tuple (is_numbered socket) (with_event sc.moment event) (λ f. refl) b.flows (λ f found quiet. apart_quiet sc.moment event f.story is quiet) free
  meanwhile (Shuts socket) is =
      told_free tuple (is_numbered socket) (shuts sc b.came) (λ f. refl) b.flows
      (λ f found quiet. close_quiet sc.moment (comes_directly b.came f) (comes_last sc f) (guest_is_known sc f) f.story (is f found) quiet) free

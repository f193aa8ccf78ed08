-- What happens to one flow leaves each other as it is.
use Rattle.std.proofs.Common.{◌≡◌, ℕ, ◌==◌, ◌&&◌, Bool, true, false, cond, not, List, [], ◌∷◌, ◌++◌, length, map, find, Option, Some, None, option_map, if◌then◌else◌, refl, sym, ◌∙◌, ap, arith}
use Rattle.std.proofs.lemmas.Bool.Decides.{nat_tests}
use Rattle.net_octets.specs.declared.Endpoint.{Endpoint}
use Rattle.world_face.specs.Journal.{Entry}
use Rattle.slirp_settings.specs.Addresses.{Config, address}
use Rattle.spec_flows.specs.declared.Tuple.{Tuple}
use Rattle.spec_flow.specs.Event.{Segment, Event, Arrives, Departs, Accepts, AsksAddress}
use Rattle.spec_flow.specs.Flow.{first_number, is_accepted}
use Rattle.spec_flow.specs.Close.{owes_reset, is_owed_reset}
use Rattle.spec_flows.specs.Book.{opens, port_of, tuple_for, is_refused, joins_for, visits_for, turned, scene, book, story_in, story}
use Rattle.spec_flows.specs.Flows.{Flow, Book, Scene, is_on, is_numbered, owner, flow_of, tell, with_event, sends, resolves_for, shuts}
use Rattle.spec_flows.specs.Doings.{Doing, Nothing, Comes, Goes, Resolves, Pauses, Joins, Visits, Calls, Shuts, doing}
use Rattle.spec_flows.specs.Segments.{OnTuple}
use Rattle.spec_flows.specs.Touching.{has_number, is_accepted_for, touches, AreApart}

-- ---- changes keep numbers

pub sends_number : (now : ℕ) (seg : Segment) (f : Flow) → (sends now seg f).number ≡ f.number
sends_number now seg f = by_test (seg.rst && not (owes_reset f.story && is_owed_reset f.story seg))
  where
    by_test : (b : Bool) → (if b then f else with_event now (Departs seg) f).number ≡ f.number
    by_test true = refl
    by_test false = refl

pub resolves_number : (now guest : ℕ) (f : Flow) → (resolves_for now guest f).number ≡ f.number
resolves_number now guest f = by_test (is_accepted f.story && (address f.tuple.guest == guest))
  where
    by_test : (b : Bool) → (if b then with_event now AsksAddress f else f).number ≡ f.number
    by_test true = refl
    by_test false = refl

-- ---- one flow is changed

module _ (number : ℕ) where
  -- the head of a list is changed, or the rest is
  head_apart : (b : Bool) (found : Option Flow) (x y : Flow) (rest told : List Flow) → y.number ≡ x.number → has_number number (cond b (Some x) found) ≡ false
      → (has_number number found ≡ false → find (is_numbered number) told ≡ find (is_numbered number) rest)
      → find (is_numbered number) (if b then y ∷ rest else x ∷ told) ≡ find (is_numbered number) (x ∷ rest)
  head_apart true found x y rest told same not go_on =
      let other : (y.number == number) ≡ false = ap (λ n. n == number) same ∙ not in
      ap (λ b. cond b (Some y) (find (is_numbered number) rest)) other ∙ sym (ap (λ b. cond b (Some x) (find (is_numbered number) rest)) not)
  head_apart false found x y rest told same not go_on = ap (λ o. cond (x.number == number) (Some x) o) (go_on not)

  pub tell_apart : (test : Flow → Bool) (change : Flow → Flow) → ((f : Flow) → (change f).number ≡ f.number) → (flows : List Flow) → has_number number (find test flows) ≡ false
      → flow_of number (tell test change flows) ≡ flow_of number flows
  tell_apart test change keeps [] not = refl
  tell_apart test change keeps (f ∷ flows) not =
      head_apart (test f) (find test flows) f (change f) flows (tell test change flows) (keeps f) not (λ n. tell_apart test change keeps flows n)

  -- the flow of another number isn't that of this one
  pub other_number : (socket : ℕ) → (socket == number) ≡ false → (flows : List Flow) → has_number number (flow_of socket flows) ≡ false
  other_number socket not [] = refl
  other_number socket not (f ∷ flows) = by_test (f.number == socket) refl (other_number socket not flows)
    where
      by_test : (b : Bool) → (f.number == socket) ≡ b → has_number number (flow_of socket flows) ≡ false → has_number number (cond b (Some f) (flow_of socket flows)) ≡ false
      by_test true is rest = let same : f.number ≡ socket = grind (arith, nat_tests, is) in ap (λ n. n == number) same ∙ not
      by_test false is rest = rest

  -- a flow more, of another number
  opened_apart : (f : Flow) (flows : List Flow) → (f.number == number) ≡ false → flow_of number (f ∷ flows) ≡ flow_of number flows
  opened_apart f flows not = ap (λ b. cond b (Some f) (flow_of number flows)) not

  -- a change of each
  pub map_found : (change : Flow → Flow) → ((f : Flow) → (change f).number ≡ f.number) → (flows : List Flow) → flow_of number (map change flows) ≡ option_map change (flow_of number flows)
  map_found change keeps [] = refl
  map_found change keeps (f ∷ flows) = ap (λ n. cond (n == number) (Some (change f)) (flow_of number (map change flows))) (keeps f) ∙ by_test (f.number == number) (map_found change keeps flows)
    where
      by_test : (b : Bool) → flow_of number (map change flows) ≡ option_map change (flow_of number flows)
          → cond b (Some (change f)) (flow_of number (map change flows)) ≡ option_map change (cond b (Some f) (flow_of number flows))
      by_test true rest = refl
      by_test false rest = rest

  resolves_apart : (now guest : ℕ) (o : Option Flow) → is_accepted_for guest o ≡ false → option_map (resolves_for now guest) o ≡ o
  resolves_apart now guest None not = refl
  resolves_apart now guest (Some f) not = ap (λ b. Some (if b then with_event now AsksAddress f else f)) not

  -- ---- a doing

  module _ (config : Config) (scene : Scene) (book : Book) where
    joins_apart : (socket : ℕ) (came : Option OnTuple) → (socket == number) ≡ false → flow_of number (joins_for config scene.moment socket came book).flows ≡ flow_of number book.flows
    joins_apart socket None not = refl
    joins_apart socket (Some on) not = opened_apart _ book.flows not

    visits_apart : (socket : ℕ) (peer : Endpoint) (port : Option Endpoint) → (socket == number) ≡ false → flow_of number
        (visits_for config scene.moment socket peer port book).flows ≡ flow_of number book.flows
    visits_apart socket peer None not = refl
    visits_apart socket peer (Some guest) not = by_test (is_refused config guest peer book)
      where
        by_test : (b : Bool) → flow_of number (if b then record { flows = book.flows; time_waits = book.time_waits; came = None; doomed = Some socket }
            else opens config scene.moment socket (tuple_for config guest peer) (Accepts (first_number scene.moment (length book.flows))) book).flows ≡ flow_of number book.flows
        by_test true = refl
        by_test false = opened_apart _ book.flows not

    -- it leaves each flow as it is that it isn't about
    pub flow_apart : (h : Doing) → touches number book h ≡ false → flow_of number (turned config scene h book).flows ≡ flow_of number book.flows
    flow_apart Nothing not = refl
    flow_apart (Comes on) not = tell_apart (is_on on.tuple) (with_event scene.moment (Arrives on.segment)) (λ f. refl) book.flows not
    flow_apart (Goes on) not = tell_apart (is_on on.tuple) (sends scene.moment on.segment) (sends_number scene.moment on.segment) book.flows not
    flow_apart (Resolves guest) not = map_found (resolves_for scene.moment guest) (resolves_number scene.moment guest) book.flows ∙ resolves_apart scene.moment guest (flow_of number book.flows) not
    flow_apart Pauses not = refl
    flow_apart (Joins socket) not = joins_apart socket book.came not
    flow_apart (Visits listener socket peer) not = visits_apart socket peer (port_of config listener) not
    flow_apart (Calls socket event) not = tell_apart (is_numbered socket) (with_event scene.moment event) (λ f. refl) book.flows (other_number socket not book.flows)
    flow_apart (Shuts socket) not = tell_apart (is_numbered socket) (shuts scene book.came) (λ f. refl) book.flows (other_number socket not book.flows)

-- ---- entries

pub entry_apart : (config : Config) (number : ℕ) (e : Entry) (past : List Entry) → touches number (book config past) (doing config past e) ≡ false
    → flow_of number (book config (e ∷ past)).flows ≡ flow_of number (book config past).flows
entry_apart config number e past not = flow_apart number config (scene config past) (book config past) (doing config past e) not

pub flows_apart : (config : Config) (number : ℕ) (past made : List Entry) → AreApart config number past made
    → flow_of number (book config (made ++ past)).flows ≡ flow_of number (book config past).flows
flows_apart config number past [] apart = refl
flows_apart config number past (e ∷ made) apart = entry_apart config number e (made ++ past) apart.0 ∙ flows_apart config number past made apart.1

-- entries of others leave a flow's story as it is
pub story_apart : (config : Config) (number : ℕ) (past made : List Entry) → AreApart config number past made → story config (made ++ past) number ≡ story config past number
story_apart config number past made apart = ap story_in (flows_apart config number past made apart)

-- ---- the flow itself

-- a call on its socket is its own event
pub found_told : (number : ℕ) (change : Flow → Flow) → ((f : Flow) → (change f).number ≡ f.number) → (flows : List Flow)
    → flow_of number (tell (is_numbered number) change flows) ≡ option_map change (flow_of number flows)
found_told number change keeps [] = refl
found_told number change keeps (f ∷ flows) = by_test (f.number == number) refl (found_told number change keeps flows)
  where
    by_test : (b : Bool) → (f.number == number) ≡ b → flow_of number (tell (is_numbered number) change flows) ≡ option_map change (flow_of number flows)
        → flow_of number (if b then change f ∷ flows else f ∷ tell (is_numbered number) change flows) ≡ option_map change (cond b (Some f) (flow_of number flows))
    by_test true is rest = ap (λ n. cond (n == number) (Some (change f)) (flow_of number flows)) (keeps f) ∙ ap (λ b. cond b (Some (change f)) (flow_of number flows)) is
    by_test false is rest = ap (λ b. cond b (Some f) (flow_of number (tell (is_numbered number) change flows))) is ∙ rest

pub own_call : (config : Config) (scene : Scene) (book : Book) (number : ℕ) (event : Event) (f : Flow) → flow_of number book.flows ≡ Some f
    → flow_of number (turned config scene (Calls number event) book).flows ≡ Some (with_event scene.moment event f)
own_call config scene book number event f is = found_told number (with_event scene.moment event) (λ f. refl) book.flows ∙ ap (option_map (with_event scene.moment event)) is

pub own_close : (config : Config) (scene : Scene) (book : Book) (number : ℕ) (f : Flow) → flow_of number book.flows ≡ Some f
    → flow_of number (turned config scene (Shuts number) book).flows ≡ Some (shuts scene book.came f)
own_close config scene book number f is = found_told number (shuts scene book.came) (λ f. refl) book.flows ∙ ap (option_map (shuts scene book.came)) is

-- and so is a segment on its tuple
owner_is_on : (tuple : Tuple) (flows : List Flow) (f : Flow) → owner tuple flows ≡ Some f → is_on tuple f ≡ true
owner_is_on tuple [] f is = absurd cc
owner_is_on tuple (g ∷ flows) f is = by_test (is_on tuple g) refl is (owner_is_on tuple flows f)
  where
    by_test : (b : Bool) → is_on tuple g ≡ b → cond b (Some g) (owner tuple flows) ≡ Some f → (owner tuple flows ≡ Some f → is_on tuple f ≡ true) → is_on tuple f ≡ true
    by_test true on is rest = let same : g ≡ f = cc in ap (is_on tuple) (sym same) ∙ on
    by_test false off is rest = rest is

same_number : (n : ℕ) → (n == n) ≡ true
same_number n = grind (arith, nat_tests)

-- the first flow on a tuple is changed, which is the first of its number
module _ (tuple : Tuple) (change : Flow → Flow) (keeps : (f : Flow) → (change f).number ≡ f.number) (f : Flow) where
  at_head : (g : Flow) (flows : List Flow) → g ≡ f → flow_of f.number (change g ∷ flows) ≡ Some (change f)
  at_head g flows same =
      ap (λ (h : Flow). cond ((change h).number == f.number) (Some (change h)) (flow_of f.number flows)) same
      ∙ ap (λ n. cond (n == f.number) (Some (change f)) (flow_of f.number flows)) (keeps f)
      ∙ ap (λ b. cond b (Some (change f)) (flow_of f.number flows)) (same_number f.number)

  pub own_told : (flows : List Flow) → owner tuple flows ≡ Some f → flow_of f.number flows ≡ Some f → flow_of f.number (tell (is_on tuple) change flows) ≡ Some (change f)
  own_told [] owned is = absurd cc
  own_told (g ∷ flows) owned is = by_tuple (is_on tuple g) refl owned (own_told flows)
    where
      by_number : (b : Bool) → (g.number == f.number) ≡ b → is_on tuple g ≡ false → owner tuple flows ≡ Some f → cond b (Some g) (flow_of f.number flows) ≡ Some f
          → (owner tuple flows ≡ Some f → flow_of f.number flows ≡ Some f → flow_of f.number (tell (is_on tuple) change flows) ≡ Some (change f))
          → cond b (Some g) (flow_of f.number (tell (is_on tuple) change flows)) ≡ Some (change f)
      by_number true same off owned is rest =
          let one : g ≡ f = cc in
          let on : is_on tuple g ≡ true = ap (is_on tuple) one ∙ owner_is_on tuple flows f owned in
          absurd cc
      by_number false other off owned is rest = rest owned is

      by_tuple : (b : Bool) → is_on tuple g ≡ b → cond b (Some g) (owner tuple flows) ≡ Some f
          → (owner tuple flows ≡ Some f → flow_of f.number flows ≡ Some f → flow_of f.number (tell (is_on tuple) change flows) ≡ Some (change f))
          → flow_of f.number (if b then change g ∷ flows else g ∷ tell (is_on tuple) change flows) ≡ Some (change f)
      by_tuple true on owned rest = let same : g ≡ f = cc in at_head g flows same
      by_tuple false off owned rest = by_number (g.number == f.number) refl off owned is rest

pub own_arrival : (config : Config) (scene : Scene) (book : Book) (on : OnTuple) (f : Flow) → owner on.tuple book.flows ≡ Some f → flow_of f.number book.flows ≡ Some f
    → flow_of f.number (turned config scene (Comes on) book).flows ≡ Some (with_event scene.moment (Arrives on.segment) f)
own_arrival config scene book on f owned is = own_told on.tuple (with_event scene.moment (Arrives on.segment)) (λ f. refl) f book.flows owned is

pub own_departure : (config : Config) (scene : Scene) (book : Book) (on : OnTuple) (f : Flow) → owner on.tuple book.flows ≡ Some f → flow_of f.number book.flows ≡ Some f
    → flow_of f.number (turned config scene (Goes on) book).flows ≡ Some (sends scene.moment on.segment f)
own_departure config scene book on f owned is = own_told on.tuple (sends scene.moment on.segment) (sends_number scene.moment on.segment) f book.flows owned is

-- What an entry makes of the book: each flow goes on to keep the law.
use Rattle.std.proofs.Common.{◌≡◌, ℕ, ◌+◌, ◌<◌, ◌≤◌, ◌==◌, ◌&&◌, Bool, true, false, [], ◌∷◌, length, find, Option, Some, None, if◌then◌else◌, refl, sym, ◌∙◌, ap, subst, arith}
use Rattle.net_octets.specs.declared.Endpoint.{Endpoint}
use Rattle.slirp_settings.specs.Addresses.{Config, address}
use Rattle.spec_flow.specs.Event.{Event, Connects, Accepts, Arrives, AsksAddress, Closes, At, Opens, is_failure}
use Rattle.spec_flow.specs.Close.{host_failed}
use Rattle.spec_flow.specs.Flow.{first_number, is_accepted}
use Rattle.spec_flow.specs.Dutiful.{Must, MustClose, MustHappen}
use Rattle.spec_flow.specs.Lawful.{MayHappen}
use Rattle.spec_flow.specs.Settings.{Settings}
use Rattle.spec_flows.specs.declared.Tuple.{Tuple}
use Rattle.spec_flows.specs.Book.{opens, port_of, tuple_for, is_refused, heard, joins_for, visits_for, doom, quiet, turned}
use Rattle.spec_flows.specs.Doings.{Comes, Goes, Resolves, Joins, Visits, Calls, Shuts}
use Rattle.spec_flows.specs.Flows.{Flow, Book, Scene, closing, is_on, is_numbered, owner, flow_of, tell, with_event, sends, resolves_for, shuts, comes_directly, comes_last, guest_is_known}
use Rattle.spec_flows.specs.SegmentVerdicts.{giving_way}
use Rattle.spec_flows.specs.Laws.{MayShut, MaySend, MustSend}
use Rattle.spec_flows.specs.Said.{Each, Differ, Kept, IsSound}
use Rattle.spec_flows.specs.Segments.{OnTuple}
use Rattle.spec_flows.proofs.Apart.{sends_number, resolves_number}
use Rattle.spec_flows.proofs.Lists.{each_as, each_both, each_found, each_map, each_told, each_numbered, found_number, told_differ, mapped_differ, fresh, never}
use Rattle.spec_flows.proofs.Stories.{stays, happened, well, sent}

not_doomed : (doomed : Option ℕ) (n : ℕ) → doomed ≡ None → doomed ≡ Some n → ⊥
not_doomed doomed n none is = none_some (sym none ∙ is)
  where
    none_some : None ≡ Some n → ⊥
    none_some is = cc

kept_below : (change : Flow → Flow) → ((f : Flow) → (change f).number ≡ f.number) → (next : ℕ) (f : Flow) → f.number < next → (change f).number < next
kept_below change keeps next f is = omega (arith, keeps f, is)

module _ (config : Config) (s : Settings) (sc : Scene) (next : ℕ) (b : Book) (sound : IsSound s sc.moment next b) where
  others : (later : ℕ) (doomed : Option ℕ) → sc.moment ≤ later → b.doomed ≡ None → (f : Flow) → Kept s sc.moment b.doomed f → Kept s later doomed f
  others later doomed follows none f kept = stays s sc.moment later b.doomed doomed f follows (not_doomed b.doomed f.number none) kept

  below_on : (next_new : ℕ) → next ≤ next_new → Each (λ f. f.number < next_new) b.flows
  below_on next_new follows = each_as (λ f. f.number < next) (λ f. f.number < next_new) (λ f is. omega (arith, is, follows)) b.flows sound.below

  -- nothing happened to any
  pub same_sound : (later next_new : ℕ) (b_new : Book) → sc.moment ≤ later → next ≤ next_new → b.doomed ≡ None → b_new.flows ≡ b.flows → IsSound s later next_new b_new
  same_sound later next_new b_new follows numbers none same = record {
    differ = subst Differ (sym same) sound.differ;
    below = subst (Each (λ f. f.number < next_new)) (sym same) (below_on next_new numbers);
    each = subst (Each (Kept s later b_new.doomed)) (sym same)
        (each_as (Kept s sc.moment b.doomed) (Kept s later b_new.doomed) (others later b_new.doomed follows none) b.flows sound.each);
  }

  -- one is told something
  told : (test : Flow → Bool) (change : Flow → Flow) (doomed : Option ℕ) → ((f : Flow) → (change f).number ≡ f.number) → b.doomed ≡ None
      → ((f : Flow) → find test b.flows ≡ Some f → Kept s sc.moment b.doomed f → Kept s sc.moment doomed (change f))
      → Differ (tell test change b.flows) × Each (λ f. f.number < next) (tell test change b.flows) × Each (Kept s sc.moment doomed) (tell test change b.flows)
  told test change doomed keeps none changed = (
    told_differ change keeps test b.flows sound.differ,
    each_told (λ f. f.number < next) (λ f. f.number < next) test change (λ f is. is) b.flows (λ f found is. kept_below change keeps next f is) sound.below,
    each_told (Kept s sc.moment b.doomed) (Kept s sc.moment doomed) test change (others sc.moment doomed (omega arith) none) b.flows changed sound.each,
  )

  none_fails : (n : ℕ) → false ≡ true → None ≡ Some n
  none_fails n is = cc

  -- nothing that isn't done for a flow comes where it must be closed
  pub comes_sound : (on : OnTuple) → b.doomed ≡ None → Each (λ f. MustClose f.story → ⊥) b.flows → IsSound s sc.moment next (turned config sc (Comes on) b)
  comes_sound on none free =
      let doomed = giving_way config sc.moment on (heard sc.moment on b) in
      let is = told (is_on on.tuple) (with_event sc.moment (Arrives on.segment)) doomed (λ f. refl) none
      (λ f found kept. happened s sc.moment b.doomed doomed (Arrives on.segment) f (λ opens. opens) (well s sc.moment b.doomed f (not_doomed b.doomed f.number none) kept)
      (each_found (λ g. MustClose g.story → ⊥) (is_on on.tuple) b.flows f free found) (λ fails. absurd (cc fails)) kept) in
      record { differ = is.0; below = is.1; each = is.2 }

  pub goes_sound : (on : OnTuple) → b.doomed ≡ None → MaySend s sc.moment on.segment (owner on.tuple b.flows) → MustSend s sc.moment on.segment (owner on.tuple b.flows)
      → IsSound s sc.moment next (turned config sc (Goes on) b)
  goes_sound on none may must =
      let is = told (is_on on.tuple) (sends sc.moment on.segment) None (sends_number sc.moment on.segment) none
      (λ f found kept. sent s sc.moment b.doomed on.segment f (not_doomed b.doomed f.number none) (subst (MaySend s sc.moment on.segment) found may)
      (subst (MustSend s sc.moment on.segment) found must) kept) in
      record { differ = is.0; below = is.1; each = is.2 }

  pub resolves_sound : (guest : ℕ) → b.doomed ≡ None → Each (λ f. MustClose f.story → ⊥) b.flows → IsSound s sc.moment next (turned config sc (Resolves guest) b)
  resolves_sound guest none free = record {
    differ = mapped_differ (resolves_for sc.moment guest) (resolves_number sc.moment guest) b.flows sound.differ;
    below = each_map (λ f. f.number < next) (λ f. f.number < next) (resolves_for sc.moment guest) (λ f is. kept_below (resolves_for sc.moment guest)
        (resolves_number sc.moment guest) next f is) b.flows sound.below;
    each = each_map (λ f. Kept s sc.moment b.doomed f × (MustClose f.story → ⊥)) (Kept s sc.moment None) (resolves_for sc.moment guest) asked b.flows
        (each_both (Kept s sc.moment b.doomed) (λ f. MustClose f.story → ⊥) b.flows sound.each free);
  }
    where
      asked : (f : Flow) → Kept s sc.moment b.doomed f × (MustClose f.story → ⊥) → Kept s sc.moment None (resolves_for sc.moment guest f)
      asked f (kept, stays_open) = by_test (is_accepted f.story && (address f.tuple.guest == guest))
        where
          by_test : (t : Bool) → Kept s sc.moment None (if t then with_event sc.moment AsksAddress f else f)
          by_test true = happened s sc.moment b.doomed None AsksAddress f (λ opens. opens) (well s sc.moment b.doomed f (not_doomed b.doomed f.number none) kept) stays_open (none_fails f.number) kept
          by_test false = others sc.moment None (omega arith) none f kept

  -- a call on its socket
  pub calls_sound : (socket : ℕ) (e : Event) → b.doomed ≡ None → (Opens e → ⊥) → ((f : Flow) → flow_of socket b.flows ≡ Some f → MayHappen s f.story (At sc.moment e))
      → ((f : Flow) → flow_of socket b.flows ≡ Some f → MustHappen s f.story (At sc.moment e)) → IsSound s sc.moment next (turned config sc (Calls socket e) b)
  calls_sound socket e none other may must =
      let is = told (is_numbered socket) (with_event sc.moment e) (if is_failure e then Some socket else None) (λ f. refl) none
      (λ f found kept. happened s sc.moment b.doomed (if is_failure e then Some socket else None) e f other (may f found) (must f found)
      (λ failed. dooms f (found_number socket b.flows f found) failed) kept) in
      record { differ = is.0; below = is.1; each = is.2 }
    where
      dooms : (f : Flow) → f.number ≡ socket → is_failure e ≡ true → (if is_failure e then Some socket else None) ≡ Some f.number
      dooms f number failed = ap (λ t. if t then Some socket else None) failed ∙ ap Some (sym number)

  -- its socket is closed, which alone may be the one that is to be
  pub shuts_sound : (socket : ℕ) → ((n : ℕ) → b.doomed ≡ Some n → n ≡ socket) → MayShut s sc b.came (flow_of socket b.flows) → IsSound s sc.moment next (turned config sc (Shuts socket) b)
  shuts_sound socket only may = record {
    differ = told_differ (shuts sc b.came) (λ f. refl) (is_numbered socket) b.flows sound.differ;
    below = each_told (λ f. f.number < next) (λ f. f.number < next) (is_numbered socket) (shuts sc b.came) (λ f is. is) b.flows (λ f found is. is) sound.below;
    each = each_numbered (Kept s sc.moment b.doomed) (Kept s sc.moment None) socket (shuts sc b.came)
        (λ f not kept. stays s sc.moment sc.moment b.doomed None f (omega arith) (λ doomed. another f.number (only f.number doomed) not) kept) b.flows sound.differ
        (λ f found kept. happened s sc.moment b.doomed None (closes f) f (λ opens. opens) (subst (MayShut s sc b.came) found may) (closes_so f) (none_fails f.number) kept) sound.each;
  }
    where
      closes : Flow → Event
      closes f = Closes (comes_directly b.came f) (comes_last sc f) (guest_is_known sc f)

      -- nothing is asked of a close
      closes_so : (f : Flow) → Must s f.story sc.moment (closing sc b.came f)
      closes_so f = record { sends_its_room = tt; offers_what_was_acknowledged = tt; closes_after_reset = tt }

      another : (n : ℕ) → n ≡ socket → (n == socket) ≡ false → ⊥
      another n same not = never n socket same not

  -- ---- a flow more

  none_came : MustClose [] → ⊥
  none_came must = cc must.1

  opened : (e : Event) (tuple : Tuple) → b.doomed ≡ None → Opens e → MayHappen s [] (At sc.moment e) → MustHappen s [] (At sc.moment e) → (host_failed (At sc.moment e ∷ []) ≡ false)
      → IsSound s sc.moment (next + 1) (opens config sc.moment next tuple e b)
  opened e tuple none opening may must well = record {
    differ = (fresh next b.flows sound.below next (omega arith), sound.differ);
    below = (omega arith, below_on (next + 1) (omega arith));
    each = (
      record { story = opening; moment = omega arith; lawful = (may, tt); dutiful = (must, tt); failed = λ failed. absurd (not_both failed) },
      each_as (Kept s sc.moment b.doomed) (Kept s sc.moment None) (others sc.moment None (omega arith) none) b.flows sound.each,
    );
  }
    where
      not_both : host_failed (At sc.moment e ∷ []) ≡ true → ⊥
      not_both failed = false_true (sym well ∙ failed)
        where
          false_true : false ≡ true → ⊥
          false_true is = cc

  pub joins_sound : b.doomed ≡ None → IsSound s sc.moment (next + 1) (turned config sc (Joins next) b)
  joins_sound none = by_came b.came
    where
      by_came : (came : Option OnTuple) → IsSound s sc.moment (next + 1) (joins_for config sc.moment next came b)
      by_came None = same_sound sc.moment (next + 1) (quiet b) (omega arith) (omega arith) none refl
      by_came (Some on) = opened (Connects (first_number sc.moment (length b.flows)) on.segment) on.tuple none tt refl none_came refl

  pub visits_sound : (listener : ℕ) (peer : Endpoint) → b.doomed ≡ None → IsSound s sc.moment (next + 1) (turned config sc (Visits listener next peer) b)
  visits_sound listener peer none = by_port (port_of config listener)
    where
      by_test : (guest : Endpoint) (t : Bool) → IsSound s sc.moment (next + 1) (if t then doom next b
          else opens config sc.moment next (tuple_for config guest peer) (Accepts (first_number sc.moment (length b.flows))) b)
      by_test guest true = same_sound sc.moment (next + 1) (doom next b) (omega arith) (omega arith) none refl
      by_test guest false = opened (Accepts (first_number sc.moment (length b.flows))) (tuple_for config guest peer) none tt refl none_came refl

      by_port : (port : Option Endpoint) → IsSound s sc.moment (next + 1) (visits_for config sc.moment next peer port b)
      by_port None = same_sound sc.moment (next + 1) (quiet b) (omega arith) (omega arith) none refl
      by_port (Some guest) = by_test guest (is_refused config guest peer b)

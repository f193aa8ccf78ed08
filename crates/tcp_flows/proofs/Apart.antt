-- No flow is in TIME-WAIT twice: the numbers of the flows in TIME-WAIT by a lawful trace differ.
use Rattle.std.proofs.Common.{refl, ◌≡◌, ℕ, ◌+◌, ◌==◌, ◌||◌, not, nat_le, Bool, true, false, cond, List, [], ◌∷◌, ◌++◌, drop, filter, length, map, Contains, zero, suc, Option, Some, None}
use Rattle.std.proofs.Common.{is_some, option_map, if◌then◌else◌, ap, sym, ◌∙◌, subst, arith}
use Rattle.std.proofs.lemmas.Bool.Decides.{nat_tests}
use Rattle.net_octets.specs.declared.Endpoint.{Endpoint}
use Rattle.world_face.specs.Journal.{Entry}
use Rattle.slirp_settings.specs.Addresses.{Config}
use Rattle.spec_flow.specs.Event.{Accepts, Segment}
use Rattle.spec_flow.specs.Close.{ends_time_wait, owes_reset, renews, in_time_wait_since}
use Rattle.spec_flow.specs.Flow.{first_number}
use Rattle.spec_flow.specs.Lawful.{IsLawful}
use Rattle.spec_flows.specs.Book.{after_close, after_segment, book, doom, is_refused, is_young, joins_for, make_room, opens, port_of, time_wait, scene, story_in, tuple_for, turned}
use Rattle.spec_flows.specs.Book.{visits_for, with_room, without}
use Rattle.spec_flows.specs.Doings.{Doing, Nothing, Comes, Goes, Resolves, Pauses, Joins, Visits, Calls, Shuts, doing}
use Rattle.spec_flows.specs.Flows.{Book, Flow, TimeWait, Scene, flow_of, owner, is_among_time_waits, shuts, used}
use Rattle.spec_flows.specs.Laws.{flow_settings}
use Rattle.spec_flows.specs.Segments.{OnTuple}
use Rattle.spec_flows.proofs.Apart.{found_told}
use Rattle.spec_flows.proofs.Keeping.{are_kept}
use Rattle.spec_flows.proofs.Laws.{is_lawful}
use Rattle.spec_trace.specs.Sockets.{is_among}
use Rattle.spec_run.specs.Laws.{Lawful}
use Rattle.spec_run.proofs.KeepingFlows.{keeps_flows}
use Rattle.sim_flows.specs.Seats.{Once}
use Rattle.sim_flows.proofs.InTimeWait.{in_use_awake}
use Rattle.tcp_flows.proofs.Begun.{has, rest_begun}

-- ---- numbers of TIME-WAITs

abbrev pub numbers : List TimeWait → List ℕ
numbers time_waits = map (λ (r : TimeWait). r.number) time_waits

turned_false : (a b : ℕ) → (a == b) ≡ false → (b == a) ≡ false
turned_false a b is = grind (arith, nat_tests, is)

turned_true : (a b : ℕ) → (a == b) ≡ true → (b == a) ≡ true
turned_true a b is = grind (arith, nat_tests, is)

neither : (a b : Bool) → (a || b) ≡ false → (a ≡ false) × (b ≡ false)
neither true b is = absurd cc
neither false b is = (refl, is)

none_of : (a b : Bool) → a ≡ false → b ≡ false → (a || b) ≡ false
none_of a b one two = rw (one, two) refl

none_filter : (test : TimeWait → Bool) (time_waits : List TimeWait) (n : ℕ) → is_among n (numbers time_waits) ≡ false → is_among n (numbers (filter test time_waits)) ≡ false
none_filter test [] n none = refl
none_filter test (r ∷ time_waits) n none =
    let both = neither (n == r.number) (is_among n (numbers time_waits)) none in
    by (test r) both.0 (none_filter test time_waits n both.1)
  where
    by : (b : Bool) → (n == r.number) ≡ false → is_among n (numbers (filter test time_waits)) ≡ false → is_among n (numbers (cond b (r ∷ filter test time_waits) (filter test time_waits))) ≡ false
    by true apart more = none_of (n == r.number) (is_among n (numbers (filter test time_waits))) apart more
    by false apart more = more

pub once_filter : (test : TimeWait → Bool) (time_waits : List TimeWait) → Once (numbers time_waits) → Once (numbers (filter test time_waits))
once_filter test [] once = tt
once_filter test (r ∷ time_waits) once = by (test r) (once_filter test time_waits once.1)
  where
    by : (b : Bool) → Once (numbers (filter test time_waits)) → Once (numbers (cond b (r ∷ filter test time_waits) (filter test time_waits)))
    by true more = (none_filter test time_waits r.number once.0, more)
    by false more = more

once_drop : (time_waits : List TimeWait) → Once (numbers time_waits) → Once (numbers (drop 1 time_waits))
once_drop [] once = tt
once_drop (r ∷ time_waits) once = once.1

none_more : (n m now : ℕ) (time_waits : List TimeWait) → is_among n (numbers time_waits) ≡ false → (n == m) ≡ false → is_among n (numbers (time_waits ++ time_wait m now ∷ [])) ≡ false
none_more n m now [] none apart = none_of (n == m) false apart refl
none_more n m now (r ∷ time_waits) none apart =
    let both = neither (n == r.number) (is_among n (numbers time_waits)) none in
    none_of (n == r.number) (is_among n (numbers (time_waits ++ time_wait m now ∷ []))) both.0 (none_more n m now time_waits both.1 apart)

once_more : (m now : ℕ) (time_waits : List TimeWait) → Once (numbers time_waits) → is_among m (numbers time_waits) ≡ false → Once (numbers (time_waits ++ time_wait m now ∷ []))
once_more m now [] once none = (refl, tt)
once_more m now (r ∷ time_waits) once none =
    let both = neither (m == r.number) (is_among m (numbers time_waits)) none in
    (none_more r.number m now time_waits once.0 (turned_false m r.number both.0), once_more m now time_waits once.1 both.1)

none_without : (n : ℕ) (time_waits : List TimeWait) → is_among n (numbers (without n time_waits)) ≡ false
none_without n [] = refl
none_without n (r ∷ time_waits) = by (r.number == n) refl (none_without n time_waits)
  where
    by : (b : Bool) → (r.number == n) ≡ b → is_among n (numbers (without n time_waits)) ≡ false → is_among n (numbers (cond (not b) (r ∷ without n time_waits) (without n time_waits))) ≡ false
    by true same more = more
    by false other more = none_of (n == r.number) (is_among n (numbers (without n time_waits))) (turned_false r.number n other) more

among_has : (n : ℕ) (time_waits : List TimeWait) → is_among n (numbers time_waits) ≡ true → has n time_waits ≡ true
among_has n [] is = absurd cc
among_has n (r ∷ time_waits) is = by (n == r.number) refl is (among_has n time_waits)
  where
    or_second : (a b : Bool) → b ≡ true → (a || b) ≡ true
    or_second true b is = refl
    or_second false b is = is

    by : (b : Bool) → (n == r.number) ≡ b → (b || is_among n (numbers time_waits)) ≡ true → (is_among n (numbers time_waits) ≡ true → has n time_waits ≡ true) → ((r.number == n) || has n time_waits) ≡ true
    by true same is go = ap (λ t. t || has n time_waits) (turned_true n r.number same)
    by false other is go = or_second (r.number == n) (has n time_waits) (go is)

-- one number has one rest
pub one_rest : (time_waits : List TimeWait) (x y : TimeWait) → Once (numbers time_waits) → Contains time_waits x → Contains time_waits y → x.number ≡ y.number → x ≡ y
one_rest [] x y once (k, low, here) has_y same = absurd (omega (arith, low))
one_rest (r ∷ time_waits) x y once (zero, low, here) (zero, low_y, here_y) same = sym here ∙ here_y
one_rest (r ∷ time_waits) x y once (zero, low, here) (suc j, low_y, here_y) same =
    absurd (apart r time_waits y (j, omega (arith, low_y), here_y) (ap (λ (z : TimeWait). z.number) here ∙ same) once.0)
  where
    apart : (r : TimeWait) (time_waits : List TimeWait) (z : TimeWait) → Contains time_waits z → r.number ≡ z.number → is_among r.number (numbers time_waits) ≡ false → ⊥
    apart r [] z (k, low, here) is none = absurd (omega (arith, low))
    apart r (q ∷ time_waits) z (zero, low, here) is none =
        let same_q : r.number ≡ q.number = is ∙ sym (ap (λ (u : TimeWait). u.number) here) in
        let both = neither (r.number == q.number) (is_among r.number (numbers time_waits)) none in
        let one = both.0 in absurd (grind (arith, nat_tests, one, same_q))
    apart r (q ∷ time_waits) z (suc k, low, here) is none = apart r time_waits z (k, omega (arith, low), here) is (neither (r.number == q.number) (is_among r.number (numbers time_waits)) none).1
one_rest (r ∷ time_waits) x y once (suc k, low, here) (zero, low_y, here_y) same =
    absurd (apart r time_waits x (k, omega (arith, low), here) (ap (λ (z : TimeWait). z.number) here_y ∙ sym same) once.0)
  where
    apart : (r : TimeWait) (time_waits : List TimeWait) (z : TimeWait) → Contains time_waits z → r.number ≡ z.number → is_among r.number (numbers time_waits) ≡ false → ⊥
    apart r [] z (k, low, here) is none = absurd (omega (arith, low))
    apart r (q ∷ time_waits) z (zero, low, here) is none =
        let same_q : r.number ≡ q.number = is ∙ sym (ap (λ (u : TimeWait). u.number) here) in
        let both = neither (r.number == q.number) (is_among r.number (numbers time_waits)) none in
        let one = both.0 in absurd (grind (arith, nat_tests, one, same_q))
    apart r (q ∷ time_waits) z (suc k, low, here) is none = apart r time_waits z (k, omega (arith, low), here) is (neither (r.number == q.number) (is_among r.number (numbers time_waits)) none).1
one_rest (r ∷ time_waits) x y once (suc k, low, here) (suc j, low_y, here_y) same = one_rest time_waits x y once.1 (k, omega (arith, low), here) (j, omega (arith, low_y), here_y) same

-- ---- what each doing makes of them

module _ (config : Config) (sc : Scene) (b : Book) (once : Once (numbers b.time_waits)) where
  heard : (segment : Segment) (o : Option Flow) → Once (numbers (after_segment sc.moment segment o b.time_waits))
  heard segment None = once
  heard segment (Some f) = by_tests (not (is_among_time_waits b.time_waits (Some f))) (ends_time_wait f.story segment) (renews segment)
    where
      fewer : Once (numbers (without f.number b.time_waits))
      fewer = once_filter (λ (r : TimeWait). not (r.number == f.number)) b.time_waits once

      by_tests : (out ends anew : Bool) → Once (numbers (if out then b.time_waits
          else (if ends then without f.number b.time_waits else (if anew then without f.number b.time_waits ++ (time_wait f.number sc.moment ∷ []) else b.time_waits))))
      by_tests true ends anew = once
      by_tests false true anew = fewer
      by_tests false false true = once_more f.number sc.moment (without f.number b.time_waits) fewer (none_without f.number b.time_waits)
      by_tests false false false = once

  roomy : Once (numbers (with_room config b))
  roomy = by_test (nat_le config.flows (used b.flows + length b.time_waits))
    where
      by_test : (t : Bool) → Once (numbers (if t then drop 1 b.time_waits else b.time_waits))
      by_test true = once_drop b.time_waits once
      by_test false = once

  room : (o : Option Flow) → Once (numbers (make_room config o b))
  room None = roomy
  room (Some f) = by_test (is_among_time_waits b.time_waits (Some f))
    where
      by_test : (t : Bool) → Once (numbers (if t then without f.number b.time_waits else with_room config b))
      by_test true = once_filter (λ (r : TimeWait). not (r.number == f.number)) b.time_waits once
      by_test false = roomy

  joined : (socket : ℕ) (came : Option OnTuple) → Once (numbers (joins_for config sc.moment socket came b).time_waits)
  joined socket None = once
  joined socket (Some on) = room (owner on.tuple b.flows)

  visited : (socket : ℕ) (peer : Endpoint) (port : Option Endpoint) → Once (numbers (visits_for config sc.moment socket peer port b).time_waits)
  visited socket peer None = once
  visited socket peer (Some guest) = by_test (is_refused config guest peer b)
    where
      by_test : (t : Bool) → Once (numbers (if t then doom socket b
          else opens config sc.moment socket (tuple_for config guest peer) (Accepts (first_number sc.moment (length b.flows))) b).time_waits)
      by_test true = once
      by_test false = room (owner (tuple_for config guest peer) b.flows)

  -- a flow that is closed didn't rest before
  closed : (o : Option Flow) → ((f : Flow) → o ≡ Some f → is_among f.number (numbers b.time_waits) ≡ false) → Once (numbers (after_close sc.moment o b.time_waits))
  closed None awake = once
  closed (Some f) awake = by_test (is_some (in_time_wait_since f.story))
    where
      by_test : (t : Bool) → Once (numbers (if t then b.time_waits ++ (time_wait f.number sc.moment ∷ []) else b.time_waits))
      by_test true = once_more f.number sc.moment b.time_waits once (awake f refl)
      by_test false = once

  turned_once : (d : Doing) → ((socket : ℕ) (f : Flow) → d ≡ Shuts socket → flow_of socket (turned config sc d b).flows ≡ Some f → is_among f.number (numbers b.time_waits) ≡ false) →
      Once (numbers (turned config sc d b).time_waits)
  turned_once Nothing awake = once
  turned_once (Comes on) awake = heard on.segment (owner on.tuple b.flows)
  turned_once (Goes on) awake = once
  turned_once (Resolves guest) awake = once
  turned_once Pauses awake = once_filter (is_young sc.moment) b.time_waits once
  turned_once (Joins socket) awake = joined socket b.came
  turned_once (Visits listener socket peer) awake = visited socket peer (port_of config listener)
  turned_once (Calls socket e) awake = once
  turned_once (Shuts socket) awake = closed (flow_of socket (turned config sc (Shuts socket) b).flows) (λ f found. awake socket f refl found)

-- ---- a lawful trace

not_true : (b : Bool) → (b ≡ true → ⊥) → b ≡ false
not_true true never = absurd (never refl)
not_true false never = refl

some_flow : (f g : Flow) → ◌≡◌ {A = Option Flow} (Some f) (Some g) → f ≡ g
some_flow f g is = cc

none_flow : (f : Flow) → ◌≡◌ {A = Option Flow} None (Some f) → ⊥
none_flow f is = cc

module _ (config : Config) (e : Entry) (past : List Entry) (lawful : Lawful config (e ∷ past)) (socket : ℕ) where
  abbrev b : Book
  b = book config past

  abbrev change : Flow → Flow
  change = shuts (scene config past) b.came

  -- a flow that is being closed is open, so it isn't in TIME-WAIT
  awake : (f : Flow) → doing config past e ≡ Shuts socket → flow_of socket (book config (e ∷ past)).flows ≡ Some f → is_among f.number (numbers b.time_waits) ≡ false
  awake f shut found = by (flow_of socket b.flows) refl
    where
      told : flow_of socket (book config (e ∷ past)).flows ≡ option_map change (flow_of socket b.flows)
      told = ap (λ d. flow_of socket (turned config (scene config past) d b).flows) shut ∙ found_told socket change (λ g. refl) b.flows

      by : (o : Option Flow) → flow_of socket b.flows ≡ o → is_among f.number (numbers b.time_waits) ≡ false
      by None was = absurd (none_flow f (sym (told ∙ ap (option_map change) was) ∙ found))
      by (Some g) was = not_true (is_among f.number (numbers b.time_waits)) (λ among. rest_begun config (flow_settings config) past socket g
          (are_kept config past (keeps_flows config past lawful.1)).differ was lawful_g (subst (λ n. has n b.time_waits ≡ true) (ap (λ (x : Flow). x.number) (sym same))
          (among_has f.number b.time_waits among)) open_g)
        where
          same : change g ≡ f
          same = some_flow (change g) f (sym (told ∙ ap (option_map change) was) ∙ found)

          said : IsLawful (flow_settings config) (change g).story
          said = subst (λ (o : Option Flow). IsLawful (flow_settings config) (story_in o)) (told ∙ ap (option_map change) was)
              (is_lawful config (e ∷ past) socket (keeps_flows config (e ∷ past) lawful))

          lawful_g : IsLawful (flow_settings config) g.story
          lawful_g = said.1

          open_g : in_time_wait_since g.story ≡ None
          open_g = in_use_awake g.story (ap (λ t. not t || owes_reset g.story) said.0.calls_open_socket)

pub are_once : (config : Config) (past : List Entry) → Lawful config past → Once (numbers (book config past).time_waits)
are_once config [] lawful = tt
are_once config (e ∷ past) lawful =
    turned_once config (scene config past) (book config past) (are_once config past lawful.1) (doing config past e)
    (λ socket f shut found. awake config e past lawful socket f shut found)

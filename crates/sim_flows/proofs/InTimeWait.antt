-- What is about a flow in use leaves the flows in TIME-WAIT as they are.
use Rattle.std.proofs.Common.{◌≡◌, ℕ, ◌==◌, ◌&&◌, ◌||◌, Bool, true, false, not, List, [], ◌∷◌, ◌++◌, Option, Some, None, is_some, if◌then◌else◌, refl, sym, ◌∙◌, ap}
use Rattle.world_face.specs.Journal.{Entry}
use Rattle.slirp_settings.specs.Addresses.{Config}
use Rattle.spec_flow.specs.Event.{Segment, Connects, Accepts, Arrives, Departs, Closes, At, Story}
use Rattle.spec_flow.specs.Flow.{is_accepted, is_closed, syn_is_out}
use Rattle.spec_flow.specs.Close.{is_done, follows_reset, host_failed, gives_up, must_part, waits_too_long, owes_reset, is_owed_reset, is_in_use, ended_first, ends_time_wait, renews, renewed, in_time_wait_since}
use Rattle.spec_flows.specs.Book.{after_segment, after_close, without, time_wait, turned, scene, book}
use Rattle.spec_flows.specs.Flows.{Flow, TimeWait, Book, Scene, owner, flow_of, uses, is_among_time_waits}
use Rattle.spec_flows.specs.Doings.{Doing, Nothing, Comes, Goes, Resolves, Pauses, Joins, Visits, Calls, Shuts, doing}
use Rattle.spec_flows.specs.Touching.{has_number}
use Rattle.sim_flows.specs.Only.{IsOf, AreOf, StaysInUse}

-- a segment of a flow that isn't in TIME-WAIT
segment_apart : (now : ℕ) (seg : Segment) (o : Option Flow) (time_waits : List TimeWait) → is_among_time_waits time_waits o ≡ false → after_segment now seg o time_waits ≡ time_waits
segment_apart now seg None time_waits none = refl
segment_apart now seg (Some f) time_waits none =
    ap (λ b. if not b then time_waits else (if ends_time_wait f.story seg then without f.number time_waits else (if renews seg then without f.number time_waits ++ (time_wait f.number now ∷ []) else time_waits))) none

-- a close after which the flow isn't in TIME-WAIT
close_apart : (now : ℕ) (o : Option Flow) (time_waits : List TimeWait) → ((f : Flow) → o ≡ Some f → in_time_wait_since f.story ≡ None) → after_close now o time_waits ≡ time_waits
close_apart now None time_waits none = refl
close_apart now (Some f) time_waits none = ap (λ s. if is_some s then time_waits ++ (time_wait f.number now ∷ []) else time_waits) (none f refl)

pub rests_apart : (config : Config) (at : Scene) (number : ℕ) (b : Book) (h : Doing) → IsOf number b h
    → ((f : Flow) → (f.number == number) ≡ true → is_among_time_waits b.time_waits (Some f) ≡ false)
    → ((f : Flow) → flow_of number (turned config at h b).flows ≡ Some f → in_time_wait_since f.story ≡ None)
    → (turned config at h b).time_waits ≡ b.time_waits
rests_apart config at number b Nothing is awake after = refl
rests_apart config at number b (Comes on) is awake after = segment_apart at.moment on.segment (owner on.tuple b.flows) b.time_waits (of_owner (owner on.tuple b.flows) is)
  where
    of_owner : (o : Option Flow) → has_number number o ≡ true → is_among_time_waits b.time_waits o ≡ false
    of_owner None is = absurd cc
    of_owner (Some f) is = awake f is
rests_apart config at number b (Goes on) is awake after = refl
rests_apart config at number b (Calls socket event) is awake after = refl
rests_apart config at number b (Shuts socket) is awake after =
    close_apart at.moment (flow_of socket (turned config at (Shuts socket) b).flows) b.time_waits
    (λ f found. after f (ap (λ n. flow_of n (turned config at (Shuts socket) b).flows) (sym is) ∙ found))
rests_apart config at number b (Resolves guest) is awake after = absurd is
rests_apart config at number b Pauses is awake after = absurd is
rests_apart config at number b (Joins socket) is awake after = absurd is
rests_apart config at number b (Visits listener socket peer) is awake after = absurd is

-- ---- a flow in use isn't in TIME-WAIT

is_time_wait_by : (ends renews : Bool) (now : ℕ) (o : Option ℕ) → o ≡ None → (if ends then None else renewed renews now o) ≡ None
is_time_wait_by true renews now o none = refl
is_time_wait_by false renews now o none = ap (renewed renews now) none ∙ nothing renews
  where
    nothing : (b : Bool) → renewed b now None ≡ None
    nothing true = refl
    nothing false = refl

open_awake : (s : Story) → is_closed s ≡ false → in_time_wait_since s ≡ None
open_awake [] open_is = refl
open_awake (At m (Closes directly ended known) ∷ s) open_is = absurd cc
open_awake (At m (Arrives seg) ∷ s) open_is = is_time_wait_by (ends_time_wait s seg) (renews seg) m (in_time_wait_since s) (open_awake s open_is)
open_awake (At m (Connects ours theirs) ∷ s) open_is = open_awake s open_is
open_awake (At m (Accepts ours) ∷ s) open_is = open_awake s open_is
open_awake (At m (Departs seg) ∷ s) open_is = open_awake s open_is
open_awake (At m _ ∷ s) open_is = open_awake s open_is

closing_awake : (done reset first cause syn : Bool) (m : ℕ) → (not done && not reset && cause && syn) ≡ true → (if done && not reset && first then Some m else None) ≡ None
closing_awake true reset first cause syn m owes = absurd cc
closing_awake false reset first cause syn m owes = refl

owing_awake : (s : Story) → owes_reset s ≡ true → in_time_wait_since s ≡ None
owing_awake [] owes = refl
owing_awake (At m (Closes directly ended known) ∷ s) owes =
    closing_awake (is_done s) (follows_reset directly s) (ended_first s) (must_part m s || (not ended && (gives_up m s || waits_too_long m s))) (not (is_accepted s && not (syn_is_out s))) m owes
owing_awake (At m (Arrives seg) ∷ s) owes = is_time_wait_by (ends_time_wait s seg) (renews seg) m (in_time_wait_since s) (owing_awake s owes)
owing_awake (At m (Departs seg) ∷ s) owes = owing_awake s (first_is (owes_reset s) (not (is_owed_reset s seg)) owes)
  where
    first_is : (a b : Bool) → (a && b) ≡ true → a ≡ true
    first_is true b is = refl
    first_is false b is = cc
owing_awake (At m _ ∷ s) owes = owing_awake s owes

pub in_use_awake : (s : Story) → is_in_use s ≡ true → in_time_wait_since s ≡ None
in_use_awake s uses = by_test (is_closed s) refl uses
  where
    by_test : (b : Bool) → is_closed s ≡ b → (not b || owes_reset s) ≡ true → in_time_wait_since s ≡ None
    by_test true closed owes = owing_awake s owes
    by_test false open_is owes = open_awake s open_is

-- ---- entries

-- the flow is in use after each of the entries
pub stays_out : (config : Config) (number : ℕ) (past made : List Entry) → AreOf config number past made → StaysInUse config number past made
    → ((f : Flow) → (f.number == number) ≡ true → is_among_time_waits (book config past).time_waits (Some f) ≡ false) → (book config (made ++ past)).time_waits ≡ (book config past).time_waits
stays_out config number past [] are in_use awake = refl
stays_out config number past (e ∷ made) are in_use awake =
    let before = stays_out config number past made are.1 in_use.1 awake in
    rests_apart config (scene config (made ++ past)) number (book config (made ++ past)) (doing config (made ++ past) e) are.0
    (λ f same. ap (λ (r : List TimeWait). is_among_time_waits r (Some f)) before ∙ awake f same)
    (λ f found. in_use_awake f.story (sym (ap uses found) ∙ in_use.0))
    ∙ before

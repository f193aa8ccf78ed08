-- The laws of flows in a run, from those of one flow.
use Rattle.std.proofs.Common.{◌≡◌, ℕ, ◌+◌, ◌<◌, ◌≤◌, ◌||◌, nat_lt, Bool, true, false, List, ◌∷◌, length, Option, Some, None, option_and_then, if◌then◌else◌, refl, sym, ◌∙◌, ap, subst, arith}
use Rattle.std.proofs.lemmas.Bool.Decides.{nat_tests}
use Rattle.net_octets.specs.declared.Endpoint.{Endpoint}
use Rattle.world_face.specs.Journal.{Entry, Close, Connect, TcpRead, CallConnect}
use Rattle.world_face.specs.declared.Io.{Io}
use Rattle.world_face.specs.declared.Made.{Made}
use Rattle.slirp_settings.specs.Addresses.{Config}
use Rattle.host_policy.specs.Targets.{target}
use Rattle.slirp_settings.specs.declared.Proto.TheVariants.{Tcp as OverTcp}
use Rattle.host_policy.specs.declared.Verdict.{Verdict}
use Rattle.host_policy.specs.declared.Verdict.TheVariants.{Go, Denied}
use Rattle.spec_flow.specs.Dutiful.{IsDutiful, read_size}
use Rattle.spec_flow.specs.Event.{IsStory}
use Rattle.spec_flow.specs.Flow.{guest}
use Rattle.spec_flow.specs.Guest.{Conforming, IsAcknowledged, front}
use Rattle.spec_flow.specs.Lawful.{HasCause, IsLawful, IsPrefixOf}
use Rattle.spec_flow.proofs.FoundRoom.{acknowledged_has_room}
use Rattle.spec_flow.proofs.GuestLaws.{written_is_a_prefix}
use Rattle.spec_trace.specs.Moments.{moment}
use Rattle.spec_trace.specs.Sockets.{next_number}
use Rattle.spec_flows.specs.Book.{book, scene, story, story_in}
use Rattle.spec_flows.specs.Flows.{Flow, Book, comes_directly, comes_last, flow_of, guest_is_known, is_numbered, is_used, used, has_time_wait}
use Rattle.spec_flows.specs.Laws.{flow_settings, AsksForRoom, MayShut, KeepsFlows}
use Rattle.spec_flows.specs.SegmentVerdicts.{OfFlow, Dropped, GetsReset, asked_for, connects_to, due_by, due_for_flows, is_opening, is_to_many, segment_verdict, verdict_by_policy}
use Rattle.spec_flows.specs.Said.{Kept, taken_on, ConnectsAsAsked}
use Rattle.spec_flows.specs.Segments.{OnTuple}
use Rattle.spec_flows.proofs.Agreeing.{taken_is}
use Rattle.spec_flows.proofs.Keeping.{are_kept}
use Rattle.spec_flows.proofs.Lists.{each_found}

pub keeps_the_law : (config : Config) (past : List Entry) (number : ℕ) (f : Flow) → KeepsFlows config past → flow_of number (book config past).flows ≡ Some f
    → Kept (flow_settings config) (moment past) (book config past).doomed f
keeps_the_law config past number f keeps is =
    each_found (Kept (flow_settings config) (moment past) (book config past).doomed) (is_numbered number) (book config past).flows f (are_kept config past keeps).each is

module _ (config : Config) (past : List Entry) (number : ℕ) (keeps : KeepsFlows config past) where
  -- a socket that is no flow's has an empty story, of which the law holds as well
  by_flow : (o : Option Flow) → flow_of number (book config past).flows ≡ o → IsLawful (flow_settings config) (story_in o)
  by_flow None is = tt
  by_flow (Some f) is = (keeps_the_law config past number f keeps is).lawful

  pub is_lawful : IsLawful (flow_settings config) (story config past number)
  is_lawful = by_flow (flow_of number (book config past).flows) refl

  done_by : (o : Option Flow) → flow_of number (book config past).flows ≡ o → IsDutiful (flow_settings config) (story_in o)
  done_by None is = tt
  done_by (Some f) is = (keeps_the_law config past number f keeps is).dutiful

  pub is_dutiful : IsDutiful (flow_settings config) (story config past number)
  is_dutiful = done_by (flow_of number (book config past).flows) refl

  pub is_story : (f : Flow) → flow_of number (book config past).flows ≡ Some f → IsStory (story config past number)
  is_story f is = subst (λ o. IsStory (story_in o)) (sym is) (keeps_the_law config past number f keeps is).story

  pub taken_begins : Conforming (guest (story config past number)) → IsPrefixOf (taken_on number past) (front (guest (story config past number)))
  taken_begins conforming = subst (λ xs. IsPrefixOf xs (front (guest (story config past number)))) (taken_is config number past keeps)
      (written_is_a_prefix (flow_settings config) (story config past number) is_lawful conforming)

  pub found_room : Conforming (guest (story config past number)) → (a : ℕ) → IsAcknowledged (guest (story config past number)) a → a ≤ length (taken_on number past) + config.ring
  found_room conforming a acked = subst (λ xs. a ≤ length xs + config.ring) (taken_is config number past keeps)
      (acknowledged_has_room (flow_settings config) (story config past number) is_dutiful conforming a acked)

-- ---- connects

pub connects_as_asked : (config : Config) (b : Book) (number socket : ℕ) (to : Endpoint) → due_for_flows config b number ≡ Some (CallConnect socket to) → ConnectsAsAsked config b to
connects_as_asked config b number socket to is = by_came b.came refl (asks b.doomed (connects_to config b) is)
  where
    asks : (doomed : Option ℕ) (o : Option Endpoint) → due_by doomed o number ≡ Some (CallConnect socket to) → o ≡ Some to
    asks (Some n) o is = cc
    asks None None is = cc
    asks None (Some e) is = cc

    both : (a c : Bool) → (a || c) ≡ false → (a ≡ false) × (c ≡ false)
    both true c is = cc
    both false c is = (refl, is)

    goes : (v : Verdict) (room : Bool) → asked_for (verdict_by_policy v room) ≡ Some to → (v ≡ Go to) × (room ≡ true)
    goes (Go at) true is = (cc, refl)
    goes (Go at) false is = cc
    goes (Denied rule) room is = cc

    by_opening : (on : OnTuple) → (t : Bool) → is_opening on.segment ≡ t
        → asked_for (if t then verdict_by_policy (target config OverTcp on.tuple.other) (nat_lt (used b.flows) config.flows) else GetsReset) ≡ Some to
        → (is_opening on.segment ≡ true) × (target config OverTcp on.tuple.other ≡ Go to) × (nat_lt (used b.flows) config.flows ≡ true)
    by_opening on true opening is = let parts = goes (target config OverTcp on.tuple.other) (nat_lt (used b.flows) config.flows) is in (opening, parts.0, parts.1)
    by_opening on false opening is = cc

    by_dropped : (on : OnTuple) → (t : Bool)
        → asked_for (if t then Dropped else (if is_opening on.segment then verdict_by_policy (target config OverTcp on.tuple.other) (nat_lt (used b.flows) config.flows) else GetsReset)) ≡ Some to
        → (is_opening on.segment ≡ true) × (target config OverTcp on.tuple.other ≡ Go to) × (nat_lt (used b.flows) config.flows ≡ true)
    by_dropped on true is = cc
    by_dropped on false is = by_opening on (is_opening on.segment) refl is

    by_owner : (on : OnTuple) → (t : Bool) → (is_used on.tuple b.flows || has_time_wait on.tuple b) ≡ t
        → asked_for (if t then OfFlow else (if on.segment.rst || is_to_many config on.tuple.other then Dropped
        else (if is_opening on.segment then verdict_by_policy (target config OverTcp on.tuple.other) (nat_lt (used b.flows) config.flows) else GetsReset))) ≡ Some to
        → ((is_used on.tuple b.flows || has_time_wait on.tuple b) ≡ false) × (is_opening on.segment ≡ true) × (target config OverTcp on.tuple.other ≡ Go to) × (nat_lt (used b.flows) config.flows ≡ true)
    by_owner on true has is = cc
    by_owner on false has is = let parts = by_dropped on (on.segment.rst || is_to_many config on.tuple.other) is in (has, parts.0, parts.1, parts.2)

    less : (n m : ℕ) → nat_lt n m ≡ true → n < m
    less n m is = grind (arith, nat_tests, is)

    by_came : (came : Option OnTuple) → b.came ≡ came → option_and_then (λ on. asked_for (segment_verdict config b on)) b.came ≡ Some to → ConnectsAsAsked config b to
    by_came None is asked = absurd (none_some (sym (ap (option_and_then (λ on. asked_for (segment_verdict config b on))) is) ∙ asked))
      where
        none_some : None ≡ Some to → ⊥
        none_some is = cc
    by_came (Some on) is asked =
        let parts = by_owner on (is_used on.tuple b.flows || has_time_wait on.tuple b) refl (sym (ap (option_and_then (λ on. asked_for (segment_verdict config b on))) is) ∙ asked) in
        let apart = both (is_used on.tuple b.flows) (has_time_wait on.tuple b) parts.0 in
        record {
          on = on;
          came = is;
          opening = parts.1;
          free = apart.0;
          awake = apart.1;
          room = less (used b.flows) config.flows parts.3;
          target = parts.2;
        }

pub connected_as_asked : (config : Config) (past : List Entry) (socket : ℕ) (to : Endpoint) (answer : Made) → KeepsFlows config (Connect socket to answer ∷ past) →
    ConnectsAsAsked config (book config past) to
connected_as_asked config past socket to answer keeps = connects_as_asked config (book config past) (next_number past) socket to keeps.0.touches

-- ---- closes

pub closed_for_cause : (config : Config) (past : List Entry) (socket : ℕ) (f : Flow) → KeepsFlows config (Close socket ∷ past) → flow_of socket (book config past).flows ≡ Some f
    → HasCause (comes_directly (book config past).came f) (comes_last (scene config past) f) (guest_is_known (scene config past) f) (moment past) f.story
closed_for_cause config past socket f keeps is =
    (subst (MayShut (flow_settings config) (scene config past) (book config past).came) is keeps.0.touches).closes_with_cause

-- ---- reads

pub read_asks : (config : Config) (past : List Entry) (socket asked : ℕ) (answer : Io) (octets : List ℕ) (f : Flow) → KeepsFlows config
    (TcpRead socket asked answer octets ∷ past) → flow_of socket (book config past).flows ≡ Some f
    → asked ≡ read_size (flow_settings config) f.story
read_asks config past socket asked answer octets f keeps is = subst (λ o. AsksForRoom (flow_settings config) o asked) is keeps.0.must.1

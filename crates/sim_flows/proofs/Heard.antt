-- A segment came on the two ends of a slot: its flow is told, and the slots stand for the flows of the trace again, once the slot follows the flow's place.
use Rattle.std.proofs.Common.{◌≡◌, ℕ, ◌==◌, not, Bool, true, false, List, [], ◌∷◌, ◌++◌, length, set, slice_get, Option, Some, None, if◌then◌else◌, inl, inr, refl, sym, ◌∙◌, ap, subst, append_assoc}
use Rattle.std.specs.Prelude.{Contains}
use Rattle.std.proofs.lemmas.List.{length-set}
use Rattle.net_octets.specs.declared.Mac.{Mac}
use Rattle.world_face.specs.Journal.{Entry}
use Rattle.slirp_settings.specs.Addresses.{Config}
use Rattle.spec_trace.specs.Moments.{moment}
use Rattle.spec_trace.specs.Sockets.{next_number}
use Rattle.flow_table.specs.Slots.{flows, moved_last}
use Rattle.flow_table.specs.declared.Slot.{Slot}
use Rattle.flow_table.specs.declared.Slot.TheVariants.{Free, InTimeWait}
use Rattle.spec_flows.specs.declared.Tuple.{Tuple}
use Rattle.spec_flow.specs.Event.{Arrives, At, Story}
use Rattle.spec_flow.specs.Close.{ends_time_wait, host_failed, is_in_use, renewed, renews, in_time_wait_since}
use Rattle.spec_flows.specs.Book.{after_segment, book, time_wait, scene, turned, without}
use Rattle.spec_flows.specs.Doings.{Comes, doing}
use Rattle.spec_flows.specs.Flows.{Book, Flow, TimeWait, comes_directly, comes_last, flow_of, guest_is_known, owner, is_among_time_waits, uses, with_event}
use Rattle.spec_flows.specs.Laws.{flow_settings}
use Rattle.spec_flows.specs.SegmentVerdicts.{due_for_flows}
use Rattle.spec_flows.specs.Segments.{OnTuple}
use Rattle.spec_flows.specs.Taught.{taught}
use Rattle.spec_flows.proofs.Apart.{own_arrival}
use Rattle.sim_flows.specs.FlowsHold.{FlowsState}
use Rattle.sim_flows.specs.Only.{AreOf, IsOf, Only}
use Rattle.sim_flows.specs.Seats.{IsSlotOf, Once, Seats, number_in}
use Rattle.sim_flows.proofs.Holding.{taught_on}
use Rattle.sim_flows.proofs.Laying.{seats_renewed}
use Rattle.sim_flows.proofs.Only.{number_of_found, only_happens}
use Rattle.sim_flows.proofs.InTimeWait.{in_use_awake}
use Rattle.sim_flows.proofs.Seats.{differ, same_or_not}
use Rattle.sim_flows.proofs.Tables.{get_set_other, get_set_same}
use Rattle.sim_flows.proofs.Waking.{seats_woken}
use Rattle.spec_run.specs.Laws.{Lawful, joins}
use Rattle.flow_splice.specs.Follows.{FollowsAt}
use Rattle.flow_splice.specs.Splice.{Face, Splice, is_in_time_wait, is_in_use as is_used_at}
use Rattle.flow_splice.specs.declared.Place.{Place}
use Rattle.flow_splice.specs.declared.Place.TheVariants.{Empty, InUse as Used, InTimeWait as Rests}
use Rattle.flow_splice.proofs.Promises.{lawful_is, place_is, rest_is, rest_none}
use Rattle.flow_splice.specs.Entries.{AreEvents}
use Rattle.flow_splice.specs.Shapes.{is_at_most_a_close}
use Rattle.sim_flows.specs.Core.{CoreHolds, Following, ends_of, mac_of, number_of}
use Rattle.sim_flows.specs.Stands.{HasFlow, InWork, close_if, slot_at, with_time_wait}
use Rattle.sim_flows.proofs.Coming.{after_arrival, came_directly, closes_or_not, of_arrival}
use Rattle.sim_flows.proofs.Hosting.{Called as CalledThen, Ready}
use Rattle.sim_flows.proofs.Looking.{rests_any}
use Rattle.sim_flows.proofs.Pumped.{Called, as_many, core_called, core_has, state_at}
use Rattle.sim_flows.proofs.Settling.{Seated, seats_kept}
use Rattle.sim_flows.proofs.Writing.{owner_is}
use Rattle.sim_flows.proofs.Options.{none_some, some_same}

-- a flow that follows its story has no call that failed last
pub follows_well : (config : Config) (now : ℕ) (q : Splice) (story : Story) → Following config now q story → host_failed story ≡ false
follows_well config now q story follows = by q.place q.shut follows
  where
    by : (x : Place) (b : Bool) → FollowsAt x b (flow_settings config) q story now → host_failed story ≡ false
    by Empty b free = free.over.well
    by Used true owing = owing.over.well
    by Used false open_yet = open_yet.holds.goes.well
    by (Rests since) b in_time_wait = in_time_wait.time_waits.over.well

-- entries of one flow, and more of it
of_then : (config : Config) (n : ℕ) (past made : List Entry) (e : Entry) → IsOf n (book config past) (doing config past e) → AreOf config n (e ∷ past) made → AreOf config n past (made ++ (e ∷ []))
of_then config n past [] e one are = (one, tt)
of_then config n past (d ∷ made) e one are =
    (subst (λ (l : List Entry). IsOf n (book config l) (doing config l d)) (sym (append_assoc made (e ∷ []) past)) are.0, of_then config n past made e one are.1)

module _ (config : Config) (state : FlowsState Splice) (past : List Entry) (now : ℕ) (holds : CoreHolds config now false None state past) (moment_is : moment past ≡ now)
    (lawful_before : Lawful config past)
    (k : ℕ) (p q : Splice) (t : Tuple) (f : Flow) (at : slice_get state.slots k ≡ Some (Some p)) (slot : slice_get state.table.slots k ≡ Some (slot_at p.place t)) (same : q.face ≡ p.face)
    (was : flow_of (number_of p) (book config past).flows ≡ Some f) (ends : f.tuple ≡ ends_of p.face) (once : Once state.table.time_wait_order)
    (e : Entry) (on : OnTuple) (comes : doing config past e ≡ Comes on) (on_ends : on.tuple ≡ ends_of p.face) (next_is : next_number (e ∷ past) ≡ next_number past)
    (learnt : (m : Mac) → q.mac ≡ Some m → Contains (taught config (e ∷ past)) (f.tuple.guest.addr, m)) where
  has : HasFlow config p.face f past
  has = core_has config state past now false holds lawful_before k p f at was ends

  abbrev pub beat : Story
  beat = At now (Arrives on.segment) ∷ f.story

  abbrev pub told : Flow
  told = with_event now (Arrives on.segment) f

  new : book config (e ∷ past) ≡ turned config (scene config past) (Comes on) (book config past)
  new = ap (λ d. turned config (scene config past) d (book config past)) comes

  of_it : IsOf (number_of p) (book config past) (doing config past e)
  of_it = of_arrival config p.face f past e on has holds.seats.differ comes on_ends

  only : Only (number_of p) (book config past).flows (book config (e ∷ past)).flows
  only = only_happens config (scene config past) (number_of p) (book config past) holds.seats.differ (doing config past e) of_it

  seat_slot : (s : Slot) → slice_get state.table.slots k ≡ Some s → IsSlotOf (book config past).time_waits f s
  seat_slot s here =
      let seat = holds.seats.seated k p at in
      subst (λ (x : Slot). IsSlotOf (book config past).time_waits f x) (some_same seat.1 s (sym seat.5 ∙ here)) (subst (λ (x : Flow). IsSlotOf (book config past).time_waits x seat.1)
      (some_same seat.0 f (sym seat.2 ∙ was)) seat.6)

  followed : Following config now p f.story
  followed = let seat = holds.seats.seated k p at in subst (λ (x : Flow). Following config now p x.story) (some_same seat.0 f (sym seat.2 ∙ was)) seat.4

  number_is : f.number ≡ number_of p
  number_is = number_of_found (number_of p) (book config past).flows f was

  owner_here : owner on.tuple (book config past).flows ≡ Some f
  owner_here = ap (λ u. owner u (book config past).flows) on_ends ∙ owner_is config p.face f past has holds.seats.differ

  -- ---- a flow that is in use

  module _ (in_use : is_in_use f.story ≡ true) (lawful : Lawful config (e ∷ past)) (work : InWork config (e ∷ past)) (moment_then : moment (e ∷ past) ≡ now)
      (same_socket : joins (e ∷ past) (number_of p) ≡ joins past (number_of p))
      (awake : is_among_time_waits (book config past).time_waits (Some f) ≡ false) (mac : Option Mac) (ident : ℕ) (made : List Entry) (beats : Story) (few : is_at_most_a_close made ≡ true) where
    abbrev pub ended : Bool
    ended = comes_last (scene config (e ∷ past)) told

    abbrev pub known : Bool
    known = guest_is_known (scene config (e ∷ past)) told

    rests_same : (book config (e ∷ past)).time_waits ≡ (book config past).time_waits
    rests_same =
        ap (λ (b : Book). b.time_waits) new
        ∙ ap (λ o. after_segment (moment past) on.segment o (book config past).time_waits) owner_here
        ∙ ap (λ b. if not b then (book config past).time_waits else (if ends_time_wait f.story on.segment then without f.number (book config past).time_waits else
        (if renews on.segment then without f.number (book config past).time_waits ++ (time_wait f.number (moment past) ∷ []) else (book config past).time_waits))) awake

    has_then : HasFlow config p.face told (e ∷ past)
    has_then = subst (λ m. HasFlow config p.face (with_event m (Arrives on.segment) f) (e ∷ past)) moment_is
        (after_arrival config p.face f past e on has holds.seats.differ comes on_ends same_socket (inl in_use))

    ready : Ready config p.face told (e ∷ past) now ended known
    ready = record { lawful = lawful; work = work; has = has_then; at = moment_then; knows = refl; last = λ open_yet. refl }

    direct : (book config (e ∷ past)).came ≡ Some on → comes_directly (book config (e ∷ past)).came told ≡ true
    direct came = subst (λ m. comes_directly (book config (e ∷ past)).came (with_event m (Arrives on.segment) f) ≡ true) moment_is
        (came_directly config p.face f past e on has holds.seats.differ comes on_ends)

    module _ (are : AreEvents (flow_settings config) p.face mac true ended known ident now beat made beats) (follows : Following config now q (beats ++ beat)) where
      pub then_called : CalledThen config p.face told (e ∷ past) now ended known made beats
      then_called =
          closes_or_not config p.face mac told (e ∷ past) ident now true ended known ready (direct (ap (λ (b : Book). b.came) new)) made beats few are
          (lawful_is (flow_settings config) q (beats ++ beat) now follows)

      abbrev all_made : List Entry
      all_made = made ++ (e ∷ [])

      abbrev all_beats : Story
      all_beats = beats ++ (At now (Arrives on.segment) ∷ [])

      lists : all_made ++ past ≡ made ++ (e ∷ past)
      lists = append_assoc made (e ∷ []) past

      stories : all_beats ++ f.story ≡ beats ++ beat
      stories = append_assoc beats (At now (Arrives on.segment) ∷ []) f.story

      called : Called config p.face f past now all_made all_beats
      called = record {
        lawful = subst (Lawful config) (sym lists) then_called.lawful;
        found = ap (λ (l : List Entry). flow_of (number_of p) (book config l).flows) lists ∙ then_called.has.found ∙ ap
            (λ (x : Story). Some (record { number = f.number; tuple = f.tuple; story = x })) (sym stories);
        of = of_then config (number_of p) past made e of_it then_called.of;
        at = ap moment lists ∙ then_called.at;
        asks = ap (λ (l : List Entry). due_for_flows config (book config l) (next_number l)) lists ∙ then_called.has.due ∙ ap (λ b. close_if b (number_of p))
            (follows_well config now q (beats ++ beat) follows);
        next = ap next_number lists ∙ then_called.next ∙ next_is;
        time_waits = λ open_yet. ap (λ (l : List Entry). (book config l).time_waits) lists ∙ then_called.time_waits open_yet ∙ ap (λ (r : List TimeWait). with_time_wait (in_time_wait_since (beats ++ beat))
            (number_of p) r) rests_same
            ∙ ap (λ (x : Story). with_time_wait (in_time_wait_since x) (number_of p) (book config past).time_waits) (sym stories);
        rests_on = λ shut. ap (λ (l : List Entry). (book config l).time_waits) lists ∙ then_called.rests_on shut ∙ rests_same;
        stays_in_time_wait = λ shut. ap in_time_wait_since stories ∙ then_called.stays_in_time_wait shut ∙ still_none ∙ sym (in_use_awake f.story in_use);
        since = λ open_yet m is. then_called.since open_yet m (sym (ap in_time_wait_since stories) ∙ is);
      }
        where
          still_none : in_time_wait_since beat ≡ None
          still_none = by (ends_time_wait f.story on.segment) (ap (renewed (renews on.segment) now) (in_use_awake f.story in_use))
            where
              by : (b : Bool) → renewed (renews on.segment) now (in_time_wait_since f.story) ≡ renewed (renews on.segment) now None → (if b then None else renewed (renews on.segment) now
                  (in_time_wait_since f.story)) ≡ None
              by true is = refl
              by false is = is ∙ renews_none (renews on.segment)
                where
                  renews_none : (b : Bool) → renewed b now None ≡ None
                  renews_none true = refl
                  renews_none false = refl

      mac_learnt : (m : Mac) → q.mac ≡ Some m → Contains (taught config (all_made ++ past)) (f.tuple.guest.addr, m)
      mac_learnt m is = subst (λ (l : List Entry). Contains (taught config l) (f.tuple.guest.addr, m)) (sym lists) (taught_on config (e ∷ past) made (f.tuple.guest.addr, m) (learnt m is))

      -- the core's relation holds after the segment and what was called for it
      pub core_heard : CoreHolds config now false None (state_at state k t p q) (made ++ (e ∷ past))
      core_heard = subst (CoreHolds config now false None (state_at state k t p q)) lists
          (core_called config state past now false None holds moment_is lawful_before k p q t f at slot same was once all_made all_beats called
          (subst (Following config now q) (sym stories) follows) mac_learnt)

  -- ---- a flow that is in TIME-WAIT

  -- the slots and parts, once the slot of a flow that was in TIME-WAIT follows its place; a segment that renews the TIME-WAIT has it enter TIME-WAIT anew, as the last
  abbrev pub rested_at : Place → (again : Bool) → Seated
  rested_at Empty again = record { table = flows (set state.table.slots k Free) state.table.time_wait_order; slots = set state.slots k None }
  rested_at Used again = record { table = state.table; slots = state.slots }
  rested_at (Rests since) true = record { table = flows (set state.table.slots k (InTimeWait t since)) (moved_last k state.table.time_wait_order); slots = set state.slots k (Some q) }
  rested_at (Rests since) false = record { table = state.table; slots = set state.slots k (Some q) }

  abbrev pub state_rested : FlowsState Splice
  state_rested = record { table = (rested_at q.place (renews on.segment)).table; slots = (rested_at q.place (renews on.segment)).slots; opened = state.opened }

  module _ (since : ℕ) (at_rest : p.place ≡ Rests since) (follows : Following config now q beat) where
    here : slice_get state.table.slots k ≡ Some (InTimeWait t since)
    here = slot ∙ ap (λ x. Some (slot_at x t)) at_rest

    slot_here : IsSlotOf (book config past).time_waits f (InTimeWait t since)
    slot_here = seat_slot (InTimeWait t since) here

    unused_before : uses (flow_of (number_of p) (book config past).flows) ≡ false
    unused_before = ap uses was ∙ slot_here.2

    told_is : flow_of (number_of p) (book config (e ∷ past)).flows ≡ Some told
    told_is =
        ap (λ (b : Book). flow_of (number_of p) b.flows) new
        ∙ subst (λ m. flow_of m (turned config (scene config past) (Comes on) (book config past)).flows ≡ Some (with_event (moment past) (Arrives on.segment) f)) number_is
        (own_arrival config (scene config past) (book config past) on f owner_here (subst (λ m. flow_of m (book config past).flows ≡ Some f) (sym number_is) was))
        ∙ ap (λ m. Some (with_event m (Arrives on.segment) f)) moment_is

    unused_then : is_in_use told.story ≡ false
    unused_then = slot_here.2

    among : is_among_time_waits (book config past).time_waits (Some f) ≡ true
    among = rests_any (record { number = f.number; since = since }) (book config past).time_waits slot_here.1

    -- those in TIME-WAIT, by what the segment is to the rest
    is_time_wait_by : (book config (e ∷ past)).time_waits ≡ (if ends_time_wait f.story on.segment then without (number_of p) (book config past).time_waits
        else (if renews on.segment then without (number_of p) (book config past).time_waits ++ (time_wait (number_of p) now ∷ []) else (book config past).time_waits))
    is_time_wait_by =
        ap (λ (b : Book). b.time_waits) new
        ∙ ap (λ o. after_segment (moment past) on.segment o (book config past).time_waits) owner_here
        ∙ ap (λ b. if not b then (book config past).time_waits else (if ends_time_wait f.story on.segment then without f.number (book config past).time_waits else
        (if renews on.segment then without f.number (book config past).time_waits ++ (time_wait f.number (moment past) ∷ []) else (book config past).time_waits))) among
        ∙ (λ i. if ends_time_wait f.story on.segment then without (number_is i) (book config past).time_waits else (if renews on.segment then without (number_is i) (book config past).time_waits
        ++ (time_wait (number_is i) (moment_is i) ∷ []) else (book config past).time_waits))

    begun : in_time_wait_since f.story ≡ Some since
    begun = rest_is (flow_settings config) p f.story now since followed at_rest

    -- the story's rest then
    since_then : in_time_wait_since beat ≡ (if ends_time_wait f.story on.segment then None else renewed (renews on.segment) now (Some since))
    since_then = ap (λ o. if ends_time_wait f.story on.segment then None else renewed (renews on.segment) now o) begun

    abbrev Goal : Seated → Type 0
    Goal x = Seats number_of (Following config now) x.table x.slots (next_number past) (book config (e ∷ past)).flows (book config (e ∷ past)).time_waits

    follow_place : Following config now q told.story
    follow_place = follows

    -- it left
    left_it : q.place ≡ Empty → (b : Bool) → ends_time_wait f.story on.segment ≡ b → Goal (rested_at Empty (renews on.segment))
    left_it place true ends_it =
        subst (λ (r : List TimeWait). Seats number_of (Following config now) (flows (set state.table.slots k Free) state.table.time_wait_order) (set state.slots k None) (next_number past)
        (book config (e ∷ past)).flows r)
        (sym (is_time_wait_by ∙ ap (λ b. if b then without (number_of p) (book config past).time_waits else (if renews on.segment then without (number_of p) (book config past).time_waits ++
        (time_wait (number_of p) now ∷ []) else (book config past).time_waits)) ends_it))
        (seats_woken number_of (Following config now) state.table state.slots (next_number past) (book config past).flows (book config (e ∷ past)).flows
        (book config past).time_waits k p t since at here unused_before (ap uses told_is ∙ unused_then) only holds.seats)
    left_it place false not_yet =
        let none = rest_none (flow_settings config) q beat now follows (ap is_in_time_wait place) in
        let some = since_then ∙ ap (λ b. if b then None else renewed (renews on.segment) now (Some since)) not_yet in
        absurd (never (renews on.segment) (sym none ∙ some))
      where
        never : (b : Bool) → None ≡ renewed b now (Some since) → ⊥
        never true is = cc
        never false is = cc

    -- it stays in TIME-WAIT, or enters it anew
    rests_on_it : (m : ℕ) → q.place ≡ Rests m → (b : Bool) → ends_time_wait f.story on.segment ≡ b → (r : Bool) → renews on.segment ≡ r → Goal (rested_at (Rests m) r)
    rests_on_it m place true ends_it r again =
        absurd (none_some (sym (since_then ∙ ap (λ b. if b then None else renewed (renews on.segment) now (Some since)) ends_it) ∙ rest_is (flow_settings config) q beat now m follows place))
    rests_on_it m place false not_yet true again =
        let is : in_time_wait_since beat ≡ Some now = since_then ∙ ap (λ b. if b then None else renewed (renews on.segment) now (Some since)) not_yet ∙ ap (λ b. renewed b now (Some since)) again in
        let m_is : m ≡ now = some_same m now (sym (rest_is (flow_settings config) q beat now m follows place) ∙ is) in
        subst (λ (r : List TimeWait). Seats number_of (Following config now) (flows (set state.table.slots k (InTimeWait t m)) (moved_last k state.table.time_wait_order))
        (set state.slots k (Some q)) (next_number past) (book config (e ∷ past)).flows r)
        (ap (λ n. without (number_of p) (book config past).time_waits ++ (time_wait (number_of p) n ∷ [])) m_is
        ∙ sym (is_time_wait_by ∙ ap (λ b. if b then without (number_of p) (book config past).time_waits else (if renews on.segment then without (number_of p) (book config past).time_waits ++
        (time_wait (number_of p) now ∷ []) else (book config past).time_waits)) not_yet
        ∙ ap (λ b. if b then without (number_of p) (book config past).time_waits ++ (time_wait (number_of p) now ∷ []) else (book config past).time_waits) again))
        (seats_renewed number_of (Following config now) state.table state.slots (next_number past) (book config past).flows (book config (e ∷ past)).flows
        (book config past).time_waits k p q told t since m at here
        (ap (λ (x : Face). x.number) same) unused_before told_is unused_then follow_place only once holds.seats)
    rests_on_it m place false not_yet false again =
        subst (λ (r : List TimeWait). Seats number_of (Following config now) state.table (set state.slots k (Some q)) (next_number past) (book config (e ∷ past)).flows r)
        (sym (is_time_wait_by ∙ ap (λ b. if b then without (number_of p) (book config past).time_waits else (if renews on.segment then without (number_of p) (book config past).time_waits ++
        (time_wait (number_of p) now ∷ []) else (book config past).time_waits)) not_yet
        ∙ ap (λ b. if b then without (number_of p) (book config past).time_waits ++ (time_wait (number_of p) now ∷ []) else (book config past).time_waits) again))
        (seats_kept number_of (Following config now) state.table state.slots (next_number past) (book config past).flows (book config (e ∷ past)).flows
        (book config past).time_waits k p q f told t since at here
        (ap (λ (x : Face). x.number) same) was slot_here.2 told_is unused_then follow_place only holds.seats)

    by_place : (x : Place) → q.place ≡ x → (r : Bool) → renews on.segment ≡ r → Goal (rested_at x r)
    by_place Empty place r again = subst (λ b. Goal (rested_at Empty b)) again (left_it place (ends_time_wait f.story on.segment) refl)
    by_place (Rests m) place r again = rests_on_it m place (ends_time_wait f.story on.segment) refl r again
    by_place Used place r again =
        let used : is_in_use beat ≡ true = sym (place_is (flow_settings config) q beat now follows) ∙ ap is_used_at place in
        absurd (not_both (sym unused_then ∙ used))
      where
        not_both : false ≡ true → ⊥
        not_both is = cc

    size_then : (x : Place) (r : Bool) → length (rested_at x r).table.slots ≡ length state.table.slots
    size_then Empty r = length-set state.table.slots k Free
    size_then Used r = refl
    size_then (Rests m) true = length-set state.table.slots k (InTimeWait t m)
    size_then (Rests m) false = refl

    learnt_set : (x : Option Splice) → ((r : Splice) → x ≡ Some r → r ≡ q) → (j : ℕ) (r : Splice) (h : Flow) (m : Mac) → slice_get (set state.slots k x) j ≡ Some (Some r) → flow_of
        (number_of r) (book config (e ∷ past)).flows ≡ Some h → r.mac ≡ Some m
        → Contains (taught config (e ∷ past)) (h.tuple.guest.addr, m)
    learnt_set x only_q j r h m has_r found is_mac = elim (same_or_not j k) [
      | inl at_k ↦
          let one : r ≡ q = only_q r (sym (get_set_same state.slots k (Some p) x (Some r) at (subst (λ i. slice_get (set state.slots k x) i ≡ Some (Some r)) at_k has_r))) in
          let number : number_of r ≡ number_of p = ap number_of one ∙ ap (λ (y : Face). y.number) same in
          let this : h ≡ told = some_same h told (sym found ∙ ap (λ n. flow_of n (book config (e ∷ past)).flows) number ∙ told_is) in
          subst (λ (y : Flow). Contains (taught config (e ∷ past)) (y.tuple.guest.addr, m)) (sym this) (learnt m (ap mac_of (sym one) ∙ is_mac))
      | inr other ↦
          let was_here : slice_get state.slots j ≡ Some (Some r) = sym (get_set_other state.slots k j x (differ j k other)) ∙ has_r in
          let apart : (number_of r == number_of p) ≡ false = not_one j k (number_of r) (number_of p) other
          (λ one. holds.seats.numbers j k (number_of p) (ap (number_in number_of) was_here ∙ ap Some one) (ap (number_in number_of) at)) in
          taught_on config past (e ∷ []) (h.tuple.guest.addr, m) (holds.learnt j r h m was_here (sym (only.apart (number_of r) apart) ∙ found) is_mac)
    ]
      where
        not_one : (j k m n : ℕ) → (j == k) ≡ false → (m ≡ n → j ≡ k) → (m == n) ≡ false
        not_one j k m n other one = elim (same_or_not m n) [ inl is ↦ absurd (differ j k other (one is)) | inr not ↦ not ]

    learnt_then : (x : Place) (r : Bool) → q.place ≡ x → (j : ℕ) (s : Splice) (h : Flow) (m : Mac) → slice_get (rested_at x r).slots j ≡ Some (Some s) → flow_of (number_of s)
        (book config (e ∷ past)).flows ≡ Some h → s.mac ≡ Some m
        → Contains (taught config (e ∷ past)) (h.tuple.guest.addr, m)
    learnt_then Empty r place = learnt_set None (λ s is. cc)
    learnt_then (Rests m) true place = learnt_set (Some q) (λ s is. cc)
    learnt_then (Rests m) false place = learnt_set (Some q) (λ s is. cc)
    learnt_then Used r place =
        let used : is_in_use beat ≡ true = sym (place_is (flow_settings config) q beat now follows) ∙ ap is_used_at place in
        absurd (not_both (sym unused_then ∙ used))
      where
        not_both : false ≡ true → ⊥
        not_both is = cc

    -- the core's relation holds after the segment, with the call that it asks for where it ended the rest
    pub core_rested : CoreHolds config now false (due_for_flows config (book config (e ∷ past)) (next_number (e ∷ past))) state_rested (e ∷ past)
    core_rested = record {
      seats = subst (λ n. Seats number_of (Following config now) state_rested.table state_rested.slots n (book config (e ∷ past)).flows (book config (e ∷ past)).time_waits)
          (sym next_is) (by_place q.place refl (renews on.segment) refl);
      slots = size_then q.place (renews on.segment) ∙ holds.slots;
      opened = as_many (book config (e ∷ past)).flows (book config past).flows only.same ∙ holds.opened;
      asked = refl;
      learnt = learnt_then q.place (renews on.segment) refl;
    }

-- A socket connects for a guest's SYN: that is due, and the flow that begins has a slot of the core.
use Rattle.std.proofs.Common.{arith, ◌≡◌, ℕ, zero, suc, ◌+◌, ◌==◌, ◌||◌, not, Bool, false, cond, List, [], ◌∷◌, length, set, slice_get, is_some, MatchOption, Option, Some, None, ◌⊎◌, inl}
use Rattle.std.proofs.Common.{inr, refl, sym, ◌∙◌, ap, subst}
use Rattle.std.specs.Prelude.{Contains}
use Rattle.std.proofs.lemmas.Bool.Decides.{nat_tests}
use Rattle.std.proofs.lemmas.List.{length-set}
use Rattle.net_octets.specs.declared.Endpoint.{Endpoint}
use Rattle.net_octets.specs.declared.Mac.{Mac}
use Rattle.world_face.specs.Journal.{Entry, Connect, CallConnect}
use Rattle.world_face.specs.declared.Made.TheVariants.{Done}
use Rattle.slirp_settings.specs.Addresses.{Config}
use Rattle.spec_trace.specs.Moments.{moment}
use Rattle.spec_trace.specs.Sockets.{next_number}
use Rattle.flow_table.specs.Slots.{AreKept, IsFree, MayBeTaken, NoneHas, flows, Flows}
use Rattle.flow_table.specs.declared.Slot.{Slot}
use Rattle.flow_table.specs.declared.Slot.TheVariants.{Free, InUse}
use Rattle.spec_flows.specs.declared.Tuple.{Tuple}
use Rattle.spec_flow.specs.Event.{Connects, At, Story}
use Rattle.spec_flow.specs.Flow.{first_number}
use Rattle.spec_flows.specs.Book.{book, joins_for, opens}
use Rattle.spec_flows.specs.Flows.{Book, Flow, flow_of, TimeWait}
use Rattle.spec_flows.specs.SegmentVerdicts.{due_for_flows}
use Rattle.spec_flows.specs.Segments.{OnTuple}
use Rattle.spec_flows.specs.Taught.{taught}
use Rattle.sim_flows.specs.FlowsHold.{FlowsState}
use Rattle.sim_flows.specs.Seats.{IsSlotOf, Seats}
use Rattle.sim_flows.proofs.Holding.{taught_on}
use Rattle.sim_flows.proofs.Joining.{seats_joined}
use Rattle.sim_flows.proofs.Rising.{rests_rise}
use Rattle.sim_flows.proofs.Seats.{differ, same_or_not}
use Rattle.sim_flows.proofs.Tables.{get_set_other, get_set_same}
use Rattle.spec_run.specs.Laws.{Lawful, May, due}
use Rattle.spec_run.proofs.Bools.{same}
use Rattle.spec_run.proofs.Deeds.{gathered, this_one}
use Rattle.flow_splice.specs.Splice.{Splice}
use Rattle.sim_flows.specs.Core.{CoreHolds, Following, mac_of, number_of}
use Rattle.sim_flows.specs.Stands.{InWork}
use Rattle.sim_flows.proofs.Calling.{due_is}
use Rattle.sim_flows.proofs.Looking.{none_rests}
use Rattle.sim_flows.proofs.Options.{some_same}
use Rattle.sim_flows.proofs.Staying.{core_stays}

-- a slot that is free has no part
pub has_none : {P : Type 0} (number : P → ℕ) (Follows : P → Story → Type 0) (table : Flows) (parts : List (Option P)) (next : ℕ) (all : List Flow) (time_waits : List TimeWait) →
    Seats number Follows table parts next all time_waits
    → length parts ≡ length table.slots → (k : ℕ) → slice_get parts k ≡ Some None ⊎ (IsFree table.slots k → ⊥)
has_none {P} number Follows table parts next all time_waits seats sizes k = by (slice_get parts k) refl
  where
    both : {X Y : Type 0} (xs : List X) (ys : List Y) (k : ℕ) (y : Y) → length xs ≡ length ys → slice_get ys k ≡ Some y → slice_get xs k ≡ None → ⊥
    both xs [] k y is at none = cc
    both [] (z ∷ ys) k y is at none = cc
    both (x ∷ xs) (z ∷ ys) zero y is at none = cc
    both (x ∷ xs) (z ∷ ys) (suc k) y is at none = both xs ys k y (less is) at none
      where
        less : suc (length xs) ≡ suc (length ys) → length xs ≡ length ys
        less is = cc

    by : (o : Option (Option P)) → slice_get parts k ≡ o → slice_get parts k ≡ Some None ⊎ (IsFree table.slots k → ⊥)
    by (Some None) is = inl is
    by (Some (Some p)) is =
        let seat = seats.seated k p is in
        inr (λ free. subst (λ (s : Slot). IsSlotOf time_waits seat.0 s) (some_same seat.1 Free (sym seat.5 ∙ free)) seat.6)
    by None is = inr (λ free. both parts table.slots k Free sizes free is)

-- the state after a flow more, in a slot
abbrev pub state_with : FlowsState Splice → (k : ℕ) → Tuple → Splice → FlowsState Splice
state_with state k t q = record { table = flows (set state.table.slots k (InUse t)) state.table.time_wait_order; slots = set state.slots k (Some q); opened = suc state.opened }

module _ (config : Config) (state : FlowsState Splice) (past : List Entry) (now : ℕ) (to : Endpoint)
    (holds : CoreHolds config now false (Some (CallConnect (next_number past) to)) state past) (work : InWork config past) (lawful : Lawful config past) where
  is_due : due config past ≡ Some (CallConnect (next_number past) to)
  is_due = due_is config past work ∙ holds.asked

  -- the connect is the call that is due
  pub may_connect : May config past (CallConnect (next_number past) to)
  may_connect =
      gathered config past (CallConnect (next_number past) to) tt (this_one config past (CallConnect (next_number past) to) is_due) (ap is_some is_due) (same (next_number past)) refl refl
      (ap not work.open_yet)
      (record {
        due = subst (λ o. MatchOption o (Unit {0}) (λ d. CallConnect (next_number past) to ≡ d)) (sym holds.asked) refl;
        touches = holds.asked;
        must = tt;
        at_once = λ number f found must. absurd (core_stays config now false (Some (CallConnect (next_number past) to)) state past holds number f found must);
      })

  module _ (moment_is : moment past ≡ now) (on : OnTuple) (came : (book config past).came ≡ Some on) (kept : AreKept state.table.slots state.table.time_wait_order)
      (sizes : length state.slots ≡ length state.table.slots)
      (none : NoneHas state.table.slots on.tuple) (k : ℕ) (taken : MayBeTaken state.table k) (q : Splice) (numbered : number_of q ≡ next_number past)
      (follows : Following config now q (At now (Connects (first_number now state.opened) on.segment) ∷ []))
      (learnt : (m : Mac) → q.mac ≡ Some m → Contains (taught config past) (on.tuple.guest.addr, m)) where
    -- the book of the trace then
    abbrev later : List Entry
    later = Connect (next_number past) to Done ∷ past

    abbrev opened : Book
    opened = opens config now (next_number past) on.tuple (Connects (first_number now state.opened) on.segment) (book config past)

    book_is : book config later ≡ opened
    book_is =
        ap (λ o. joins_for config (moment past) (next_number past) o (book config past)) came
        ∙ ap (λ m. opens config m (next_number past) on.tuple (Connects (first_number m (length (book config past).flows)) on.segment) (book config past)) moment_is
        ∙ ap (λ n. opens config now (next_number past) on.tuple (Connects (first_number now n) on.segment) (book config past)) holds.opened

    seats_then : Seats number_of (Following config now) (flows (set state.table.slots k (InUse on.tuple)) state.table.time_wait_order) (set state.slots k (Some q))
        (suc (next_number past)) opened.flows opened.time_waits
    seats_then =
        seats_joined number_of (Following config now) state.table state.slots (next_number past) config (book config past) holds.seats kept sizes holds.slots (rests_rise config past).0
        k q now on.tuple (Connects (first_number now state.opened) on.segment) none
        (none_rests number_of (Following config now) state.table state.slots (next_number past) (book config past).flows (book config past).time_waits holds.seats sizes on.tuple none)
        taken (has_none number_of (Following config now) state.table state.slots (next_number past) (book config past).flows (book config past).time_waits holds.seats sizes k) numbered refl follows

    one_more : (n : ℕ) → suc n ≡ n + 1
    one_more n = omega arith

    -- the new flow's address was learnt, and the others' as before
    learnt_then : (j : ℕ) (r : Splice) (h : Flow) (m : Mac) → slice_get (set state.slots k (Some q)) j ≡ Some (Some r) → flow_of (number_of r) (book config later).flows ≡ Some h →
        r.mac ≡ Some m → Contains (taught config later) (h.tuple.guest.addr, m)
    learnt_then j r h m here found is_mac = elim (same_or_not j k) [
      | inl at_k ↦
          let one : r ≡ q = this_part r (subst (λ i. slice_get (set state.slots k (Some q)) i ≡ Some (Some r)) at_k here) in
          let new : h ≡ record { number = next_number past; tuple = on.tuple; story = At now (Connects (first_number now state.opened) on.segment) ∷ [] } =
          some_same h _ (sym found ∙ ap (λ n. flow_of n (book config later).flows) (ap number_of one ∙ numbered) ∙ ap (λ (b : Book). flow_of (next_number past) b.flows) book_is ∙ first_of_all) in
          subst (λ (y : Flow). Contains (taught config later) (y.tuple.guest.addr, m)) (sym new) (learnt m (ap mac_of (sym one) ∙ is_mac))
      | inr other ↦
          let was_here : slice_get state.slots j ≡ Some (Some r) = sym (get_set_other state.slots k j (Some q) (differ j k other)) ∙ here in
          let seat = holds.seats.seated j r was_here in
          let apart : (number_of r == next_number past) ≡ false = older (number_of r)
          (λ same. cc (sym (holds.seats.fresh (next_number past) (omega arith)) ∙ ap (λ n. flow_of n (book config past).flows) (sym same) ∙ seat.2)) in
          let old : flow_of (number_of r) (book config past).flows ≡ Some h =
          sym (ap (λ b. cond b (Some (record { number = next_number past; tuple = on.tuple; story = At now (Connects (first_number now state.opened) on.segment) ∷ [] }))
          (flow_of (number_of r) (book config past).flows)) (swapped (number_of r) (next_number past) apart))
          ∙ sym (ap (λ (b : Book). flow_of (number_of r) b.flows) book_is) ∙ found in
          taught_on config past (Connect (next_number past) to Done ∷ []) (h.tuple.guest.addr, m) (holds.learnt j r h m was_here old is_mac)
    ]
      where
        this_part : (r : Splice) → slice_get (set state.slots k (Some q)) k ≡ Some (Some r) → r ≡ q
        this_part r has = by (slice_get state.slots k) refl
          where
            outside : {X : Type 0} (xs : List X) (k : ℕ) (x : X) → slice_get xs k ≡ None → slice_get (set xs k x) k ≡ None
            outside [] k x none = refl
            outside (y ∷ xs) zero x none = cc
            outside (y ∷ xs) (suc k) x none = outside xs k x none

            by : (o : Option (Option Splice)) → slice_get state.slots k ≡ o → r ≡ q
            by (Some p) is = some_same r q (get_set_same state.slots k p (Some q) (Some r) is has)
            by None is = cc (sym (outside state.slots k (Some q) is) ∙ has)

        older : (a : ℕ) → (a ≡ next_number past → ⊥) → (a == next_number past) ≡ false
        older a not = elim (same_or_not a (next_number past)) [ inl is ↦ absurd (not is) | inr other ↦ other ]

        swapped : (a b : ℕ) → (a == b) ≡ false → (b == a) ≡ false
        swapped a b not = grind (arith, nat_tests, not)

        first_of_all : flow_of (next_number past) opened.flows ≡ Some
            (record { number = next_number past; tuple = on.tuple; story = At now (Connects (first_number now state.opened) on.segment) ∷ [] })
        first_of_all = ap (λ b. cond b (Some (record { number = next_number past; tuple = on.tuple; story = At now (Connects (first_number now state.opened) on.segment) ∷ [] }))
            (flow_of (next_number past) (book config past).flows)) (same (next_number past))

    -- the core's relation holds after it
    pub core_joined : CoreHolds config now false None (state_with state k on.tuple q) later
    core_joined = record {
      seats = subst (λ n. Seats number_of (Following config now) (state_with state k on.tuple q).table (state_with state k on.tuple q).slots n (book config later).flows
          (book config later).time_waits) (one_more (next_number past))
          (subst (λ (b : Book). Seats number_of (Following config now) (state_with state k on.tuple q).table (state_with state k on.tuple q).slots
          (suc (next_number past)) b.flows b.time_waits) (sym book_is) seats_then);
      slots = length-set state.table.slots k (InUse on.tuple) ∙ holds.slots;
      opened = ap (λ (b : Book). length b.flows) book_is ∙ ap suc holds.opened;
      asked = ap (λ b. due_for_flows config b (next_number later)) book_is;
      learnt = learnt_then;
    }

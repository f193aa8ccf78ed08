-- A peer comes to a port of the host that is given to a guest: the flow that begins has a slot of the core; or its socket is closed next.
use Rattle.std.proofs.Common.{arith, ◌≡◌, ℕ, zero, suc, ◌+◌, ◌==◌, not, Bool, true, false, cond, List, [], ◌∷◌, length, set, slice_get, if◌then◌else◌, Option, Some, None, option_map}
use Rattle.std.proofs.Common.{option_and_then, inl, inr, refl, sym, ◌∙◌, ap, subst}
use Rattle.std.specs.Prelude.{Contains}
use Rattle.std.proofs.lemmas.Bool.Decides.{nat_tests}
use Rattle.std.proofs.lemmas.List.{length-set}
use Rattle.net_octets.specs.declared.Endpoint.{Endpoint}
use Rattle.net_octets.specs.declared.Mac.{Mac}
use Rattle.world_face.specs.Journal.{Entry, Accept, CallClose}
use Rattle.world_face.specs.declared.Accepted.TheVariants.{From}
use Rattle.slirp_settings.specs.Addresses.{Config}
use Rattle.spec_trace.specs.Moments.{moment}
use Rattle.spec_trace.specs.Sockets.{next_number}
use Rattle.flow_table.specs.Slots.{AreKept, HasTuple, MayBeTaken, NoneHas, flows, tuple_of}
use Rattle.flow_table.specs.declared.Slot.{Slot}
use Rattle.flow_table.specs.declared.Slot.TheVariants.{Free, InUse, InTimeWait}
use Rattle.spec_flows.specs.declared.Tuple.{Tuple}
use Rattle.spec_flow.specs.Event.{Accepts, At}
use Rattle.spec_flow.specs.Close.{is_in_use}
use Rattle.spec_flow.specs.Flow.{first_number}
use Rattle.spec_flows.specs.Book.{book, doom, is_refused, make_room, opens, port_of, tuple_for, visits_for, without}
use Rattle.spec_flows.specs.Flows.{Book, Flow, TimeWait, flow_of, owner, is_among_time_waits, uses}
use Rattle.spec_flows.specs.SegmentVerdicts.{due_for_flows}
use Rattle.spec_flows.specs.Taught.{taught}
use Rattle.sim_flows.specs.FlowsHold.{FlowsState}
use Rattle.sim_flows.specs.Seats.{Seats, number_at}
use Rattle.sim_flows.proofs.Holding.{taught_on}
use Rattle.sim_flows.proofs.Joining.{seats_joined}
use Rattle.sim_flows.proofs.Only.{only_none}
use Rattle.sim_flows.proofs.Opening.{seats_opened}
use Rattle.sim_flows.proofs.Rising.{rests_rise}
use Rattle.sim_flows.proofs.Seats.{differ, same_or_not}
use Rattle.sim_flows.proofs.Tables.{get_set_at, get_set_other, get_set_same}
use Rattle.sim_flows.proofs.Taking.{room_own}
use Rattle.sim_flows.proofs.Waking.{seats_woken}
use Rattle.spec_run.proofs.Bools.{same}
use Rattle.flow_splice.specs.Splice.{Splice}
use Rattle.sim_flows.specs.Core.{CoreHolds, Following, mac_of, number_of}
use Rattle.sim_flows.proofs.Joined.{has_none, state_with}
use Rattle.sim_flows.proofs.Looking.{none_rests, slot_of, slot_rests}
use Rattle.sim_flows.proofs.Options.{none_some, some_same}

-- once the flow of a slot that is in TIME-WAIT on two ends has left it, no slot has them
pub none_left : (slots : List Slot) (turns : List ℕ) (k : ℕ) (t : Tuple) (since : ℕ) → AreKept slots turns → slice_get slots k ≡ Some (InTimeWait t since) → NoneHas (set slots k Free) t
none_left slots turns k t since kept slot j has = elim (same_or_not j k) [
  | inl here ↦ none_some (sym (ap (option_and_then tuple_of) (ap (slice_get (set slots k Free)) here ∙ get_set_at slots k (InTimeWait t since) Free slot)) ∙ has)
  | inr other ↦
      differ j k other
      (sym (kept.apart k j t (ap (option_and_then tuple_of) slot) (sym (ap (option_and_then tuple_of) (get_set_other slots k j Free (differ j k other))) ∙ has)))
]

module _ (config : Config) (state : FlowsState Splice) (past : List Entry) (now : ℕ) (listener : ℕ) (peer guest : Endpoint)
    (holds : CoreHolds config now false None state past) (moment_is : moment past ≡ now) (port : port_of config listener ≡ Some guest) where
  abbrev ends : Tuple
  ends = tuple_for config guest peer

  abbrev later : List Entry
  later = Accept listener (next_number past) (From peer) ∷ past

  abbrev taken_in : Book
  taken_in = opens config (moment past) (next_number past) ends (Accepts (first_number (moment past) (length (book config past).flows))) (book config past)

  visited : book config later ≡ (if is_refused config guest peer (book config past) then doom (next_number past) (book config past) else taken_in)
  visited = ap (λ o. visits_for config (moment past) (next_number past) peer o (book config past)) port

  -- a peer that would pass for a guest, or for the other end of a flow, is refused: its close is the call that is due
  pub refused_is_due : is_refused config guest peer (book config past) ≡ true → due_for_flows config (book config later) (next_number later) ≡ Some (CallClose (next_number past))
  refused_is_due refused = ap (λ b. due_for_flows config b (next_number later)) (visited ∙ ap (λ (b : Bool). if b then doom (next_number past) (book config past) else taken_in) refused)

  module _ (welcome : is_refused config guest peer (book config past) ≡ false) where
    abbrev number : ℕ
    number = next_number past

    abbrev pub begun_flow : Flow
    begun_flow = record { number = number; tuple = ends; story = At now (Accepts (first_number now state.opened)) ∷ [] }

    -- the book of the trace then
    abbrev opened : Book
    opened = opens config now number ends (Accepts (first_number now state.opened)) (book config past)

    book_is : book config later ≡ opened
    book_is =
        visited
        ∙ ap (λ (b : Bool). if b then doom number (book config past) else taken_in) welcome
        ∙ ap (λ m. opens config m number ends (Accepts (first_number m (length (book config past).flows))) (book config past)) moment_is
        ∙ ap (λ n. opens config now number ends (Accepts (first_number now n)) (book config past)) holds.opened

    -- the same flows were accepted before, and this one
    pub flows_then : (book config later).flows ≡ begun_flow ∷ (book config past).flows
    flows_then = ap (λ (b : Book). b.flows) book_is

    one_more : (n : ℕ) → suc n ≡ n + 1
    one_more n = omega arith

    -- ---- the flow stands in a slot, and the others do that stood before, but for some that left

    module _ (parts : List (Option Splice)) (stay : (j : ℕ) (r : Splice) → slice_get parts j ≡ Some (Some r) → slice_get state.slots j ≡ Some (Some r)) (k : ℕ) (q : Splice)
        (numbered : number_of q ≡ number)
        (learnt : (m : Mac) → q.mac ≡ Some m → Contains (taught config past) (guest.addr, m)) where
      -- the new flow's address was learnt, and the others' as before
      learnt_then : (j : ℕ) (r : Splice) (h : Flow) (m : Mac) → slice_get (set parts k (Some q)) j ≡ Some (Some r) → flow_of (number_of r) (book config later).flows ≡ Some h →
          r.mac ≡ Some m → Contains (taught config later) (h.tuple.guest.addr, m)
      learnt_then j r h m here found is_mac = elim (same_or_not j k) [
        | inl at_k ↦
            let one : r ≡ q = this_part r (subst (λ i. slice_get (set parts k (Some q)) i ≡ Some (Some r)) at_k here) in
            let new : h ≡ begun_flow =
            some_same h _ (sym found ∙ ap (λ n. flow_of n (book config later).flows) (ap number_of one ∙ numbered) ∙ ap (flow_of number) flows_then ∙ first_of_all) in
            subst (λ (y : Flow). Contains (taught config later) (y.tuple.guest.addr, m)) (sym new) (learnt m (ap mac_of (sym one) ∙ is_mac))
        | inr other ↦
            let was_here : slice_get state.slots j ≡ Some (Some r) = stay j r (sym (get_set_other parts k j (Some q) (differ j k other)) ∙ here) in
            let seat = holds.seats.seated j r was_here in
            let apart : (number_of r == number) ≡ false = older (number_of r)
            (λ same. cc (sym (holds.seats.fresh number (omega arith)) ∙ ap (λ n. flow_of n (book config past).flows) (sym same) ∙ seat.2)) in
            let old : flow_of (number_of r) (book config past).flows ≡ Some h =
            sym (ap (λ b. cond b (Some begun_flow) (flow_of (number_of r) (book config past).flows)) (swapped (number_of r) number apart))
            ∙ sym (ap (flow_of (number_of r)) flows_then) ∙ found in
            taught_on config past (Accept listener number (From peer) ∷ []) (h.tuple.guest.addr, m) (holds.learnt j r h m was_here old is_mac)
      ]
        where
          this_part : (r : Splice) → slice_get (set parts k (Some q)) k ≡ Some (Some r) → r ≡ q
          this_part r has = by (slice_get parts k) refl
            where
              outside : {X : Type 0} (xs : List X) (k : ℕ) (x : X) → slice_get xs k ≡ None → slice_get (set xs k x) k ≡ None
              outside [] k x none = refl
              outside (y ∷ xs) zero x none = cc
              outside (y ∷ xs) (suc k) x none = outside xs k x none

              by : (o : Option (Option Splice)) → slice_get parts k ≡ o → r ≡ q
              by (Some p) is = some_same r q (get_set_same parts k p (Some q) (Some r) is has)
              by None is = cc (sym (outside parts k (Some q) is) ∙ has)

          older : (a : ℕ) → (a ≡ number → ⊥) → (a == number) ≡ false
          older a not = elim (same_or_not a number) [ inl is ↦ absurd (not is) | inr other ↦ other ]

          swapped : (a b : ℕ) → (a == b) ≡ false → (b == a) ≡ false
          swapped a b not = grind (arith, nat_tests, not)

          first_of_all : flow_of number (begun_flow ∷ (book config past).flows) ≡ Some begun_flow
          first_of_all = ap (λ b. cond b (Some begun_flow) (flow_of number (book config past).flows)) (same number)

      core_opened : (slots : List Slot) → length slots ≡ length state.table.slots → Seats number_of (Following config now) (flows slots state.table.time_wait_order)
          (set parts k (Some q)) (suc number) opened.flows opened.time_waits
          → CoreHolds config now false None (record { table = flows slots state.table.time_wait_order; slots = set parts k (Some q); opened = suc state.opened }) later
      core_opened slots long seats = record {
        seats = subst (λ n. Seats number_of (Following config now) (flows slots state.table.time_wait_order) (set parts k (Some q)) n (book config later).flows (book config later).time_waits) (one_more number)
            (subst (λ (b : Book). Seats number_of (Following config now) (flows slots state.table.time_wait_order) (set parts k (Some q)) (suc number) b.flows b.time_waits) (sym book_is) seats);
        slots = long ∙ holds.slots;
        opened = ap (λ (b : Book). length b.flows) book_is ∙ ap suc holds.opened;
        asked = ap (λ b. due_for_flows config b (next_number later)) book_is;
        learnt = learnt_then;
      }

    module _ (kept : AreKept state.table.slots state.table.time_wait_order) (sizes : length state.slots ≡ length state.table.slots) where
      -- ---- no slot has the two ends

      module _ (none : NoneHas state.table.slots ends) (k : ℕ) (taken : MayBeTaken state.table k) (q : Splice) (numbered : number_of q ≡ number)
          (follows : Following config now q (At now (Accepts (first_number now state.opened)) ∷ []))
          (learnt : (m : Mac) → q.mac ≡ Some m → Contains (taught config past) (guest.addr, m)) where
        seats_then : Seats number_of (Following config now) (flows (set state.table.slots k (InUse ends)) state.table.time_wait_order) (set state.slots k (Some q)) (suc number) opened.flows opened.time_waits
        seats_then =
            seats_joined number_of (Following config now) state.table state.slots number config (book config past) holds.seats kept sizes holds.slots (rests_rise config past).0
            k q now ends (Accepts (first_number now state.opened)) none
            (none_rests number_of (Following config now) state.table state.slots number (book config past).flows (book config past).time_waits holds.seats sizes ends none)
            taken (has_none number_of (Following config now) state.table state.slots number (book config past).flows (book config past).time_waits holds.seats sizes k) numbered refl follows

        -- the core's relation holds after it
        pub core_accepted : CoreHolds config now false None (state_with state k ends q) later
        core_accepted = core_opened state.slots (λ j r here. here) k q numbered learnt (set state.table.slots k (InUse ends)) (length-set state.table.slots k (InUse ends)) seats_then

      -- ---- the flow of a slot is in TIME-WAIT on them: it leaves its slot first

      module _ (i : ℕ) (p : Splice) (since : ℕ) (at : slice_get state.slots i ≡ Some (Some p)) (slot : slice_get state.table.slots i ≡ Some (InTimeWait ends since)) where
        abbrev pub left_state : FlowsState Splice
        left_state = record { table = flows (set state.table.slots i Free) state.table.time_wait_order; slots = set state.slots i None; opened = state.opened }

        abbrev all : List Flow
        all = (book config past).flows

        abbrev time_waits : List TimeWait
        time_waits = (book config past).time_waits

        in_time_wait : (r : Splice) × (f : Flow) × (slice_get state.slots i ≡ Some (Some r)) × (flow_of (number_of r) all ≡ Some f) × (owner ends all ≡ Some f) ×
            (is_in_use f.story ≡ false) × (is_among_time_waits time_waits (owner ends all) ≡ true)
        in_time_wait = slot_rests number_of (Following config now) state.table state.slots number all time_waits holds.seats sizes i ends since slot

        found : flow_of (number_of p) all ≡ Some in_time_wait.1
        found = ap (λ (x : Splice). flow_of (number_of x) all) (some_same p in_time_wait.0 (some_same (Some p) (Some in_time_wait.0) (sym at ∙ in_time_wait.2))) ∙ in_time_wait.3

        unused : uses (flow_of (number_of p) all) ≡ false
        unused = ap uses found ∙ in_time_wait.5

        seats_left : Seats number_of (Following config now) left_state.table left_state.slots number all (without (number_of p) time_waits)
        seats_left = seats_woken number_of (Following config now) state.table state.slots number all all time_waits i p ends since at slot unused unused (only_none (number_of p) all) holds.seats

        sizes_left : length left_state.slots ≡ length left_state.table.slots
        sizes_left = length-set state.slots i None ∙ sizes ∙ sym (length-set state.table.slots i Free)

        module _ (k : ℕ) (taken : MayBeTaken left_state.table k) (q : Splice) (numbered : number_of q ≡ number)
            (follows : Following config now q (At now (Accepts (first_number now state.opened)) ∷ []))
            (learnt : (m : Mac) → q.mac ≡ Some m → Contains (taught config past) (guest.addr, m)) where
          free : slice_get left_state.table.slots k ≡ Some Free
          free = elim taken [ inl is ↦ is | inr not ↦ absurd (not.0 i (get_set_at state.table.slots i (InTimeWait ends since) Free slot)) ]

          empty_there : slice_get left_state.slots k ≡ Some None
          empty_there = elim (has_none number_of (Following config now) left_state.table left_state.slots number all (without (number_of p) time_waits) seats_left sizes_left k)
              [ inl is ↦ is | inr not ↦ absurd (not free) ]

          nobody : (j n : ℕ) → number_at number_of left_state.slots j ≡ Some n → option_map (λ (g : Flow). g.tuple) (flow_of n all) ≡ Some ends → ⊥
          nobody j n has is_on = by (flow_of n all) refl is_on
            where
              by : (o : Option Flow) → flow_of n all ≡ o → option_map (λ (g : Flow). g.tuple) o ≡ Some ends → ⊥
              by None is none = none_some none
              by (Some g) is on =
                  none_left state.table.slots state.table.time_wait_order i ends since kept slot j
                  (subst (HasTuple left_state.table.slots j) (some_same g.tuple ends on)
                  (slot_of number_of (Following config now) left_state.table left_state.slots number all (without (number_of p) time_waits) seats_left sizes_left j n g has is))

          room : opened.time_waits ≡ without (number_of p) time_waits
          room =
              let sc = holds.seats.seated i p at in
              let same_flow : in_time_wait.1.number ≡ number_of p = ap (λ (f : Flow). f.number) (some_same in_time_wait.1 sc.0 (sym found ∙ sc.2)) ∙ sc.3 in
              ap (λ o. make_room config o (book config past)) in_time_wait.4
              ∙ room_own config in_time_wait.1 (book config past) (ap (is_among_time_waits time_waits) (sym in_time_wait.4) ∙ in_time_wait.6)
              ∙ ap (λ n. without n time_waits) same_flow

          seats_again : Seats number_of (Following config now) (flows (set left_state.table.slots k (InUse ends)) state.table.time_wait_order) (set left_state.slots k (Some q))
              (suc number) opened.flows opened.time_waits
          seats_again =
              subst (Seats number_of (Following config now) (flows (set left_state.table.slots k (InUse ends)) state.table.time_wait_order) (set left_state.slots k (Some q))
              (suc number) opened.flows) (sym room)
              (seats_opened number_of (Following config now) left_state.table left_state.slots number all
              (without (number_of p) time_waits) k q begun_flow free empty_there refl numbered refl follows nobody seats_left)

          stay : (j : ℕ) (r : Splice) → slice_get left_state.slots j ≡ Some (Some r) → slice_get state.slots j ≡ Some (Some r)
          stay j r here = elim (same_or_not j i) [
            | inl at_i ↦ absurd (gone (sym (ap (slice_get left_state.slots) at_i ∙ get_set_at state.slots i (Some p) None at) ∙ here))
            | inr other ↦ sym (get_set_other state.slots i j None (differ j i other)) ∙ here
          ]
            where
              gone : ◌≡◌ {A = Option (Option Splice)} (Some None) (Some (Some r)) → ⊥
              gone is = cc

          pub core_accepted_again : CoreHolds config now false None (state_with left_state k ends q) later
          core_accepted_again =
              core_opened left_state.slots stay k q numbered learnt (set left_state.table.slots k (InUse ends)) (length-set left_state.table.slots k (InUse ends)
              ∙ length-set state.table.slots i Free) seats_again

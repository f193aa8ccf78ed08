-- The next flow in use, by the slots and by the trace.
use Rattle.std.proofs.Common.{◌≡◌, ℕ, ◌≤◌, Bool, true, false, List, Some, None, Option, slice_get, refl, sym, ◌∙◌, ap, subst}
use Rattle.world_face.specs.Journal.{Call, Entry}
use Rattle.slirp_settings.specs.Addresses.{Config}
use Rattle.spec_flows.specs.declared.Tuple.{Tuple}
use Rattle.spec_flow.specs.Close.{is_in_use as has_its_tuple}
use Rattle.spec_flows.specs.Book.{book}
use Rattle.spec_flows.specs.Flows.{Flow, TimeWait, flow_of, uses}
use Rattle.flow_splice.specs.Splice.{Splice, is_in_use}
use Rattle.flow_splice.specs.declared.Place.{Place}
use Rattle.flow_splice.specs.declared.Place.TheVariants.{Empty, InUse, InTimeWait}
use Rattle.sim_flows.specs.Core.{CoreHolds, ends_of, number_of}
use Rattle.sim_flows.specs.FlowsHold.{FlowsState, time_waits_at}
use Rattle.sim_flows.specs.Seats.{IsSlotOf, number_in}
use Rattle.sim_flows.specs.Stands.{slot_at}
use Rattle.sim_flows.proofs.Options.{some_same, true_false}
use Rattle.tcp_flows.specs.InUse.{IsInUseAt, IsNextUse}
use Rattle.tcp_flows.specs.Reading.{HaveSlots, IsAbove}
use Rattle.slirp_core.specs.NextFlow.{IsNextFlow}

-- a slot in use is that of a flow that has these ends in use
used_slot : (time_waits : List TimeWait) (f : Flow) (ends : Tuple) (p : Place) → is_in_use p ≡ true → IsSlotOf time_waits f (slot_at p ends) → (f.tuple ≡ ends) × (has_its_tuple f.story ≡ true)
used_slot time_waits f ends Empty used is = absurd is
used_slot time_waits f ends InUse used is = is
used_slot time_waits f ends (InTimeWait since) used is = absurd (true_false (sym used))

-- and that of one that has its ends in use is in use
slot_used : (time_waits : List TimeWait) (f : Flow) (ends : Tuple) (p : Place) → has_its_tuple f.story ≡ true → IsSlotOf time_waits f (slot_at p ends) → is_in_use p ≡ true
slot_used time_waits f ends Empty used is = absurd is
slot_used time_waits f ends InUse used is = refl
slot_used time_waits f ends (InTimeWait since) used is = absurd (true_false (sym used ∙ is.2))

-- the part that has a number
part_with : (n : ℕ) (o : Option (Option Splice)) → number_in number_of o ≡ Some n → (p : Splice) × (o ≡ Some (Some p)) × (number_of p ≡ n)
part_with n (Some (Some p)) is = (p, refl, some_same (number_of p) n is)
part_with n (Some None) is = cc
part_with n None is = cc

module _ (config : Config) (now : ℕ) (aged : Bool) (task : Option Call) (state : FlowsState Splice) (past : List Entry) (holds : CoreHolds config now aged task state past)
    (slots : HaveSlots state) where
  abbrev flows : List Flow
  flows = (book config past).flows

  -- the flow of a slot, and what its slot is of it
  flow_at : (k : ℕ) (p : Splice) → slice_get state.slots k ≡ Some (Some p)
      → (f : Flow) × (flow_of (number_of p) flows ≡ Some f) × IsSlotOf (time_waits_at aged config past) f (slot_at p.place (ends_of p.face))
  flow_at k p at =
      let seat = holds.seats.seated k p at in
      (seat.0, seat.2, subst (IsSlotOf (time_waits_at aged config past) seat.0) (some_same seat.1 (slot_at p.place (ends_of p.face)) (sym seat.5 ∙ slots k p at)) seat.6)

  -- a slot in use has a flow that has its ends in use
  recorded_at : (k : ℕ) (p : Splice) → IsInUseAt state.slots k p → (f : Flow) × (flow_of (number_of p) flows ≡ Some f) × (f.tuple ≡ ends_of p.face) × (has_its_tuple f.story ≡ true)
  recorded_at k p at =
      let seat = flow_at k p at.here in
      let used = used_slot (time_waits_at aged config past) seat.0 (ends_of p.face) p.place at.in_use seat.2 in
      (seat.0, seat.1, used.0, used.1)

  -- a flow that has its ends in use has a slot in use
  seated_for : (m : ℕ) → uses (flow_of m flows) ≡ true → (k : ℕ) × (p : Splice) × IsInUseAt state.slots k p × (number_of p ≡ m)
  seated_for m used =
      let found = holds.seats.found m used in
      let part = part_with m (slice_get state.slots found.0) found.1 in
      let seat = flow_at found.0 part.0 part.1 in
      let its = ap uses (sym seat.1) ∙ ap (λ n. uses (flow_of n flows)) part.2 ∙ used in
      (found.0, part.0, record { here = part.1; in_use = slot_used (time_waits_at aged config past) seat.0 (ends_of part.0.face) part.0.place its seat.2 }, part.2)

  pub next_recorded : (last : Option ℕ) (result : Option (ℕ × Tuple)) → IsNextUse last result state.slots → IsNextFlow last result flows
  next_recorded last (Some next) is =
      let its = recorded_at is.slot is.part is.at in
      record {
        flow = its.0;
        is = sym (ap (λ n. flow_of n flows) is.number) ∙ its.1;
        in_use = its.3;
        between = its.2 ∙ is.between;
        above = is.above;
        least = λ m above used.
            let seat = seated_for m used in
            subst (λ (n : ℕ). next.0 ≤ n) seat.3 (is.least seat.0 seat.1 seat.2 (subst (IsAbove last) (sym seat.3) above));
      }
  next_recorded last None none = λ m above used.
      let seat = seated_for m used in
      none seat.0 seat.1 seat.2 (subst (IsAbove last) (sym seat.3) above)

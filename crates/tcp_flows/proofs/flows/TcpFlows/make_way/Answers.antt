use Rattle.std.proofs.Common.{refl, ℕ, inl, inr, ap, length, sym, ◌∙◌, subst}
use Rattle.std.proofs.lemmas.List.{length-set}
use Rattle.sim_flows.specs.Seats.{in_use_slots}
use Rattle.sim_flows.proofs.Waking.{used_woken}
use Rattle.flow_table.specs.Slots.{AreKept, Flows, HasTuple, NoneHas}
use Rattle.flow_table.specs.declared.Slot.TheVariants.{Free}
use Rattle.sim_flows.proofs.Accepted.{none_left}
use Rattle.tcp_flows.specs.Kept.{Kept}
use Rattle.tcp_flows.proofs.Hearing.{tuple_back}
use Rattle.tcp_flows.proofs.Keeping.{seen_here}
use Rattle.tcp_flows.proofs.Staying.{stays_same}
use Rattle.tcp_flows.proofs.Visiting.{rests_only}
use Rattle.tcp_flows.proofs.flows.TcpFlows.make_way.Goals as goal

pub returns-in_default-clause-way : goal.returns-in_default-clause-way
returns-in_default-clause-way c = inl (refl, subst (λ (s : Kept). NoneHas s.flows.table.slots c.args.ends.now) c.self.view_is c.in_default.ensures.none)

pub returns-in_default-clause-none : goal.returns-in_default-clause-none
returns-in_default-clause-none c = subst (λ (s : Kept). NoneHas s.flows.table.slots c.args.ends.now) c.self.view_is c.in_default.ensures.none

pub returns-in_default-clause-stays : goal.returns-in_default-clause-stays
returns-in_default-clause-stays c = stays_same c.args.self.now

pub leave_slot-requires : goal.leave_slot-requires
leave_slot-requires c =
    let parts = c.self.inside.slots.items in
    let back = tuple_back c.self.inside.rows.table.slots parts c.self.invariant.0.slots_are c.in-Some.slot c.args.ends.now c.in-Some.ensures.found in
    record { slot = (back.0, seen_here parts c.in-Some.slot back.0 _ (ap (λ (s : Kept). s.flows.slots) c.self.view_is) back.1 back.2) }

pub returns-clause-way : goal.returns-clause-way
returns-clause-way c =
    let parts = c.self.inside.slots.items in
    let k : ℕ = c.in-Some.slot in
    let back = tuple_back c.self.inside.rows.table.slots parts c.self.invariant.0.slots_are k c.args.ends.now c.in-Some.ensures.found in
    let time_waits = rests_only c.args.self.now.flows.table.slots c.args.ends.now k
    (subst (λ (s : Kept). HasTuple s.flows.table.slots k c.args.ends.now) c.self.view_is c.in-Some.ensures.found) c.requires.unused in
    inr (
      k,
      back.0,
      time_waits.0,
      seen_here parts k back.0 _ (ap (λ (s : Kept). s.flows.slots) c.self.view_is) back.1 back.2,
      time_waits.1,
      subst (λ (s : Kept). AreKept s.flows.table.slots s.flows.table.time_wait_order) c.self.view_is c.self.invariant.0.kept,
      λ i. record { table = c.leave_slot.ensures.table i; slots = c.leave_slot.ensures.parts i; opened = c.leave_slot.ensures.stays.opened i },
    )

pub returns-clause-none : goal.returns-clause-none
returns-clause-none c =
    let k : ℕ = c.in-Some.slot in
    let old : Flows = c.args.self.now.flows.table in
    let time_waits = rests_only old.slots c.args.ends.now k (subst (λ (s : Kept). HasTuple s.flows.table.slots k c.args.ends.now) c.self.view_is c.in-Some.ensures.found) c.requires.unused in
    subst (λ (t : Flows). NoneHas t.slots c.args.ends.now) (sym c.leave_slot.ensures.table)
    (none_left old.slots old.time_wait_order k c.args.ends.now time_waits.0 (subst (λ (s : Kept). AreKept s.flows.table.slots s.flows.table.time_wait_order) c.self.view_is c.self.invariant.0.kept) time_waits.1)

pub returns-clause-room : goal.returns-clause-room
returns-clause-room c =
    let k : ℕ = c.in-Some.slot in
    let old : Flows = c.args.self.now.flows.table in
    let time_waits = rests_only old.slots c.args.ends.now k (subst (λ (s : Kept). HasTuple s.flows.table.slots k c.args.ends.now) c.self.view_is c.in-Some.ensures.found) c.requires.unused in
    ap (λ (t : Flows). in_use_slots t.slots) c.leave_slot.ensures.table ∙ used_woken old.slots k c.args.ends.now time_waits.0 time_waits.1

pub returns-clause-slots : goal.returns-clause-slots
returns-clause-slots c = ap (λ (t : Flows). length t.slots) c.leave_slot.ensures.table ∙ length-set c.args.self.now.flows.table.slots c.in-Some.slot Free

use Rattle.std.proofs.Common.{subst, sym, arith, List}
use Rattle.flow_table.specs.declared.Slot.{Slot}
use Rattle.flow_table.specs.Slots.{Flows, NoneHas, MayBeTaken}
use Rattle.flow_table.specs.Rows.{IsVacated}
use Rattle.flow_table.proofs.Tables.{taken_table, same_table, none_has_then}
use Rattle.flow_table.proofs.Tuples.{none_stands}
use Rattle.flow_table.proofs.FlowTable.take.Goals as goal

pub insert_entry-requires-clause-new : goal.insert_entry-requires-clause-new
insert_entry-requires-clause-new c =
    let none = subst (λ (f : Flows). NoneHas f.slots c.args.t.now) (sym c.self.view_is) c.requires in
    let out = subst (λ (s : List Slot). IsVacated s c.in_ok-slot.slot c.self.inside.time_waits.items c.vacate.new.entries.items c.vacate.new.time_waits.items c.vacate.new.free.items)
    c.deref.ensures.value c.in_ok-slot.ensures.vacated in
    none_stands _ _ c.args.t.now out.by_tuple (none_has_then _ c.in_ok-slot.slot c.args.t.now none)

pub invariant_of-self : goal.invariant_of-self
invariant_of-self c =
    let same = c.in_err-slot.ensures.unchanged in
    same_table _ _ _ _ _ _ _ _ _ _ _ _ _ _ c.self.invariant same.0 same.1 same.2 c.in_err-slot.ensures.room c.in_err-slot.ensures.bed c.in_err-slot.ensures.stack

pub invariant_of-self-2 : goal.invariant_of-self-2
invariant_of-self-2 c =
    let none = subst (λ (f : Flows). NoneHas f.slots c.args.t.now) (sym c.self.view_is) c.requires in
    let out = subst (λ (s : List Slot). IsVacated s c.in_ok-slot.slot c.self.inside.time_waits.items c.vacate.new.entries.items c.vacate.new.time_waits.items c.vacate.new.free.items)
    c.deref.ensures.value c.in_ok-slot.ensures.vacated in
    let at = c.insert_entry.ensures.place in
    taken_table _ c.self.inside.time_wait_order.items c.self.inside.free.items _ c.self.inside.entries.items c.vacate.new.entries.items _ c.self.inside.time_waits.items _ c.in_ok-slot.slot
    at.0 c.args.t.now _ _ _ _ _ _ c.self.invariant none out c.in_ok-slot.ensures.count at.1.0 at.1.1
    (omega (arith, c.insert_entry.ensures.room, c.in_ok-slot.ensures.room)) c.in_ok-slot.ensures.bed c.in_ok-slot.ensures.stack

pub returns-clause-which : goal.returns-clause-which
returns-clause-which c =
    let out = subst (λ (s : List Slot). IsVacated s c.in_ok-slot.slot c.self.inside.time_waits.items c.vacate.new.entries.items c.vacate.new.time_waits.items c.vacate.new.free.items)
    c.deref.ensures.value c.in_ok-slot.ensures.vacated in
    subst (λ (f : Flows). MayBeTaken f c.in_ok-slot.slot) c.self.view_is (out.may c.self.inside.time_wait_order.items c.self.invariant.kept c.self.invariant.by_rest)

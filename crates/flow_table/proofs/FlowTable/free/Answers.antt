use Rattle.std.proofs.Common.{subst, sym, List, ℕ}
use Rattle.std.specs.Prelude.{slice_set}
use Rattle.flow_table.specs.declared.Slot.{Slot}
use Rattle.flow_table.specs.declared.Slot.TheVariants.{Free}
use Rattle.flow_table.specs.Rows.{AreEntries, AreTimeWaits}
use Rattle.flow_table.specs.Slots.{Flows, HasSome}
use Rattle.flow_table.proofs.Tables.{freed_table}
use Rattle.flow_table.proofs.FlowTable.free.Goals as goal

pub invariant_of-self : goal.invariant_of-self
invariant_of-self c =
    let has = subst (λ (f : Flows). HasSome f.slots c.args.slot) (sym c.self.view_is) c.requires in
    freed_table _ c.self.inside.time_wait_order.items c.self.inside.free.items c.give_back.new.free.items _ c.release.new.entries.items _ c.release.new.time_waits.items c.args.slot has.0 _ _
    _ _ _ _ c.self.invariant has.1 (subst (λ (s : List Slot). AreEntries (slice_set s c.args.slot Free) c.release.new.entries.items) c.deref.ensures.value
    c.release.ensures.entries) c.release.ensures.one (subst (λ (s : List Slot). (time_wait_order : List ℕ) → AreTimeWaits s time_wait_order c.self.inside.time_waits.items → AreTimeWaits
    (slice_set s c.args.slot Free) time_wait_order c.release.new.time_waits.items) c.deref.ensures.value c.release.ensures.time_waits) c.give_back.ensures.items c.release.ensures.room
    c.release.ensures.bed c.give_back.ensures.room

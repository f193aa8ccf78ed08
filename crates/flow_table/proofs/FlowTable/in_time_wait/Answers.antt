use Rattle.std.proofs.Common.{◌≡◌, List, ℕ, sym, ap, ◌∙◌, subst, arith}
use Rattle.std.specs.Prelude.{slice_set}
use Rattle.std.proofs.lemmas.List.{take_at}
use Rattle.flow_table.specs.declared.Slot.{Slot}
use Rattle.flow_table.specs.declared.Slot.TheVariants.{Free}
use Rattle.flow_table.specs.Slots.{Flows, HasSome, HasTuple, flows, moved_last}
use Rattle.flow_table.specs.Rows.{AreTimeWaits}
use Rattle.flow_table.proofs.Keeping.{has_within, tuple_is_read, rested_is}
use Rattle.flow_table.proofs.Tables.{rested_table, rests_below}
use Rattle.flow_table.proofs.FlowTable.in_time_wait.Goals as goal

-- the slot has a tuple
abbrev asked : (slots : List Slot) (time_wait_order : List ℕ) (now : Flows) (slot : ℕ) → flows slots time_wait_order ≡ now → HasSome now.slots slot → HasSome slots slot
asked slots time_wait_order now slot view has = subst (λ (f : Flows). HasSome f.slots slot) (sym view) has

pub insert_time_wait-requires-clause-room : goal.insert_time_wait-requires-clause-room
insert_time_wait-requires-clause-room c =
    let slots = c.self.inside.slots.items in
    let has = asked _ _ _ c.args.slot c.self.view_is c.requires in
    let ended = subst (λ (s : List Slot). (time_wait_order : List ℕ) → AreTimeWaits s time_wait_order c.self.inside.time_waits.items → AreTimeWaits
    (slice_set s c.args.slot Free) time_wait_order c.end_time_wait.new.time_waits.items) c.deref.ensures.value c.end_time_wait.ensures.time_waits in
    let below = rests_below slots c.self.inside.time_wait_order.items c.end_time_wait.new.time_waits.items c.args.slot (has_within slots c.args.slot has.0 has.1) (ended _ c.self.invariant.by_rest) in
    omega (arith, below, c.end_time_wait.ensures.room, c.self.invariant.rests_fit, c.end_time_wait.new.time_waits.ok.0)

pub index_mut-requires : goal.index_mut-requires
index_mut-requires c =
    let has = asked _ _ _ c.args.slot c.self.view_is c.requires in
    let w = has_within c.self.inside.slots.items c.args.slot has.0 has.1 in
    omega (arith, w, c.self.inside.slots.ok.0)

pub move_last-requires : goal.move_last-requires
move_last-requires c =
    let has = asked _ _ _ c.args.slot c.self.view_is c.requires in
    rw c.deref_mut.ensures.value (c.self.invariant.kept.all c.args.slot (has_within _ c.args.slot has.0 has.1))

pub invariant_of-self : goal.invariant_of-self
invariant_of-self c =
    let slots = c.self.inside.slots.items in
    let time_wait_order = c.self.inside.time_wait_order.items in
    let slot = c.args.slot in
    let has = asked slots time_wait_order _ slot c.self.view_is c.requires in
    let read = tuple_is_read slots slot c.index.result.now has.0 has.1 c.index.ensures in
    let is : HasTuple slots slot c.in-Some.tuple = has.1 ∙ sym read ∙ sym c.tuple.ensures ∙ c.in-Some.is in
    let ended = subst (λ (s : List Slot). (time_wait_order : List ℕ) → AreTimeWaits s time_wait_order c.self.inside.time_waits.items → AreTimeWaits
    (slice_set s slot Free) time_wait_order c.end_time_wait.new.time_waits.items) c.deref.ensures.value c.end_time_wait.ensures.time_waits in
    let at = c.insert_time_wait.ensures.place in
    rested_table slots time_wait_order _ c.self.inside.free.items c.self.inside.entries.items c.self.inside.time_waits.items c.end_time_wait.new.time_waits.items c.insert_time_wait.new.time_waits.items slot
    c.args.since at.0 c.in-Some.tuple _ _ _ _ c.self.invariant is ended at.1.0 at.1.1
    (take_at c.move_last.new.time_wait_order _ _ (omega arith) ∙ c.move_last.ensures ∙ ap (moved_last slot) c.deref_mut.ensures.value) (omega (arith, c.insert_time_wait.ensures.room, c.end_time_wait.ensures.room))

pub returns-in-Some : goal.returns-in-Some
returns-in-Some c = λ t has_t.
    let slots = c.self.inside.slots.items in
    let time_wait_order = c.self.inside.time_wait_order.items in
    let slot = c.args.slot in
    let has = asked slots time_wait_order _ slot c.self.view_is c.requires in
    let read = tuple_is_read slots slot c.index.result.now has.0 has.1 c.index.ensures in
    let is : HasTuple slots slot c.in-Some.tuple = has.1 ∙ sym read ∙ sym c.tuple.ensures ∙ c.in-Some.is in
    rested_is slots time_wait_order _ _ slot c.args.since t c.in-Some.tuple c.self.view_is is
    (take_at c.move_last.new.time_wait_order _ _ (omega arith) ∙ c.move_last.ensures ∙ ap (moved_last slot) c.deref_mut.ensures.value) has_t

pub returns-in_default : goal.returns-in_default
returns-in_default c = λ t has_t.
    let slots = c.self.inside.slots.items in
    let has = asked slots _ _ c.args.slot c.self.view_is c.requires in
    let read = tuple_is_read slots c.args.slot c.index.result.now has.0 has.1 c.index.ensures in
    absurd (c.in_default.not-Some has.0 (c.tuple.ensures ∙ read))

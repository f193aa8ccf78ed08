use Rattle.std.proofs.Common.{subst, arith, List, Option, ℕ, None}
use Rattle.std.specs.Prelude.{slice_set}
use Rattle.ordered_rows.specs.Rows.{AreQueued}
use Rattle.ordered_rows.proofs.Rowing.{set_row, row_room}
use Rattle.ordered_rows.proofs.SlotQueue.put.Goals as goal

pub insert_queued-requires-clause-room : goal.insert_queued-requires-clause-room
insert_queued-requires-clause-room c =
    let left = subst (λ (ms : List (Option ℕ)). AreQueued (slice_set ms c.args.slot None) c.take_from.new.row.items) c.deref.ensures.value c.take_from.ensures.queued in
    let below = row_room c.self.inside.numbers.items c.args.self.now c.take_from.new.row.items c.args.slot c.self.view_is c.requires left in
    omega (arith, below, c.take_from.ensures.room, c.self.invariant.fits, c.take_from.new.row.ok.0)

pub invariant_of-self : goal.invariant_of-self
invariant_of-self c =
    let left = subst (λ (ms : List (Option ℕ)). AreQueued (slice_set ms c.args.slot None) c.take_from.new.row.items) c.deref.ensures.value c.take_from.ensures.queued in
    let at = c.insert_queued.ensures.place in
    set_row c.self.inside.numbers.items c.args.self.now c.take_from.new.row.items c.insert_queued.new.row.items at.0 c.args.slot c.args.number _ _ c.self.view_is c.requires at.1.0 at.1.1
    left c.self.invariant.fits (omega (arith, c.insert_queued.ensures.room, c.take_from.ensures.room))

use Rattle.std.proofs.Common.{◌≡◌, List, Some, true, subst}
use Rattle.std.specs.List.{Contains}
use Rattle.net_world.specs.declared.ready_list.Listed.{Listed}
use Rattle.net_world.specs.declared.slot.Slot.{Slot}
use Rattle.net_world.specs.Tables.{Table, slot_at}
use Rattle.net_world.proofs.sockets.Sockets.readable.Goals as goal

pub returns-clause-only : goal.returns-clause-only
returns-clause-only g c = λ listed h.
    let s = c.self.invariant.0.stand listed (subst (λ (ls : List Listed). Contains ls listed) c.as_slice.ensures.value h) in
    subst (λ (t : Table g.row.S.Denot). (slot : Slot g.row.S.Denot) × (slot_at t.slots listed.key ≡ Some slot) × (slot.of ≡ listed.of) × (slot.ready.read ≡ true)) c.self.view_is s

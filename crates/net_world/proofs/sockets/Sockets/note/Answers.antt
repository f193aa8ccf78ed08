use Rattle.std.proofs.Common.{sym, refl, arith}
use Rattle.net_world.specs.declared.slot.Slot.{Slot}
use Rattle.net_world.proofs.Standing.{alone}
use Rattle.net_world.proofs.Changing.{changed, room, starved_still}
use Rattle.net_world.proofs.sockets.Sockets.note.Goals as goal

pub relist-requires-clause-alone : goal.relist-requires-clause-alone
relist-requires-clause-alone g c =
    let s = c.self.inside in
    alone s.slots.slots s.slots.capacity s.readable.items s.places.items c.token-key.result.0 c.in-Some.slot.now c.self.invariant.0 c.self.invariant.1 (sym c.in-Some.ensures.value)

pub relist-requires-clause-room : goal.relist-requires-clause-room
relist-requires-clause-room g c = λ unread.
    let s = c.self.inside in
    let free = room s.slots.slots s.slots.capacity s.readable.items c.token-key.result.0 c.in-Some.slot.now c.self.invariant.0 (sym c.in-Some.ensures.value) unread in
    omega (arith, free, c.self.invariant.5)

pub invariant_of-self-2 : goal.invariant_of-self-2
invariant_of-self-2 g c =
    let s = c.self.inside in
    let was = c.in-Some.slot.now in
    let is : Slot g.row.S.Denot = record was { ready = c.note.new.ready } in
    let whole = changed s.slots.slots s.slots.capacity s.readable.items c.relist.new.readable.items s.places.items c.token-key.result.0 was is c.self.invariant.0 c.self.invariant.1
    (sym c.in-Some.ensures.value) refl c.relist.ensures.lists in (
      whole.0,
      whole.1,
      starved_still s.slots.slots c.token-key.result.0 was is s.starved s.starved c.self.invariant.2 (sym c.in-Some.ensures.value)
          (λ starved. c.self.invariant.2 c.token-key.result.0 was (sym c.in-Some.ensures.value) starved) (λ starved. starved),
      c.self.invariant.3,
      c.self.invariant.4,
      omega (arith, c.self.invariant.5, c.relist.ensures.capacity),
    )

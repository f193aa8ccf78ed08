use Rattle.std.proofs.Common.{◌∙◌, sym, arith}
use Rattle.net_world.proofs.Changing.{alone_so, changed_so, room, starved_still}
use Rattle.net_world.proofs.sockets.Sockets.udp_recv.Goals as goal

pub relist-requires-clause-alone : goal.relist-requires-clause-alone
relist-requires-clause-alone g c =
    let s = c.self.inside in
    alone_so s.slots.slots s.slots.capacity s.readable.items s.places.items c.in-Some.key c.in-Some-get_mut.slot.now c.receive-got.new.slot.of c.self.invariant.0 c.self.invariant.1
    (sym c.in-Some-get_mut.ensures.value) c.receive-got.ensures.of

pub relist-requires-clause-room : goal.relist-requires-clause-room
relist-requires-clause-room g c = λ unread.
    let s = c.self.inside in
    let free = room s.slots.slots s.slots.capacity s.readable.items c.in-Some.key c.in-Some-get_mut.slot.now c.self.invariant.0 (sym c.in-Some-get_mut.ensures.value) unread in
    omega (arith, free, c.self.invariant.5)

pub invariant_of-self-2 : goal.invariant_of-self-2
invariant_of-self-2 g c =
    let s = c.self.inside in
    let was = c.in-Some-get_mut.slot.now in
    let is = c.receive-got.new.slot in
    let here = sym c.in-Some-get_mut.ensures.value in
    let whole = changed_so s.slots.slots s.slots.capacity s.readable.items c.relist.new.readable.items s.places.items c.in-Some.key was is c.self.invariant.0 c.self.invariant.1 here
    c.receive-got.ensures.of c.relist.ensures.lists in (
      whole.0,
      whole.1,
      starved_still s.slots.slots c.in-Some.key was is s.starved s.starved c.self.invariant.2 here
          (λ starved. c.self.invariant.2 c.in-Some.key was here (sym c.receive-got.ensures.starved ∙ starved)) (λ starved. starved),
      c.self.invariant.3,
      c.self.invariant.4,
      omega (arith, c.self.invariant.5, c.relist.ensures.capacity),
    )

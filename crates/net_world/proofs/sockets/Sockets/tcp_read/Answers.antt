use Rattle.std.proofs.Common.{◌≡◌, ◌∙◌, Some, length, sym, subst, refl, arith}
use Rattle.world_face.specs.Journal.{filled}
use Rattle.net_world.specs.declared.slot.Slot.{Slot}
use Rattle.net_world.specs.Tables.{IsRead, Table, slot_at}
use Rattle.net_world.proofs.Changing.{alone_so, becomes, changed_so, one_slot, room, starved_still}
use Rattle.net_world.proofs.sockets.Sockets.tcp_read.Goals as goal

pub relist-requires-clause-alone : goal.relist-requires-clause-alone
relist-requires-clause-alone g c =
    let s = c.self.inside in
    alone_so s.slots.slots s.slots.capacity s.readable.items s.places.items c.in-Some.key c.in-Some-get_mut.slot.now c.read-answer.new.slot.of c.self.invariant.0 c.self.invariant.1
    (sym c.in-Some-get_mut.ensures.value) c.read-answer.ensures.of

pub relist-requires-clause-room : goal.relist-requires-clause-room
relist-requires-clause-room g c = λ unread.
    let s = c.self.inside in
    let free = room s.slots.slots s.slots.capacity s.readable.items c.in-Some.key c.in-Some-get_mut.slot.now c.self.invariant.0 (sym c.in-Some-get_mut.ensures.value) unread in
    omega (arith, free, c.self.invariant.5)

pub invariant_of-self-2 : goal.invariant_of-self-2
invariant_of-self-2 g c =
    let s = c.self.inside in
    let was = c.in-Some-get_mut.slot.now in
    let is = c.read-answer.new.slot in
    let here = sym c.in-Some-get_mut.ensures.value in
    let whole = changed_so s.slots.slots s.slots.capacity s.readable.items c.relist.new.readable.items s.places.items c.in-Some.key was is c.self.invariant.0 c.self.invariant.1 here
    c.read-answer.ensures.of c.relist.ensures.lists in (
      whole.0,
      whole.1,
      starved_still s.slots.slots c.in-Some.key was is s.starved s.starved c.self.invariant.2 here
          (λ starved. c.self.invariant.2 c.in-Some.key was here (sym c.read-answer.ensures.starved ∙ starved)) (λ starved. starved),
      c.self.invariant.3,
      c.self.invariant.4,
      omega (arith, c.self.invariant.5, c.relist.ensures.capacity),
    )

pub returns-clause-reads : goal.returns-clause-reads
returns-clause-reads g c = λ key slot there number.
    let was = c.in-Some-get_mut.slot.now in
    let is = c.read-answer.new.slot in
    let e = c.read-answer.ensures in
    let at = c.in-Some.ensures.3 key slot there number in
    let here = sym c.in-Some-get_mut.ensures.value in
    let same = one_slot c.self.inside.slots.slots key c.in-Some.key was slot at here (subst (λ (t : Table g.row.S.Denot). slot_at t.slots key ≡ Some slot) (sym c.self.view_is) there) in
    let read : IsRead g.S.Stream.remaining g.S.Stream.contents g.S.Stream.answers was is (length c.args.into.now) c.read-answer.result (filled c.read-answer.result c.read-answer.new.into) =
    record { came = e.came; written = e.written; tells = e.tells; rests = e.rests; stays = e.stays; of = e.of; starved = e.starved } in (
      is,
      becomes _ _ _ key c.in-Some.key was is c.self.view_is at here refl refl refl refl,
      subst (λ (x : Slot g.row.S.Denot). IsRead g.S.Stream.remaining g.S.Stream.contents g.S.Stream.answers x is (length c.args.into.now) c.read-answer.result
          (filled c.read-answer.result c.read-answer.new.into)) same read,
    )

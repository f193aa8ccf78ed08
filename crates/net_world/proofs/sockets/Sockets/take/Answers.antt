use Rattle.std.proofs.Common.{◌≡◌, ◌∙◌, Some, Bool, true, false, ◌||◌, sym, ap, subst, refl, arith}
use Rattle.net_world.specs.declared.slot.Slot.{Slot}
use Rattle.net_world.specs.Tables.{Table, slot_at}
use Rattle.net_world.proofs.Changing.{alone_so, changed_so, one_slot, room, starved_still, taken}
use Rattle.net_world.proofs.sockets.Sockets.take.Goals as goal

either : (a b : Bool) → b ≡ true → (a || b) ≡ true
either true b is = refl
either false b is = is

first : (a b : Bool) → a ≡ true → (a || b) ≡ true
first true b is = refl
first false b is = cc

pub relist-requires-clause-alone : goal.relist-requires-clause-alone
relist-requires-clause-alone g c =
    let s = c.self.inside in
    alone_so s.slots.slots s.slots.capacity s.readable.items s.places.items c.in-Some.key c.in-Some-get_mut.slot.now c.take_from-came.new.slot.of c.self.invariant.0 c.self.invariant.1
    (sym c.in-Some-get_mut.ensures.value) c.take_from-came.ensures.of

pub relist-requires-clause-room : goal.relist-requires-clause-room
relist-requires-clause-room g c = λ unread.
    let s = c.self.inside in
    let free = room s.slots.slots s.slots.capacity s.readable.items c.in-Some.key c.in-Some-get_mut.slot.now c.self.invariant.0 (sym c.in-Some-get_mut.ensures.value) unread in
    omega (arith, free, c.self.invariant.5)

pub invariant_of-self-2 : goal.invariant_of-self-2
invariant_of-self-2 g c =
    let s = c.self.inside in
    let was = c.in-Some-get_mut.slot.now in
    let is = c.take_from-came.new.slot in
    let here = sym c.in-Some-get_mut.ensures.value in
    let whole = changed_so s.slots.slots s.slots.capacity s.readable.items c.relist.new.readable.items s.places.items c.in-Some.key was is c.self.invariant.0 c.self.invariant.1 here
    c.take_from-came.ensures.of c.relist.ensures.lists in (
      whole.0,
      whole.1,
      starved_still s.slots.slots c.in-Some.key was is s.starved (s.starved || is.starved) c.self.invariant.2 here (λ starved. either s.starved is.starved starved)
          (λ starved. first s.starved is.starved starved),
      c.self.invariant.3,
      c.self.invariant.4,
      omega (arith, c.self.invariant.5, c.relist.ensures.capacity),
    )

pub returns-clause-takes : goal.returns-clause-takes
returns-clause-takes g c = λ key slot there number.
    let was = c.in-Some-get_mut.slot.now in
    let is = c.take_from-came.new.slot in
    let e = c.take_from-came.ensures in
    let at = c.in-Some.ensures.3 key slot there number in
    let here = sym c.in-Some-get_mut.ensures.value in
    let same = one_slot c.self.inside.slots.slots key c.in-Some.key was slot at here (subst (λ (t : Table g.row.S.Denot). slot_at t.slots key ≡ Some slot) (sym c.self.view_is) there) in (
      is,
      taken _ _ _ key c.in-Some.key was slot is c.self.view_is at same here refl refl refl refl e.of e.socket e.stays,
      λ no_more could fed. e.kept no_more (ap (λ (x : Slot g.row.S.Denot). x.ready.read) same ∙ could) fed,
    )

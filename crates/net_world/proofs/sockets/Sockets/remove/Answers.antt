use Rattle.std.proofs.Common.{ℕ, ◌≡◌, ◌<◌, ◌≤◌, ◌∙◌, List, length, Option, Some, None, Ok, Err, set, sym, ap, subst, refl, arith}
use Rattle.std.specs.List.Sorted.{IsBinarySearchResult}
use Rattle.std.specs.Ordering.{nat_cmp}
use Rattle.net_world.specs.declared.slot.Slot.{Slot}
use Rattle.net_world.specs.declared.sockets.Place.{Place}
use Rattle.net_world.specs.Tables.{AreListed, ArePlaced, Finds, IsKnownStarved, OthersStay, Table, slot_at}
use Rattle.net_world.proofs.Standing.{alone}
use Rattle.net_world.proofs.Changing.{finds_none, found_place, out, removed, room, set_here, starved_without, stay_without}
use Rattle.net_world.proofs.sockets.Sockets.remove.Goals as goal

pub returns-in_default-clause-gone : goal.returns-in_default-clause-gone
returns-in_default-clause-gone g c = λ key f.
    let found = subst (λ (ps : List Place). IsBinarySearchResult (λ (p : Place). nat_cmp p.number c.args.number) ps (Err c.in_default.field-0)) c.deref.ensures.value c.in_default.ensures.position in
    let fits = subst (λ (ps : List Place). c.in_default.field-0 ≤ length ps) c.deref.ensures.value c.in_default.ensures.range in
    let none = finds_none c.self.inside.slots.slots c.self.inside.places.items c.args.number c.in_default.field-0 c.self.invariant.1 fits found in
    absurd (none key f.0 (subst (λ (t : Table g.row.S.Denot). slot_at t.slots key ≡ Some f.0) (sym c.self.view_is) f.1) f.2)

pub unreachable-requires : goal.unreachable-requires
unreachable-requires g c =
    let found = subst (λ (ps : List Place). IsBinarySearchResult (λ (p : Place). nat_cmp p.number c.args.number) ps (Ok c.in-Ok.at)) c.deref.ensures.value c.in-Ok.ensures.position in
    let below = subst (λ (ps : List Place). c.in-Ok.at < length ps) c.deref.ensures.value c.in-Ok.ensures.range in
    let f = found_place c.self.inside.slots.slots c.self.inside.places.items c.args.number c.in-Ok.at c.remove-key.result c.self.invariant.1 below c.remove-key.ensures.value found in
    let clash : None ≡ Some f.0 = sym c.in_default-try_remove.is ∙ c.try_remove.ensures.value ∙ f.1 in absurd (cc)

pub relist-requires-clause-has : goal.relist-requires-clause-has
relist-requires-clause-has g c = λ may. c.self.invariant.0.marked c.remove-key.result.key c.in-Some.slot (sym c.in-Some.ensures.value) may

pub relist-requires-clause-alone : goal.relist-requires-clause-alone
relist-requires-clause-alone g c =
    let s = c.self.inside in
    alone s.slots.slots s.slots.capacity s.readable.items s.places.items c.remove-key.result.key c.in-Some.slot c.self.invariant.0 c.self.invariant.1 (sym c.in-Some.ensures.value)

pub relist-requires-clause-room : goal.relist-requires-clause-room
relist-requires-clause-room g c = λ unread.
    let s = c.self.inside in
    let free = room s.slots.slots s.slots.capacity s.readable.items c.remove-key.result.key c.in-Some.slot c.self.invariant.0 (sym c.in-Some.ensures.value) unread in
    omega (arith, free, c.self.invariant.5)

pub invariant_of-self : goal.invariant_of-self
invariant_of-self g c =
    let s = c.self.inside in
    let p = c.remove-key.result in
    let was = c.in-Some.slot in
    let here = sym c.in-Some.ensures.value in
    let below = subst (λ (ps : List Place). c.in-Ok.at < length ps) c.deref.ensures.value c.in-Ok.ensures.range in
    let whole = removed s.slots.slots s.slots.capacity s.readable.items c.relist.new.readable.items s.places.items c.in-Ok.at p was c.self.invariant.0 c.self.invariant.1 below
    c.remove-key.ensures.value here c.relist.ensures.lists in
    let slots = c.in-Some.ensures.slots in
    let keys = c.in-Some.ensures.capacity in (
      subst (λ (ss : List (Option (Slot g.row.S.Denot))). AreListed ss c.try_remove.new.self.capacity c.relist.new.readable.items) (sym slots)
          (subst (λ (n : ℕ). AreListed (set s.slots.slots p.key None) n c.relist.new.readable.items) (sym keys) whole.0),
      subst (λ (ss : List (Option (Slot g.row.S.Denot))). ArePlaced ss c.remove-key.new.self.items) (sym slots)
          (subst (λ (ps : List Place). ArePlaced (set s.slots.slots p.key None) ps) (sym c.remove-key.ensures.items) whole.1),
      subst (λ (ss : List (Option (Slot g.row.S.Denot))). IsKnownStarved ss s.starved) (sym slots) (starved_without s.slots.slots p.key was s.starved c.self.invariant.2 here),
      omega (arith, keys, c.self.invariant.3),
      omega (arith, c.remove-key.ensures.capacity, c.self.invariant.4),
      omega (arith, keys, c.self.invariant.5, c.relist.ensures.capacity),
    )

pub returns-clause-none : goal.returns-clause-none
returns-clause-none g c = λ none.
    let found = subst (λ (ps : List Place). IsBinarySearchResult (λ (p : Place). nat_cmp p.number c.args.number) ps (Ok c.in-Ok.at)) c.deref.ensures.value c.in-Ok.ensures.position in
    let below = subst (λ (ps : List Place). c.in-Ok.at < length ps) c.deref.ensures.value c.in-Ok.ensures.range in
    let f = found_place c.self.inside.slots.slots c.self.inside.places.items c.args.number c.in-Ok.at c.remove-key.result c.self.invariant.1 below c.remove-key.ensures.value found in
    absurd (none c.remove-key.result.key f.0 (subst (λ (t : Table g.row.S.Denot). slot_at t.slots c.remove-key.result.key ≡ Some f.0) c.self.view_is f.1) f.2)

pub returns-clause-gone : goal.returns-clause-gone
returns-clause-gone g c = λ key its.
    let s = c.self.inside in
    let p = c.remove-key.result in
    let found = subst (λ (ps : List Place). IsBinarySearchResult (λ (q : Place). nat_cmp q.number c.args.number) ps (Ok c.in-Ok.at)) c.deref.ensures.value c.in-Ok.ensures.position in
    let below = subst (λ (ps : List Place). c.in-Ok.at < length ps) c.deref.ensures.value c.in-Ok.ensures.range in
    let f = found_place s.slots.slots s.places.items c.args.number c.in-Ok.at p c.self.invariant.1 below c.remove-key.ensures.value found in
    let at : p.key ≡ key = its.3 p.key f.0 (subst (λ (t : Table g.row.S.Denot). slot_at t.slots p.key ≡ Some f.0) c.self.view_is f.1) f.2 in
    let slots = c.in-Some.ensures.slots in
    let gone : slot_at c.try_remove.new.self.slots p.key ≡ None =
    ap (λ (ss : List (Option (Slot g.row.S.Denot))). slot_at ss p.key) slots ∙ set_here s.slots.slots p.key c.in-Some.slot None (sym c.in-Some.ensures.value) in
    let stay : OthersStay c.args.self.now.slots c.try_remove.new.self.slots p.key =
    subst (λ (t : Table g.row.S.Denot). OthersStay t.slots c.try_remove.new.self.slots p.key) c.self.view_is (stay_without s.slots.slots c.try_remove.new.self.slots p.key slots) in (
      refl,
      subst (λ (k : ℕ). slot_at c.try_remove.new.self.slots k ≡ None) at gone,
      subst (λ (k : ℕ). OthersStay c.args.self.now.slots c.try_remove.new.self.slots k) at stay,
      ap (λ (t : Table g.row.S.Denot). t.starved) c.self.view_is,
    )

pub returns-in_default-clause-out : goal.returns-in_default-clause-out
returns-in_default-clause-out g c =
    let found = subst (λ (ps : List Place). IsBinarySearchResult (λ (p : Place). nat_cmp p.number c.args.number) ps (Err c.in_default.field-0)) c.deref.ensures.value c.in_default.ensures.position in
    let fits = subst (λ (ps : List Place). c.in_default.field-0 ≤ length ps) c.deref.ensures.value c.in_default.ensures.range in
    let none = finds_none c.self.inside.slots.slots c.self.inside.places.items c.args.number c.in_default.field-0 c.self.invariant.1 fits found in
    subst (λ (t : Table g.row.S.Denot). Finds t.slots c.args.number None) c.self.view_is none

pub returns-clause-out : goal.returns-clause-out
returns-clause-out g c =
    let s = c.self.inside in
    let p = c.remove-key.result in
    let found = subst (λ (ps : List Place). IsBinarySearchResult (λ (q : Place). nat_cmp q.number c.args.number) ps (Ok c.in-Ok.at)) c.deref.ensures.value c.in-Ok.ensures.position in
    let below = subst (λ (ps : List Place). c.in-Ok.at < length ps) c.deref.ensures.value c.in-Ok.ensures.range in
    let f = found_place s.slots.slots s.places.items c.args.number c.in-Ok.at p c.self.invariant.1 below c.remove-key.ensures.value found in
    let slots = c.in-Some.ensures.slots in
    let gone : slot_at c.try_remove.new.self.slots p.key ≡ None =
    ap (λ (ss : List (Option (Slot g.row.S.Denot))). slot_at ss p.key) slots ∙ set_here s.slots.slots p.key c.in-Some.slot None (sym c.in-Some.ensures.value) in
    out s.slots.slots c.try_remove.new.self.slots p.key c.args.number f gone (stay_without s.slots.slots c.try_remove.new.self.slots p.key slots)

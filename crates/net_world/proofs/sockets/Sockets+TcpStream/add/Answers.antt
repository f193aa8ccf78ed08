use Rattle.std.proofs.Common.{◌≡◌, ◌∙◌, ◌<◌, ◌≤◌, ℕ, List, length, None, Err, true, false, count_by, is_some, sym, ap, subst, refl, arith}
use Rattle.std.specs.List.{insert}
use Rattle.std.specs.List.Sorted.{IsBinarySearchResult}
use Rattle.std.specs.Ordering.{nat_cmp}
use Rattle.mio.specs.declared.net.stream.TcpStream.{TcpStream}
use Rattle.net_world.specs.declared.sockets.TheConstants.{MOST}
use Rattle.net_world.specs.declared.sockets.Place.{Place}
use Rattle.net_world.specs.declared.slot.Slot.{Slot}
use Rattle.net_world.specs.Tables.{AreListed, ArePlaced, Finds, OthersStay, Table, number_of, place_at, ready_for_none, slot_at}
use Rattle.net_world.proofs.Standing.{inserted}
use Rattle.net_world.proofs.Changing.{added, finds_none, starved_with}
use Rattle.net_world.proofs.sockets.Sockets+TcpStream.add.Goals as goal

pub returns-in_default-clause-opened : goal.returns-in_default-clause-opened
returns-in_default-clause-opened c = λ done. absurd (cc)

pub returns-then-not-register-clause-opened : goal.returns-then-not-register-clause-opened
returns-then-not-register-clause-opened c = λ done. absurd (cc)

pub insert_reserved-key-requires : goal.insert_reserved-key-requires
insert_reserved-key-requires c =
    let few = subst (λ (t : Table TcpStream). count_by is_some t.slots < MOST) (sym c.self.view_is) c.in-Some.ensures.slots in
    omega (arith, few, c.self.invariant.3)

pub insert-requires : goal.insert-requires
insert-requires c =
    let within = subst (λ (t : Table TcpStream). c.in-Some.at ≤ length t.places) (sym c.self.view_is) c.in-Some.ensures.at in
    omega (arith, within, c.self.inside.places.ok.0)

pub invariant_of-self : goal.invariant_of-self
invariant_of-self c =
    let s = c.self.inside in
    let key = c.insert_reserved-key.result in
    let new = c.insert_reserved-key.new.self in
    let e = c.insert_reserved-key.ensures in
    let is : Slot TcpStream = record { of = c.args.of; socket = c.register.new.socket; ready = ready_for_none; starved = false } in
    let number = ap (λ (r : ℕ × ℕ). r.1) c.rank-number.ensures in
    let found = subst (λ (n : ℕ). IsBinarySearchResult (λ (p : Place). nat_cmp p.number n) s.places.items (Err c.in-Some.at)) number
    (subst (λ (t : Table TcpStream). IsBinarySearchResult (λ (p : Place). nat_cmp p.number c.rank-number.result.1) t.places (Err c.in-Some.at)) (sym c.self.view_is) c.in-Some.ensures.position) in
    let within = subst (λ (t : Table TcpStream). c.in-Some.at ≤ length t.places) (sym c.self.view_is) c.in-Some.ensures.at in
    let below : c.insert_reserved-key.result < c.self.inside.slots.capacity = omega (arith, e.key_in_range, e.capacity) in
    let whole = added s.slots.slots new.slots s.slots.capacity s.readable.items s.places.items key c.in-Some.at is c.self.invariant.0 c.self.invariant.1 e.was_vacant e.updates.changed
    (λ other not. e.updates.others other not) below refl within found in
    let few = subst (λ (t : Table TcpStream). length t.places < MOST) (sym c.self.view_is) c.in-Some.ensures.places in
    let items = inserted c.insert.result _ _ _ (c.insert.ensures.succeeds (omega (arith, few, c.self.inside.places.ok.0, c.self.invariant.4))) c.insert.ensures.items in (
      subst (λ (n : ℕ). AreListed c.insert_reserved-key.new.self.slots n c.self.inside.readable.items) (sym e.capacity) whole.0,
      subst (λ (ps : List Place). ArePlaced c.insert_reserved-key.new.self.slots ps)
          (sym (items ∙ ap (λ (n : ℕ). insert c.self.inside.places.items c.in-Some.at (place_at n c.insert_reserved-key.result)) number)) whole.1,
      starved_with s.slots.slots new.slots key is s.starved c.self.invariant.2 e.updates.changed refl (λ other not. e.updates.others other not),
      omega (arith, e.capacity, c.self.invariant.3),
      omega (arith, c.insert.ensures.capacity, c.self.invariant.4),
      omega (arith, e.capacity, c.self.invariant.5),
    )

pub returns-clause-opened : goal.returns-clause-opened
returns-clause-opened c = λ done.
    let s = c.self.inside in
    let e = c.insert_reserved-key.ensures in
    let number = ap (λ (r : ℕ × ℕ). r.1) c.rank-number.ensures in
    let found = subst (λ (n : ℕ). IsBinarySearchResult (λ (p : Place). nat_cmp p.number n) s.places.items (Err c.in-Some.at)) number
    (subst (λ (t : Table TcpStream). IsBinarySearchResult (λ (p : Place). nat_cmp p.number c.rank-number.result.1) t.places (Err c.in-Some.at)) (sym c.self.view_is) c.in-Some.ensures.position) in
    let within = subst (λ (t : Table TcpStream). c.in-Some.at ≤ length t.places) (sym c.self.view_is) c.in-Some.ensures.at in
    let none = finds_none s.slots.slots s.places.items (number_of c.args.of) c.in-Some.at c.self.invariant.1 within found in
    record {
      key = c.insert_reserved-key.result;
      slot = record { of = c.args.of; socket = c.register.new.socket; ready = ready_for_none; starved = false };
      free = subst (λ (t : Table TcpStream). Finds t.slots (number_of c.args.of) None) c.self.view_is none;
      vacant = subst (λ (t : Table TcpStream). slot_at t.slots c.insert_reserved-key.result ≡ None) c.self.view_is e.was_vacant;
      here = e.updates.changed;
      is_of = refl;
      ready = refl;
      others = subst (λ (t : Table TcpStream). OthersStay t.slots c.insert_reserved-key.new.self.slots c.insert_reserved-key.result) c.self.view_is (λ other not. e.updates.others other not);
      readable = ap (λ (t : Table TcpStream). t.readable) c.self.view_is;
      last = ap (λ (t : Table TcpStream). t.last) c.self.view_is;
    }

pub returns-clause-refused : goal.returns-clause-refused
returns-clause-refused c = λ not.
    let few = subst (λ (t : Table TcpStream). length t.places < MOST) (sym c.self.view_is) c.in-Some.ensures.places in
    let done = c.insert.ensures.succeeds (omega (arith, few, c.self.inside.places.ok.0, c.self.invariant.4)) in
    let clash : false ≡ true = sym not ∙ c.is_ok.ensures.value ∙ done in absurd (cc)

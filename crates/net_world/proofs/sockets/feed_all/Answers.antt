use Rattle.std.proofs.Common.{◌≡◌, ◌∙◌, length, refl, sym, subst, ℕ, arith}
use Rattle.net_world.proofs.Feeding.{IsFedTo, fed_all, fed_more_at, fed_none, was_fed}
use Rattle.net_world.proofs.sockets.feed_all.Goals as goal

pub loop-place-init : goal.loop-place-init
loop-place-init g c = (c.requires.listed, c.requires.placed, refl, c.requires.room, fed_none c.args.slots.now.slots c.args.places.now)

pub feed_one-requires-clause-listed : goal.feed_one-requires-clause-listed
feed_one-requires-clause-listed g c = c.loop-place.invariant.0

pub feed_one-requires-clause-placed : goal.feed_one-requires-clause-placed
feed_one-requires-clause-placed g c = (c.args.places.now, c.loop-place.invariant.1)

pub feed_one-requires-clause-room : goal.feed_one-requires-clause-room
feed_one-requires-clause-room g c = c.loop-place.invariant.3

pub loop-place-preserved : goal.loop-place-preserved
loop-place-preserved g c =
    let i = c.loop-place.invariant in
    let e = c.feed_one.ensures in (
      e.listed,
      e.placed c.args.places.now i.1,
      e.capacity ∙ i.2,
      e.room,
      fed_more_at c.args.slots.now.slots c.loop-place.slots.slots c.feed_one.new.slots.slots c.args.places.now c.loop-place.place-index _ i.4 c.loop-place-test.true e.fed e.others,
    )

pub returns-clause-fed : goal.returns-clause-fed
returns-clause-fed g c =
    let i = c.loop-place.invariant in
    let whole : c.loop-place.place-index ≡ length c.args.places.now = omega (arith, c.loop-place-test.false, c.loop-place.auto.place-index-end) in
    fed_all c.args.slots.now.slots c.loop-place.slots.slots c.args.places.now c.requires.placed
    (subst (λ (n : ℕ). IsFedTo c.args.slots.now.slots c.loop-place.slots.slots c.args.places.now n) whole i.4)

pub returns-clause-listed : goal.returns-clause-listed
returns-clause-listed g c = c.loop-place.invariant.0

pub returns-clause-placed : goal.returns-clause-placed
returns-clause-placed g c = c.loop-place.invariant.1

pub returns-clause-capacity : goal.returns-clause-capacity
returns-clause-capacity g c = c.loop-place.invariant.2

pub returns-clause-room : goal.returns-clause-room
returns-clause-room g c = c.loop-place.invariant.3

pub returns-clause-known : goal.returns-clause-known
returns-clause-known g c = λ key slot here starved.
    let i = c.loop-place.invariant in
    let whole : c.loop-place.place-index ≡ length c.args.places.now = omega (arith, c.loop-place-test.false, c.loop-place.auto.place-index-end) in
    let all = fed_all c.args.slots.now.slots c.loop-place.slots.slots c.args.places.now c.requires.placed
    (subst (λ (n : ℕ). IsFedTo c.args.slots.now.slots c.loop-place.slots.slots c.args.places.now n) whole i.4) in
    sym (was_fed c.args.slots.now.slots c.loop-place.slots.slots all key slot here).3 ∙ starved

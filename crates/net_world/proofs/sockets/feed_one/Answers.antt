use Rattle.std.proofs.Common.{sym, refl, arith}
use Rattle.net_world.specs.Tables.{fed}
use Rattle.net_world.proofs.Standing.{alone}
use Rattle.net_world.proofs.Changing.{changed, room}
use Rattle.net_world.proofs.sockets.feed_one.Goals as goal

pub relist-requires-clause-alone : goal.relist-requires-clause-alone
relist-requires-clause-alone g c =
    let s = c.args.slots.now in
    alone s.slots s.capacity c.args.readable.now.items c.requires.placed.0 c.args.key c.in-Some.slot.now c.requires.listed c.requires.placed.1 (sym c.in-Some.ensures.value)

pub relist-requires-clause-room : goal.relist-requires-clause-room
relist-requires-clause-room g c = λ unread.
    let s = c.args.slots.now in
    let free = room s.slots s.capacity c.args.readable.now.items c.args.key c.in-Some.slot.now c.requires.listed (sym c.in-Some.ensures.value) unread in
    omega (arith, free, c.requires.room)

pub returns-clause-listed : goal.returns-clause-listed
returns-clause-listed g c =
    let s = c.args.slots.now in
    (changed s.slots s.capacity c.args.readable.now.items c.relist.new.readable.items c.requires.placed.0 c.args.key c.in-Some.slot.now (fed c.in-Some.slot.now) c.requires.listed
    c.requires.placed.1 (sym c.in-Some.ensures.value) refl c.relist.ensures.lists).0

pub returns-clause-placed : goal.returns-clause-placed
returns-clause-placed g c = λ places placed.
    let s = c.args.slots.now in
    (changed s.slots s.capacity c.args.readable.now.items c.relist.new.readable.items places c.args.key c.in-Some.slot.now (fed c.in-Some.slot.now) c.requires.listed
    placed (sym c.in-Some.ensures.value) refl c.relist.ensures.lists).1

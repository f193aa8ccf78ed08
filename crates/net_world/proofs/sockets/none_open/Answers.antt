use Rattle.net_world.proofs.Changing.{nothing_listed, nothing_placed, nothing_starved}
use Rattle.net_world.proofs.sockets.none_open.Goals as goal

pub invariant_of-result : goal.invariant_of-result
invariant_of-result g c = (
  nothing_listed c.args.slots.slots c.args.slots.capacity c.args.readable.items c.requires.slots c.requires.readable,
  nothing_placed c.args.slots.slots c.args.places.items c.requires.slots c.requires.places,
  nothing_starved c.args.slots.slots c.requires.slots,
  c.requires.room,
  c.requires.most,
  c.requires.all,
)

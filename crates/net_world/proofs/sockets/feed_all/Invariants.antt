use Rattle.std.proofs.Common.{◌≡◌, ◌≤◌, vec_capacity}
use Rattle.net_world.specs.Tables.{AreListed, ArePlaced}
use Rattle.net_world.proofs.Feeding.{IsFedTo}
use Rattle.net_world.proofs.sockets.feed_all.Given as goal

abbrev pub invariant-loop-place : goal.invariant-loop-place
invariant-loop-place g l = AreListed l.slots.slots l.slots.capacity l.readable.items × ArePlaced l.slots.slots l.places × (l.slots.capacity ≡ l.initial.slots.capacity)
    × (l.slots.capacity ≤ vec_capacity l.readable) × IsFedTo l.initial.slots.slots l.slots.slots l.places l.place-index

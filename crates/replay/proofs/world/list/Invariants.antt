use Rattle.std.proofs.Common.{◌≡◌, take}
use Rattle.replay.proofs.world.list.Given as goal

abbrev pub invariant-loop-item : goal.invariant-loop-item
invariant-loop-item l = record { items : l.into.items ≡ take l.item-index l.items; capacity : l.into.capacity ≡ l.initial.into.capacity }

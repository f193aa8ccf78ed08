use Rattle.std.proofs.Common.{◌≡◌, ◌⊎◌, ℕ, ◌+◌, ◌<◌, ◌≤◌, true, length, get_or}
use Rattle.std.specs.List.{Contains}
use Rattle.poll_list.specs.declared.Want.{Want}
use Rattle.poll_list.specs.declared.Who.TheVariants.{Link}
use Rattle.poll_list.specs.Writes.{count_to_write}
use Rattle.poll_list.specs.Picks.{GoesOn, BeginsWithLink}
use Rattle.net_world.specs.declared.ready_list.Listed.{Listed}
use Rattle.net_world.specs.Telling.{AreInOrder, AreReady, IsWritable, TellsOneRead, TellsRead, TellsWrite, read_sockets}
use Rattle.net_world.proofs.gathering.gather.Given as goal

abbrev pub invariant-loop-listed : goal.invariant-loop-listed
invariant-loop-listed l = record {
  picks : GoesOn l.fn.wants.items l.left l.ready.items;
  counted : l.to_write ≡ count_to_write l.left;
  link : BeginsWithLink l.fn.link.read l.fn.link.write l.fn.wants.items l.ready.items;
  few : length l.ready.items + length l.left ≤ length l.fn.wants.items;
  capacity : l.ready.capacity ≡ l.fn.ready.capacity;
  ready : AreReady l.fn.link l.fn.sockets.slots l.ready.items;
  writes : (want : Want) → Contains l.fn.wants.items want → (want.of ≡ Link → ⊥) → Contains l.left want
      ⊎ (want.write ≡ true → IsWritable l.fn.sockets.slots want.of → TellsWrite l.ready.items want.of);
  most : read_sockets l.ready.items + l.room ≤ l.fn.most;
  some : (l.room ≡ l.fn.most) ⊎ TellsOneRead l.fn.sockets.slots l.ready.items;
  room : l.fn.most ≤ l.room + l.listed-index;
  order : AreInOrder l.fn.wants.items → AreInOrder l.left;
  ahead : AreInOrder l.fn.wants.items → (want : Want) → Contains l.fn.wants.items want → (want.of ≡ Link → ⊥) → (place : ℕ) (other : Listed) → l.listed-index ≤ place → place < length l.listed-items
      → (get_or l.listed-items place other).of ≡ want.of → Contains l.left want;
  told : AreInOrder l.fn.wants.items → (want : Want) → Contains l.fn.wants.items want → (want.of ≡ Link → ⊥) → want.read ≡ true → (place : ℕ) (other : Listed) → place < l.listed-index
      → (get_or l.listed-items place other).of ≡ want.of → TellsRead l.ready.items want.of;
}

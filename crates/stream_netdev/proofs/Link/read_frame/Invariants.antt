use Rattle.std.proofs.Common.{◌≡◌, ◌-◌, List, false, length}
use Rattle.world_face.specs.Journal.{Entry}
use Rattle.world_face.specs.Tells.{Makes}
use Rattle.stream_netdev.specs.Keeps.{ReadsOn, Keeps}
use Rattle.stream_netdev.proofs.Reading.{Middle}
use Rattle.stream_netdev.proofs.Link.read_frame.Given as goal

abbrev pub invariant-loop-self : goal.invariant-loop-self
invariant-loop-self g l = record {
  makes : Makes (g.W.World.tells l.fn.world) (g.W.World.tells l.world) (λ made. (past : List Entry) → Keeps l.fn.self past → Middle l.fn.self made past l.self.octets);
  on : ReadsOn l.self.octets;
  begun : l.self.whole ≡ false;
  same : (l.self.tail ≡ l.fn.self.tail) × (l.self.blocked ≡ l.fn.self.blocked);
}

abbrev pub decreases-loop-self : goal.decreases-loop-self
decreases-loop-self g l = 69636 - length l.self.octets

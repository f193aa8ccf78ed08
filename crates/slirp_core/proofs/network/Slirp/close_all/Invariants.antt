use Rattle.std.proofs.Common.{◌≡◌, true}
use Rattle.world_face.specs.Tells.{Makes}
use Rattle.slirp_core.specs.Firsts.{open_count}
use Rattle.slirp_core.specs.Forwards.{AreCloses}
use Rattle.slirp_core.specs.Holds.{ClosesNext, HoldsNothingElse, holders_of}
use Rattle.slirp_core.proofs.Alone.{AreLeft}
use Rattle.slirp_core.proofs.network.Slirp.close_all.Given as goal

abbrev pub invariant-loop : goal.invariant-loop
invariant-loop g l = record {
  makes : Makes (g.W.World.tells l.fn.world) (g.W.World.tells l.world)
      (λ made. ClosesNext true l.fn.self.forwards l.self.forwards (holders_of l.fn.self) (holders_of l.self) made × AreCloses made);
  ports : HoldsNothingElse l.fn.self → HoldsNothingElse l.self × Makes (g.W.World.tells l.fn.world) (g.W.World.tells l.world) (AreLeft l.fn.self.forwards l.self.forwards);
  config : l.self.config ≡ l.fn.self.config;
  number : l.self.number ≡ l.fn.self.number;
  turn : l.self.flows.turn ≡ l.fn.self.flows.turn;
}

abbrev pub decreases-loop : goal.decreases-loop
decreases-loop g l = open_count l.self

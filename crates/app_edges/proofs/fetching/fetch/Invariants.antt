use Rattle.std.proofs.Common.{◌≡◌, ◌-◌, ◌≤◌, length}
use Rattle.world_face.specs.Tells.{Brings}
use Rattle.app_edges.specs.Fetching.{Fetched}
use Rattle.app_edges.proofs.fetching.fetch.Given as goal

abbrev pub invariant-loop-have : goal.invariant-loop-have
invariant-loop-have g l = record {
  brings : Brings (g.W.World.tells l.fn.world) (g.W.World.tells l.world) (Fetched l.fn.name (length l.fn.octets) 0 l.fn.octets) (Fetched l.fn.name (length l.fn.octets) l.have l.octets);
  within : l.have ≤ length l.octets;
  size : length l.octets ≡ length l.fn.octets;
}

abbrev pub decreases-loop-have : goal.decreases-loop-have
decreases-loop-have g l = length l.octets - l.have

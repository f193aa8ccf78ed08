use Rattle.std.proofs.Common.{◌≡◌, ◌*◌, ◌+◌, ◌≤◌, false}
use Rattle.world_face.specs.Tells.{Makes}
use Rattle.stream_netdev.specs.Keeps.{ReadsOn}
use Rattle.stream_netdev.specs.State.{under_way}
use Rattle.slirp_core.specs.Counts.{AreGrown}
use Rattle.slirp_core.specs.Holds.{after}
use Rattle.serve_loop.specs.Turns.{AttendsNow, IsCalm}
use Rattle.serve_loop.proofs.service.Service.serve.Given as goal

abbrev pub invariant-loop-count : goal.invariant-loop-count
invariant-loop-count g l = record {
  makes : Makes (g.W.World.tells l.fn.world) (g.W.World.tells l.world) (AttendsNow l.fn.self.slirp.config (after l._count) false l.self.slirp l.self.link);
  calm : IsCalm l.self.slirp l.self.link;
  on : ReadsOn (under_way l.self.link);
  config : l.self.slirp.config ≡ l.fn.self.slirp.config;
  number : l.self.slirp.number ≤ l._count * 5155 + 32;
  turns : l.self.slirp.flows.turn ≤ l._count;
  counts : AreGrown (g.W.World.tells l.fn.world).faults (g.W.World.tells l.world).faults;
}

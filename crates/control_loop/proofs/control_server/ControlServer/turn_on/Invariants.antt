use Rattle.std.proofs.Common.{◌≡◌, ◌≤◌, List, [], ◌++◌}
use Rattle.world_face.specs.Journal.{Entry}
use Rattle.world_face.specs.Tells.{Makes}
use Rattle.slirp_core.specs.Counts.{AreGrown}
use Rattle.spec_control.specs.ControlServer.{Reads}
use Rattle.spec_control.specs.Laws.{IsReading}
use Rattle.control_loop.specs.Standing.{IsFit, IsReady, Stands}
use Rattle.control_loop.proofs.control_server.ControlServer.turn_on.Given as goal

abbrev pub invariant-loop-count : goal.invariant-loop-count
invariant-loop-count g l = record {
  makes : Makes (g.W.World.tells l.fn.world.world) (g.W.World.tells l.world.world) (λ made. (read : Reads) → IsReading l.fn.self.service.slirp.config read → (past : List Entry)
      → Stands [] l.fn.self.session l.fn.self.service.slirp l.fn.self.service.link read l.fn.self.service.slirp.config 0 past
      → Stands [] l.self.session l.self.service.slirp l.self.service.link read l.fn.self.service.slirp.config l._count (made ++ past));
  ready : IsReady l.self.session;
  fit : IsFit l.self.service l._count;
  had : l.self.session.had ≤ l._count;
  config : l.self.service.slirp.config ≡ l.fn.self.service.slirp.config;
  at : l.self.at ≡ l.fn.self.at;
  guest : l.self.guest ≡ l.fn.self.guest;
  counts : AreGrown (g.W.World.tells l.fn.world.world).faults (g.W.World.tells l.world.world).faults;
}

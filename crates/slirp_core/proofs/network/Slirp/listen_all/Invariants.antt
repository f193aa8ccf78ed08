use Rattle.std.proofs.Common.{◌≡◌, take}
use Rattle.slirp_settings.specs.Addresses.{Config}
use Rattle.world_face.specs.Tells.{Brings}
use Rattle.stream_netdev.specs.State.{LinkState}
use Rattle.slirp_core.specs.Counts.{AreGrown}
use Rattle.slirp_core.specs.Forwards.{with_numbers}
use Rattle.slirp_core.specs.Holds.{Opens, as_given}
use Rattle.slirp_core.proofs.network.Slirp.listen_all.Given as goal

abbrev pub invariant-loop-place : goal.invariant-loop-place
invariant-loop-place g l = record {
  makes : (config : Config) (link : LinkState) → l.fn.self.config ≡ as_given config → Brings (g.W.World.tells l.fn.world) (g.W.World.tells l.world) (Opens config 0 l.fn.self link)
      (Opens config l.place l.self link);
  counts : AreGrown (g.W.World.tells l.fn.world).faults (g.W.World.tells l.world).faults;
  forwards : l.self.forwards ≡ with_numbers 0 (take l.place l.fn.self.config.forwards);
  others : l.self ≡ record l.fn.self { number = l.place; forwards = l.self.forwards };
}

use Rattle.std.proofs.Common.{◌≡◌, Bool, false, [], length}
use Rattle.world_face.specs.Tells.{Brings}
use Rattle.stream_netdev.specs.State.{under_way}
use Rattle.slirp_settings.specs.Addresses.{Config}
use Rattle.slirp_core.specs.Holds.{Standing, Holds, flowing}
use Rattle.slirp_core.proofs.network.Slirp.pump_pending.Given as goal

abbrev pub invariant-loop-self : goal.invariant-loop-self
invariant-loop-self g l = record {
  makes : (config : Config) (at : Standing) (aged : Bool) → Brings (g.W.World.tells l.fn.world) (g.W.World.tells l.world)
      (Holds config at l.fn.self (flowing aged l.fn.self.flows) l.fn.link) (Holds config at l.self (flowing aged l.self.flows) l.link);
  free : l.link.blocked ≡ false;
  none : l.link.tail ≡ [];
  same : under_way l.link ≡ under_way l.fn.link;
  others : l.self ≡ record l.fn.self { pending = l.self.pending; sent = l.self.sent };
}

abbrev pub decreases-loop-self : goal.decreases-loop-self
decreases-loop-self g l = length l.self.pending

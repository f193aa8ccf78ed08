use Rattle.std.proofs.Common.{◌≡◌, ℕ, ◌+◌, ◌≤◌, true, drop}
use Rattle.world_face.specs.Tells.{Brings}
use Rattle.slirp_settings.specs.Addresses.{Config}
use Rattle.poll_list.specs.Listing.{reads}
use Rattle.poll_list.specs.declared.Who.TheVariants.{Link as TheLink}
use Rattle.stream_netdev.specs.Keeps.{ReadsOn}
use Rattle.stream_netdev.specs.State.{under_way}
use Rattle.slirp_core.specs.Counts.{AreGrown}
use Rattle.serve_loop.specs.Turns.{IsCalmAfter, ServesNow, all_passed_over, is_frame_due}
use Rattle.serve_loop.proofs.service.Service.work.Given as goal

abbrev pub invariant-loop-place : goal.invariant-loop-place
invariant-loop-place g l = record {
  makes : (config : Config) (count : ℕ) → Brings (g.W.World.tells l.fn.world) (g.W.World.tells l.world)
      (ServesNow config count l.fn.self.wants l.fn.self.ready (is_frame_due l.fn.self.wants l.fn.self.ready) l.fn.self.slirp l.fn.self.link)
      (ServesNow config count l.fn.self.wants (drop l.place l.fn.self.ready) l.to_read l.self.slirp l.self.link);
  reads : l.to_read ≡ true → reads TheLink l.fn.self.wants ≡ true;
  calm : IsCalmAfter l.fn.self.wants (drop l.place l.fn.self.ready) l.self.slirp l.self.link;
  counts : AreGrown (g.W.World.tells l.fn.world).faults (g.W.World.tells l.world).faults;
  on : ReadsOn (under_way l.self.link);
  config : l.self.slirp.config ≡ l.fn.self.slirp.config;
  forwards : l.self.slirp.forwards ≡ l.fn.self.slirp.forwards;
  number : l.self.slirp.number ≤ l.fn.self.slirp.number + l.place;
  turns : l.self.slirp.flows.turn ≡ l.fn.self.slirp.flows.turn;
  reports : (l.self.wants ≡ l.fn.self.wants) × (l.self.ready ≡ l.fn.self.ready);
  passed : all_passed_over l.fn.self.wants l.fn.self.ready ≡ true → (l.self ≡ l.fn.self) × (l.world ≡ l.fn.world);
}

use Rattle.std.proofs.Common.{◌≡◌, List, true}
use Rattle.world_face.specs.Journal.{Entry}
use Rattle.world_face.specs.Tells.{Brings}
use Rattle.slirp_settings.specs.Addresses.{Config}
use Rattle.stream_netdev.specs.Keeps.{ReadsOn}
use Rattle.stream_netdev.specs.State.{under_way}
use Rattle.rules_tftp.proofs.Turning.{due_count}
use Rattle.slirp_core.specs.Counts.{AreGrown}
use Rattle.slirp_core.specs.Holds.{Standing}
use Rattle.serve_loop.specs.Turns.{AllSent, AreYoung, HoldsNow, IsCalm, IsInTime, NoneTold}
use Rattle.serve_loop.proofs.service.Service.send_all.Given as goal

abbrev pub invariant-loop-self : goal.invariant-loop-self
invariant-loop-self g l = record {
  makes : (config : Config) (at : Standing) → Brings (g.W.World.tells l.fn.world) (g.W.World.tells l.world) (HoldsNow config at true l.fn.self.slirp l.fn.self.link)
      (HoldsNow config at true l.self.slirp l.self.link);
  counts : AreGrown (g.W.World.tells l.fn.world).faults (g.W.World.tells l.world).faults;
  sent : AllSent l.self.slirp l.self.link;
  connects : (config : Config) (at : Standing) (past : List Entry) → HoldsNow config at true l.fn.self.slirp l.fn.self.link past → IsInTime l.fn.self.slirp l.fn.self.link →
      IsInTime l.self.slirp l.self.link;
  calm : IsCalm l.self.slirp l.self.link;
  young : AreYoung l.fn.self.slirp → AreYoung l.self.slirp;
  untold : NoneTold l.fn.self.slirp → NoneTold l.self.slirp;
  on : ReadsOn (under_way l.self.link);
  config : l.self.slirp.config ≡ l.fn.self.slirp.config;
  forwards : l.self.slirp.forwards ≡ l.fn.self.slirp.forwards;
  number : l.self.slirp.number ≡ l.fn.self.slirp.number;
  turns : l.self.slirp.flows.turn ≡ l.fn.self.slirp.flows.turn;
}

abbrev pub decreases-loop-self : goal.decreases-loop-self
decreases-loop-self g l = due_count l.self.slirp.moment l.self.slirp.transfers

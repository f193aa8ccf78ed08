use Rattle.std.proofs.Common.{◌≡◌, map, reverse, subst}
use Rattle.world_face.specs.Journal.{Close}
use Rattle.world_face.specs.Tells.{Makes}
use Rattle.slirp_core.specs.Forwards.{AreCloses}
use Rattle.rules_forward.specs.Opened.{forward_sockets}
use Rattle.slirp_core.specs.Holds.{ClosesAll, HoldsNothingElse, holders_of}
use Rattle.serve_loop.specs.Served.{ServiceState}
use Rattle.serve_loop.proofs.service.Service.close_all.Goals as goal

pub returns-clause-makes : goal.returns-clause-makes
returns-clause-makes g c =
    subst (λ (s : ServiceState). Makes (g.W.World.tells c.args.world.now) (g.W.World.tells c.close_all.new.world)
    (λ made. ClosesAll s.slirp.forwards (holders_of s.slirp) made × AreCloses made)) c.self.view_is
    c.close_all.ensures.makes

pub returns-clause-ports : goal.returns-clause-ports
returns-clause-ports g c =
    subst (λ (s : ServiceState). HoldsNothingElse s.slirp → Makes (g.W.World.tells c.args.world.now) (g.W.World.tells c.close_all.new.world)
    (λ made. made ≡ map Close (reverse (forward_sockets s.slirp.forwards)))) c.self.view_is c.close_all.ensures.ports

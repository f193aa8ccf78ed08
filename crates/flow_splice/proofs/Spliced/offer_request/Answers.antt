use Rattle.std.proofs.Common.{List, ◌++◌, subst}
use Rattle.world_face.specs.Frames.{encoding}
use Rattle.world_face.specs.Journal.{Entry}
use Rattle.world_face.specs.Tells.{Makes}
use Rattle.stream_netdev.specs.Keeps.{Keeps, Writes}
use Rattle.flow_splice.specs.Frames.{request_frame}
use Rattle.flow_splice.specs.Splice.{Splice}
use Rattle.flow_splice.proofs.Spliced.offer_request.Goals as goal

pub returns-clause-makes : goal.returns-clause-makes
returns-clause-makes g c =
    let i = c.self.inside in
    subst (λ (f : Splice). Makes (g.W.World.tells c.args.world.now) (g.W.World.tells c.offer_arp.new.world) (λ made.
    Writes c.offer_arp.result (encoding (request_frame f.face)) made × ((past : List Entry) → Keeps c.args.link.now past → Keeps c.offer_arp.new.link (made ++ past))))
    c.self.view_is (c.offer_arp.ensures.makes i.other i.guest i.number)

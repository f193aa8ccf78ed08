use Rattle.std.proofs.Common.{None, refl, ap, subst}
use Rattle.world_face.specs.Tells.{Makes}
use Rattle.rules_tftp.specs.Packets.{Packet}
use Rattle.rules_tftp.specs.Transfers.{Outcome, leaves, taken_in, without}
use Rattle.rules_tftp.specs.Asking.{IsServed}
use Rattle.tftp_server.specs.Serving.{Serving}
use Rattle.tftp_server.proofs.Serving.{makes_at_once}
use Rattle.tftp_server.proofs.transfers.Tftp.take_in.Goals as goal

pub returns-in-GivesUp-clause-serves : goal.returns-in-GivesUp-clause-serves
returns-in-GivesUp-clause-serves g c =
    let old = c.args.self.now in
    let comes = ap (λ (p : Packet). taken_in old.folder c.args.now c.args.asker.mac.0 c.args.asker.guest p old.transfers) c.in-GivesUp.ensures in
    subst (λ (o : Outcome). Makes (g.W.World.tells c.args.world.now) (g.W.World.tells c.args.world.now) (IsServed c.args.now o c.forget-in-GivesUp.new.self.transfers None)) comes
    (makes_at_once (g.W.World.tells c.args.world.now) c.args.now (leaves (without c.args.asker.guest old.transfers)) c.forget-in-GivesUp.new.self.transfers None refl
    (ap (λ (s : Serving). s.transfers) c.forget-in-GivesUp.ensures.list) refl)

use Rattle.std.proofs.Common.{Bool, cond, None, refl, sym, ◌∙◌, ap, subst}
use Rattle.world_face.specs.Tells.{Makes}
use Rattle.rules_tftp.specs.Transfers.{Outcome, leaves, seeks_next, without}
use Rattle.rules_tftp.specs.Asking.{IsServed}
use Rattle.tftp_server.specs.Serving.{Serving}
use Rattle.tftp_server.specs.Rows.{transfer_of}
use Rattle.tftp_server.proofs.Serving.{makes_at_once}
use Rattle.tftp_server.proofs.transfers.Tftp.acknowledge.Goals as goal

pub returns-then-row-clause-serves : goal.returns-then-row-clause-serves
returns-then-row-clause-serves g c =
    let old = c.args.self.now in
    let rest = without c.args.guest old.transfers in
    let row = c.in-Some.row in
    let taken = c.in-Some.ensures in
    let comes = taken.comes c.args.now ∙ ap (λ (b : Bool). cond b (leaves rest) (seeks_next c.args.now (transfer_of old.folder row) rest)) c.if-row.true in
    subst (λ (o : Outcome). Makes (g.W.World.tells c.args.world.now) (g.W.World.tells c.args.world.now) (IsServed c.args.now o c.take_acknowledged.new.self.transfers None)) (sym comes)
    (makes_at_once (g.W.World.tells c.args.world.now) c.args.now (leaves rest) c.take_acknowledged.new.self.transfers None refl (ap (λ (s : Serving). s.transfers) taken.list) refl)

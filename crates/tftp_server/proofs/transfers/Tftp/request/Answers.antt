-- Requests that are refused.
use Rattle.std.proofs.Common.{◌≡◌, None, refl, sym, ◌∙◌, ap, subst}
use Rattle.world_face.specs.Tells.{Makes}
use Rattle.rules_tftp.specs.Packets.{request_in}
use Rattle.rules_tftp.specs.Transfers.{Outcome, refuses, requested_file}
use Rattle.rules_tftp.specs.Asking.{IsServed}
use Rattle.tftp_server.specs.Reading.{request_of_view}
use Rattle.tftp_server.specs.Serving.{Serving}
use Rattle.rules_tftp.specs.Saying.{said_by}
use Rattle.tftp_server.proofs.Beginning.{no_folder, not_taken, served_mode, unnamed}
use Rattle.tftp_server.proofs.Serving.{makes_at_once}
use Rattle.tftp_server.proofs.transfers.Tftp.request.Goals as goal

pub returns-then-is_none-clause-serves : goal.returns-then-is_none-clause-serves
returns-then-is_none-clause-serves g c =
    let old = c.args.self.now in
    let mac = c.args.asker.mac.0 in
    let guest = c.args.asker.guest in
    let r = request_of_view c.in-Some.request in
    let folder : old.folder ≡ None = sym (ap (λ (v : Serving). v.folder) c.self.view_is) ∙ no_folder (λ f. f.bytes) c.self.inside.folder c.if-is_none.ensures in
    let comes = served_mode old.folder mac guest r (request_in c.args.texts.now) old.transfers c.in-Some.ensures.request (sym c.says.ensures ∙ c.if-not-says.false) ∙ ap
    (requested_file mac guest r old.transfers) folder in
    subst (λ (o : Outcome). Makes (g.W.World.tells c.args.world.now) (g.W.World.tells c.args.world.now)
    (IsServed c.args.now o old.transfers (said_by c.refuse-then-is_none.result c.refuse-then-is_none.new.into))) (sym comes)
    (makes_at_once (g.W.World.tells c.args.world.now) c.args.now (refuses 2 mac guest old.transfers) old.transfers
    (said_by c.refuse-then-is_none.result c.refuse-then-is_none.new.into) refl refl c.refuse-then-is_none.ensures.says)

pub returns-in_default-name_in-clause-serves : goal.returns-in_default-name_in-clause-serves
returns-in_default-name_in-clause-serves g c =
    let old = c.args.self.now in
    let mac = c.args.asker.mac.0 in
    let guest = c.args.asker.guest in
    let r = request_of_view c.in-Some.request in
    let comes =
    served_mode old.folder mac guest r (request_in c.args.texts.now) old.transfers c.in-Some.ensures.request (sym c.says.ensures ∙ c.if-not-says.false)
    ∙ unnamed mac guest r old.transfers old.folder (not_taken r.name c.in_default-name_in.ensures.name) in
    subst (λ (o : Outcome). Makes (g.W.World.tells c.args.world.now) (g.W.World.tells c.args.world.now)
    (IsServed c.args.now o old.transfers (said_by c.refuse-in_default-name_in.result c.refuse-in_default-name_in.new.into))) (sym comes)
    (makes_at_once (g.W.World.tells c.args.world.now) c.args.now (refuses 2 mac guest old.transfers) old.transfers
    (said_by c.refuse-in_default-name_in.result c.refuse-in_default-name_in.new.into) refl refl c.refuse-in_default-name_in.ensures.says)

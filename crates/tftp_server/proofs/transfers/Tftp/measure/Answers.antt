-- The length was asked for, and came.
use Rattle.std.proofs.Common.{◌≡◌, List, ℕ, refl, ◌∙◌, subst}
use Rattle.world_face.specs.Journal.{FileLen}
use Rattle.world_face.specs.Tells.{Answers}
use Rattle.world_face.specs.declared.FileSize.TheVariants.{Length, Missing, Failed}
use Rattle.rules_tftp.specs.Packets.{terms_of}
use Rattle.rules_tftp.specs.Transfers.{measured, refuses}
use Rattle.tftp_server.specs.Rows.{seeking_length, sought}
use Rattle.tftp_server.proofs.Serving.{makes_asked, makes_at_once}
use Rattle.tftp_server.proofs.transfers.Tftp.measure.Goals as goal

pub returns-in-Length-clause-serves : goal.returns-in-Length-clause-serves
returns-in-Length-clause-serves g c =
    let old = c.args.self.now in
    let s = sought old.folder c.args.asker.guest c.args.asker.mac.0 c.args.name.now c.args.options.now in
    let file : c.as_str.result.now ≡ s.file = c.as_str.ensures.value ∙ c.file-file.ensures in
    makes_asked (g.W.World.tells c.args.world.now) (g.W.World.tells c.file_len.new.self) (g.W.World.tells c.begin.new.world) c.args.now (seeking_length s old.transfers)
    (measured c.args.now c.in-Length.length s (terms_of c.in-Length.length s.options) old.transfers) c.begin.new.self.transfers _ (FileLen s.file (Length c.in-Length.length))
    (subst (λ (f : List ℕ). Answers (g.W.World.tells c.args.world.now) (g.W.World.tells c.file_len.new.self) (FileLen f (Length c.in-Length.length))) file c.in-Length.ensures) refl
    refl c.begin.ensures.serves

pub returns-in-Missing-clause-serves : goal.returns-in-Missing-clause-serves
returns-in-Missing-clause-serves g c =
    let old = c.args.self.now in
    let s = sought old.folder c.args.asker.guest c.args.asker.mac.0 c.args.name.now c.args.options.now in
    let file : c.as_str.result.now ≡ s.file = c.as_str.ensures.value ∙ c.file-file.ensures in
    makes_asked (g.W.World.tells c.args.world.now) (g.W.World.tells c.file_len.new.self) (g.W.World.tells c.file_len.new.self) c.args.now (seeking_length s old.transfers)
    (refuses 1 s.mac s.guest old.transfers) old.transfers _ (FileLen s.file Missing)
    (subst (λ (f : List ℕ). Answers (g.W.World.tells c.args.world.now) (g.W.World.tells c.file_len.new.self) (FileLen f Missing)) file c.in-Missing.ensures) refl refl
    (makes_at_once (g.W.World.tells c.file_len.new.self) c.args.now (refuses 1 s.mac s.guest old.transfers) old.transfers _ refl refl c.refuse.ensures.says)

pub returns-in-Failed-clause-serves : goal.returns-in-Failed-clause-serves
returns-in-Failed-clause-serves g c =
    let old = c.args.self.now in
    let s = sought old.folder c.args.asker.guest c.args.asker.mac.0 c.args.name.now c.args.options.now in
    let file : c.as_str.result.now ≡ s.file = c.as_str.ensures.value ∙ c.file-file.ensures in
    makes_asked (g.W.World.tells c.args.world.now) (g.W.World.tells c.file_len.new.self) (g.W.World.tells c.file_len.new.self) c.args.now (seeking_length s old.transfers)
    (refuses 0 s.mac s.guest old.transfers) old.transfers _ (FileLen s.file Failed)
    (subst (λ (f : List ℕ). Answers (g.W.World.tells c.args.world.now) (g.W.World.tells c.file_len.new.self) (FileLen f Failed)) file c.in-Failed.ensures) refl refl
    (makes_at_once (g.W.World.tells c.file_len.new.self) c.args.now (refuses 0 s.mac s.guest old.transfers) old.transfers _ refl refl c.refuse-in-Failed.ensures.says)

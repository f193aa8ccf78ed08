use Rattle.std.proofs.Common.{[], ◌++◌, refl, sym, ◌∙◌, ap, subst}
use Rattle.world_face.proofs.Telling.{makes_as}
use Rattle.slirp_settings.specs.Addresses.{Config}
use Rattle.world_face.specs.Tells.{Makes}
use Rattle.rules_control.specs.Talk.{after_read, after_write, fails, is_last}
use Rattle.control_loop.specs.Standing.{Leads, Owes, Stands}
use Rattle.control_loop.specs.declared.control_server.ControlServer.{ControlServer}
use Rattle.control_loop.proofs.Leading.{leads_still, leads_then}
use Rattle.control_loop.proofs.Reported.{lines_reported, none_reported, room_reported}
use Rattle.control_loop.proofs.Talking.{came, went}
use Rattle.control_loop.proofs.control_server.ControlServer.attend_connection.Goals as goal

pub returns-then-reported-clause-makes : goal.returns-then-reported-clause-makes
returns-then-reported-clause-makes g c =
    let old = c.args.self.now in
    let talk = old.session in
    let config = old.service.slirp.config in
    let call = c.read.ensures in
    let items = c.args.world.now.reported in
    let told = lines_reported talk c.args.connection c.requires.open c.requires.reported.0 items c.requires.reported.1 (sym c.requires.lines ∙ c.if-reported.true) in
    let last = is_last call.0 (talk.kept ++ call.1) in
    let new = c.answer.new.self in
    leads_then _ _ _ config (Stands items talk old.service.slirp old.service.link) (Owes (c.read.new.self).session (c.read.new.self).service.slirp (c.read.new.self).service.link)
    (Stands [] new.session new.service.slirp new.service.link)
    (makes_as _ _ _ _ call.3 (λ made is read count reading some past stands.
    subst (λ (x : ControlServer). Owes x.session x.service.slirp x.service.link read config count (made ++ past)) (sym call.4)
    (subst (λ l. Owes (after_read call.0 call.1 talk) old.service.slirp old.service.link read config count l)
    (sym (ap (λ l. l ++ past) is))
    (came read config count past stands c.args.connection (c.requires.ready.held.above c.args.connection c.requires.open) c.requires.open call.0 call.1 told.0 told.1 told.2 last refl))))
    (subst (λ (k : Config). Makes (g.W.World.tells c.read.new.world.world) (g.W.World.tells c.answer.new.world.world) (Leads k (Owes (c.read.new.self).session (c.read.new.self).service.slirp (c.read.new.self).service.link)
    (Stands [] new.session new.service.slirp new.service.link))) (ap (λ (x : ControlServer). x.service.slirp.config) call.4) c.answer.ensures.makes)

pub returns-then-reported-2-clause-makes : goal.returns-then-reported-2-clause-makes
returns-then-reported-2-clause-makes g c =
    let old = c.args.self.now in
    let talk = old.session in
    let config = old.service.slirp.config in
    let call = c.write.ensures in
    let items = c.args.world.now.reported in
    let told = room_reported talk c.args.connection c.requires.open c.requires.reported.0 items c.requires.reported.1 (sym c.requires.room ∙ c.if-reported-2.true) in
    let last = fails call.0 in
    let new = c.answer-then-reported-2.new.self in
    leads_then _ _ _ config (Stands items talk old.service.slirp old.service.link) (Owes (c.write.new.self).session (c.write.new.self).service.slirp (c.write.new.self).service.link)
    (Stands [] new.session new.service.slirp new.service.link)
    (makes_as _ _ _ _ call.1 (λ made is read count reading some past stands.
    subst (λ (x : ControlServer). Owes x.session x.service.slirp x.service.link read config count (made ++ past)) (sym call.2)
    (subst (λ l. Owes (after_write call.0 talk) old.service.slirp old.service.link read config count l)
    (sym (ap (λ l. l ++ past) is))
    (went read config count past stands c.args.connection (c.requires.ready.held.above c.args.connection c.requires.open) c.requires.open call.0 told.0 told.1 told.2 last refl))))
    (subst (λ (k : Config). Makes (g.W.World.tells c.write.new.world.world) (g.W.World.tells c.answer-then-reported-2.new.world.world) (Leads k (Owes (c.write.new.self).session (c.write.new.self).service.slirp (c.write.new.self).service.link)
    (Stands [] new.session new.service.slirp new.service.link))) (ap (λ (x : ControlServer). x.service.slirp.config) call.2) c.answer-then-reported-2.ensures.makes)

pub returns-else-reported-2-clause-makes : goal.returns-else-reported-2-clause-makes
returns-else-reported-2-clause-makes g c =
    let old = c.args.self.now in
    let items = c.args.world.now.reported in
    let none = none_reported old.session c.args.connection c.requires.open c.requires.reported.0 items c.requires.reported.1 (sym c.requires.lines ∙ c.if-reported.false) (sym c.requires.room ∙ c.if-reported-2.false) in
    leads_still (g.W.World.tells c.args.world.now.world) old.service.slirp.config (Stands items old.session old.service.slirp old.service.link) (Stands [] old.session old.service.slirp old.service.link)
    (λ read count past stands. subst (λ l. Stands l old.session old.service.slirp old.service.link read old.service.slirp.config count past) none stands)

use Rattle.std.proofs.Common.{[], ◌++◌, sym, ◌∙◌, subst}
use Rattle.world_face.proofs.Telling.{makes_as}
use Rattle.rules_control.specs.Talk.{after_accept}
use Rattle.control_loop.specs.Standing.{Stands}
use Rattle.control_loop.specs.declared.control_server.ControlServer.{ControlServer}
use Rattle.control_loop.proofs.Leading.{leads_still}
use Rattle.control_loop.proofs.Reported.{no_peer_reported, peer_reported}
use Rattle.control_loop.proofs.Talking.{accepted}
use Rattle.control_loop.proofs.control_server.ControlServer.attend.Goals as goal

pub returns-then-reported-clause-makes : goal.returns-then-reported-clause-makes
returns-then-reported-clause-makes g c =
    let old = c.args.self.now in
    let config = old.service.slirp.config in
    let call = c.accept.ensures in
    let items = c.args.world.now.reported in
    let alone = sym c.connection.ensures ∙ c.in-None.is in
    let told = peer_reported old.session alone c.requires.ready.held.listens c.requires.reported.0 items c.requires.reported.1 (sym c.reported-reported.ensures.peer ∙ c.if-reported.true) in
    makes_as _ _ _ _ call.1 (λ made is read count reading some past stands.
    subst (λ (x : ControlServer). Stands [] x.session x.service.slirp x.service.link read config count (made ++ past)) (sym call.2)
    (subst (λ l. Stands [] (after_accept call.0 old.session) old.service.slirp old.service.link read config count (l ++ past)) (sym is)
    (accepted read config count past stands call.0 alone told.0 told.1)))

pub returns-else-reported-clause-makes : goal.returns-else-reported-clause-makes
returns-else-reported-clause-makes g c =
    let old = c.args.self.now in
    let items = c.args.world.now.reported in
    let alone = sym c.connection.ensures ∙ c.in-None.is in
    let none = no_peer_reported old.session alone c.requires.ready.held.listens c.requires.reported.0 items c.requires.reported.1 (sym c.reported-reported.ensures.peer ∙ c.if-reported.false) in
    leads_still (g.W.World.tells c.args.world.now.world) old.service.slirp.config (Stands items old.session old.service.slirp old.service.link) (Stands [] old.session old.service.slirp old.service.link)
    (λ read count past stands. subst (λ l. Stands l old.session old.service.slirp old.service.link read old.service.slirp.config count past) none stands)

use Rattle.std.proofs.Common.{[], sym, subst}
use Rattle.world_face.proofs.Telling.{makes_as}
use Rattle.control_loop.specs.Standing.{Asks, IsReady, Leads, Owes, Says, Stands}
use Rattle.control_loop.specs.declared.control_server.ControlServer.{ControlServer}
use Rattle.control_loop.proofs.Asked.{asked, none_asked}
use Rattle.control_loop.proofs.Held.{peer_there, quiet_ready, said_ready}
use Rattle.control_loop.proofs.Leading.{leads_still}
use Rattle.control_loop.proofs.control_server.ControlServer.answer.Goals as goal

pub returns-in-Some-clause-makes : goal.returns-in-Some-clause-makes
returns-in-Some-clause-makes g c =
    let old = c.args.self.now in
    let config = old.service.slirp.config in
    let is = c.in-Some.ensures.some in
    let new = c.follow.new.self in
    makes_as _ _ _ _ c.follow.ensures.makes (λ made leads read count reading some past owes.
    let led = subst (λ (x : ControlServer). Leads x.service.slirp.config (Asks c.in-Some.command x.session x.service.slirp x.service.link) (Stands [] new.session new.service.slirp new.service.link) made) is.5 leads in
    led read count reading some past
    (asked {talk = old.session} {slirp = old.service.slirp} {link = old.service.link} read config count past old.guest.0 is.0 c.in-Some.command c.requires.set.leased reading is.1 is.2 is.3 is.4 owes))

pub returns-in_default-clause-makes : goal.returns-in_default-clause-makes
returns-in_default-clause-makes g c =
    let old = c.args.self.now in
    let config = old.service.slirp.config in
    let mid = c.next_command.new.self in
    leads_still (g.W.World.tells c.args.world.now.world) config (Owes old.session old.service.slirp old.service.link) (Stands [] mid.session mid.service.slirp mid.service.link)
    (λ read count past owes.
    subst (λ (x : ControlServer). Stands [] x.session x.service.slirp x.service.link read config count past) (sym c.in_default.ensures.none.0) (none_asked {talk = old.session} {slirp = old.service.slirp} {link = old.service.link} read config count past c.in_default.ensures.none.1 owes))

pub returns-in-Some-clause-ready : goal.returns-in-Some-clause-ready
returns-in-Some-clause-ready g c =
    let old = c.args.self.now in
    let is = c.in-Some.ensures.some in
    let peer = peer_there old.session is.2 in
    said_ready old.session c.follow.new.self.session is.0 peer.0 c.requires.held peer.1 is.3 (subst (λ (x : ControlServer). Says x.session c.follow.new.self.session) is.5 c.follow.ensures.says)

pub returns-in_default-clause-ready : goal.returns-in_default-clause-ready
returns-in_default-clause-ready g c =
    subst (λ (x : ControlServer). IsReady x.session) (sym c.in_default.ensures.none.0) (quiet_ready c.args.self.now.session c.requires.held c.in_default.ensures.none.1)

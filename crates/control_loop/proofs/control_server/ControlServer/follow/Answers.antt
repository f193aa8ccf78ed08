use Rattle.std.proofs.Common.{[], refl, sym, subst, codes}
use Rattle.spec_control.specs.Replies.{reply_line}
use Rattle.rules_control.specs.declared.Command.TheVariants.{List as Lists, What}
use Rattle.world_face.specs.Tells.{Makes}
use Rattle.control_loop.specs.Standing.{Asks, Leads, Stands}
use Rattle.control_loop.specs.declared.control_server.ControlServer.{ControlServer}
use Rattle.control_loop.proofs.Asked.{list_said, what_said}
use Rattle.control_loop.proofs.Leading.{leads_still}
use Rattle.control_loop.proofs.control_server.ControlServer.follow.Goals as goal

pub returns-in-List-clause-makes : goal.returns-in-List-clause-makes
returns-in-List-clause-makes g c =
    let old = c.args.self.now in
    let new = c.list.new.self in
    subst (λ k. Makes (g.W.World.tells c.args.world.now.world) (g.W.World.tells c.args.world.now.world) (Leads old.service.slirp.config (Asks k old.session old.service.slirp old.service.link) (Stands [] new.session new.service.slirp new.service.link))) (sym c.in-List.is)
    (leads_still (g.W.World.tells c.args.world.now.world) old.service.slirp.config (Asks Lists old.session old.service.slirp old.service.link) (Stands [] new.session new.service.slirp new.service.link)
    (λ read count past asks.
    subst (λ (x : ControlServer). Stands [] x.session x.service.slirp x.service.link read old.service.slirp.config count past) (sym c.list.ensures.others)
    (list_said {talk = old.session} {slirp = old.service.slirp} {link = old.service.link} read old.service.slirp.config count past c.requires.set.given c.list.new.self.session (λ settings past attended. c.list.ensures.listed settings count past attended) asks)))

pub returns-in-What-clause-makes : goal.returns-in-What-clause-makes
returns-in-What-clause-makes g c =
    let old = c.args.self.now in
    let new = c.say.new.self in
    subst (λ k. Makes (g.W.World.tells c.args.world.now.world) (g.W.World.tells c.args.world.now.world) (Leads old.service.slirp.config (Asks k old.session old.service.slirp old.service.link) (Stands [] new.session new.service.slirp new.service.link))) (sym c.in-What.is)
    (leads_still (g.W.World.tells c.args.world.now.world) old.service.slirp.config (Asks What old.session old.service.slirp old.service.link) (Stands [] new.session new.service.slirp new.service.link)
    (λ read count past asks.
    subst (λ (x : ControlServer). Stands [] x.session x.service.slirp x.service.link read old.service.slirp.config count past) (sym c.say.ensures.said)
    (what_said {talk = old.session} {slirp = old.service.slirp} {link = old.service.link} read old.service.slirp.config count past asks (reply_line (codes "what")) refl)))

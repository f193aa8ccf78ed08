use Rattle.std.proofs.Common.{◌++◌, [], refl, sym, subst, arith}
use Rattle.std.specs.Result.{result_err}
use Rattle.world_face.proofs.Telling.{makes_as}
use Rattle.rules_control.specs.Talk.{listener, with_left}
use Rattle.spec_control.specs.Replies.{added_text, reply_line}
use Rattle.control_loop.specs.Standing.{Stands}
use Rattle.control_loop.specs.declared.control_server.ControlServer.{ControlServer}
use Rattle.control_loop.proofs.Commands.{add_led}
use Rattle.control_loop.proofs.Off.{below_off}
use Rattle.control_loop.proofs.control_server.ControlServer.add.Goals as goal

pub returns-clause-makes : goal.returns-clause-makes
returns-clause-makes g c =
    let old = c.args.self.now in
    let mid = c.open_port-added.new.self in
    let config = old.service.slirp.config in
    let fault = result_err c.open_port-added.result in
    makes_as _ _ _ _ c.open_port-added.ensures.adds (λ made both read count reading some past asks.
    subst (λ (x : ControlServer). Stands [] x.session x.service.slirp x.service.link read config count (made ++ past)) (sym c.say.ensures.said)
    (subst (λ t. Stands [] (with_left (reply_line t) mid.session) mid.service.slirp mid.service.link read config count (made ++ past)) (sym c.added_text.ensures.text)
    (subst (λ (x : ControlServer). Stands [] (with_left (reply_line (added_text fault)) x.session) mid.service.slirp mid.service.link read config count (made ++ past)) (sym c.open_port-added.ensures.others)
    (add_led old.session old.service mid.service read config count some past c.requires.set.given refl old.at c.args.forward c.requires.set.control asks
    (below_off listener old.service.slirp.number (omega (arith, c.requires.number))) c.open_port-added.ensures.link fault made c.open_port-added.ensures.slirp both.0 both.1))))

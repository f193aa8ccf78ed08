use Rattle.std.proofs.Common.{◌≡◌, ℕ, ◌++◌, true, false, is_some, [], refl, sym, ◌∙◌, ap, subst, arith}
use Rattle.world_face.proofs.Telling.{makes_as}
use Rattle.rules_forward.specs.Opened.{socket_at}
use Rattle.spec_trace.specs.Sockets.{is_among, open_sockets}
use Rattle.spec_run.proofs.OpenSockets.{open_below}
use Rattle.rules_control.specs.Talk.{listener, with_left}
use Rattle.rules_control.specs.Apart.{is_controls, without_control}
use Rattle.spec_control.specs.Replies.{removed_text, reply_line}
use Rattle.control_loop.specs.Standing.{Stands, with_lists}
use Rattle.control_loop.specs.declared.control_server.ControlServer.{ControlServer}
use Rattle.control_loop.proofs.Answering.{attends}
use Rattle.control_loop.proofs.Commands.{remove_led}
use Rattle.control_loop.proofs.Off.{below_off}
use Rattle.control_loop.proofs.control_server.ControlServer.remove.Goals as goal

pub returns-clause-makes : goal.returns-clause-makes
returns-clause-makes g c =
    let old = c.args.self.now in
    let mid = c.close_port-removed.new.self in
    let config = old.service.slirp.config in
    let o = socket_at c.args.proto c.args.host old.service.slirp.forwards in
    makes_as _ _ _ _ c.close_port-removed.ensures.closes (λ made both read count reading some past asks.
    let off : ((n : ℕ) → is_among n (open_sockets (without_control past)) ≡ true → is_controls n ≡ false) = λ n among.
    below_off listener n (let now = attends read config count past asks.before c.requires.set.given asks.control asks.reported asks.agrees in
    let less = open_below (with_lists config asks.before.added asks.before.removed) (without_control past) now.0.lawful n among in
    omega (arith, less, now.0.sockets.number, c.requires.number)) in
    subst (λ (x : ControlServer). Stands [] x.session x.service.slirp x.service.link read config count (made ++ past)) (sym c.say.ensures.said)
    (subst (λ t. Stands [] (with_left (reply_line t) mid.session) mid.service.slirp mid.service.link read config count (made ++ past))
    (sym (c.removed_text.ensures.text ∙ ap removed_text (c.is_ok.ensures.value ∙ c.close_port-removed.ensures.found)))
    (subst (λ (x : ControlServer). Stands [] (with_left (reply_line (removed_text (is_some o))) x.session) mid.service.slirp mid.service.link read config count (made ++ past)) (sym c.close_port-removed.ensures.others)
    (remove_led old.session old.service mid.service read config count some past c.requires.set.given refl c.args.proto c.args.host asks off c.close_port-removed.ensures.slirp c.close_port-removed.ensures.link made both.0 both.1))))

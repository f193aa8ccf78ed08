use Rattle.std.proofs.Common.{sym, subst}
use Rattle.world_face.specs.Tells.{Answers}
use Rattle.slirp_settings.specs.declared.Proto.{Proto}
use Rattle.rules_forward.specs.Adding.{opening_of}
use Rattle.port_forward.proofs.open_port.Goals as goal

pub returns-in-Tcp : goal.returns-in-Tcp
returns-in-Tcp g c =
    subst (λ (proto : Proto). Answers (g.W.World.tells c.args.world.now) (g.W.World.tells c.listen.new.self) (opening_of proto c.args.number c.args.host c.listen.result))
    (sym c.in-Tcp.is) c.listen.ensures

pub returns-in-Udp : goal.returns-in-Udp
returns-in-Udp g c =
    subst (λ (proto : Proto). Answers (g.W.World.tells c.args.world.now) (g.W.World.tells c.udp_open.new.self) (opening_of proto c.args.number c.args.host c.udp_open.result))
    (sym c.in-Udp.is) c.udp_open.ensures

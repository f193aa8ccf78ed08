use Rattle.std.proofs.Common.{◌≡◌, None, ap}
use Rattle.world_face.proofs.Telling.{makes_as}
use Rattle.slirp_settings.specs.Addresses.{Config}
use Rattle.slirp_core.specs.Holds.{AfterListening, as_given}
use Rattle.control.specs.Stretches.{Asided}
use Rattle.control_loop.proofs.Below.{made_by_all}
use Rattle.control_loop.proofs.control_server.ControlServer.open_ports.Goals as goal

pub returns-clause-makes : goal.returns-clause-makes
returns-clause-makes g c =
    let old = c.args.self.now.service in
    let new = c.listen-refused.new.self in
    makes_as _ _ _ _
    (made_by_all g.W.World.tells None c.args.world.now c.begin.new.self c.listen-refused.new.world c.begin-2.new.self ((settings : Config) × (old.slirp.config ≡ as_given settings))
    (old.slirp.config, c.requires.new.given) (λ i seen. AfterListening c.listen-refused.result i.0 new.slirp new.link seen) c.begin.ensures.begun
    (ap (λ (a : Asided _). a.world) c.begin-2.ensures.begun) (λ i. c.listen-refused.ensures.makes i.0 i.1) c.begin-2.ensures.passed)
    (λ made all. (all.0, all.1, all.2, λ settings given. all.3 (settings, given)))

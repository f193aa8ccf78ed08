use Rattle.std.proofs.Common.{false, length, ◌∙◌, ap}
use Rattle.world_face.proofs.Telling.{makes_as}
use Rattle.slirp_settings.specs.Addresses.{Config}
use Rattle.slirp_core.specs.Holds.{Opens, after}
use Rattle.serve_loop.specs.Turns.{AttendsNow}
use Rattle.rules_control.specs.Talk.{want_of}
use Rattle.control.specs.Stretches.{Asided, beginning_with}
use Rattle.control_loop.proofs.Below.{brought_below}
use Rattle.control_loop.proofs.Waits.{own_item}
use Rattle.control_loop.proofs.control_server.ControlServer.begin.Goals as goal

pub begin-requires : goal.begin-requires
begin-requires g c = own_item c.args.self.now.session c.requires.ready.held c.want.ensures

pub returns-clause-makes : goal.returns-clause-makes
returns-clause-makes g c =
    let old = c.args.self.now.service in
    let new = c.begin-2.new.self in
    makes_as _ _ _ _
    (brought_below g.W.World.tells (want_of c.args.self.now.session) c.args.world.now c.begin.new.self c.begin-2.new.world c.begin-3.new.self Config old.slirp.config
    (λ settings past. Opens settings (length settings.forwards) old.slirp old.link past) (λ settings past. AttendsNow settings (after 0) false new.slirp new.link past)
    (c.begin.ensures.begun ∙ ap (λ o. beginning_with o c.args.world.now.world) c.want.ensures) (ap (λ (a : Asided _). a.world) c.begin-3.ensures.begun) (λ settings. c.begin-2.ensures.makes settings) c.begin-3.ensures.passed)
    (λ made all. (all.0, all.1, all.2, all.4))

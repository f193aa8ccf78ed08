use Rattle.std.proofs.Common.{ℕ, ◌+◌, ◌<◌, false, refl, ◌∙◌, ap, arith}
use Rattle.world_face.proofs.Telling.{makes_as}
use Rattle.slirp_settings.specs.Addresses.{Config}
use Rattle.slirp_core.specs.Holds.{after}
use Rattle.serve_loop.specs.Turns.{AttendsAfterWholeTurn, AttendsNow}
use Rattle.rules_control.specs.Talk.{want_of}
use Rattle.control.specs.Stretches.{beginning_with}
use Rattle.control_loop.proofs.Below.{brought_below}
use Rattle.control_loop.proofs.Waits.{own_item}
use Rattle.control_loop.proofs.control_server.ControlServer.take_turn.Goals as goal

pub begin-requires : goal.begin-requires
begin-requires g c = own_item c.args.self.now.session c.requires.ready.held c.want.ensures

pub returns-clause-makes : goal.returns-clause-makes
returns-clause-makes g c =
    let old = c.args.self.now.service in
    let new = c.turn-turn.new.self in
    makes_as _ _ _ _
    (brought_below g.W.World.tells (want_of c.args.self.now.session) c.args.world.now c.begin.new.self c.turn-turn.new.world c.turn-turn.new.world ((settings : Config) × (count : ℕ) × (count < settings.turns))
    (record old.slirp.config { turns = 1 }, 0, omega arith)
    (λ i past. AttendsNow i.0 (after i.1) false old.slirp old.link past) (λ i past. AttendsAfterWholeTurn c.turn-turn.result i.0 (after (i.1 + 1)) new.slirp new.link past)
    (c.begin.ensures.begun ∙ ap (λ o. beginning_with o c.args.world.now.world) c.want.ensures) refl (λ i. c.turn-turn.ensures.makes i.0 i.1 i.2) c.reported.ensures.passed)
    (λ made all. (all.0, all.1, all.2, all.3, λ settings count few. all.4 (settings, count, few)))

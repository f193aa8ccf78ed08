use Rattle.std.proofs.Common.{◌+◌, ◌<◌, ◌≤◌, ◌∙◌, ap, refl, sym, subst, arith}
use Rattle.slirp_core.specs.Holds.{holders_of}
use Rattle.world_face.proofs.Telling.{makes_as, makes_from}
use Rattle.slirp_settings.specs.Addresses.{Config}
use Rattle.world_face.specs.Tells.{Makes}
use Rattle.serve_loop.specs.Served.{ServiceState}
use Rattle.serve_loop.specs.Turns.{Closes}
use Rattle.serve_loop.specs.declared.service.End.TheVariants.{TurnsSpent}
use Rattle.spec_duties.specs.Duties.{Dutiful}
use Rattle.serve_loop.proofs.Serving.{attended, finishes, made_by_turn, made_so, spent, told}
use Rattle.slirp_core.proofs.Counted.{grown}
use Rattle.serve_loop.proofs.Counted.{end_after, grown_then}
use Rattle.serve_loop.proofs.service.Service.serve.Goals as goal

pub loop-count-init : goal.loop-count-init
loop-count-init g c = record {
  makes = c.in_default.ensures.makes c.args.self.now.slirp.config c.requires.given;
  calm = c.in_default.ensures.calm refl;
  on = c.in_default.ensures.step.on;
  config = c.in_default.ensures.config;
  number = omega (arith, c.in_default.ensures.number);
  turns = omega (arith, c.in_default.ensures.turns);
  counts = grown _ _ _ (c.in_default.ensures.makes c.args.self.now.slirp.config c.requires.given).counted;
}

pub turn-requires-clause-turns : goal.turn-requires-clause-turns
turn-requires-clause-turns g c =
    let turns = c.self.invariant.0 ∙ ap (λ (s : ServiceState). s.slirp.config.turns) c.self.view_is ∙ ap (λ (k : Config). k.turns) c.in_default.ensures.config in
    let few = subst (λ n. c.loop-count._count < n) turns c.loop-count-test.true in
    omega (arith, few, c.requires.turns, c.loop-count.invariant.turns)

pub loop-count-preserved : goal.loop-count-preserved
loop-count-preserved g c =
    let config = c.args.self.now.slirp.config in
    let turns = c.self.invariant.0 ∙ ap (λ (s : ServiceState). s.slirp.config.turns) c.self.view_is ∙ ap (λ (k : Config). k.turns) c.in_default.ensures.config in
    let few = subst (λ n. c.loop-count._count < n) turns c.loop-count-test.true in
    record {
      makes = makes_from c.loop-count.invariant.makes (c.in-Again.ensures.makes config c.loop-count._count few);
      calm = c.in-Again.ensures.calm refl;
      on = c.in-Again.ensures.step.on;
      config = c.in-Again.ensures.config ∙ c.loop-count.invariant.config;
      number = omega (arith, c.in-Again.ensures.number, c.loop-count.invariant.number);
      turns = omega (arith, c.in-Again.ensures.turns, c.loop-count.invariant.turns);
      counts = grown_then (g.W.World.tells c.args.world.now).faults (g.W.World.tells c.loop-count.world).faults
          (g.W.World.tells c.turn.new.world).faults c.loop-count.invariant.counts c.in-Again.ensures.step.counted;
    }

pub returns-in-Ended-clause-makes : goal.returns-in-Ended-clause-makes
returns-in-Ended-clause-makes g c = makes_as _ _ _ _ (c.in-Ended.ensures.makes c.args.self.now.slirp.config c.requires.given) (made_by_turn c.args.self.now.slirp.config c.in-Ended.end 0 _)

pub returns-in-Ended-clause-served : goal.returns-in-Ended-clause-served
returns-in-Ended-clause-served g c = told c.args.self.now.slirp.config c.in-Ended.end _ _ (returns-in-Ended-clause-makes g c)

pub returns-in-Ended-clause-attended : goal.returns-in-Ended-clause-attended
returns-in-Ended-clause-attended g c = attended c.args.self.now.slirp.config c.in-Ended.end _ _ (returns-in-Ended-clause-makes g c)

pub returns-in-Ended-turn-clause-makes : goal.returns-in-Ended-turn-clause-makes
returns-in-Ended-turn-clause-makes g c =
    let config = c.args.self.now.slirp.config in
    let turns = c.self.invariant.0 ∙ ap (λ (s : ServiceState). s.slirp.config.turns) c.self.view_is ∙ ap (λ (k : Config). k.turns) c.in_default.ensures.config in
    let few = subst (λ n. c.loop-count._count < n) turns c.loop-count-test.true in
    makes_as _ _ _ _ (makes_from c.loop-count.invariant.makes (c.in-Ended-turn.ensures.makes config c.loop-count._count few)) (made_by_turn config c.in-Ended-turn.end (c.loop-count._count + 1) _)

pub returns-in-Ended-turn-clause-served : goal.returns-in-Ended-turn-clause-served
returns-in-Ended-turn-clause-served g c = told c.args.self.now.slirp.config c.in-Ended-turn.end _ _ (returns-in-Ended-turn-clause-makes g c)

pub returns-in-Ended-turn-clause-attended : goal.returns-in-Ended-turn-clause-attended
returns-in-Ended-turn-clause-attended g c = attended c.args.self.now.slirp.config c.in-Ended-turn.end _ _ (returns-in-Ended-turn-clause-makes g c)

pub returns-in-Ended-turn-clause-faults : goal.returns-in-Ended-turn-clause-faults
returns-in-Ended-turn-clause-faults g c = end_after c.in-Ended-turn.end (g.W.World.tells c.args.world.now).faults (g.W.World.tells c.loop-count.world).faults
    (g.W.World.tells c.turn.new.world).faults c.loop-count.invariant.counts c.in-Ended-turn.ensures.step.counted

pub returns-clause-makes : goal.returns-clause-makes
returns-clause-makes g c =
    let config = c.args.self.now.slirp.config in
    let slirp = c.self-2.inside.slirp in
    let end = TurnsSpent c.self-2.inside.turns in
    let turns = c.self.invariant.0 ∙ ap (λ (s : ServiceState). s.slirp.config.turns) c.self.view_is ∙ ap (λ (k : Config). k.turns) c.in_default.ensures.config in
    let all = subst (λ n. n ≤ c.loop-count._count) turns c.loop-count-test.false in
    let most = c.self-2.invariant.0 ∙ ap (λ (s : ServiceState). s.slirp.config.turns) c.self-2.view_is ∙ ap (λ (k : Config). k.turns) c.loop-count.invariant.config in
    let ran = makes_as _ _ _ _ c.loop-count.invariant.makes (λ made holds.
    (spent config c.loop-count._count c.self-2.inside.turns c.loop-count.self made c.requires.some_turns all most holds.0, holds.1.0)) in
    makes_as _ _ _ _
    (finishes config end slirp.forwards (holders_of slirp) _ _ _
    (subst (λ (s : ServiceState). Makes (g.W.World.tells c.args.world.now) (g.W.World.tells c.loop-count.world)
    (λ made. Closes config end s.slirp.forwards (holders_of s.slirp) made × Dutiful config made)) (sym c.self-2.view_is) ran)
    c.close_all.ensures.makes) (made_so config end)

pub returns-clause-served : goal.returns-clause-served
returns-clause-served g c = told c.args.self.now.slirp.config (TurnsSpent c.self-2.inside.turns) _ _ (returns-clause-makes g c)

pub returns-clause-attended : goal.returns-clause-attended
returns-clause-attended g c = attended c.args.self.now.slirp.config (TurnsSpent c.self-2.inside.turns) _ _ (returns-clause-makes g c)

use Rattle.std.proofs.Common.{ℕ, ◌+◌, ◌≤◌, ◌∙◌, false, subst, sym}
use Rattle.world_face.specs.Tells.{Brings}
use Rattle.world_face.proofs.Telling.{brings_from, brings_then}
use Rattle.slirp_core.specs.Holds.{after, holders_of}
use Rattle.slirp_core.proofs.Counted.{grown}
use Rattle.serve_loop.specs.Served.{ServiceState}
use Rattle.spec_duties.specs.Duties.{Dutiful}
use Rattle.serve_loop.specs.Turns.{AttendsNow, EndedAs}
use Rattle.serve_loop.proofs.Counted.{end_before}
use Rattle.serve_loop.proofs.Serving.{attends_for, ran}
use Rattle.serve_loop.proofs.service.Service.turn.Goals as goal

pub returns-in-Again-clause-makes : goal.returns-in-Again-clause-makes
returns-in-Again-clause-makes g c config count few = c.in-Again.ensures.makes config count few

pub returns-in-Ended-clause-makes : goal.returns-in-Ended-clause-makes
returns-in-Ended-clause-makes g c config count few =
    let slirp = c.self.inside.slirp in
    let end = c.in-Ended.end in
    brings_then
    (subst (λ (s : ServiceState). Brings (g.W.World.tells c.args.world.now) (g.W.World.tells c.take_turn.new.world)
    (AttendsNow config (after count) false c.args.self.now.slirp c.args.self.now.link)
    (λ past. ((waited : ℕ) × (waited ≤ count + 1) × EndedAs config waited end s.slirp.forwards (holders_of s.slirp) s.slirp.number past) × Dutiful config past)) (sym c.self.view_is)
    (c.in-Ended.ensures.makes config count few))
    (brings_from c.close_all.ensures.makes (λ made all past ended. attends_for config (count + 1) c.close_all.new.self.number end slirp.forwards (holders_of slirp) made past
    (ran config ended.0.0 end slirp.forwards (holders_of slirp) slirp.number past ended.0.2) (subst (λ n. n ≤ count + 1) (sym ended.0.2.ended.waited) ended.0.1)
    (c.close_all.ensures.number ∙ sym ended.0.2.drawn) ended.1 all))

pub returns-in-Ended-clause-step : goal.returns-in-Ended-clause-step
returns-in-Ended-clause-step g c =
    record {
      counted = end_before c.in-Ended.end (g.W.World.tells c.args.world.now).faults (g.W.World.tells c.take_turn.new.world).faults
          (g.W.World.tells c.close_all.new.world).faults c.in-Ended.ensures.step.counted (grown _ _ _ c.close_all.ensures.makes.counted);
      on = tt;
    }

use Rattle.std.proofs.Common.{None, false, true, refl, subst, sym, arith}
use Rattle.world_face.specs.Tells.{Brings}
use Rattle.world_face.proofs.Telling.{brings_as, brings_then}
use Rattle.slirp_core.specs.Holds.{after}
use Rattle.tcp_flows.proofs.Unowed.{none_owes}
use Rattle.serve_loop.specs.Turns.{AttendsAfterTaking, AttendsNow, IsCalm, MayRest}
use Rattle.serve_loop.specs.Served.{ServiceState}
use Rattle.serve_loop.specs.declared.service.Turn.TheVariants.{Again, Ended as TurnEnded}
use Rattle.slirp_core.proofs.Counted.{grown}
use Rattle.serve_loop.proofs.Turning.{attends_on, rests_after, rests_on, taken}
use Rattle.serve_loop.proofs.Counted.{counted_after, end_after}
use Rattle.serve_loop.proofs.service.Service.take_turn.Goals as goal

pub returns-in-Again-clause-makes : goal.returns-in-Again-clause-makes
returns-in-Again-clause-makes g c config count few =
    let old = c.self.inside.slirp in
    let link = c.self.inside.link in
    let told = c.tick.new.self in
    let sent = c.send_all.new in
    let new = c.wake.new in
    let calm : IsCalm old link = subst (λ (s : ServiceState). IsCalm s.slirp s.link) (sym c.self.view_is) c.requires.calm in
    let begins : Brings (g.W.World.tells c.args.world.now) (g.W.World.tells c.tick.new.world) (AttendsNow config (after count) false old link) (MayRest config (after count) told link) =
    rests_after config (after count) false old told link link (g.W.World.tells c.args.world.now) (g.W.World.tells c.tick.new.world)
    (attends_on Again config (after count) (after count) false true old told link link (g.W.World.tells c.args.world.now) (g.W.World.tells c.tick.new.world) refl
    (c.tick.ensures.makes config count link few))
    (λ past holds. (
      c.tick.ensures.in_time,
      λ free n. c.tick.ensures.ahead config (after count) false link past holds n
          (none_owes config old.moment false None old.flows.flows past holds.flows.holds (calm free).clear n),
    )) in
    let sends : Brings (g.W.World.tells c.tick.new.world) (g.W.World.tells sent.world) (MayRest config (after count) told link) (MayRest config (after count) sent.self.slirp sent.self.link) =
    rests_on config (after count) told sent.self.slirp link sent.self.link (g.W.World.tells c.tick.new.world) (g.W.World.tells sent.world)
    (attends_on Again config (after count) (after count) true true told sent.self.slirp link sent.self.link (g.W.World.tells c.tick.new.world) (g.W.World.tells sent.world) refl
    (c.in-Again.ensures.makes config (after count)))
    (λ past holds early. c.in-Again.ensures.connects config (after count) past holds refl early) in
    subst (λ (s : ServiceState). Brings (g.W.World.tells c.args.world.now) (g.W.World.tells new.world) (AttendsNow config (after count) false s.slirp s.link)
    (AttendsAfterTaking c.wake.result config count new.self.slirp new.self.link)) c.self.view_is
    (brings_then begins (brings_then sends (brings_as (c.wake.ensures.makes config count few) (λ past now. taken c.wake.result config count new.self.slirp new.self.link past now))))

pub returns-in-Ended-clause-makes : goal.returns-in-Ended-clause-makes
returns-in-Ended-clause-makes g c config count few =
    let new = c.send_all.new in
    subst (λ (s : ServiceState). Brings (g.W.World.tells c.args.world.now) (g.W.World.tells new.world) (AttendsNow config (after count) false s.slirp s.link)
    (AttendsAfterTaking (TurnEnded c.in-Ended.end) config count new.self.slirp new.self.link)) c.self.view_is
    (brings_then (attends_on Again config (after count) (after count) false true c.self.inside.slirp c.tick.new.self c.self.inside.link c.self.inside.link
    (g.W.World.tells c.args.world.now) (g.W.World.tells c.tick.new.world) refl (c.tick.ensures.makes config count c.self.inside.link few))
    (brings_as (attends_on (TurnEnded c.in-Ended.end) config (after count)
    (after count) true true c.tick.new.self c.send_all.new.self.slirp c.self.inside.link c.send_all.new.self.link (g.W.World.tells c.tick.new.world)
    (g.W.World.tells c.send_all.new.world) refl (c.in-Ended.ensures.makes config (after count))) (λ past ended. ((count, omega arith, ended.0), ended.1))))

pub returns-in-Again-clause-step : goal.returns-in-Again-clause-step
returns-in-Again-clause-step g c =
    let ticked = grown _ _ _ c.tick.ensures.rising.counted in
    let after = counted_after c.wake.result (g.W.World.tells c.tick.new.world).faults (g.W.World.tells c.send_all.new.world).faults
    (g.W.World.tells c.wake.new.world).faults c.in-Again.ensures.step.counted c.wake.ensures.step.counted in
    record {
      counted = counted_after c.wake.result (g.W.World.tells c.args.world.now).faults (g.W.World.tells c.tick.new.world).faults
          (g.W.World.tells c.wake.new.world).faults ticked after;
      on = c.wake.ensures.step.on;
    }

pub returns-in-Ended-clause-step : goal.returns-in-Ended-clause-step
returns-in-Ended-clause-step g c =
    let ticked = grown _ _ _ c.tick.ensures.rising.counted in
    record {
      counted = end_after c.in-Ended.end (g.W.World.tells c.args.world.now).faults (g.W.World.tells c.tick.new.world).faults
          (g.W.World.tells c.send_all.new.world).faults ticked c.in-Ended.ensures.step.counted;
      on = tt;
    }

pub wake-requires-clause-young : goal.wake-requires-clause-young
wake-requires-clause-young g c = c.in-Again.ensures.young (c.tick.ensures.none, c.tick.ensures.unasked, c.tick.ensures.fresh)

pub wake-requires-clause-calm : goal.wake-requires-clause-calm
wake-requires-clause-calm g c = c.in-Again.ensures.calm refl

pub wake-requires-clause-untold : goal.wake-requires-clause-untold
wake-requires-clause-untold g c = c.in-Again.ensures.untold c.tick.ensures.unserved

use Rattle.std.proofs.Common.{◌+◌}
use Rattle.world_face.specs.Frames.{Stopped, WaitFailed}
use Rattle.world_face.proofs.Telling.{brings_then, brings_as}
use Rattle.serve_loop.proofs.Turning.{attends_to_reports, ended_as}
use Rattle.serve_loop.proofs.Counted.{counted_after}
use Rattle.serve_loop.proofs.service.Service.wake.Goals as goal

pub returns-in-Ready-clause-makes : goal.returns-in-Ready-clause-makes
returns-in-Ready-clause-makes g c config count few =
    let mid = c.sleep.new in
    brings_then (c.in-Ready.ensures.makes config count few)
    (attends_to_reports c.work.result config (count + 1) mid.self.wants mid.self.ready mid.self.slirp c.work.new.self.slirp mid.self.link c.work.new.self.link
    (g.W.World.tells mid.world) (g.W.World.tells c.work.new.world)
    (c.work.ensures.makes config (count + 1)))

pub returns-in-Stopped-clause-makes : goal.returns-in-Stopped-clause-makes
returns-in-Stopped-clause-makes g c config count few = brings_as (c.in-Stopped.ensures.makes config count few)
    (λ past ended. (ended_as config (count + 1) Stopped c.sleep.new.self.slirp past ended.0, ended.1))

pub returns-in-Failed-clause-makes : goal.returns-in-Failed-clause-makes
returns-in-Failed-clause-makes g c config count few = brings_as (c.in-Failed.ensures.makes config count few)
    (λ past ended. (ended_as config (count + 1) WaitFailed c.sleep.new.self.slirp past ended.0, ended.1))

pub returns-in-Ready-clause-step : goal.returns-in-Ready-clause-step
returns-in-Ready-clause-step g c = record {
  counted = counted_after c.work.result (g.W.World.tells c.args.world.now).faults (g.W.World.tells c.sleep.new.world).faults
      (g.W.World.tells c.work.new.world).faults c.in-Ready.ensures.counts c.work.ensures.step.counted;
  on = c.work.ensures.step.on;
}

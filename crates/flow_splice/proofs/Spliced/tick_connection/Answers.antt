use Rattle.std.proofs.Common.{ap, ◌∙◌}
use Rattle.tcp_connection.specs.Connection.{Connection}
use Rattle.flow_splice.proofs.StaysInTimeWait.{rests_on, tick_rests}
use Rattle.flow_splice.proofs.Spliced.tick_connection.Goals as goal

pub invariant_of-self : goal.invariant_of-self
invariant_of-self c =
    let kept = c.self.invariant in
    let i = c.self.inside in (
      record { buffers = c.tick.ensures.buffers _ _ kept.0.buffers; size = kept.0.size; room = kept.0.room; few = kept.0.few; segments = kept.0.segments },
      kept.1,
      rests_on i.place i.conn.stage _ kept.2 (λ in_time_wait at. ap (λ (x : Connection). x.stage) c.tick.ensures.connection ∙ tick_rests i.conn c.args.now at),
    )

pub returns-clause-buffers : goal.returns-clause-buffers
returns-clause-buffers c = c.tick.ensures.buffers _ _ c.self.invariant.0.buffers

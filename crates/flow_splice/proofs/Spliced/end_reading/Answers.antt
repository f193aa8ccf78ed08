use Rattle.std.proofs.Common.{ap, ◌∙◌}
use Rattle.tcp_connection.specs.Connection.{Connection}
use Rattle.tcp_connection.specs.declared.HostNews.TheVariants.{Ended}
use Rattle.flow_splice.proofs.StaysInTimeWait.{news_rests, rests_on}
use Rattle.flow_splice.proofs.Spliced.end_reading.Goals as goal

pub invariant_of-self : goal.invariant_of-self
invariant_of-self c =
    let kept = c.self.invariant in
    let i = c.self.inside in (
      record { buffers = c.on_host.ensures.buffers _ _ kept.0.buffers; size = kept.0.size; room = kept.0.room; few = kept.0.few; segments = kept.0.segments },
      record { since = kept.1.since; last = c.requires.now; called = kept.1.called },
      rests_on i.place i.conn.stage _ kept.2 (λ in_time_wait at. ap (λ (x : Connection). x.stage) c.on_host.ensures.connection ∙ news_rests Ended i.conn c.args.now at),
    )

pub returns-clause-buffers : goal.returns-clause-buffers
returns-clause-buffers c = c.on_host.ensures.buffers _ _ c.self.invariant.0.buffers

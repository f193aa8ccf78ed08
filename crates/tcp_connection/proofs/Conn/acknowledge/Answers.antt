use Rattle.std.proofs.Common.{ap, ◌∙◌}
use Rattle.tcp_segment.specs.Tcp.{tcp_of}
use Rattle.tcp_transmit.specs.declared.AckSeen.{AckSeen}
use Rattle.tcp_connection.specs.Connection.{Connection}
use Rattle.tcp_connection.specs.Segments.{acknowledged_as, noted}
use Rattle.tcp_connection.proofs.Taking.{noted_is}
use Rattle.tcp_connection.proofs.Conn.acknowledge.Goals as goal

pub returns-clause-connection : goal.returns-clause-connection
returns-clause-connection c =
    let seen = c.confirm-seen.result in
    noted_is _ c.confirm-seen.new.self c.self.view_is seen c.is_fin_too.result c.is_too_far.result c.is_fin_too.ensures c.is_too_far.ensures
    ∙ ap (λ (x : Connection). noted x seen) c.confirm-seen.ensures.connection
    ∙ ap (λ (x : AckSeen). acknowledged_as c.args.self.now c.args.down.now (tcp_of c.args.seg.now) c.args.window c.args.bare c.args.now x) c.confirm-seen.ensures.seen

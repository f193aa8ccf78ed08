use Rattle.std.proofs.Common.{sym, subst}
use Rattle.tcp_transmit.specs.Transmission.{Feeds}
use Rattle.tcp_connection.specs.Connection.{Connection, HasBuffers}
use Rattle.tcp_connection.proofs.Keeping.{host_ended_has, write_ended_has}
use Rattle.tcp_connection.proofs.Conn.on_host.Goals as goal

pub returns-in-Ended-clause-buffers : goal.returns-in-Ended-clause-buffers
returns-in-Ended-clause-buffers c up down h =
    let is = c.end_host.ensures.connection in
    subst (λ (x : Connection). HasBuffers x up down) (sym is)
    (host_ended_has c.args.self.now up down c.args.now h (subst (λ (x : Connection). Feeds x.transmission down) is (c.end_host.ensures.feeds down h.feeds)))

pub returns-in-WriteEnded-clause-buffers : goal.returns-in-WriteEnded-clause-buffers
returns-in-WriteEnded-clause-buffers c up down h =
    subst (λ (x : Connection). HasBuffers x up down) (sym c.settle.ensures.connection)
    (write_ended_has _ c.args.self.now up down c.self.view_is h)

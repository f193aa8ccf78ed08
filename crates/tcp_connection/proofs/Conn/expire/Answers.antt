use Rattle.std.proofs.Common.{sym, subst}
use Rattle.tcp_transmit.specs.Transmission.{Feeds}
use Rattle.tcp_connection.specs.Connection.{Connection, HasBuffers}
use Rattle.tcp_connection.proofs.Keeping.{timer_has}
use Rattle.tcp_connection.proofs.Conn.expire.Goals as goal

pub returns-then-not-expire_timer-clause-buffers : goal.returns-then-not-expire_timer-clause-buffers
returns-then-not-expire_timer-clause-buffers c up down h =
    let is = c.expire_timer.ensures.connection in
    subst (λ (x : Connection). HasBuffers x up down) (sym is)
    (timer_has c.args.self.now up down h (subst (λ (x : Connection). Feeds x.transmission down) is (c.expire_timer.ensures.feeds down h.feeds)))

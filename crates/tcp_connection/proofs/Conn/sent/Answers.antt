use Rattle.std.proofs.Common.{sym, subst}
use Rattle.tcp_transmit.specs.Transmission.{Feeds}
use Rattle.tcp_connection.specs.Connection.{Connection, HasBuffers}
use Rattle.tcp_connection.proofs.Keeping.{gone_has, settled_has}
use Rattle.tcp_connection.proofs.Conn.sent.Goals as goal

pub returns-clause-buffers : goal.returns-clause-buffers
returns-clause-buffers c down h owed =
    let is = c.go.ensures.connection in
    subst (λ (x : Connection). HasBuffers x c.args.up.now down) (sym c.settle.ensures.connection)
    (settled_has c.go.new.self c.args.up.now down
    (subst (λ (x : Connection). HasBuffers x c.args.up.now down) (sym is)
    (gone_has c.args.what.now c.args.self.now c.args.up.now down c.args.now owed h
    (subst (λ (x : Connection). Feeds x.transmission down) is (c.go.ensures.feeds down h owed)))))

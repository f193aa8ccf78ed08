use Rattle.std.proofs.Common.{ℕ, false, ap, sym, subst, ◌∙◌}
use Rattle.tcp_segment.specs.Tcp.{tcp_of}
use Rattle.tcp_transmit.specs.Transmission.{Feeds}
use Rattle.tcp_connection.specs.Checks.{is_ack}
use Rattle.tcp_connection.specs.declared.Stage.{Stage}
use Rattle.tcp_connection.specs.Connection.{Connection, HasBuffers, is_opening}
use Rattle.tcp_connection.specs.Segments.{acknowledged, established, greeted}
use Rattle.tcp_connection.proofs.Keeping.{welcomed_has}
use Rattle.tcp_connection.proofs.Seeing.{then_is}
use Rattle.tcp_connection.proofs.Conn.welcome.Goals as goal

pub returns-then-is_ack-clause-connection : goal.returns-then-is_ack-clause-connection
returns-then-is_ack-clause-connection c =
    let seg = tcp_of c.args.seg.now in
    c.acknowledge.ensures.connection
    ∙ ap (λ (x : Connection). acknowledged x c.args.down.now seg c.from.result false c.args.now) (c.establish.ensures.connection ∙ ap established c.greet.ensures.connection)
    ∙ ap (λ (w : ℕ). acknowledged (established (greeted c.args.self.now seg)) c.args.down.now seg w false c.args.now) c.from.ensures
    ∙ then_is (is_ack seg) _ _ (sym c.is_ack.ensures ∙ c.if-is_ack.true)

pub returns-then-is_ack-clause-buffers : goal.returns-then-is_ack-clause-buffers
returns-then-is_ack-clause-buffers c up h =
    let seg = tcp_of c.args.seg.now in
    let is = c.acknowledge.ensures.connection
    ∙ ap (λ (x : Connection). acknowledged x c.args.down.now seg c.from.result false c.args.now) (c.establish.ensures.connection ∙ ap established c.greet.ensures.connection)
    ∙ ap (λ (w : ℕ). acknowledged (established (greeted c.args.self.now seg)) c.args.down.now seg w false c.args.now) c.from.ensures in
    subst (λ (x : Connection). HasBuffers x up c.acknowledge.new.down) (sym is)
    (welcomed_has c.args.self.now up c.args.down.now c.acknowledge.new.down seg c.args.now (ap (λ (st : Stage). is_opening st) c.requires.calls) h
    (subst (λ (x : Connection). Feeds x.transmission c.acknowledge.new.down) is c.acknowledge.ensures.feeds))

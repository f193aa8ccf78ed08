use Rattle.std.proofs.Common.{◌≡◌, ap, ◌∙◌}
use Rattle.tcp_segment.specs.Tcp.{tcp_of}
use Rattle.tcp_connection.specs.Connection.{Connection}
use Rattle.tcp_connection.specs.Segments.{acknowledged, opened}
use Rattle.tcp_connection.specs.Windows.{window_in}
use Rattle.tcp_connection.proofs.Conn.take_segment.Goals as goal

pub returns-clause-connection : goal.returns-clause-connection
returns-clause-connection c =
    let is : c.open.new.self ≡ opened c.args.self.now = c.open.ensures.connection in
    let window : c.window_in-window.result ≡ window_in (opened c.args.self.now) (tcp_of c.args.seg.now) =
    c.window_in-window.ensures ∙ ap (λ (x : Connection). window_in x (tcp_of c.args.seg.now)) is in
    c.acknowledge.ensures.connection
    ∙ (λ i. acknowledged (is i) c.args.down.now (tcp_of c.args.seg.now) (window i) (c.is_bare.ensures i) c.args.now)

use Rattle.std.proofs.Common.{subst}
use Rattle.tcp_transmit.specs.Acks.{IsSeenAs, place_acked}
use Rattle.tcp_connection.specs.Connection.{Connection}
use Rattle.tcp_connection.proofs.Seeing.{seen_is}
use Rattle.tcp_connection.proofs.Taking.{confirmed_is}
use Rattle.tcp_connection.proofs.Conn.confirm.Goals as goal

pub returns-clause-seen : goal.returns-clause-seen
returns-clause-seen c =
    seen_is c.args.self.now.transmission c.args.down.now c.args.seg.now.ack.0 c.acked.result c.requires.feeds.sound.order
    (subst (λ (s : Connection). IsSeenAs s.transmission c.args.down.now (place_acked s.transmission c.args.seg.now.ack.0) c.acked.result) c.self.view_is c.acked.ensures.seen)

pub returns-clause-connection : goal.returns-clause-connection
returns-clause-connection c =
    confirmed_is _ c.args.self.now c.self.view_is c.args.down.now c.acked.new.down c.args.seg.now.seq c.args.window c.args.bare c.args.now c.acked.result c.acked.new.self
    c.acked.ensures.dropped c.acked.ensures.change

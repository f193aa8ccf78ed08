use Rattle.std.proofs.Common.{◌+◌, length, ap, arith, ◌∙◌, Bool}
use Rattle.sock_buffers.specs.Upward.{Upward}
use Rattle.seq_space.specs.Places.{shifted_place}
use Rattle.tcp_receive.specs.Received.{places_taken}
use Rattle.tcp_segment.specs.Tcp.{tcp_of}
use Rattle.tcp_connection.specs.Segments.{is_end_taken, is_to_acknowledge}
use Rattle.tcp_connection.proofs.Seeing.{end_taken, to_acknowledge}
use Rattle.tcp_connection.proofs.Taking.{arrived_is}
use Rattle.tcp_connection.proofs.Conn.take_octets.Goals as goal

pub returns-clause-connection : goal.returns-clause-connection
returns-clause-connection c =
    let r = c.self.inside.receive in
    let seq = c.args.seg.now.seq.0 in
    let longer = ap (λ (u : Upward). length u.held) c.arrive-took.ensures.up in
    arrived_is _ c.args.self.now c.self.view_is c.args.up.now (tcp_of c.args.seg.now) c.arrive-took.new.self c.arrive-took.result.octets c.arrive-took.result.fin c.arrive-took.result.ack_owed
    c.arrive-took.ensures.taken
    (omega (arith, c.arrive-took.ensures.octets, longer))
    (end_taken c.arrive-took.result.fin c.is_fin.result r.ended (shifted_place seq r.first r.taken) (length c.args.seg.now.body.now) (r.taken + c.arrive-took.result.octets) c.arrive-took.ensures.fin
    ∙ ap (λ (f : Bool). is_end_taken r seq c.args.seg.now.body.now f (r.taken + c.arrive-took.result.octets)) c.is_fin.ensures)
    (to_acknowledge c.arrive-took.result.ack_owed c.is_fin.result (shifted_place seq r.first r.taken) (length c.args.seg.now.body.now) (places_taken r) c.arrive-took.ensures.ack_owed
    ∙ ap (λ (f : Bool). is_to_acknowledge r seq c.args.seg.now.body.now f) c.is_fin.ensures)

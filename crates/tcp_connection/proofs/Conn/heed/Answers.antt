use Rattle.std.proofs.Common.{◌≡◌, ◌<◌, ◌^◌, false, ap, sym, subst, ◌∙◌}
use Rattle.tcp_receive.specs.Received.{Fills, Received, up_after}
use Rattle.tcp_segment.specs.Tcp.{tcp_of}
use Rattle.tcp_transmit.specs.Transmission.{Feeds}
use Rattle.tcp_receive.specs.Coming.{Comes}
use Rattle.tcp_receive.proofs.Coming.{nothing_comes}
use Rattle.tcp_connection.specs.Connection.{Connection, HasBuffers, is_opening}
use Rattle.tcp_connection.specs.Segments.{arrived, is_past, opened, settled, settling}
use Rattle.tcp_connection.proofs.Keeping.{arrived_has, heard_has, opened_received, settled_has}
use Rattle.tcp_connection.proofs.Seeing.{else_is, not_false}
use Rattle.tcp_connection.proofs.Conn.heed.Goals as goal

pub returns-then-not-take_segment-clause-buffers : goal.returns-then-not-take_segment-clause-buffers
returns-then-not-take_segment-clause-buffers c =
    let is = c.take_segment.ensures.connection in
    subst (λ (x : Connection). HasBuffers x c.args.up.now c.take_segment.new.down) (sym is)
    (heard_has c.args.self.now c.args.up.now c.args.down.now c.take_segment.new.down (tcp_of c.args.seg.now) c.args.now c.requires.past c.requires.buffers
    (subst (λ (x : Connection). Feeds x.transmission c.take_segment.new.down) is c.take_segment.ensures.feeds))

pub returns-clause-change : goal.returns-clause-change
returns-clause-change c =
    let seg = tcp_of c.args.seg.now in
    let not_past : is_past (opened c.args.self.now) c.args.down.now seg ≡ false = not_false c.take_segment.result _ c.take_segment.ensures.within c.if-not-take_segment.false in
    c.settle.ensures.change ∙ ap settling (c.take_octets.ensures.connection ∙ ap (λ (x : Connection). arrived x c.args.up.now seg) c.take_segment.ensures.connection)
    ∙ else_is _ _ _ not_past

pub returns-clause-connection : goal.returns-clause-connection
returns-clause-connection c =
    let seg = tcp_of c.args.seg.now in
    let not_past : is_past (opened c.args.self.now) c.args.down.now seg ≡ false = not_false c.take_segment.result _ c.take_segment.ensures.within c.if-not-take_segment.false in
    c.settle.ensures.connection ∙ ap settled (c.take_octets.ensures.connection ∙ ap (λ (x : Connection). arrived x c.args.up.now seg) c.take_segment.ensures.connection)
    ∙ else_is _ _ _ not_past

pub returns-clause-up : goal.returns-clause-up
returns-clause-up c =
    let seg = tcp_of c.args.seg.now in
    let not_past : is_past (opened c.args.self.now) c.args.down.now seg ≡ false = not_false c.take_segment.result _ c.take_segment.ensures.within c.if-not-take_segment.false in
    let same : c.take_segment.new.self.received ≡ c.args.self.now.received = ap (λ (x : Connection). x.received) c.take_segment.ensures.connection ∙ (opened_received c.args.self.now).0 in
    c.take_octets.ensures.up ∙ ap (λ (r : Received). up_after r c.args.seg.now.seq.0 c.args.seg.now.body.now c.args.up.now) same
    ∙ else_is _ _ _ not_past

pub returns-clause-buffers : goal.returns-clause-buffers
returns-clause-buffers c =
    let seg = tcp_of c.args.seg.now in
    let is = c.take_segment.ensures.connection in
    let h : HasBuffers c.take_segment.new.self c.args.up.now c.take_segment.new.down =
    subst (λ (x : Connection). HasBuffers x c.args.up.now c.take_segment.new.down) (sym is)
    (heard_has c.args.self.now c.args.up.now c.args.down.now c.take_segment.new.down seg c.args.now c.requires.past c.requires.buffers
    (subst (λ (x : Connection). Feeds x.transmission c.take_segment.new.down) is c.take_segment.ensures.feeds)) in
    let past : is_opening c.take_segment.new.self.stage ≡ false = subst (λ (x : Connection). is_opening x.stage ≡ false) (sym is) c.requires.past in
    let took = c.take_octets.ensures.connection in
    let arrived_now = arrived_has c.take_segment.new.self c.args.up.now c.take_octets.new.up c.take_segment.new.down seg past h
    (subst (λ (x : Connection). x.received.taken < 2 ^ 62) took c.take_octets.ensures.few)
    (subst (λ (x : Connection). Fills x.received c.take_octets.new.up) took (c.take_octets.ensures.fills h.fills)) c.take_octets.ensures.size in
    subst (λ (x : Connection). HasBuffers x c.take_octets.new.up c.take_segment.new.down) (sym c.settle.ensures.connection)
    (settled_has c.take_octets.new.self c.take_octets.new.up c.take_segment.new.down
    (subst (λ (x : Connection). HasBuffers x c.take_octets.new.up c.take_segment.new.down) (sym took) arrived_now))

pub returns-then-not-take_segment-clause-comes : goal.returns-then-not-take_segment-clause-comes
returns-then-not-take_segment-clause-comes c = nothing_comes c.args.self.now.received c.args.seg.now.seq.0 c.args.seg.now.body.now c.args.up.now

pub returns-clause-comes : goal.returns-clause-comes
returns-clause-comes c =
    let same : c.take_segment.new.self.received ≡ c.args.self.now.received = ap (λ (x : Connection). x.received) c.take_segment.ensures.connection ∙ (opened_received c.args.self.now).0 in
    subst (λ (r : Received). Comes r c.args.seg.now.seq.0 c.args.seg.now.body.now c.args.up.now c.take_octets.new.up) same c.take_octets.ensures.comes

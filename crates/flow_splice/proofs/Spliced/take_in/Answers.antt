use Rattle.std.proofs.Common.{◌≡◌, false, true, arith, ap, subst, sym, ◌∙◌}
use Rattle.sock_buffers.specs.Downward.{Downward}
use Rattle.sock_buffers.specs.Upward.{Upward}
use Rattle.tcp_segment.specs.Tcp.{tcp_of}
use Rattle.tcp_connection.specs.Connection.{Connection}
use Rattle.flow_splice.specs.Guests.{ends_time_wait}
use Rattle.flow_splice.specs.Splice.{Splice, is_in_time_wait}
use Rattle.flow_splice.proofs.StaysInTimeWait.{rests_on, segment_rests}
use Rattle.flow_splice.proofs.Coming.{down_sized, up_sized}
use Rattle.flow_splice.proofs.Spliced.take_in.Goals as goal

pub prove-unreachable-requires-2 : goal.prove-unreachable-requires-2
prove-unreachable-requires-2 c =
    let i = c.self.inside in
    let size = ap (λ (u : Upward). u.size) c.on_segment-change.ensures.up ∙ up_sized i.conn i.up i.down (tcp_of c.args.seg.now) in
    let room = c.self.invariant.0.room in
    let within = c.held-held-2.ensures.within in
    let many = c.if-prove-2.true in
    omega (arith, size, room, within, many)

pub invariant_of-self : goal.invariant_of-self
invariant_of-self c =
    let i = c.self.inside in
    let kept = c.self.invariant in
    let size = ap (λ (u : Upward). u.size) c.on_segment-change.ensures.up ∙ up_sized i.conn i.up i.down (tcp_of c.args.seg.now) in
    let down_size = ap (λ (d : Downward). d.size) c.on_segment-change.ensures.down ∙ down_sized i.conn i.up i.down (tcp_of c.args.seg.now) in
    let room = kept.0.room in
    let time_waits = subst (λ (f : Splice). is_in_time_wait f.place ≡ true → ends_time_wait f.conn (tcp_of c.args.seg.now) ≡ false) (sym c.self.view_is) c.requires.time_waits in (
      record { buffers = c.on_segment-change.ensures.buffers; size = down_size ∙ kept.0.size ∙ sym size; room = omega (arith, size, room); few = kept.0.few; segments = kept.0.segments },
      record { since = kept.1.since; last = c.requires.now; called = kept.1.called },
      rests_on i.place i.conn.stage _ kept.2
          (λ in_time_wait at. ap (λ (x : Connection). x.stage) c.on_segment-change.ensures.connection ∙ segment_rests i.conn i.up i.down (tcp_of c.args.seg.now) c.args.now at (time_waits in_time_wait)),
    )

pub returns-clause-time_waits : goal.returns-clause-time_waits
returns-clause-time_waits c = (invariant_of-self c).2

use Rattle.std.proofs.Common.{◌≡◌, ◌≤◌, ℕ, length, arith, ap, subst, sym, ◌∙◌}
use Rattle.world_face.proofs.Telling.{makes_as}
use Rattle.sock_buffers.specs.Upward.{Upward}
use Rattle.tcp_receive.specs.Coming.{Comes}
use Rattle.tcp_segment.specs.Tcp.{Tcp, tcp_of}
use Rattle.tcp_connection.specs.Connection.{HasBuffers}
use Rattle.tcp_transmit.specs.Transmission.{octets_read}
use Rattle.sim_connection.specs.Holding.{is_live}
use Rattle.flow_splice.specs.Guests.{heard}
use Rattle.flow_splice.specs.Hosts.{IsAsOld, Sees, ends}
use Rattle.flow_splice.specs.Splice.{Splice}
use Rattle.flow_splice.proofs.StaysInTimeWait.{open_awake}
use Rattle.flow_splice.proofs.Coming.{as_old_then, heard_as_old, heard_dead, heard_written, sees_stays}
use Rattle.flow_splice.proofs.Hearing.{hears}
use Rattle.flow_splice.proofs.Shaping.{sees_at_most}
use Rattle.flow_splice.proofs.Spliced.take_segment.Goals as goal

pub take_in-change-requires-clause-time_waits : goal.take_in-change-requires-clause-time_waits
take_in-change-requires-clause-time_waits g c in_time_wait = absurd (open_awake c.args.self.now c.requires.open_yet in_time_wait)

pub see-requires : goal.see-requires
see-requires g c =
    let f : Splice = c.args.self.now in
    let tcp : Tcp = tcp_of c.args.seg.now in
    record { over = λ is. ap (λ (x : Splice). is_live x.conn.stage) c.take_in-change.ensures.heard ∙ heard_dead f.conn f.up f.down tcp c.args.now (sym (ap ends c.take_in-change.ensures.change) ∙ is) }

pub returns-clause-makes : goal.returns-clause-makes
returns-clause-makes g c =
    let f : Splice = c.args.self.now in
    let now : ℕ = c.args.now in
    let tcp : Tcp = tcp_of c.args.seg.now in
    let took = c.take_in-change in
    let is : took.new.self ≡ heard f tcp now = took.ensures.heard in
    let body = c.requires.body in
    makes_as _ _ (Sees (ends took.result) took.new.self c.see.new.self now) _ c.see.ensures
    (λ made sees. (
      hears f now tcp c.requires.open_yet c.requires.now took.ensures.number took.ensures.acknowledgement (omega (arith, body))
          (subst (λ (x : Splice). HasBuffers x.conn x.up x.down) is took.ensures.buffers) (subst (λ (x : Splice). length x.up.held ≤ x.up.size) is took.ensures.within)
          (subst (λ (x : Splice). Comes f.conn.received tcp.seq tcp.body f.up x.up) is took.ensures.comes)
          (ends took.result) (sym (ap ends took.ensures.change)) c.see.new.self made (subst (λ (x : Splice). Sees (ends took.result) x c.see.new.self now made) is sees),
      sees_at_most (ends took.result) took.new.self c.see.new.self now made sees,
    ))

pub returns-clause-stays : goal.returns-clause-stays
returns-clause-stays g c =
    let f : Splice = c.args.self.now in
    let took = c.take_in-change in
    let seen = sees_stays (ends took.result) took.new.self c.see.new.self c.args.now c.see.ensures.made c.see.ensures.holds in
    record {
      same = as_old_then f took.new.self c.see.new.self
          (subst (λ (x : Splice). IsAsOld f x) (sym took.ensures.heard) (heard_as_old f (tcp_of c.args.seg.now) c.args.now)) seen.same;
      up = ap (λ (u : Upward). u.written) seen.up ∙ ap (λ (x : Splice). x.up.written) took.ensures.heard ∙ heard_written f (tcp_of c.args.seg.now) c.args.now;
      down = ap octets_read seen.down ∙ took.ensures.read;
    }

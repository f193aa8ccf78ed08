use Rattle.std.proofs.Common.{◌≡◌, ℕ, ap, subst, sym, ◌∙◌}
use Rattle.world_face.proofs.Telling.{makes_as}
use Rattle.tcp_connection.specs.Connection.{HasBuffers}
use Rattle.tcp_connection.specs.Timing.{after_tick}
use Rattle.sim_connection.specs.Holding.{is_live}
use Rattle.flow_splice.specs.Hosts.{Sees, ends}
use Rattle.flow_splice.specs.Splice.{Splice}
use Rattle.flow_splice.proofs.Shaping.{sees_at_most}
use Rattle.flow_splice.proofs.Timing.{sees_stage, tick_dead, ticks}
use Rattle.flow_splice.proofs.Spliced.expire.Goals as goal

pub see-requires : goal.see-requires
see-requires g c =
    let f : Splice = c.args.self.now in
    let ticked = c.tick_connection-change in
    record { over = λ is. ap (λ (x : Splice). is_live x.conn.stage) ticked.ensures.ticked ∙ tick_dead f c.args.now c.requires.open_yet (sym (ap ends ticked.ensures.change) ∙ is) }

pub returns-clause-makes : goal.returns-clause-makes
returns-clause-makes g c =
    let f : Splice = c.args.self.now in
    let now : ℕ = c.args.now in
    let ticked = c.tick_connection-change in
    let is : ticked.new.self ≡ record f { conn = after_tick f.conn now } = ticked.ensures.ticked in
    makes_as _ _ (Sees (ends ticked.result) ticked.new.self c.see.new.self now) _ c.see.ensures
    (λ made sees. (
      ticks f now c.requires.open_yet (subst (λ (x : Splice). HasBuffers x.conn x.up x.down) is ticked.ensures.buffers) (ends ticked.result) (sym (ap ends ticked.ensures.change)) c.see.new.self made
          (subst (λ (x : Splice). Sees (ends ticked.result) x c.see.new.self now made) is sees),
      sees_at_most (ends ticked.result) ticked.new.self c.see.new.self now made sees,
    ))

pub returns-clause-stage : goal.returns-clause-stage
returns-clause-stage g c yet =
    let f : Splice = c.args.self.now in
    let now : ℕ = c.args.now in
    let ticked = c.tick_connection-change in
    sees_stage (ends ticked.result) f c.see.new.self now c.see.ensures.made (sym (ap ends ticked.ensures.change))
    (subst (λ (x : Splice). Sees (ends ticked.result) x c.see.new.self now c.see.ensures.made) ticked.ensures.ticked c.see.ensures.holds) yet

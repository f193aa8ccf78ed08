use Rattle.std.proofs.Common.{ℕ, ◌≤◌, ◌^◌, ap, subst, sym, ◌∙◌}
use Rattle.tcp_connection.specs.Connection.{Connection}
use Rattle.tcp_connection.specs.Owing.{owed_of}
use Rattle.flow_splice.specs.Splice.{Splice}
use Rattle.flow_splice.proofs.StaysInTimeWait.{gone_rests, rests_on}
use Rattle.flow_splice.proofs.InTime.{either_moment}
use Rattle.flow_splice.proofs.Spliced.note_sent.Goals as goal

pub invariant_of-self : goal.invariant_of-self
invariant_of-self c =
    let kept = c.self.invariant in
    let i = c.self.inside in
    let owed = ap (λ (f : Splice). owed_of f.conn f.up f.down) c.self.view_is ∙ c.requires.owed in (
      record { buffers = c.sent.ensures.buffers _ kept.0.buffers owed; size = kept.0.size; room = kept.0.room; few = kept.0.few; segments = kept.0.segments },
      record { since = kept.1.since; last = c.requires.now; called = subst (λ (n : ℕ). n ≤ 2 ^ 62) (sym c.later_if-self-inside.ensures) (either_moment _ c.args.now i.called c.requires.now kept.1.called) },
      rests_on i.place i.conn.stage _ kept.2
          (λ in_time_wait at. ap (λ (x : Connection). x.stage) c.sent.ensures.connection ∙ gone_rests i.conn i.up i.down c.args.what.now c.args.now owed at),
    )

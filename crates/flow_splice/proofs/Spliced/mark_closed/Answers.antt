use Rattle.std.proofs.Common.{◌≡◌, true, subst, sym}
use Rattle.flow_splice.specs.Splice.{Splice, place_after, is_time_wait_by}
use Rattle.flow_splice.specs.declared.Place.{Place}
use Rattle.flow_splice.proofs.StaysInTimeWait.{closed_rests}
use Rattle.flow_splice.proofs.Spliced.mark_closed.Goals as goal

pub invariant_of-self : goal.invariant_of-self
invariant_of-self c =
    let kept = c.self.invariant in (
      kept.0,
      kept.1,
      subst (λ (p : Place). is_time_wait_by p c.self.inside.conn.stage ≡ true) (sym (subst (λ (f : Splice). c.place_after-self-inside.result ≡ place_after f.conn.stage c.args.now)
          (sym c.self.view_is) c.place_after-self-inside.ensures)) (closed_rests c.self.inside.conn.stage c.args.now),
    )

use Rattle.std.proofs.Common.{sym, subst, arith}
use Rattle.sock_buffers.specs.Downward.{Downward}
use Rattle.sock_buffers.specs.Upward.{Upward, empty}
use Rattle.tcp_connection.specs.Connection.{HasBuffers}
use Rattle.worked_segments.proofs.owner.Owner.open.Goals as goal

pub invariant_of-owner : goal.invariant_of-owner
invariant_of-owner c = (
  subst (λ (u : Upward). HasBuffers c.connection-conn.result u c.in_ok-down.down) (sym c.in_ok-up.ensures)
      (subst (λ (d : Downward). HasBuffers c.connection-conn.result (empty c.args.opening.now.ring) d) (sym c.in_ok-down.ensures)
      (c.connection-conn.ensures c.args.opening.now.host)),
  omega arith,
)

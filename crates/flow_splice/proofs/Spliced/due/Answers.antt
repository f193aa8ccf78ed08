use Rattle.std.proofs.Common.{ℕ, Option, subst, sym}
use Rattle.spec_flow.specs.Dutiful.{close_deadline, resend_deadline, wakes}
use Rattle.spec_flow.specs.Bounds.{IsBy, IsFrom}
use Rattle.flow_splice.proofs.Bounds.{due_by_connect, due_by_resend, due_from}
use Rattle.flow_splice.proofs.Spliced.due.Goals as goal

pub returns-clause-by_connect : goal.returns-clause-by_connect
returns-clause-by_connect c s past now h = subst (λ (d : Option ℕ). IsBy d (close_deadline past)) (sym c.next_moment.ensures) (due_by_connect s c.args.self.now past now h)

pub returns-clause-by_resend : goal.returns-clause-by_resend
returns-clause-by_resend c s past now h clear = subst (λ (d : Option ℕ). IsBy d (resend_deadline past)) (sym c.next_moment.ensures) (due_by_resend s c.args.self.now past now h clear)

pub returns-clause-from : goal.returns-clause-from
returns-clause-from c s past now h = subst (λ (d : Option ℕ). IsFrom d (wakes past)) (sym c.next_moment.ensures) (due_from s c.args.self.now past now h)

use Rattle.std.proofs.Common.{ℕ, ap, sym, ◌∙◌, nat_le}
use Rattle.flow_splice.proofs.GivingWay.{way_is}
use Rattle.flow_splice.proofs.Spliced.gives_way_at.Goals as goal

pub returns-clause-may : goal.returns-clause-may
returns-clause-may c s past now h yet m few = way_is s c.args.self.now past now h yet m few ∙ ap (λ (n : ℕ). nat_le n m) (sym c.way_moment.ensures)

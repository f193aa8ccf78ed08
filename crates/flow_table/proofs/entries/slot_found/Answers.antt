use Rattle.std.proofs.Common.{subst}
use Rattle.std.specs.Prelude.{Result, ℕ}
use Rattle.flow_table.specs.Rows.{IsPlaceOf}
use Rattle.flow_table.proofs.Searching.{no_slot}
use Rattle.flow_table.proofs.entries.slot_found.Goals as goal

pub returns-in-Err : goal.returns-in-Err
returns-in-Err c = λ t is. no_slot c.args.entries.now _ t (subst (λ (r : Result ℕ ℕ). IsPlaceOf c.args.entries.now t r) c.in-Err.is is)

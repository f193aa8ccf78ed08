-- The law of the table is that of its form and rows.
use Rattle.std.proofs.Common.{ℕ, List, subst}
use Rattle.tlv_table.specs.Tables.{Rules}
use Rattle.tlv_table.specs.Putting.{CanPutAll, ReadsAgain}
use Rattle.tlv_table.proofs.Table.put_options_are_read_again.Goals as goal

pub returns : goal.returns
returns g c = subst (λ (r : Rules). (pairs : List (ℕ × List ℕ)) (rest : List ℕ) → CanPutAll r.form r.rows pairs → ReadsAgain r.form r.rows pairs rest) c.self.view_is c.law_of_put.ensures

use Rattle.std.proofs.Common.{◌≡◌, length}
use Rattle.tlv_table.specs.Tables.{are_rows}
use Rattle.tlv_table.proofs.are_rows.Given as goal

abbrev pub invariant-loop-rest : goal.invariant-loop-rest
invariant-loop-rest l = are_rows l.form l.rest ≡ are_rows l.form l.fn.rows

abbrev pub decreases-loop-rest : goal.decreases-loop-rest
decreases-loop-rest l = length l.rest

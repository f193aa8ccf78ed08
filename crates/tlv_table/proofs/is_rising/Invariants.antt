use Rattle.std.proofs.Common.{◌≡◌, length}
use Rattle.tlv_table.specs.Tables.{is_rising}
use Rattle.tlv_table.proofs.is_rising.Given as goal

abbrev pub invariant-loop-rest : goal.invariant-loop-rest
invariant-loop-rest l = is_rising l.rest ≡ is_rising l.fn.rows

abbrev pub decreases-loop-rest : goal.decreases-loop-rest
decreases-loop-rest l = length l.rest

use Rattle.std.proofs.Common.{ℕ, List, Option, take}
use Rattle.tftp_server.specs.Serving.{IsNextDue}
use Rattle.tftp_server.specs.Rows.{transfers_of}
use Rattle.tftp_server.proofs.transfers.next_due.Given as goal

abbrev pub invariant-loop-row : goal.invariant-loop-row
invariant-loop-row l = (folder : Option (List ℕ)) → IsNextDue l.now (transfers_of folder (take l.row-index l.rows)) l.next

-- One row goes again.
use Rattle.std.proofs.Common.{refl, arith}
use Rattle.tftp_server.proofs.Keeping.{again_is, is_due_at, is_due_row}
use Rattle.rules_tftp.proofs.Listing.{position_some}
use Rattle.tftp_server.proofs.transfers.count_again.Goals as goal

pub overflow_add-row : goal.overflow_add-row
overflow_add-row c = omega (arith, is_due_at c.args.now c.args.rows.now c.args.place c.index-rows-place.result c.requires.due)

pub returns : goal.returns
returns c folder d =
    again_is c.args.now folder c.args.rows.now c.args.place c.index-rows-place.result d _ (position_some (is_due_row c.args.now) c.args.rows.now c.args.place c.requires.due).within refl

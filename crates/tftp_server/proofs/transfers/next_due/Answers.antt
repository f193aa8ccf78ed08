-- A row more.
use Rattle.std.proofs.Common.{◌+◌, List, take, sym, subst}
use Rattle.std.proofs.lemmas.List.{take_all}
use Rattle.rules_tftp.specs.Transfers.{Transfer}
use Rattle.tftp_server.specs.Serving.{IsNextDue, earlier}
use Rattle.tftp_server.specs.Rows.{transfer_of, transfers_of}
use Rattle.tftp_server.specs.declared.row.Row.{Row}
use Rattle.tftp_server.proofs.Timing.{next_more, rows_more}
use Rattle.tftp_server.proofs.transfers.next_due.Goals as goal

pub loop-row-preserved : goal.loop-row-preserved
loop-row-preserved c folder =
    let rows = c.args.rows.now in
    let row = c.row-item.result in
    subst (IsNextDue c.args.now (transfers_of folder (take (c.loop-row.row-index + 1) rows))) (sym c.earlier-next.ensures)
    (subst (λ (ts : List Transfer). IsNextDue c.args.now ts (earlier c.args.now row.due c.loop-row.next)) (sym (rows_more folder rows c.loop-row.row-index row c.loop-row-test.true c.row-item.is))
    (next_more c.args.now (transfers_of folder (take c.loop-row.row-index rows)) (transfer_of folder row) c.loop-row.next (c.loop-row.invariant folder)))

pub returns : goal.returns
returns c folder =
    subst (λ (rows : List Row). IsNextDue c.args.now (transfers_of folder rows) c.loop-row.next) (take_all c.loop-row.row-index c.args.rows.now c.loop-row-test.false) (c.loop-row.invariant folder)

-- An option is taken or wrong, by its row and the row's mark.
use Rattle.std.proofs.lemmas.Result.{err_from_is_err_and}
use Rattle.tlv_table.proofs.Marks.{takes_unknown, takes_known, takes_wrong}
use Rattle.tlv_table.proofs.take.Goals as goal

pub returns-in_err-judge : goal.returns-in_err-judge
returns-in_err-judge c found agrees =
    let p = err_from_is_err_and c.from_residual.result c.from_residual.ensures.1 in
    rw (p.1, p.2) (takes_wrong c.args.rows.now c.args.marks.now found _ c.in-Some.row _ c.in-Some.ensures agrees c.in_err-judge.ensures.err)

pub returns-in_ok-judge : goal.returns-in_ok-judge
returns-in_ok-judge c found agrees = takes_known c.args.rows.now c.args.marks.now found _ c.in-Some.row c.in-Some.ensures c.requires agrees c.in_ok-judge.ensures.ok

pub returns-in_default : goal.returns-in_default
returns-in_default c found agrees = takes_unknown c.args.rows.now c.args.marks.now found _ c.in_default.ensures agrees

use Rattle.std.proofs.Common.{sym, subst}
use Rattle.std.proofs.lemmas.Result.{err_from_is_err_and}
use Rattle.world_face.specs.Journal.{Entry}
use Rattle.replay.specs.Lines.{entry_of}
use Rattle.replay.specs.Names.{name_text}
use Rattle.replay.specs.Range.{AnswersInRange}
use Rattle.replay.specs.Rows.{IsReadable}
use Rattle.replay.specs.Encoding.{IsWritten}
use Rattle.std.proofs.Common.{◌++◌, ◌∷◌}
use Rattle.replay.proofs.Refusing.{same_fault}
use Rattle.replay.proofs.Starring.{row_refused, row_written, row_readable}
use Rattle.replay.proofs.reading.read_row.Goals as goal

pub returns-in_err-line-clause-refused : goal.returns-in_err-line-clause-refused
returns-in_err-line-clause-refused c =
    let p = err_from_is_err_and c.from_residual.result c.from_residual.ensures.1 in
    rw (p.1, p.2) (λ unread. row_refused c.args.name c.args.args.now c.args.answer.now c.given_args-given.result.now c.counted_answer-said.result.now c.same-starred.result
    c.is_all-all.result c.same-starred.ensures c.is_all-all.ensures c.given_args-given.ensures c.counted_answer-said.ensures (c.in_err-line.ensures.refused (same_fault unread)))

pub returns-clause-line : goal.returns-clause-line
returns-clause-line c =
    let e = entry_of c.in_ok-line.line in
    let starred = c.same-starred.result in
    let all = c.is_all-all.result in
    subst (λ (x : Entry). IsWritten (name_text c.args.name ++ 32 ∷ c.args.args.now) c.args.answer.now (record { entry = x; starred = starred; all = all })) (sym c.counted.ensures.entry)
    (row_written c.args.name c.args.args.now c.args.answer.now c.given_args-given.result.now c.counted_answer-said.result.now starred all e c.same-starred.ensures
    c.is_all-all.ensures c.given_args-given.ensures c.counted_answer-said.ensures c.in_ok-line.ensures.said)

pub returns-clause-range : goal.returns-clause-range
returns-clause-range c =
    let e = entry_of c.in_ok-line.line in
    let starred = c.same-starred.result in
    let all = c.is_all-all.result in
    let range = subst (λ (x : Entry). AnswersInRange e → AnswersInRange x) c.counted.ensures.entry c.counted.ensures.range in
    subst (λ (x : Entry). IsReadable (record { entry = x; starred = starred; all = all })) (sym c.counted.ensures.entry)
    (row_readable c.args.name c.args.args.now c.args.answer.now c.given_args-given.result.now c.counted_answer-said.result.now starred all e c.in_ok-line.ensures.some
    c.is_all-all.ensures c.in_ok-line.ensures.said range)

-- What is read so far, and what reading on gives.
use Rattle.std.proofs.Common.{◌+◌, ◌-◌, cond, length, Ok, Err, is_ok, take, drop, ap, sym, ◌∙◌}
use Rattle.std.proofs.lemmas.Result.{err_from_is_err_and}
use Rattle.tlv_table.specs.declared.TlvFault.TheVariants as faults
use Rattle.tlv_table.specs.Reading.{body_in}
use Rattle.tlv_table.proofs.Walks.{all_after, at_end, at_none, fails_in_body, fails_in_row, after_pad, after_option}
use Rattle.tlv_table.proofs.check.Goals as goal

pub returns-then-code-form-clause-ok : goal.returns-then-code-form-clause-ok
returns-then-code-form-clause-ok c =
    let i = c.loop-rest.invariant in
    ap is_ok (sym i.goes_on ∙ at_end _ _ i.found _ c.loop-rest.rest.now c.in-len1-up.len_at_least c.if-code-form.true)

pub loop-rest-preserved-then-code-form-2 : goal.loop-rest-preserved-then-code-form-2
loop-rest-preserved-then-code-form-2 c =
    let i = c.loop-rest.invariant in
    let xs = c.loop-rest.rest.now in
    let next = after_pad _ _ i.found c.args.octets.now xs _ i.within c.in-len1-up.len_at_least c.if-code-form.false c.if-code-form-2.true i.goes_on (sym (all_after 1 xs)) in
    record { found = i.found; agrees = i.agrees; within = next.0; goes_on = next.1 }

pub returns-in_err-body-clause-err : goal.returns-in_err-body-clause-err
returns-in_err-body-clause-err c =
    let i = c.loop-rest.invariant in
    let xs = c.loop-rest.rest.now in
    let p = err_from_is_err_and c.from_residual.result c.from_residual.ensures.1 in
    rw (p.1, p.2) (sym i.goes_on ∙ fails_in_body _ _ i.found _ xs _ c.in-len1-up.len_at_least c.if-code-form.false c.if-code-form-2.false
    (sym (ap (body_in c.args.form.now (length c.args.octets.now - length xs)) (all_after 1 xs)) ∙ c.in_err-body.ensures))

pub returns-in_err-take-clause-err : goal.returns-in_err-take-clause-err
returns-in_err-take-clause-err c =
    let i = c.loop-rest.invariant in
    let xs = c.loop-rest.rest.now in
    let p = err_from_is_err_and c.from_residual-in_err-take.result c.from_residual-in_err-take.ensures.1 in
    rw (p.1, p.2) (sym i.goes_on ∙ fails_in_row _ _ i.found _ xs c.in_ok-body.body.now _ c.in-len1-up.len_at_least c.if-code-form.false c.if-code-form-2.false
    (sym (ap (body_in c.args.form.now (length c.args.octets.now - length xs)) (all_after 1 xs)) ∙ c.in_ok-body.ensures) (c.in_err-take.ensures i.found i.agrees))

pub loop-rest-preserved : goal.loop-rest-preserved
loop-rest-preserved c =
    let i = c.loop-rest.invariant in
    let xs = c.loop-rest.rest.now in
    let took = c.in_ok-take.ensures i.found i.agrees in
    let t_is = all_after 1 xs in
    let next = after_option _ _ i.found took.0 c.args.octets.now xs c.in_ok-body.body.now _ i.within c.in-len1-up.len_at_least c.if-code-form.false c.if-code-form-2.false i.goes_on
    (sym (ap (body_in c.args.form.now (length c.args.octets.now - length xs)) t_is) ∙ c.in_ok-body.ensures) took.2
    (sym (all_after (1 + length c.in_ok-body.body.now) (take (length xs - 1) (drop 1 xs)) ∙ ap (drop (1 + length c.in_ok-body.body.now)) t_is)) in
    record { found = took.0; agrees = took.1; within = next.0; goes_on = next.1 }

pub returns-then-form-clause-err : goal.returns-then-form-clause-err
returns-then-form-clause-err c =
    let i = c.loop-rest.invariant in
    sym i.goes_on ∙ at_none _ _ i.found _ c.loop-rest.rest.now c.in_default.len_below ∙ ap (λ b. cond b (Err faults.NoEnd) (Ok i.found)) c.if-form.true

pub returns-else-form-clause-ok : goal.returns-else-form-clause-ok
returns-else-form-clause-ok c =
    let i = c.loop-rest.invariant in
    ap is_ok (sym i.goes_on ∙ at_none _ _ i.found _ c.loop-rest.rest.now c.in_default.len_below ∙ ap (λ b. cond b (Err faults.NoEnd) (Ok i.found)) c.if-form.false)

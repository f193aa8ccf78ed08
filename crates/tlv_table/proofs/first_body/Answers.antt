-- The first option of the code, or none.
use Rattle.std.proofs.Common.{◌≡◌, ℕ, ◌+◌, ◌-◌, Bool, true, false, cond, List, [], length, None, Ok, Err, is_ok, take, drop, ap, sym, ◌∙◌, refl}
use Rattle.tlv_table.specs.declared.TlvFault.TheVariants as faults
use Rattle.tlv_table.specs.Reading.{Found, has_code, first_body, body_in, read_on, reading, found_in}
use Rattle.tlv_table.proofs.Walks.{all_after, at_end, at_pad, at_none, fails_in_body}
use Rattle.tlv_table.proofs.Marks.{known, unknown}
use Rattle.tlv_table.proofs.Firsts.{ok_is, not_err, none_first, reading_lacks, this_is_first, passes_on, body_anywhere, no_body_anywhere}
use Rattle.tlv_table.proofs.first_body.Goals as goal

pub returns-in_err-find_row : goal.returns-in_err-find_row
returns-in_err-find_row c =
    let read = reading c.args.form.now c.args.rows.now c.args.octets.now in
    rw c.from_residual.ensures
    (sym (none_first c.args.code (found_in read) (reading_lacks _ _ c.args.code [] (found_in read) 0 0 c.args.octets.now
    (unknown c.args.rows.now c.args.code c.in_err-find_row.ensures) refl (ok_is read c.requires))))

pub returns-then-front-form : goal.returns-then-front-form
returns-then-front-form c =
    let i = c.loop-rest.invariant in
    let is = sym i.goes_on ∙ at_end _ _ i.found i.place c.loop-rest.rest.now c.in-len1-up.len_at_least c.if-front-form.true in
    sym (ap (λ r. first_body c.args.code (found_in r)) is ∙ none_first c.args.code i.found i.none)

pub loop-rest-preserved-then-front-form-2 : goal.loop-rest-preserved-then-front-form-2
loop-rest-preserved-then-front-form-2 c =
    let i = c.loop-rest.invariant in
    let xs = c.loop-rest.rest.now in
    record {
      found = i.found;
      place = i.place + 1;
      none = i.none;
      goes_on = ap (read_on c.args.form.now c.args.rows.now i.found (i.place + 1) 0) (all_after 1 xs)
          ∙ sym (at_pad _ _ i.found i.place xs c.in-len1-up.len_at_least c.if-front-form.false c.if-front-form-2.true) ∙ i.goes_on;
    }

pub returns-in_default-body_of : goal.returns-in_default-body_of
returns-in_default-body_of c =
    let i = c.loop-rest.invariant in
    let xs = c.loop-rest.rest.now in
    let fails = no_body_anywhere c.args.form.now 0 i.place (drop 1 xs) _ (sym (ap (body_in c.args.form.now 0) (all_after 1 xs)) ∙ c.in_default-body_of.ensures) in
    absurd (not_err _ fails.0 c.requires (sym i.goes_on ∙ fails_in_body _ _ i.found i.place xs fails.0 c.in-len1-up.len_at_least c.if-front-form.false c.if-front-form-2.false fails.1))

pub returns-then-front-code : goal.returns-then-front-code
returns-then-front-code c =
    let i = c.loop-rest.invariant in
    let xs = c.loop-rest.rest.now in
    let body = body_anywhere c.args.form.now 0 i.place (drop 1 xs) c.in-Ok.body.now (sym (ap (body_in c.args.form.now 0) (all_after 1 xs)) ∙ c.in-Ok.ensures) in
    let row = known c.args.rows.now c.args.code c.in_ok-find_row.field-0 c.in_ok-find_row.ensures in
    sym (this_is_first _ _ i.found i.place xs c.in-Ok.body.now c.args.code _ c.in-len1-up.len_at_least c.if-front-form.false c.if-front-form-2.false body c.if-front-code.true row.2
    i.none _ i.goes_on c.requires)

pub loop-rest-preserved : goal.loop-rest-preserved
loop-rest-preserved c =
    let i = c.loop-rest.invariant in
    let xs = c.loop-rest.rest.now in
    let size = 1 + length c.in-Ok.body.now in
    let body = body_anywhere c.args.form.now 0 i.place (drop 1 xs) c.in-Ok.body.now (sym (ap (body_in c.args.form.now 0) (all_after 1 xs)) ∙ c.in-Ok.ensures) in
    let next = passes_on _ _ i.found i.place xs c.in-Ok.body.now c.args.code c.in-len1-up.len_at_least c.if-front-form.false c.if-front-form-2.false body c.if-front-code.false
    i.none (ap is_ok i.goes_on ∙ c.requires) in
    record {
      found = next.0;
      place = i.place + 2 + length c.in-Ok.body.now;
      none = next.1;
      goes_on = ap (read_on c.args.form.now c.args.rows.now next.0 (i.place + 2 + length c.in-Ok.body.now) 0) (all_after size (take (length xs - 1) (drop 1 xs)) ∙ ap (drop size) (all_after 1 xs))
          ∙ next.2 ∙ i.goes_on;
    }

pub returns : goal.returns
returns c =
    let i = c.loop-rest.invariant in
    let is = sym i.goes_on ∙ at_none _ _ i.found i.place c.loop-rest.rest.now c.in_default.len_below in
    sym (ap (λ r. first_body c.args.code (found_in r)) is ∙ at_last c.args.form.now.end_needed c.args.code i.found i.none (sym (ap is_ok is) ∙ c.requires))
  where
    at_last : (needed : Bool) (code : ℕ) (found : List Found) → has_code code found ≡ false → is_ok (cond needed (Err faults.NoEnd) (Ok found)) ≡ true → first_body code
        (found_in (cond needed (Err faults.NoEnd) (Ok found))) ≡ None
    at_last true code found none right = cc
    at_last false code found none right = none_first code found none

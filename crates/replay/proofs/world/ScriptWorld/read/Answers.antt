use Rattle.std.proofs.Common.{◌≤◌, ℕ, List, ◌∙◌, ap, subst, arith}
use Rattle.std.proofs.lemmas.Bool.Decides.{nat_tests}
use Rattle.replay.specs.Rows.{most_room, rooms}
use Rattle.replay.specs.declared.row.Row.{Row as ARow}
use Rattle.std.proofs.lemmas.Result.{err_from_is_err_and}
use Rattle.replay.specs.Lines.{rows_of}
use Rattle.replay.proofs.Measuring.{too_much, within_room}
use Rattle.replay.proofs.Unreading.{all_read, named_line}
use Rattle.replay.proofs.world.ScriptWorld.read.Goals as goal

pub returns-in_err-rows-clause-only : goal.returns-in_err-rows-clause-only
returns-in_err-rows-clause-only c n first =
    let p = err_from_is_err_and c.from_residual.result c.from_residual.ensures.1 in
    rw (p.1, p.2) (named_line c.args.octets.now c.in_err-rows.field-0.0 c.in_err-rows.ensures.fault c.in_err-rows.ensures.first n first)

pub returns-then-rooms-gt-MOST_ROOM-clause-only : goal.returns-then-rooms-gt-MOST_ROOM-clause-only
returns-then-rooms-gt-MOST_ROOM-clause-only c n first = absurd (all_read c.args.octets.now (rows_of c.in_ok-rows.rows.items) n c.in_ok-rows.ensures.text c.in_ok-rows.ensures.readable first)

pub returns-clause-only : goal.returns-clause-only
returns-clause-only c n first = absurd (all_read c.args.octets.now (rows_of c.in_ok-rows.rows.items) n c.in_ok-rows.ensures.text c.in_ok-rows.ensures.readable first)

pub returns-in_err-rows-clause-only_large : goal.returns-in_err-rows-clause-only_large
returns-in_err-rows-clause-only_large c large =
    let p = err_from_is_err_and c.from_residual.result c.from_residual.ensures.1 in
    rw (p.1, p.2) (too_much c.args.octets.now c.in_err-rows.field-0.0 c.in_err-rows.ensures.fault c.in_err-rows.ensures.first large)

pub returns-clause-only_large : goal.returns-clause-only_large
returns-clause-only_large c large =
    let fits : c.rooms.result ≤ most_room = grind (arith, nat_tests, c.if-rooms-gt-MOST_ROOM.false) in
    let room = subst (λ (n : ℕ). n ≤ most_room) (c.rooms.ensures ∙ ap (λ (rows : List ARow). rooms (rows_of rows)) c.deref.ensures.value) fits in
    absurd (within_room c.args.octets.now (rows_of c.in_ok-rows.rows.items) c.in_ok-rows.ensures.text c.in_ok-rows.ensures.readable room large)

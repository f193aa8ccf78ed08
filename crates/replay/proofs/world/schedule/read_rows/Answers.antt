use Rattle.std.proofs.Common.{◌≡◌, ◌+◌, ◌<◌, Err, arith, length-append, ap, length, ◌∷◌, []}
use Rattle.std.proofs.lemmas.Bool.Decides.{nat_tests}
use Rattle.replay.proofs.Scheduling.{row_more}
use Rattle.replay.proofs.Unreading.{readable_more, first_unread, line_refused}
use Rattle.replay.proofs.Joining.{shorter}
use Rattle.replay.proofs.world.schedule.read_rows.Goals as goal

pub loop-rest-preserved : goal.loop-rest-preserved
loop-rest-preserved c = record {
  text = row_more c.args.octets.now c.loop-rest.rest.now c.in-Ok.text.now c.in-Ok.after.now c.loop-rest.rows.items c.push_row.new.rows.items c.in-Ok-read_line.row
      c.loop-rest.invariant.text c.in-Ok.ensures.parts c.in-Ok-read_line.ensures.line c.in_ok-push_row.ensures.items;
  readable = readable_more c.loop-rest.rows.items c.push_row.new.rows.items c.in-Ok-read_line.row c.loop-rest.invariant.readable c.in-Ok-read_line.ensures.range c.in_ok-push_row.ensures.items;
  few = omega (
    arith,
    c.loop-rest.invariant.few,
    shorter 10 c.loop-rest.rest.now c.in-Ok.text.now c.in-Ok.after.now c.in-Ok.ensures.parts,
    length-append c.loop-rest.rows.items
        (c.in-Ok-read_line.row ∷ []),
    ap length c.in_ok-push_row.ensures.items,
  );
}

pub returns-in-Err-NoReading-clause-first : goal.returns-in-Err-NoReading-clause-first
returns-in-Err-NoReading-clause-first c n is =
    let named : c.len.result + 1 ≡ n = cc in
    let some : 0 < length c.loop-rest.rest.now = grind (arith, nat_tests) in
    first_unread c.args.octets.now c.loop-rest.rest.now c.loop-rest.rows.items n c.loop-rest.invariant.text c.loop-rest.invariant.readable (omega (arith, named, c.len.ensures)) some
    (line_refused c.loop-rest.rest.now c.in-Ok.text.now c.in-Ok.after.now c.in-Ok.ensures.parts c.in-Ok.ensures.first (c.in-Err-NoReading.ensures.refused (ap Err c.in-Err-NoReading.field-0-is)))

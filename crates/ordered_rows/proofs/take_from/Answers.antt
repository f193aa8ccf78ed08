use Rattle.ordered_rows.specs.Rows.{queued_as}
use Rattle.ordered_rows.proofs.Rowing.{removed_queued}
use Rattle.ordered_rows.proofs.take_from.Goals as goal

pub returns-in-Some-clause-queued : goal.returns-in-Some-clause-queued
returns-in-Some-clause-queued c = let p = c.remove_queued.ensures.place in removed_queued c.args.numbers.now c.args.row.now.items c.remove_queued.new.row.items p.0
    (queued_as c.args.slot c.in-Some.number) p.1.0 p.1.1 c.requires.queued

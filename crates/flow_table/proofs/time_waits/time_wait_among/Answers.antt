use Rattle.flow_table.proofs.Finding.{none_behind, none_at_end}
use Rattle.flow_table.proofs.time_waits.time_wait_among.Goals as goal

pub returns-else-time_waits-place-clause-none : goal.returns-else-time_waits-place-clause-none
returns-else-time_waits-place-clause-none c = none_behind c.args.time_waits.now c.args.rest _ _ c.loop-place.place c.requires c.first_since-place.ensures c.loop-place.invariant.from
    c.loop-place.invariant.none c.loop-place-test.true c.if-time_waits-place.false

pub returns-after-loop-place-clause-none : goal.returns-after-loop-place-clause-none
returns-after-loop-place-clause-none c = none_at_end c.args.time_waits.now c.args.rest c.loop-place.place c.loop-place-test.false c.loop-place.invariant.none

use Rattle.std.proofs.Common.{arith, ◌∙◌}
use Rattle.poll_list.proofs.Picking.{goes_on_step, goes_on_passed, adds_one}
use Rattle.drive_world.proofs.reporting.add_parts.Goals as goal

pub loop-want-preserved : goal.loop-want-preserved
loop-want-preserved c = record {
  picks = λ all rest goes. goes_on_step all c.args.wants.now rest _ _ c.loop-want.want-index _ c.loop-want-test.true (c.loop-want.invariant.picks all rest goes) c.add_part.ensures.adds;
  few = let more = adds_one _ _ _ c.add_part.ensures.adds in omega (arith, more, c.loop-want.invariant.few);
  capacity = c.add_part.ensures.capacity ∙ c.loop-want.invariant.capacity;
}

pub returns-clause-goes_on : goal.returns-clause-goes_on
returns-clause-goes_on c all rest goes = goes_on_passed all c.args.wants.now rest _ c.loop-want.want-index (c.loop-want.invariant.picks all rest goes)

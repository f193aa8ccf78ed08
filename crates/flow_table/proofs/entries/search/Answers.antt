use Rattle.std.proofs.Common.{arith}
use Rattle.flow_table.proofs.Searching.{found_read, below_read, above_read, halved_more, nothing_left}
use Rattle.flow_table.proofs.entries.search.Goals as goal

pub returns-in-Equal-clause-place : goal.returns-in-Equal-clause-place
returns-in-Equal-clause-place g c = found_read c.args.entries.now _ _ c.args.t.now (omega arith) c.in-Equal.ensures.order

pub loop-size-preserved-in-Less : goal.loop-size-preserved-in-Less
loop-size-preserved-in-Less g c = record {
  within = omega (arith, c.loop-size.invariant.within);
  below = below_read c.args.entries.now _ _ c.args.t.now c.requires (omega (arith, c.loop-size.invariant.within, c.loop-size-test.true)) c.in-Less.ensures.order;
  above = λ i e le h. c.loop-size.invariant.above i e (omega (arith, le)) h;
  halved = λ k few. halved_more c.loop-size.size _ k _ _ _ c.loop-size-test.true (omega arith) c.order.ensures.step (c.loop-size.invariant.halved k few);
}

pub loop-size-preserved : goal.loop-size-preserved
loop-size-preserved g c = record {
  within = omega (arith, c.loop-size.invariant.within);
  below = c.loop-size.invariant.below;
  above = above_read c.args.entries.now _ _ c.args.t.now c.requires (omega (arith, c.loop-size.invariant.within, c.loop-size-test.true)) c.in-Greater.ensures.order;
  halved = λ k few. halved_more c.loop-size.size _ k _ _ _ c.loop-size-test.true (omega arith) c.order.ensures.step (c.loop-size.invariant.halved k few);
}

pub returns-clause-place : goal.returns-clause-place
returns-clause-place g c = nothing_left c.args.entries.now c.loop-size.low c.loop-size.size c.args.t.now
    (omega arith) c.loop-size.invariant.within c.loop-size.invariant.below c.loop-size.invariant.above

use Rattle.std.proofs.Common.{◌∙◌, arith}
use Rattle.guest_link.proofs.Passing.{passes_on}
use Rattle.net_world.proofs.edge.Edge.ask_until_ready.Goals as goal

pub returns-then-not-ask-clause-passes : goal.returns-then-not-ask-clause-passes
returns-then-not-ask-clause-passes g c = passes_on _ _ _ c.loop.invariant.passes c.ask.ensures.passes

pub returns-then-is_over-clause-passes : goal.returns-then-is_over-clause-passes
returns-then-is_over-clause-passes g c = passes_on _ _ _ c.loop.invariant.passes c.ask.ensures.passes

pub loop-preserved : goal.loop-preserved
loop-preserved g c = record {
  capacity = c.offer_all-in-loop.ensures.capacity ∙ c.loop.invariant.capacity;
  moment = omega (arith, c.loop.invariant.moment, c.ask.ensures.moment);
  passes = passes_on _ _ _ c.loop.invariant.passes c.ask.ensures.passes;
}

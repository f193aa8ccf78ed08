use Rattle.std.proofs.Common.{◌≡◌, refl, arith, inl, ◌∙◌, drop, true, false}
use Rattle.poll_list.specs.declared.Want.{Want}
use Rattle.poll_list.specs.declared.Who.TheVariants.{Link}
use Rattle.poll_list.specs.Writes.{count_to_write}
use Rattle.poll_list.proofs.Counting.{counted_next, counted_past}
use Rattle.poll_list.proofs.Picking.{goes_on_step, goes_on_passed, adds_one, begins_added}
use Rattle.net_world.proofs.Telling.{read_none, ready_on_written, written_all, written_more, written_none, written_past}
use Rattle.net_world.proofs.gathering.gather_written.Goals as goal
use Rattle.net_world.proofs.gathering.gather_written.Goals.{then-want, else-want}

abbrev link : Want
link = record { of = Link; read = false; write = false }

pub loop-want-preserved : goal.loop-want-preserved
loop-want-preserved c = elim c.if-want.branch [
  | then-want w ↦ rw w.ready-is record {
    picks = λ all rest goes. goes_on_step all c.args.wants.now rest _ _ c.loop-want.want-index _ c.loop-want-test.true (c.loop-want.invariant.picks all rest goes) w.add_part.ensures.adds;
    begins = λ first b. begins_added _ _ _ first w.add_part.ensures.adds (c.loop-want.invariant.begins first b);
    few = let more = adds_one _ _ _ w.add_part.ensures.adds in omega (arith, more, c.loop-want.invariant.few);
    capacity = w.add_part.ensures.capacity ∙ c.loop-want.invariant.capacity;
    ready = λ of all. ready_on_written _ of w.look_up.result _ _ _ w.add_part.ensures.part w.look_up.ensures.is (c.loop-want.invariant.ready of all);
    written = written_more _ c.args.wants.now _ _ c.loop-want.want-index _ w.look_up.result c.loop-want-test.true w.add_part.ensures.part w.look_up.ensures.found c.loop-want.invariant.written;
    count = read_none _ _ w.look_up.result.write _ w.add_part.ensures.part ∙ c.loop-want.invariant.count;
    counted = omega (arith, w.to_write-is, c.if-to_write-eq0.false, counted_next c.args.wants.now c.loop-want.want-index link true c.loop-want-test.true w.if-want.true, c.loop-want.invariant.counted);
  }
  | else-want w ↦ rw w.ready-is record {
    picks = λ all rest goes. goes_on_step all c.args.wants.now rest _ _ c.loop-want.want-index link c.loop-want-test.true (c.loop-want.invariant.picks all rest goes) (inl refl);
    begins = c.loop-want.invariant.begins;
    few = omega (arith, c.loop-want.invariant.few);
    capacity = c.loop-want.invariant.capacity;
    ready = c.loop-want.invariant.ready;
    written = written_past _ c.args.wants.now _ c.loop-want.want-index _ c.loop-want-test.true w.if-want.false c.loop-want.invariant.written;
    count = c.loop-want.invariant.count;
    counted = omega (arith, w.to_write-is, counted_next c.args.wants.now c.loop-want.want-index link false c.loop-want-test.true w.if-want.false, c.loop-want.invariant.counted);
  }
]

pub loop-want-init : goal.loop-want-init
loop-want-init c = record {
  picks = λ all rest goes. goes;
  begins = λ first b. b;
  few = omega arith;
  capacity = refl;
  ready = λ of all. all;
  written = written_none _ c.args.wants.now _;
  count = refl;
  counted = refl;
}

pub returns-after-loop-want-clause-counted : goal.returns-after-loop-want-clause-counted
returns-after-loop-want-clause-counted c =
    let none : count_to_write (drop c.loop-want.want-index c.args.wants.now) ≡ 0 = counted_past c.args.wants.now c.loop-want.want-index c.loop-want-test.false in
    omega (arith, none, c.loop-want.invariant.counted)

pub returns-then-to_write-eq0-clause-counted : goal.returns-then-to_write-eq0-clause-counted
returns-then-to_write-eq0-clause-counted c = omega (arith, c.if-to_write-eq0.true, c.loop-want.invariant.counted, c.requires.counted)

pub returns-after-loop-want-clause-ready : goal.returns-after-loop-want-clause-ready
returns-after-loop-want-clause-ready c = c.loop-want.invariant.ready

pub returns-then-to_write-eq0-clause-ready : goal.returns-then-to_write-eq0-clause-ready
returns-then-to_write-eq0-clause-ready c = c.loop-want.invariant.ready

pub returns-after-loop-want-clause-writes : goal.returns-after-loop-want-clause-writes
returns-after-loop-want-clause-writes c =
    let none : count_to_write (drop c.loop-want.want-index c.args.wants.now) ≡ 0 = counted_past c.args.wants.now c.loop-want.want-index c.loop-want-test.false in
    written_all _ c.args.wants.now _ c.loop-want.want-index none c.loop-want.invariant.written

pub returns-then-to_write-eq0-clause-writes : goal.returns-then-to_write-eq0-clause-writes
returns-then-to_write-eq0-clause-writes c =
    let none : count_to_write (drop c.loop-want.want-index c.args.wants.now) ≡ 0 = omega (arith, c.if-to_write-eq0.true, c.loop-want.invariant.counted, c.requires.counted) in
    written_all _ c.args.wants.now _ c.loop-want.want-index none c.loop-want.invariant.written

pub returns-after-loop-want-clause-count : goal.returns-after-loop-want-clause-count
returns-after-loop-want-clause-count c = c.loop-want.invariant.count

pub returns-then-to_write-eq0-clause-count : goal.returns-then-to_write-eq0-clause-count
returns-then-to_write-eq0-clause-count c = c.loop-want.invariant.count

pub returns-after-loop-want-clause-goes_on : goal.returns-after-loop-want-clause-goes_on
returns-after-loop-want-clause-goes_on c all rest goes = goes_on_passed all c.args.wants.now rest _ c.loop-want.want-index (c.loop-want.invariant.picks all rest goes)

pub returns-then-to_write-eq0-clause-goes_on : goal.returns-then-to_write-eq0-clause-goes_on
returns-then-to_write-eq0-clause-goes_on c all rest goes = goes_on_passed all c.args.wants.now rest _ c.loop-want.want-index (c.loop-want.invariant.picks all rest goes)

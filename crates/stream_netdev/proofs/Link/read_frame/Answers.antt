use Rattle.std.proofs.Common.{List, ◌++◌, [], drop, subst, cond, Some, None, refl, sym, ◌∙◌, ap, arith}
use Rattle.world_face.specs.Journal.{Entry}
use Rattle.world_face.specs.Tells.{Makes}
use Rattle.world_face.proofs.Telling.{makes_as}
use Rattle.stream_netdev.specs.Keeps.{Keeps, ReadsFrame, EndsBy, ended_after}
use Rattle.world_face.specs.Frames.{missing, is_whole}
use Rattle.stream_netdev.proofs.Reading.{a_read, the_same, read_middle, no_frame, unfinished_of, goes_on, ends_long, read_whole, reads_next, ends_hand, ends_tell, end_tells}
use Rattle.stream_netdev.proofs.Reading.{ended_is_no_failure, ends_by}
use Rattle.stream_netdev.proofs.Failing.{read_rose}
use Rattle.world_face.specs.declared.Io.TheVariants.{Done}
use Rattle.stream_netdev.specs.declared.Arrived.TheVariants.{Frame, NotYet, End, Cut, TooLong, Failed}
use Rattle.stream_netdev.proofs.Link.read_frame.Goals as goal

pub loop-self-preserved : goal.loop-self-preserved
loop-self-preserved g c =
    let new = c.read_some.new.self in
    let read = a_read _ _ _ c.args.self.now _ new.octets _ c.loop-self.invariant.makes c.in-Done.ensures.read in
    record {
      makes = makes_as _ _ _ _ read (λ made holds past keeps. read_middle _ (Done c.in-Done.field-0) made past new.octets tt (unfinished_of _ c.in-More.ensures.0.some)
          (goes_on c.in-Done.field-0 new.octets c.in-More.ensures.1) (holds.1 past keeps));
      on = c.in-More.ensures.0;
      begun = c.in-Done.ensures.whole ∙ c.loop-self.invariant.begun;
      same = (c.in-Done.ensures.same.0 ∙ c.loop-self.invariant.same.0, c.in-Done.ensures.same.1 ∙ c.loop-self.invariant.same.1);
    }

pub returns-in-Whole-clause-makes : goal.returns-in-Whole-clause-makes
returns-in-Whole-clause-makes g c =
    let new = c.read_some.new.self in
    let now = c.loop-self.invariant in
    let finished = c.finish.ensures in
    let read = a_read _ _ _ c.args.self.now _ new.octets _ now.makes c.in-Done.ensures.read in
    makes_as _ _ _ _ read (λ made holds. (
      ends_by Frame (Done c.in-Done.field-0) made tt holds.0,
      λ past keeps. read_whole c.args.self.now c.finish.new.self _ made past new.octets c.in-Whole.ensures.0 (goes_on c.in-Done.field-0 new.octets c.in-Whole.ensures.1) finished.same.0 finished.whole
          (finished.same.1 ∙ c.in-Done.ensures.same.0 ∙ now.same.0) (finished.same.2 ∙ c.in-Done.ensures.same.1 ∙ now.same.1) (holds.1 past keeps),
    ))

pub returns-in-TooLong-clause-makes : goal.returns-in-TooLong-clause-makes
returns-in-TooLong-clause-makes g c =
    let new = c.read_some.new.self in
    let now = c.loop-self.invariant in
    let read = a_read _ _ _ c.args.self.now _ new.octets _ now.makes c.in-Done.ensures.read in
    no_frame _ _ c.args.self.now new _ (TooLong c.in-TooLong.length) (c.in-Done.ensures.whole ∙ now.begun) (
      c.in-Done.ensures.same.0 ∙ now.same.0,
      c.in-Done.ensures.same.1
          ∙ now.same.1,
    ) c.in-TooLong.ensures.0 refl (ends_long c.in-Done.field-0 c.in-TooLong.length new.octets c.in-TooLong.ensures.1 c.in-TooLong.ensures.2) tt read

pub returns-in-NotYet-clause-makes : goal.returns-in-NotYet-clause-makes
returns-in-NotYet-clause-makes g c =
    let new = c.read_some.new.self in
    let now = c.loop-self.invariant in
    let read = a_read _ _ _ c.args.self.now _ new.octets _ now.makes c.in-NotYet.ensures.read in
    let none = the_same _ _ _ c.args.self.now c.loop-self.self.octets new.octets _ now.makes c.in-NotYet.ensures.read refl in
    no_frame _ _ c.args.self.now new _ NotYet (c.in-NotYet.ensures.whole ∙ now.begun) (c.in-NotYet.ensures.same.0 ∙ now.same.0, c.in-NotYet.ensures.same.1 ∙ now.same.1)
    (ap is_whole none ∙ unfinished_of _ now.on.some) refl refl refl read

pub returns-in-Failed-clause-makes : goal.returns-in-Failed-clause-makes
returns-in-Failed-clause-makes g c =
    let new = c.read_some.new.self in
    let now = c.loop-self.invariant in
    let read = a_read _ _ _ c.args.self.now _ new.octets _ now.makes c.in-Failed.ensures.read in
    let none = the_same _ _ _ c.args.self.now c.loop-self.self.octets new.octets _ now.makes c.in-Failed.ensures.read refl in
    no_frame _ _ c.args.self.now new _ Failed (c.in-Failed.ensures.whole ∙ now.begun) (c.in-Failed.ensures.same.0 ∙ now.same.0, c.in-Failed.ensures.same.1 ∙ now.same.1)
    (ap is_whole none ∙ unfinished_of _ now.on.some) refl refl refl read

pub returns-in-End-clause-makes : goal.returns-in-End-clause-makes
returns-in-End-clause-makes g c =
    let new = c.read_some.new.self in
    let now = c.loop-self.invariant in
    let read = a_read _ _ _ c.args.self.now _ new.octets _ now.makes c.in-End.ensures.read in
    let none = the_same _ _ _ c.args.self.now c.loop-self.self.octets new.octets _ now.makes c.in-End.ensures.read refl in
    subst (λ r. Makes (g.W.World.tells c.args.world.now) (g.W.World.tells c.read_some.new.world)
    (λ made. EndsBy r made × ((past : List Entry) → Keeps c.args.self.now past → Keeps new (made ++ past) × ReadsFrame r new made past))) (sym c.ended.ensures)
    (no_frame _ _ c.args.self.now new _ (ended_after new.octets) (c.in-End.ensures.whole ∙ now.begun) (c.in-End.ensures.same.0 ∙ now.same.0, c.in-End.ensures.same.1 ∙ now.same.1)
    (ap is_whole none ∙ unfinished_of _ now.on.some) (ends_hand new.octets new) (ends_tell new.octets) (end_tells new.octets) read)

pub returns-in-Whole-clause-on : goal.returns-in-Whole-clause-on
returns-in-Whole-clause-on g c = reads_next c.finish.new.self c.finish.ensures.whole

pub returns-in-Failed-clause-failed : goal.returns-in-Failed-clause-failed
returns-in-Failed-clause-failed g c is = read_rose _ _ _ (returns-in-Failed-clause-makes g c)

pub returns-in-End-clause-failed : goal.returns-in-End-clause-failed
returns-in-End-clause-failed g c is = absurd (ended_is_no_failure c.read_some.new.self.octets (sym c.ended.ensures ∙ is))

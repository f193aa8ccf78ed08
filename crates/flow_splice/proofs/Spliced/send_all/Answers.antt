use Rattle.std.proofs.Common.{refl, arith, subst, sym, inl, ◌∙◌}
use Rattle.world_face.proofs.Telling.{makes_none, makes_then}
use Rattle.flow_splice.specs.Shapes.{IsPumpWork}
use Rattle.flow_splice.specs.Splice.{Splice}
use Rattle.stream_netdev.specs.declared.Pumped.{Pumped}
use Rattle.stream_netdev.specs.declared.Pumped.TheVariants.{Clear, Blocked, Failed}
use Rattle.flow_splice.proofs.StaysInTimeWait.{acknowledges_once}
use Rattle.flow_splice.proofs.Coming.{stays_then}
use Rattle.flow_splice.proofs.Marking.{sends_none, sends_then}
use Rattle.flow_splice.proofs.Shaping.{works_then}
use Rattle.flow_splice.proofs.Spliced.send_all.Goals as goal

pub loop-what-init : goal.loop-what-init
loop-what-init g c = record {
  makes = makes_none _ _ (sends_none c.args.self.now c.args.link.now c.args.ident.now c.args.now (omega arith), refl);
  tail = c.requires.none;
  free = c.requires.free;
  stays = record {
    same = record { face = refl; mac = refl; since = refl; accepted = refl; asked = refl; ask_at = refl; up_size = refl; down_size = refl; mru = refl };
    up = refl;
    down = refl;
  };
  same = refl;
  closed = λ shut. shut;
  time_waits = λ in_time_wait. inl refl;
  early = λ early. early;
  in_time = λ time. time;
}

pub loop-what-preserved : goal.loop-what-preserved
loop-what-preserved g c =
    let old : Splice = c.args.self.now in
    let mid : Splice = c.loop-what.self in
    let new : Splice = c.send.new.self in
    let kept = c.loop-what.invariant in
    let free = c.send.ensures.free c.in-Clear.is in
    record {
      makes = makes_then _ _ _ _ _ _ kept.makes c.send.ensures.makes
          (λ first second a b. (
            sends_then old mid new c.args.link.now c.loop-what.link c.send.new.link c.args.ident.now c.loop-what.ident c.send.new.ident c.args.now first second
                c.send.ensures.stays.same.face c.send.ensures.stays.same.mac a.0 b.0,
            works_then Clear second first a.1 (subst (λ (p : Pumped). IsPumpWork p second) c.in-Clear.is b.1),
          ));
      tail = free.1;
      free = free.0;
      stays = stays_then old mid new kept.stays c.send.ensures.stays;
      same = c.send.ensures.same ∙ kept.same;
      closed = λ shut. c.send.ensures.closed (kept.closed shut);
      time_waits = acknowledges_once old mid new c.args.now c.in-Some.what c.owed.ensures.time_waits (sym c.owed.ensures.owed ∙ c.in-Some.is) kept.time_waits c.send.ensures.time_waits;
      early = λ early. c.send.ensures.early (kept.early early);
      in_time = λ time. c.send.ensures.in_time (kept.in_time time);
    }

pub returns-in-Blocked-clause-makes : goal.returns-in-Blocked-clause-makes
returns-in-Blocked-clause-makes g c =
    let old : Splice = c.args.self.now in
    let mid : Splice = c.loop-what.self in
    let new : Splice = c.send.new.self in
    makes_then _ _ _ _ _ _ c.loop-what.invariant.makes c.send.ensures.makes
    (λ first second a b. (
      sends_then old mid new c.args.link.now c.loop-what.link c.send.new.link c.args.ident.now c.loop-what.ident c.send.new.ident c.args.now first second
          c.send.ensures.stays.same.face c.send.ensures.stays.same.mac a.0 b.0,
      works_then Blocked second first a.1 (subst (λ (p : Pumped). IsPumpWork p second) c.in-Blocked.is b.1),
    ))

pub returns-in-Failed-clause-makes : goal.returns-in-Failed-clause-makes
returns-in-Failed-clause-makes g c =
    let old : Splice = c.args.self.now in
    let mid : Splice = c.loop-what.self in
    let new : Splice = c.send.new.self in
    makes_then _ _ _ _ _ _ c.loop-what.invariant.makes c.send.ensures.makes
    (λ first second a b. (
      sends_then old mid new c.args.link.now c.loop-what.link c.send.new.link c.args.ident.now c.loop-what.ident c.send.new.ident c.args.now first second
          c.send.ensures.stays.same.face c.send.ensures.stays.same.mac a.0 b.0,
      works_then Failed second first a.1 (subst (λ (p : Pumped). IsPumpWork p second) c.in-Failed.is b.1),
    ))

pub returns-in-Blocked-clause-early : goal.returns-in-Blocked-clause-early
returns-in-Blocked-clause-early g c early = c.send.ensures.early (c.loop-what.invariant.early early)

pub returns-in-Failed-clause-early : goal.returns-in-Failed-clause-early
returns-in-Failed-clause-early g c early = c.send.ensures.early (c.loop-what.invariant.early early)

pub returns-in-Blocked-clause-closed : goal.returns-in-Blocked-clause-closed
returns-in-Blocked-clause-closed g c shut = c.send.ensures.closed (c.loop-what.invariant.closed shut)

pub returns-in-Failed-clause-closed : goal.returns-in-Failed-clause-closed
returns-in-Failed-clause-closed g c shut = c.send.ensures.closed (c.loop-what.invariant.closed shut)

pub returns-in-Blocked-clause-time_waits : goal.returns-in-Blocked-clause-time_waits
returns-in-Blocked-clause-time_waits g c =
    acknowledges_once c.args.self.now c.loop-what.self c.send.new.self c.args.now c.in-Some.what c.owed.ensures.time_waits
    (sym c.owed.ensures.owed ∙ c.in-Some.is) c.loop-what.invariant.time_waits c.send.ensures.time_waits

pub returns-in-Failed-clause-time_waits : goal.returns-in-Failed-clause-time_waits
returns-in-Failed-clause-time_waits g c =
    acknowledges_once c.args.self.now c.loop-what.self c.send.new.self c.args.now c.in-Some.what c.owed.ensures.time_waits
    (sym c.owed.ensures.owed ∙ c.in-Some.is) c.loop-what.invariant.time_waits c.send.ensures.time_waits

pub returns-in-Blocked-clause-in_time : goal.returns-in-Blocked-clause-in_time
returns-in-Blocked-clause-in_time g c time = c.send.ensures.in_time (c.loop-what.invariant.in_time time)

pub returns-in-Failed-clause-in_time : goal.returns-in-Failed-clause-in_time
returns-in-Failed-clause-in_time g c time = c.send.ensures.in_time (c.loop-what.invariant.in_time time)

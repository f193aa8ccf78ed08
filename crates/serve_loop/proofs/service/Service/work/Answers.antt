use Rattle.std.proofs.Common.{◌≡◌, ◌+◌, ◌∷◌, true, false, drop, length, List, refl, sym, ◌∙◌, ap, subst, arith}
use Rattle.poll_list.specs.Listing.{reads}
use Rattle.poll_list.specs.declared.Want.{Want}
use Rattle.poll_list.specs.declared.Who.TheVariants.{Link as TheLink}
use Rattle.world_face.specs.Tells.{Brings}
use Rattle.world_face.proofs.Telling.{brings_none, brings_then, brings_as}
use Rattle.serve_loop.specs.Served.{ServiceState}
use Rattle.serve_loop.specs.Turns.{AfterItem, IsCalmAfter, IsLeftAmong, ServesNow, is_frame_due, is_passed_over, still}
use Rattle.serve_loop.specs.declared.service.Turn.TheVariants.{Ended}
use Rattle.serve_loop.proofs.Counted.{end_after, grown_then}
use Rattle.serve_loop.proofs.Left.{served_at_end}
use Rattle.serve_loop.proofs.Turning.{both_of, calm_at_end, drop_all, passed_at, still_reads, weaker}
use Rattle.serve_loop.proofs.service.Service.work.Goals as goal

pub attend-requires-clause-number : goal.attend-requires-clause-number
attend-requires-clause-number g c =
    let few = c.requires.few in
    let less = c.loop-place-test.true in
    let many = ap length c.items-count.ensures ∙ ap (λ (s : ServiceState). length s.ready) c.self.view_is in
    omega (arith, c.loop-place.invariant.number, c.requires.number, less, few, many)

pub loop-place-init : goal.loop-place-init
loop-place-init g c = record {
  makes = λ config count. brings_none (λ past now. subst (λ to_read. ServesNow config count c.args.self.now.wants c.args.self.now.ready to_read c.args.self.now.slirp
      c.args.self.now.link past) (sym c.may_read-to_read.ensures) now);
  reads = λ is. (both_of (reads TheLink c.args.self.now.wants) (reads TheLink c.args.self.now.ready) (sym c.may_read-to_read.ensures ∙ is)).0;
  counts = (omega arith, omega arith, omega arith);
  on = c.requires.on;
  config = refl;
  forwards = refl;
  number = omega arith;
  turns = refl;
  reports = (refl, refl);
  calm = c.requires.calm;
  passed = λ all. (refl, refl);
}

pub returns-in-Ended-clause-makes : goal.returns-in-Ended-clause-makes
returns-in-Ended-clause-makes g c config count =
    let old = c.loop-place in
    let wants = c.args.self.now.wants in
    let place = old.place in
    let rest = drop (place + 1) c.args.self.now.ready in
    let next : drop place c.args.self.now.ready ≡ c.item-item.result ∷ rest = subst (λ (l : List Want). drop place l ≡ c.item-item.result ∷ drop
    (place + 1) l) old.invariant.reports.1 c.item-item.ensures in
    let served = subst (λ (w : List Want). Brings (g.W.World.tells old.world) (g.W.World.tells c.attend.new.world)
    (ServesNow config count w (c.item-item.result ∷ rest) old.to_read old.self.slirp old.self.link)
    (AfterItem (Ended c.in-Ended.end) config count w rest (still old.to_read c.item-item.result) c.attend.new.self.slirp c.attend.new.self.link)) old.invariant.reports.0
    (c.in-Ended.ensures.makes config count rest (λ is. subst (λ (w : List Want). reads TheLink w ≡ true) (sym old.invariant.reports.0) (old.invariant.reads is))) in
    let before = subst (λ (l : List Want). Brings (g.W.World.tells c.args.world.now) (g.W.World.tells old.world) (ServesNow config count wants c.args.self.now.ready
    (is_frame_due wants c.args.self.now.ready) c.args.self.now.slirp c.args.self.now.link)
    (ServesNow config count wants l old.to_read old.self.slirp old.self.link)) next (old.invariant.makes config count) in
    brings_as (brings_then before served) (λ past ended. (ended, tt))

pub returns-in-Ended-clause-step : goal.returns-in-Ended-clause-step
returns-in-Ended-clause-step g c =
    record {
      counted = end_after c.in-Ended.end (g.W.World.tells c.args.world.now).faults (g.W.World.tells c.loop-place.world).faults
          (g.W.World.tells c.attend.new.world).faults c.loop-place.invariant.counts c.in-Ended.ensures.step.counted;
      on = tt;
    }

pub loop-place-preserved : goal.loop-place-preserved
loop-place-preserved g c =
    let old = c.loop-place in
    let new = c.attend.new in
    let wants = c.args.self.now.wants in
    let place = old.place in
    let rest = drop (place + 1) c.args.self.now.ready in
    let next : drop place c.args.self.now.ready ≡ c.item-item.result ∷ rest = subst (λ (l : List Want). drop place l ≡ c.item-item.result ∷ drop
    (place + 1) l) old.invariant.reports.1 c.item-item.ensures in
    let calm_now : IsCalmAfter wants rest new.self.slirp new.self.link =
    subst (λ (w : List Want). IsCalmAfter w rest new.self.slirp new.self.link) old.invariant.reports.0
    (c.in-Again.ensures.calm rest (subst (λ (w : List Want). IsCalmAfter w (c.item-item.result ∷ rest) old.self.slirp old.self.link) (sym old.invariant.reports.0)
    (subst (λ (l : List Want). IsCalmAfter wants l old.self.slirp old.self.link) next old.invariant.calm)) refl) in
    record {
      makes = λ config count.
          let served = subst (λ (w : List Want). Brings (g.W.World.tells old.world) (g.W.World.tells new.world)
          (ServesNow config count w (c.item-item.result ∷ rest) old.to_read old.self.slirp old.self.link)
          (ServesNow config count w rest (still old.to_read c.item-item.result) new.self.slirp new.self.link)) old.invariant.reports.0
          (c.in-Again.ensures.makes config count rest (λ is. subst (λ (w : List Want). reads TheLink w ≡ true) (sym old.invariant.reports.0) (old.invariant.reads is))) in
          let before = subst (λ (l : List Want). Brings (g.W.World.tells c.args.world.now) (g.W.World.tells old.world) (ServesNow config count wants c.args.self.now.ready
          (is_frame_due wants c.args.self.now.ready) c.args.self.now.slirp c.args.self.now.link)
          (ServesNow config count wants l old.to_read old.self.slirp old.self.link)) next (old.invariant.makes config count) in
          subst (λ to_read. Brings (g.W.World.tells c.args.world.now) (g.W.World.tells new.world) (ServesNow config count wants c.args.self.now.ready
          (is_frame_due wants c.args.self.now.ready) c.args.self.now.slirp c.args.self.now.link)
          (ServesNow config count wants rest to_read new.self.slirp new.self.link)) (sym c.still-to_read.ensures) (brings_then before served);
      reads = λ is. old.invariant.reads (still_reads old.to_read c.item-item.result (sym c.still-to_read.ensures ∙ is));
      counts = grown_then (g.W.World.tells c.args.world.now).faults (g.W.World.tells old.world).faults (g.W.World.tells new.world).faults old.invariant.counts c.in-Again.ensures.step.counted;
      on = c.in-Again.ensures.step.on;
      config = c.in-Again.ensures.stays.config ∙ old.invariant.config;
      forwards = c.in-Again.ensures.stays.forwards ∙ old.invariant.forwards;
      number = omega (arith, c.in-Again.ensures.number, old.invariant.number);
      turns = c.in-Again.ensures.stays.turn ∙ old.invariant.turns;
      reports = (c.in-Again.ensures.stays.wants ∙ old.invariant.reports.0, c.in-Again.ensures.stays.ready ∙ old.invariant.reports.1);
      calm = calm_now;
      passed = λ all.
          let before = old.invariant.passed all in
          let over = passed_at wants c.args.self.now.ready place c.item-item.result rest all next in
          let now = c.in-Again.ensures.passed (λ is. subst (λ (w : List Want). reads TheLink w ≡ true) (sym old.invariant.reports.0) (old.invariant.reads is))
          (subst (λ (w : List Want). is_passed_over w c.item-item.result ≡ true) (sym old.invariant.reports.0) over) in
          (now.1 ∙ before.0, now.2 ∙ before.1);
    }

pub returns-clause-makes : goal.returns-clause-makes
returns-clause-makes g c config count =
    let old = c.loop-place in
    let wants = c.args.self.now.wants in
    let none = drop_all c.args.self.now.ready old.place (let many = ap length c.items-count.ensures ∙ ap (λ (s : ServiceState). length s.ready) c.self.view_is in omega
    (arith, c.loop-place-test.false, many)) in
    brings_as (old.invariant.makes config count) (λ past now. (
      weaker config count wants (drop old.place c.args.self.now.ready) false old.self.slirp old.self.link past now.holds,
      served_at_end config wants old.to_read old.self.slirp past (subst (λ l. IsLeftAmong config wants l old.to_read old.self.slirp past) none now.left),
    ))

pub returns-in-Ended-clause-passed : goal.returns-in-Ended-clause-passed
returns-in-Ended-clause-passed g c all =
    let old = c.loop-place in
    let wants = c.args.self.now.wants in
    let place = old.place in
    let rest = drop (place + 1) c.args.self.now.ready in
    let next : drop place c.args.self.now.ready ≡ c.item-item.result ∷ rest = subst (λ (l : List Want). drop place l ≡ c.item-item.result ∷ drop
    (place + 1) l) old.invariant.reports.1 c.item-item.ensures in
    let before = old.invariant.passed all in
    let over = passed_at wants c.args.self.now.ready place c.item-item.result rest all next in
    let now = c.in-Ended.ensures.passed (λ is. subst (λ (w : List Want). reads TheLink w ≡ true) (sym old.invariant.reports.0) (old.invariant.reads is))
    (subst (λ (w : List Want). is_passed_over w c.item-item.result ≡ true) (sym old.invariant.reports.0) over) in
    (now.0, now.1 ∙ before.0, now.2 ∙ before.1)

pub returns-clause-passed : goal.returns-clause-passed
returns-clause-passed g c all = let same = c.loop-place.invariant.passed all in (refl, same.0, same.1)

pub returns-clause-calm : goal.returns-clause-calm
returns-clause-calm g c again =
    let old = c.loop-place in
    calm_at_end c.args.self.now.wants old.self.slirp old.self.link
    (subst (λ (l : List Want). IsCalmAfter c.args.self.now.wants l old.self.slirp old.self.link)
    (drop_all c.args.self.now.ready old.place (let many = ap length c.items-count.ensures ∙ ap (λ (s : ServiceState). length s.ready) c.self.view_is in omega
    (arith, c.loop-place-test.false, many))) old.invariant.calm)

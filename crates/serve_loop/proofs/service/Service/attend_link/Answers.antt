use Rattle.std.proofs.Common.{◌≡◌, Bool, ◌&&◌, ap, false, inl, refl, sym, true, ◌∙◌}
use Rattle.poll_list.specs.Listing.{same_who}
use Rattle.poll_list.specs.declared.Want.{Want}
use Rattle.poll_list.specs.declared.Who.TheVariants.{Link as TheLink}
use Rattle.world_face.proofs.Telling.{brings_as, brings_none, brings_then}
use Rattle.slirp_core.specs.Holds.{standing}
use Rattle.slirp_core.proofs.Telling.{from_more}
use Rattle.serve_loop.specs.Turns.{is_read_now, still}
use Rattle.serve_loop.proofs.Attending.{link_passed, link_serves, pump_serves}
use Rattle.serve_loop.proofs.Counted.{counted_after}
use Rattle.serve_loop.proofs.Turning.{of_link, read_counts, read_now}
use Rattle.serve_loop.proofs.service.Service.attend_link.Goals as goal

pub returns-in-Again-clause-makes : goal.returns-in-Again-clause-makes
returns-in-Again-clause-makes g c config count items wanted =
    let wants = c.args.self.now.wants in
    let item = c.args.report.now in
    let slirp = c.args.self.now.slirp in
    let link = c.args.self.now.link in
    let mid = c.receive_frame.new.self in
    let new = c.pump.new.self in
    let now = read_now c.args.to_read item (sym c.is_read_now.ensures ∙ c.if-is_read_now.true) in
    brings_then
    (link_serves config count wants items item slirp mid.slirp link mid.link (g.W.World.tells c.args.world.now)
    (g.W.World.tells c.receive_frame.new.world) c.args.to_read c.requires.of wanted c.in-Again.ensures.marks
    (brings_as (c.in-Again.ensures.makes config count wants item items (of_link wants item c.requires.of now.1 (wanted now.0))) (λ past after. (after.0, after.1 refl))))
    (pump_serves config count wants items c.pump.result (still c.args.to_read item) mid.slirp new.slirp mid.link new.link (g.W.World.tells c.receive_frame.new.world)
    (g.W.World.tells c.pump.new.world) c.pump.ensures.marks c.pump.ensures.sent (c.pump.ensures.makes config (standing count wants items) false))

pub returns-in-Ended-clause-makes : goal.returns-in-Ended-clause-makes
returns-in-Ended-clause-makes g c config count items wanted =
    let now = read_now c.args.to_read c.args.report.now (sym c.is_read_now.ensures ∙ c.if-is_read_now.true) in
    from_more _ _ _ _ _ (λ past serves. (serves.holds, serves.can_take))
    (brings_as (c.in-Ended.ensures.makes config count c.args.self.now.wants c.args.report.now items (of_link c.args.self.now.wants c.args.report.now c.requires.of now.1
    (wanted now.0))) (λ past after. after.0))

pub returns-in-Again-clause-step : goal.returns-in-Again-clause-step
returns-in-Again-clause-step g c = record {
  counted = counted_after c.pump.result (g.W.World.tells c.args.world.now).faults (g.W.World.tells c.receive_frame.new.world).faults
      (g.W.World.tells c.pump.new.world).faults c.in-Again.ensures.step.counted c.pump.ensures.step.counted;
  on = c.pump.ensures.step.on;
}

pub returns-in-Again-clause-passed : goal.returns-in-Again-clause-passed
returns-in-Again-clause-passed g c wanted passed =
    let now = read_now c.args.to_read c.args.report.now (sym c.is_read_now.ensures ∙ c.if-is_read_now.true) in
    absurd (read_counts c.args.self.now.wants c.args.report.now TheLink c.requires.of now.1 (wanted now.0) passed)

pub returns-in-Ended-clause-passed : goal.returns-in-Ended-clause-passed
returns-in-Ended-clause-passed g c wanted passed =
    let now = read_now c.args.to_read c.args.report.now (sym c.is_read_now.ensures ∙ c.if-is_read_now.true) in
    absurd (read_counts c.args.self.now.wants c.args.report.now TheLink c.requires.of now.1 (wanted now.0) passed)

-- an item of the link that isn't the frame which is to be read
not_now : (to_read : Bool) (item : Want) → item.of ≡ TheLink → is_read_now to_read item ≡ false → item.read ≡ true → to_read ≡ false
not_now to_read item of none read = by to_read (same_who TheLink item.of) item.read (ap (same_who TheLink) of) read none
  where
    by : (t s r : Bool) → s ≡ true → r ≡ true → (t && s && r) ≡ false → t ≡ false
    by true true true one two is = absurd cc
    by true true false one two is = absurd cc
    by true false r one two is = absurd cc
    by false s r one two is = refl

pub returns-then-writes_link-clause-makes : goal.returns-then-writes_link-clause-makes
returns-then-writes_link-clause-makes g c config count items wanted =
    let wants = c.args.self.now.wants in
    let item = c.args.report.now in
    let slirp = c.args.self.now.slirp in
    let link = c.args.self.now.link in
    let new = c.pump-then-writes_link.new.self in
    brings_then
    (brings_none (λ past now.
    let passed = link_passed config count wants items item slirp link past c.args.to_read c.requires.of wanted
    (not_now c.args.to_read item c.requires.of (sym c.is_read_now.ensures ∙ c.if-is_read_now.false)) now in (passed.holds, passed.left)))
    (pump_serves config count wants items c.pump-then-writes_link.result (still c.args.to_read item) slirp new.slirp link new.link (g.W.World.tells c.args.world.now)
    (g.W.World.tells c.pump-then-writes_link.new.world)
    c.pump-then-writes_link.ensures.marks c.pump-then-writes_link.ensures.sent (c.pump-then-writes_link.ensures.makes config (standing count wants items) false))

pub returns-clause-makes : goal.returns-clause-makes
returns-clause-makes g c config count items wanted =
    brings_none (λ past now. link_passed config count c.args.self.now.wants items c.args.report.now c.args.self.now.slirp c.args.self.now.link past c.args.to_read c.requires.of wanted
    (not_now c.args.to_read c.args.report.now c.requires.of (sym c.is_read_now.ensures ∙ c.if-is_read_now.false)) now)

pub returns-in-Again-clause-calm : goal.returns-in-Again-clause-calm
returns-in-Again-clause-calm g c items before again = inl (c.pump.ensures.calm again)

pub returns-then-writes_link-clause-calm : goal.returns-then-writes_link-clause-calm
returns-then-writes_link-clause-calm g c items before again = inl (c.pump-then-writes_link.ensures.calm again)

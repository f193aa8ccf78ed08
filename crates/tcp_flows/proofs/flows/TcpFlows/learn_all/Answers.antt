use Rattle.std.proofs.Common.{refl, length, arith, ap, sym, ◌∙◌}
use Rattle.std.proofs.lemmas.List.{length-map}
use Rattle.tcp_flows.specs.Kept.{Kept, part_of, with_flows}
use Rattle.tcp_flows.proofs.Learning.{has_at, learns_then, learnt_next, learnt_none_yet, learnt_whole}
use Rattle.tcp_flows.proofs.Staying.{stays_same, stays_then}
use Rattle.tcp_flows.proofs.flows.TcpFlows.learn_all.Goals as goal

pub loop-slot-init : goal.loop-slot-init
loop-slot-init c = record {
  learns = λ config now aged past is between. between;
  below = learnt_none_yet c.args.guests.now c.args.self.now.flows.slots;
  stays = stays_same c.args.self.now;
  same = refl;
}

pub learn_slot-requires : goal.learn_slot-requires
learn_slot-requires c =
    let long = c.loop-slot.invariant.stays.slots in
    let slots = c.len-slot-end.ensures ∙ c.self.inside.slots.ok.0 ∙ sym (length-map c.self.inside.slots.items part_of) ∙ ap (λ (s : Kept). length s.flows.slots) c.self.view_is in
    record { slot = omega (arith, long, slots, c.loop-slot-test.true) }

pub loop-slot-preserved : goal.loop-slot-preserved
loop-slot-preserved c =
    let kept = c.loop-slot.invariant in
    let long = kept.stays.slots in
    let slots = c.len-slot-end.ensures ∙ c.self.inside.slots.ok.0 ∙ sym (length-map c.self.inside.slots.items part_of) ∙ ap (λ (s : Kept). length s.flows.slots) c.self.view_is in
    let at = has_at c.loop-slot.self.flows.slots c.loop-slot.slot (omega (arith, long, slots, c.loop-slot-test.true)) in
    record {
      learns = learns_then c.args.guests.now c.args.self.now c.loop-slot.self c.learn_slot.new.self kept.learns c.learn_slot.ensures.learns;
      below = learnt_next c.args.guests.now c.loop-slot.slot c.args.self.now.flows.slots c.loop-slot.self.flows.slots c.learn_slot.new.self.flows.slots at.0 at.1
          (c.learn_slot.ensures.parts at.0 at.1) kept.below;
      stays = stays_then c.args.self.now c.loop-slot.self c.learn_slot.new.self kept.stays c.learn_slot.ensures.stays;
      same = c.learn_slot.ensures.same ∙ ap (λ (s : Kept). with_flows c.learn_slot.new.self.flows c.learn_slot.new.self.owing s) kept.same;
    }

pub returns-clause-learnt : goal.returns-clause-learnt
returns-clause-learnt c =
    let kept = c.loop-slot.invariant in
    let long = kept.stays.slots in
    let slots = c.len-slot-end.ensures ∙ c.self.inside.slots.ok.0 ∙ sym (length-map c.self.inside.slots.items part_of) ∙ ap (λ (s : Kept). length s.flows.slots) c.self.view_is in
    learnt_whole c.args.guests.now c.loop-slot.slot c.args.self.now.flows.slots c.loop-slot.self.flows.slots (omega (arith, slots, c.loop-slot-test.false))
    (omega (arith, long, slots, c.loop-slot-test.false)) kept.below

pub returns-clause-learns : goal.returns-clause-learns
returns-clause-learns c = c.loop-slot.invariant.learns

pub returns-clause-stays : goal.returns-clause-stays
returns-clause-stays c = c.loop-slot.invariant.stays

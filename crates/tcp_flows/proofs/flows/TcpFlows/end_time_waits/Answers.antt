use Rattle.std.proofs.Common.{refl, ◌≤◌, ◌<◌, ℕ, slice_get, ap, sym, ◌∙◌, subst, arith}
use Rattle.tcp_flows.specs.Kept.{Kept, with_flows}
use Rattle.tcp_flows.specs.Reading.{IsOpenAt}
use Rattle.tcp_flows.proofs.Ahead.{there_before}
use Rattle.tcp_flows.proofs.Ticked.{open_left}
use Rattle.tcp_flows.proofs.InTimeWait.{ending_begins, ending_ends, none_over, one_less, parts_left}
use Rattle.tcp_flows.proofs.Staying.{stays_same, stays_then}
use Rattle.tcp_flows.proofs.flows.TcpFlows.end_time_waits.Goals as goal

-- below one that it isn't at or above
below_it : (a b : ℕ) → (b ≤ a → ⊥) → a < b
below_it a b not = grind (arith, not)

pub returns-in_default-clause-time_waits : goal.returns-in_default-clause-time_waits
returns-in_default-clause-time_waits c config past at holds = none_over config c.args.now c.args.self.now past at (below_it c.args.now 60000 c.in_default.ensures) holds

pub loop-slot-init : goal.loop-slot-init
loop-slot-init c = record {
  ends = λ config past at holds. ending_begins config c.args.now c.args.self.now past holds;
  keeps_open = λ k p open_at. open_at;
  were_there = λ k p here. here;
  idle = λ none. refl;
  stays = stays_same c.args.self.now;
  same = refl;
}

pub loop-slot-smaller : goal.loop-slot-smaller
loop-slot-smaller c =
    let rested = c.in-Some-next_in_time_wait.ensures.rested in
    subst (λ parts. parts_left parts < parts_left c.loop-slot.self.flows.slots) (sym c.leave_slot.ensures.parts) (one_less c.loop-slot.self.flows.slots c.in-Some-next_in_time_wait.slot rested.0 rested.2)

pub loop-slot-preserved : goal.loop-slot-preserved
loop-slot-preserved c =
    let rested = c.in-Some-next_in_time_wait.ensures.rested in
    let kept = c.loop-slot.invariant in
    let past_end = rested.4 in
    let minus = c.in-Some.ensures in
    record {
      ends = λ config past at holds. c.leave_slot.ensures.ends config c.args.now rested.1 rested.0 past rested.2 rested.3 (omega (arith, past_end, minus.0, minus.1)) (kept.ends config past at holds);
      keeps_open = λ k p open_at. subst (λ parts. IsOpenAt parts k p) (sym c.leave_slot.ensures.parts)
          (open_left c.loop-slot.self.flows.slots c.in-Some-next_in_time_wait.slot rested.0 rested.1 rested.2 rested.3 k p (kept.keeps_open k p open_at));
      were_there = λ k p here. kept.were_there k p (there_before c.loop-slot.self.flows.slots c.in-Some-next_in_time_wait.slot rested.0 rested.2 k p
          (sym (ap (λ parts. slice_get parts k) c.leave_slot.ensures.parts) ∙ here));
      idle = λ none. absurd (none c.in-Some-next_in_time_wait.slot rested.0 (sym (ap (λ (s : Kept). slice_get s.flows.slots c.in-Some-next_in_time_wait.slot) (kept.idle none)) ∙ rested.2));
      stays = stays_then c.args.self.now c.loop-slot.self c.leave_slot.new.self kept.stays c.leave_slot.ensures.stays;
      same = c.leave_slot.ensures.same ∙ ap (λ (s : Kept). with_flows c.leave_slot.new.self.flows c.leave_slot.new.self.owing s) kept.same;
    }

pub returns-clause-time_waits : goal.returns-clause-time_waits
returns-clause-time_waits c config past at holds =
    let minus = c.in-Some.ensures in
    ending_ends config c.args.now c.loop-slot.self past at c.in_default-next_in_time_wait.ensures.kept
    (λ k t since slot. let later = c.in_default-next_in_time_wait.ensures.slots k since t slot in omega (arith, later, minus.0, minus.1)) (c.loop-slot.invariant.ends config past at holds)

pub returns-clause-keeps_open : goal.returns-clause-keeps_open
returns-clause-keeps_open c = c.loop-slot.invariant.keeps_open

pub returns-in_default-clause-keeps_open : goal.returns-in_default-clause-keeps_open
returns-in_default-clause-keeps_open c k p open_at = open_at

pub returns-clause-were_there : goal.returns-clause-were_there
returns-clause-were_there c = c.loop-slot.invariant.were_there

pub returns-in_default-clause-were_there : goal.returns-in_default-clause-were_there
returns-in_default-clause-were_there c k p here = here

pub returns-clause-idle : goal.returns-clause-idle
returns-clause-idle c = c.loop-slot.invariant.idle

pub returns-in_default-clause-idle : goal.returns-in_default-clause-idle
returns-in_default-clause-idle c none = refl

pub returns-clause-stays : goal.returns-clause-stays
returns-clause-stays c = c.loop-slot.invariant.stays

pub returns-in_default-clause-stays : goal.returns-in_default-clause-stays
returns-in_default-clause-stays c = stays_same c.args.self.now

use Rattle.std.proofs.Common.{◌≡◌, ◌<◌, ℕ, IfNone, IfSome, Some, slice_get, subst}
use Rattle.flow_table.specs.Slots.{AreKept}
use Rattle.flow_table.specs.declared.Slot.TheVariants.{InTimeWait as InTimeWaitSlot}
use Rattle.spec_flows.specs.declared.Tuple.{Tuple}
use Rattle.tcp_flows.specs.Kept.{Kept}
use Rattle.tcp_flows.specs.Reading.{HasTimeWaitedSince}
use Rattle.tcp_flows.proofs.Looking.{has_rested, later_slots, none_rested}
use Rattle.tcp_flows.proofs.flows.TcpFlows.next_in_time_wait.Goals as goal

pub returns-clause-rested : goal.returns-clause-rested
returns-clause-rested c =
    let are = c.self.invariant.0 in
    subst (λ (s : Kept). IfSome c.first_up_to.result (λ k. HasTimeWaitedSince c.args.since k s.flows.slots)) c.self.view_is
    (has_rested c.self.inside.slots.items _ _ are.timers_are are.rests_are c.args.since c.first_up_to.result c.first_up_to.ensures.first)

pub returns-clause-none : goal.returns-clause-none
returns-clause-none c =
    let are = c.self.invariant.0 in
    subst (λ (s : Kept). IfNone c.first_up_to.result ((k : ℕ) → HasTimeWaitedSince c.args.since k s.flows.slots → ⊥)) c.self.view_is
    (none_rested c.self.inside.slots.items _ _ are.timers_are are.rests_are c.args.since c.first_up_to.result c.first_up_to.ensures.none)

pub returns-clause-slots : goal.returns-clause-slots
returns-clause-slots c =
    let are = c.self.invariant.0 in
    subst (λ (s : Kept). IfNone c.first_up_to.result ((k m : ℕ) (t : Tuple) → slice_get s.flows.table.slots k ≡ Some (InTimeWaitSlot t m) → c.args.since < m)) c.self.view_is
    (later_slots c.self.inside.slots.items _ _ are.timers_are are.rests_are c.self.inside.rows.table.slots are.slots_are c.args.since c.first_up_to.result c.first_up_to.ensures.none)

pub returns-clause-kept : goal.returns-clause-kept
returns-clause-kept c = subst (λ (s : Kept). AreKept s.flows.table.slots s.flows.table.time_wait_order) c.self.view_is c.self.invariant.0.kept

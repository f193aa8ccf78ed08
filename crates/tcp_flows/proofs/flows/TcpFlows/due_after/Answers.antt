use Rattle.std.proofs.Common.{ℕ, List, Option, None, Some, refl, map, ap, sym, subst, ◌∙◌, true}
use Rattle.flow_splice.specs.Splice.{Splice}
use Rattle.tcp_flows.specs.Kept.{Kept, part_of}
use Rattle.tcp_flows.specs.Reading.{IsNextAfter}
use Rattle.tcp_flows.specs.Waits.{IsForSome}
use Rattle.tcp_flows.proofs.Awaiting.{from_blocked, in_time_after, rests_later, same_slots}
use Rattle.tcp_flows.proofs.flows.TcpFlows.due_after.Goals as goal

pub returns-clause-next : goal.returns-clause-next
returns-clause-next c =
    subst (λ (s : Kept). IsNextAfter c.args.now s.flows.slots c.due_after.result) c.self.view_is
    (subst (λ (parts : List Splice). IsNextAfter c.args.now (map part_of parts) c.due_after.result) c.deref.ensures.value c.due_after.ensures)

pub returns-clause-in_time : goal.returns-clause-in_time
returns-clause-in_time c config before aged past holds = in_time_after config before aged None c.args.self.now.flows past holds c.args.now c.due_after.result (returns-clause-next c)

pub returns-clause-for_some : goal.returns-clause-for_some
returns-clause-for_some c config before past holds = by c.due_after.result (returns-clause-next c)
  where
    by : (o : Option ℕ) → IsNextAfter c.args.now c.args.self.now.flows.slots o → IsForSome config past o
    by None is = tt
    by (Some at) is =
        let some = is.some in
        from_blocked config before true None c.args.self.now.flows past holds refl
        (same_slots c.self.inside.slots.items c.args.self.now.flows.table.slots c.args.self.now.flows.slots (sym (ap (λ (s : Kept). s.flows.table.slots) c.self.view_is)
        ∙ c.self.invariant.0.slots_are) (ap (λ (s : Kept). s.flows.slots) c.self.view_is)) at
        some.0 some.1 some.2 some.3

pub returns-clause-time_waits : goal.returns-clause-time_waits
returns-clause-time_waits c config before past holds once =
    rests_later config before None c.args.self.now.flows past holds (same_slots c.self.inside.slots.items c.args.self.now.flows.table.slots c.args.self.now.flows.slots
    (sym (ap (λ (s : Kept). s.flows.table.slots) c.self.view_is) ∙ c.self.invariant.0.slots_are) (ap (λ (s : Kept). s.flows.slots) c.self.view_is)) once c.args.now
    c.due_after.result (returns-clause-next c)

use Rattle.std.proofs.Common.{List, map, subst}
use Rattle.flow_splice.specs.Splice.{Splice}
use Rattle.tcp_flows.specs.InUse.{IsNextUse}
use Rattle.tcp_flows.specs.Kept.{Kept, part_of}
use Rattle.tcp_flows.specs.Reading.{HaveSlots}
use Rattle.tcp_flows.proofs.Staying.{have_slots}
use Rattle.tcp_flows.proofs.flows.TcpFlows.flow_after.Goals as goal

pub returns-clause-next : goal.returns-clause-next
returns-clause-next c =
    subst (λ (s : Kept). IsNextUse c.args.last c.flow_after.result s.flows.slots) c.self.view_is
    (subst (λ (parts : List Splice). IsNextUse c.args.last c.flow_after.result (map part_of parts)) c.deref.ensures.value c.flow_after.ensures)

pub returns-clause-slots : goal.returns-clause-slots
returns-clause-slots c = subst (λ (s : Kept). HaveSlots s.flows) c.self.view_is (have_slots c.self.inside.rows.table c.self.inside.slots.items c.self.inside.opened c.self.invariant.0.slots_are)

use Rattle.std.proofs.Common.{◌≡◌, replicate, rules, arith}
use Rattle.flow_table.specs.declared.Slot.TheVariants.{Free}
use Rattle.flow_table.proofs.Tables.{start_table}
use Rattle.flow_table.proofs.FlowTable.open.Goals as goal

pub invariant_of-result : goal.invariant_of-result
invariant_of-result c =
    let slots : c.in-Ok-vec.slots.items ≡ replicate c.args.slots Free = search rules in
    let entries = c.in-Ok-with_capacity.ensures in
    let time_waits = c.in-Ok-with_capacity-2.ensures in
    let free = c.in-Ok-slot_numbers.ensures in
    start_table c.args.slots _ _ _ _ _ _ _ _ slots c.in-Ok.ensures.items free.items entries.items time_waits.items (omega (arith, entries.exact)) (omega (arith, time_waits.exact)) free.room

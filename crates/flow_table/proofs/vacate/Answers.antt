use Rattle.std.proofs.Common.{arith}
use Rattle.flow_table.proofs.Vacating.{vacated_free, vacated_rest, first_rest, nothing_in}
use Rattle.flow_table.proofs.vacate.Goals as goal

pub returns-in-Some-clause-vacated : goal.returns-in-Some-clause-vacated
returns-in-Some-clause-vacated c = vacated_free c.args.slots.now c.args.entries.now.items c.args.time_waits.now.items c.args.free.now.items c.pop.new.self.items c.in-Some.slot
    c.in-Some.ensures.items c.requires.entries c.requires.free

pub returns-in_ok-slot-in-None-clause-vacated : goal.returns-in_ok-slot-in-None-clause-vacated
returns-in_ok-slot-in-None-clause-vacated c =
    let v = c.in_ok-slot-in-None.ensures.value in
    let n = c.in-None.ensures.cases in
    vacated_rest c.args.slots.now c.release.new.entries.items c.args.time_waits.now.items c.release.new.time_waits.items c.args.free.now.items c.pop.new.self.items
    c.in_ok-slot-in-None.field-0.now (nothing_in c.args.free.now.items (omega (arith, n.0, c.args.free.now.ok.0)))
    (nothing_in c.pop.new.self.items (omega (arith, n.1, c.pop.new.self.ok.0)))
    (first_rest c.deref.result.now c.args.time_waits.now.items c.in_ok-slot-in-None.field-0.now v c.deref.ensures.value) c.requires.time_waits c.release.ensures.entries c.release.ensures.time_waits c.requires.free

use Rattle.flow_table.proofs.InTimeWait.{rest_ended, no_rest_ended}
use Rattle.flow_table.proofs.time_waits.end_time_wait.Goals as goal

pub returns-in-InTimeWait-clause-time_waits : goal.returns-in-InTimeWait-clause-time_waits
returns-in-InTimeWait-clause-time_waits c = rest_ended c.args.slots.now c.args.time_waits.now.items c.remove_time_wait.new.time_waits.items c.args.slot c.in-InTimeWait.since c.remove_time_wait.ensures.place.0
    c.in-InTimeWait.field-0 c.remove_time_wait.ensures.place.1.0 c.remove_time_wait.ensures.place.1.1

pub returns-in_default-clause-time_waits : goal.returns-in_default-clause-time_waits
returns-in_default-clause-time_waits c = no_rest_ended c.args.slots.now _ c.args.slot c.args.time_waits.now.items c.requires.within (λ t since h. c.in_default.not-InTimeWait t since h)

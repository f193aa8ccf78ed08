use Rattle.port_forward.proofs.Refilling.{absent_at}
use Rattle.port_forward.proofs.ports.refill.Goals as goal

pub put-requires-clause-absent : goal.put-requires-clause-absent
put-requires-clause-absent c =
    absent_at c.args.kept.now c.loop-port.port-index _ c.requires.distinct c.loop-port-test.true c.loop-port.ports.entries c.loop-port.invariant.0

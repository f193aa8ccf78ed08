use Rattle.std.proofs.Common.{take}
use Rattle.tcp_flows.specs.Way.{AreFirst}
use Rattle.tcp_flows.proofs.giving.quietest.Given as goal

abbrev pub invariant-loop-slot : goal.invariant-loop-slot
invariant-loop-slot l = AreFirst l.now (take l.slot l.slots) l.first

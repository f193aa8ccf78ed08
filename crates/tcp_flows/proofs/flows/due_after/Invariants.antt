use Rattle.std.proofs.Common.{map, take}
use Rattle.tcp_flows.specs.Kept.{part_of}
use Rattle.tcp_flows.specs.Reading.{IsNextAfter}
use Rattle.tcp_flows.proofs.flows.due_after.Given as goal

abbrev pub invariant-loop-part : goal.invariant-loop-part
invariant-loop-part l = IsNextAfter l.now (map part_of (take l.part-index l.slots)) l.first

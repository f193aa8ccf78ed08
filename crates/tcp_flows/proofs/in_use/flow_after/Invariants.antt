use Rattle.std.proofs.Common.{map, take}
use Rattle.tcp_flows.specs.InUse.{IsNextUse}
use Rattle.tcp_flows.specs.Kept.{part_of}
use Rattle.tcp_flows.proofs.in_use.flow_after.Given as goal

abbrev pub invariant-loop-part : goal.invariant-loop-part
invariant-loop-part l = IsNextUse l.last l.first (map part_of (take l.part-index l.slots))

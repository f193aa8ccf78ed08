use Rattle.std.proofs.Common.{◌≡◌}
use Rattle.tcp_flows.specs.Kept.{with_flows}
use Rattle.tcp_flows.specs.Reading.{Stays}
use Rattle.tcp_flows.specs.Runs.{Learns}
use Rattle.tcp_flows.proofs.Learning.{HaveLearntBelow}
use Rattle.tcp_flows.proofs.flows.TcpFlows.learn_all.Given as goal

abbrev pub invariant-loop-slot : goal.invariant-loop-slot
invariant-loop-slot l = record {
  learns : Learns l.guests l.fn.self l.self;
  below : HaveLearntBelow l.guests l.slot l.fn.self.flows.slots l.self.flows.slots;
  stays : Stays l.fn.self l.self;
  same : l.self ≡ with_flows l.self.flows l.self.owing l.fn.self;
}

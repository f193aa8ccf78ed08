use Rattle.std.proofs.Common.{◌≡◌, ℕ, List, false, None, Some, slice_get}
use Rattle.world_face.specs.Journal.{Entry}
use Rattle.slirp_settings.specs.Addresses.{Config}
use Rattle.spec_trace.specs.Moments.{moment}
use Rattle.sim_flows.specs.Core.{CoreHolds}
use Rattle.tcp_flows.specs.Kept.{with_flows}
use Rattle.flow_splice.specs.Splice.{Splice}
use Rattle.tcp_flows.specs.Reading.{IsOpenAt, NoneInSlots, Stays}
use Rattle.tcp_flows.specs.Runs.{Ending}
use Rattle.tcp_flows.proofs.InTimeWait.{parts_left}
use Rattle.tcp_flows.proofs.flows.TcpFlows.end_time_waits.Given as goal

abbrev pub invariant-loop-slot : goal.invariant-loop-slot
invariant-loop-slot l = record {
  ends : (config : Config) (past : List Entry) → moment past ≡ l.now → CoreHolds config l.now false None l.fn.self.flows past → Ending config l.now l.self past;
  keeps_open : (k : ℕ) (p : Splice) → IsOpenAt l.fn.self.flows.slots k p → IsOpenAt l.self.flows.slots k p;
  were_there : (k : ℕ) (p : Splice) → slice_get l.self.flows.slots k ≡ Some (Some p) → slice_get l.fn.self.flows.slots k ≡ Some (Some p);
  idle : NoneInSlots l.fn.self.flows.slots → l.self ≡ l.fn.self;
  stays : Stays l.fn.self l.self;
  same : l.self ≡ with_flows l.self.flows l.self.owing l.fn.self;
}

abbrev pub decreases-loop-slot : goal.decreases-loop-slot
decreases-loop-slot l = parts_left l.self.flows.slots

-- Flows of which nothing is left to be sent.
use Rattle.std.specs.Prelude.{List}
use Rattle.net_octets.specs.declared.Ip4.{Ip4}
use Rattle.net_octets.specs.declared.Mac.{Mac}
use Rattle.flow_splice.specs.Splice.{Splice}
use Rattle.sim_flows.specs.FlowsHold.{FlowsState}
use Rattle.tcp_flows.specs.Reading.{AllClear, AreTold, HaveSlots}

-- No flow owes a frame, each stands in the slot of its place, and each knows its guest's hardware address if that is among these.
pub record AreClear (guests : List (Ip4 × Mac)) (state : FlowsState Splice) : Type 0 where
  pub clear : AllClear state.slots
  pub slots : HaveSlots state
  pub told : AreTold guests state.slots

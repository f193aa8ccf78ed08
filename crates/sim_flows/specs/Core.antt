-- What the core keeps of its flows, where each is a `Splice`.
use Rattle.std.specs.Prelude.{ℕ, Bool, List, Option}
use Rattle.net_octets.specs.declared.Mac.{Mac}
use Rattle.world_face.specs.Journal.{Entry, Call}
use Rattle.slirp_settings.specs.Addresses.{Config}
use Rattle.spec_flows.specs.declared.Tuple.{Tuple}
use Rattle.spec_flow.specs.Event.{Story}
use Rattle.spec_flows.specs.Laws.{flow_settings}
use Rattle.sim_flows.specs.FlowsHold.{FlowsHold, FlowsState}
use Rattle.flow_splice.specs.Follows.{Follows}
use Rattle.flow_splice.specs.Splice.{Face, Splice}

-- the number of a flow's socket, its guest's hardware address where it is known, and its two ends
abbrev pub number_of : Splice → ℕ
number_of p = p.face.number

abbrev pub mac_of : Splice → Option Mac
mac_of p = p.mac

abbrev pub ends_of : Face → Tuple
ends_of face = record { guest = face.guest; other = face.other }

-- a flow follows its story at a moment
abbrev pub Following : Config → ℕ → Splice → Story → Type 0
Following config now p story = Follows (flow_settings config) p story now

-- what the core has of its flows, at a moment
abbrev pub CoreHolds : Config → (now : ℕ) → (aged : Bool) → Option Call → FlowsState Splice → List Entry → Type 0
CoreHolds config now aged task state past = FlowsHold number_of mac_of (Following config now) config aged task state past

-- How many slots in use have a flow that was accepted, and whether one more may be.
use Rattle.std.specs.Prelude.{ℕ, ◌+◌, ◌&&◌, nat_lt, Bool, false, List, ◌∷◌, length, Option, Some}
use Rattle.flow_table.specs.declared.Slot.{Slot}
use Rattle.flow_table.specs.declared.Slot.TheVariants.{InUse}
use Rattle.rules_flow.specs.Choices.{most_for_peers}
use Rattle.flow_splice.specs.Splice.{Splice}
use Rattle.sim_flows.specs.FlowsHold.{FlowsState}
use Rattle.sim_flows.specs.Only.{one_if}
use Rattle.sim_flows.specs.Seats.{in_use_slots}

-- the slot is in use by a flow that was accepted
abbrev pub is_for_peer : Slot → Option Splice → Bool
is_for_peer (InUse t) (Some p) = p.accepted
is_for_peer _ _ = false

abbrev pub peer_slots : List Slot → List (Option Splice) → ℕ
peer_slots (s ∷ slots) (x ∷ parts) = one_if (is_for_peer s x) + peer_slots slots parts
peer_slots _ _ = 0

-- a slot is not in use, and of the share of peers one isn't
abbrev pub fits_peer : FlowsState Splice → Bool
fits_peer state =
    nat_lt (in_use_slots state.table.slots) (length state.table.slots) && nat_lt (peer_slots state.table.slots state.slots) (most_for_peers (length state.table.slots))

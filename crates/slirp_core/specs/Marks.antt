-- What calls between two waits leave of the marks by which a flow is told once a turn, and of the numbers in the slots.
use Rattle.std.specs.Prelude.{◌≡◌, ℕ, ◌≤◌, ◌⊎◌, slice_get, Some}
use Rattle.flow_splice.specs.Splice.{Splice}
use Rattle.sim_flows.specs.Core.{number_of}
use Rattle.tcp_flows.specs.Kept.{Kept}

-- the marks stay, and each flow has the number that the flow of its slot had, or is one that began with this number or a later one
pub record KeepsMarks (number : ℕ) (old new : Kept) : Type 0 where
  pub served : new.served ≡ old.served
  pub turn : new.turn ≡ old.turn
  pub numbers : (k : ℕ) (p : Splice) → slice_get new.flows.slots k ≡ Some (Some p)
      → ((q : Splice) × (slice_get old.flows.slots k ≡ Some (Some q)) × (number_of p ≡ number_of q)) ⊎ (number ≤ number_of p)

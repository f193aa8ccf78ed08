-- The flows of a run that are in use, one after another by rising number.
use Rattle.std.specs.Prelude.{◌≡◌, ℕ, ◌≤◌, true, List, Option, Some, None}
use Rattle.spec_flows.specs.declared.Tuple.{Tuple}
use Rattle.spec_flow.specs.Close.{is_in_use}
use Rattle.spec_flows.specs.Flows.{Flow, flow_of, uses}
use Rattle.tcp_flows.specs.Reading.{IsAbove}

-- the flow with this number has its tuple in use, between these ends; of all such flows above the last one its number is the least
pub record IsNextInUse (last : Option ℕ) (n : ℕ) (ends : Tuple) (flows : List Flow) : Type 0 where
  pub flow : Flow
  pub is : flow_of n flows ≡ Some flow
  pub in_use : is_in_use flow.story ≡ true
  pub between : flow.tuple ≡ ends
  pub above : IsAbove last n
  pub least : (m : ℕ) → IsAbove last m → uses (flow_of m flows) ≡ true → n ≤ m

-- the next one, or there is none
abbrev pub IsNextFlow : Option ℕ → Option (ℕ × Tuple) → List Flow → Type 0
IsNextFlow last (Some next) flows = IsNextInUse last next.0 next.1 flows
IsNextFlow last None flows = (m : ℕ) → IsAbove last m → uses (flow_of m flows) ≡ true → ⊥

-- The flows in use, one after another by rising number.
use Rattle.std.specs.Prelude.{◌≡◌, ℕ, ◌≤◌, ◌&&◌, nat_lt, Bool, true, List, Option, Some, None, slice_get, if◌then◌else◌}
use Rattle.spec_flows.specs.declared.Tuple.{Tuple}
use Rattle.flow_splice.specs.Splice.{Splice, is_in_use}
use Rattle.sim_flows.specs.Core.{ends_of, number_of}
use Rattle.tcp_flows.specs.Reading.{IsAbove}

-- the flow in a slot, whose two ends are in use
pub record IsInUseAt (parts : List (Option Splice)) (k : ℕ) (p : Splice) : Type 0 where
  pub here : slice_get parts k ≡ Some (Some p)
  pub in_use : is_in_use p.place ≡ true

-- a flow in use has this number and these ends, and of all those above the last one its number is the least
pub record IsNextPart (last : Option ℕ) (n : ℕ) (ends : Tuple) (parts : List (Option Splice)) : Type 0 where
  pub slot : ℕ
  pub part : Splice
  pub at : IsInUseAt parts slot part
  pub number : number_of part ≡ n
  pub between : ends_of part.face ≡ ends
  pub above : IsAbove last n
  pub least : (k : ℕ) (p : Splice) → IsInUseAt parts k p → IsAbove last (number_of p) → n ≤ number_of p

-- the next one, or there is none
abbrev pub IsNextUse : Option ℕ → Option (ℕ × Tuple) → List (Option Splice) → Type 0
IsNextUse last (Some next) parts = IsNextPart last next.0 next.1 parts
IsNextUse last None parts = (k : ℕ) (p : Splice) → IsInUseAt parts k p → IsAbove last (number_of p) → ⊥

-- the test of a number
abbrev pub is_above : Option ℕ → ℕ → Bool
is_above None n = true
is_above (Some last) n = nat_lt last n

-- a flow is in use and above the last one; then its number and its two ends
abbrev pub counts : Option ℕ → Splice → Bool
counts last p = is_in_use p.place && is_above last (number_of p)

abbrev pub use_above : Option ℕ → Splice → Option (ℕ × Tuple)
use_above last p = if counts last p then Some (number_of p, ends_of p.face) else None

-- of two the one with the lesser number
abbrev pub lesser : Option (ℕ × Tuple) → Option (ℕ × Tuple) → Option (ℕ × Tuple)
lesser (Some one) (Some other) = if nat_lt other.0 one.0 then Some other else Some one
lesser (Some one) None = Some one
lesser None o = o

-- What a flow knows of the two ends, against its story.
use Rattle.std.specs.Prelude.{◌≡◌, ℕ, ◌+◌, ◌<◌, ◌≤◌, List, Some, Bool, true, IsTrue, nat_eq, ◌⊎◌}
use Rattle.std.specs.List.{list_any}
use Rattle.seq_space.specs.Places.{number_of}
use Rattle.spec_flow.specs.Event.{Story}
use Rattle.spec_flow.specs.Guest.{Up, top, first_of, ackd, ack_is_due, Conforming}
use Rattle.spec_flow.specs.Flow.{guest}
use Rattle.spec_flow.specs.Close.{after_fins, fin_was_acknowledged, ended_first}
use Rattle.sim_halves.specs.Received.{Received, places_taken}
use Rattle.sim_halves.specs.Part.{Part}

-- `sure`: the guest's end was taken and acknowledged. `last`: the number that was acknowledged last. `ours_first`: our FIN was out when that number last changed.
pub record Ends (past : Story) (p : Part) (sure ours_first : Bool) (last : ℕ) : Type 0 where
  pub low : p.received.taken ≤ top (guest past)
  pub kept_low : (i x : ℕ) → p.kept i ≡ Some x → i < top (guest past)
  pub fin : p.received.ended ≡ true → IsTrue (list_any (nat_eq (number_of p.received.first (p.received.taken + 1))) (after_fins past))
  pub was_sure : sure ≡ true → IsTrue (fin_was_acknowledged past)
  pub is_sure : Conforming (guest past) → IsTrue (fin_was_acknowledged past) → sure ≡ true
  pub at : number_of (first_of (guest past)) (ackd (guest past)) ≡ last
  pub order : ended_first past ≡ ours_first

-- the number that was acknowledged last is that of all that was taken, or an acknowledgement is due
abbrev pub IsCurrent : List Up → Received → ℕ → Type 0
IsCurrent past r last = IsTrue (ack_is_due past) ⊎ (number_of r.first (places_taken r) ≡ last)

-- What is held of a guest's octets, against the story of its flow.
use Rattle.std.specs.Prelude.{◌≡◌, ℕ, ◌-◌, ◌≤◌, List, length, take, drop, min}
use Rattle.spec_flow.specs.Event.{Story}
use Rattle.spec_flow.specs.Flow.{guest}
use Rattle.spec_flow.specs.Guest.{IsAcknowledged, front, written}

-- These octets, so many, are the guest's from the place on that the host took its octets to, up to those that were taken of it, or as many as there is room for.
-- Taken is what was acknowledged at least, and no more than what came.
pub record IsFront (past : Story) (room count : ℕ) (octets : List ℕ) : Type 0 where
  pub taken : ℕ
  pub acknowledged : (a : ℕ) → IsAcknowledged (guest past) a → a ≤ taken
  pub came : taken ≤ length (front (guest past))
  pub many : length (written (guest past)) ≤ taken
  pub fits : count ≡ min room (taken - length (written (guest past)))
  pub same : octets ≡ take count (drop (length (written (guest past))) (front (guest past)))

-- What a contract sees of a flow.
use Rattle.std.specs.Prelude.{ℕ, List, Bool, Option}
use Rattle.sim_halves.specs.Upward.{Upward, upward}
use Rattle.sim_halves.specs.Received.{Received, received}

-- Its number and tuple, what was taken of the guest's stream, what is on its way up, whether the host was told the end, whether an
-- acknowledgement is owed, and the octets that are kept past a gap, by their places.
pub record Part : Type 0 where
  pub number : ℕ
  pub tuple : ℕ
  pub received : Received
  pub up : Upward
  pub told_end : Bool
  pub ack_owed : Bool
  pub kept : ℕ → Option ℕ

abbrev pub part : ℕ → ℕ → ℕ → ℕ → Bool → List ℕ → ℕ → ℕ → Bool → Bool → (ℕ → Option ℕ) → Part
part number tuple first t ended held w size told owed kept =
    record { number = number; tuple = tuple; received = received first t ended; up = upward held w size; told_end = told; ack_owed = owed; kept = kept }

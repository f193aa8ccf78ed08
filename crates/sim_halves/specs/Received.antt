-- What has been taken of a guest's stream.
use Rattle.std.specs.Prelude.{◌≡◌, ℕ, ◌+◌, ◌-◌, ◌<◌, ◌≤◌, List, [], length, drop, Bool, ℤ, pos, negsuc, ◌<ℤ◌, IsTrue, ◌⊎◌, suc, if◌then◌else◌, nat_le, Option, Some}
use Rattle.seq_space.specs.Places.{place}
use Rattle.spec_flow.specs.Guest.{octet_at}

-- the number of the guest's SYN, how many octets were taken, and whether the end was
pub record Received : Type 0 where
  pub first : ℕ
  pub taken : ℕ
  pub ended : Bool

abbrev pub received : ℕ → ℕ → Bool → Received
received first taken ended = record { first = first; taken = taken; ended = ended }

-- of octets that begin at a place, those from the place taken on, where none before them is missing
abbrev pub next_octets : ℤ → List ℕ → ℕ → List ℕ
next_octets (pos o) octets taken = if nat_le o taken then drop (taken - o) octets else []
next_octets (negsuc n) octets taken = drop (taken + suc n) octets

-- how many places have been taken, the end counted as one
abbrev pub places_taken : Received → ℕ
places_taken r = if r.ended then r.taken + 1 else r.taken

-- an acknowledgement is owed for octets, for an end, and for what was acknowledged before
abbrev pub IsAckOwed : Received → ℕ → List ℕ → Bool → Type 0
IsAckOwed r number octets fin = (0 < length octets) ⊎ IsTrue fin ⊎ (place number r.first r.taken <ℤ pos (places_taken r))

-- The receiver has x for the place i: it keeps it past a gap, or the segment that begins at the place o brings it, at the place t or later.
abbrev pub Has : (ℕ → Option ℕ) → ℤ → List ℕ → ℕ → ℕ → ℕ → Type 0
Has kept o octets t i x = (kept i ≡ Some x) ⊎ ((t ≤ i) × (octet_at o octets i ≡ Some x))

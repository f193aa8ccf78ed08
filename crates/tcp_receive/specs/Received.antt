-- What has been taken of a guest's stream, and what a segment brings (RFC 9293, 3.10.7.4).
use Rattle.std.specs.Prelude.{◌≡◌, ℕ, ◌+◌, ◌-◌, ◌<◌, List, [], length, drop, Bool, false, ℤ, pos, negsuc, ◌+ℤ◌, ◌<ℤ◌, IsTrue, ◌⊎◌, suc, if◌then◌else◌, nat_le, nat_lt, None, Some, slice_get}
use Rattle.seq_space.specs.Places.{number_of, place}
use Rattle.sock_buffers.specs.Kept.{octet_at}
use Rattle.sock_buffers.specs.Upward.{Upward, after_join, after_keep, after_take}

-- the number of the guest's SYN, how many octets after it were taken, and whether the end was
pub record Received : Type 0 where
  pub first : ℕ
  pub taken : ℕ
  pub ended : Bool

abbrev pub received : ℕ → ℕ → Bool → Received
received first taken ended = record { first = first; taken = taken; ended = ended }

-- how many places have been taken: one for each octet, and one for the end
abbrev pub places_taken : Received → ℕ
places_taken r = if r.ended then r.taken + 1 else r.taken

-- the number that comes next
abbrev pub next_number : Received → ℕ
next_number r = number_of r.first (places_taken r)

-- of octets that begin at a place, those from the place taken on; none where an octet before them is missing
abbrev pub octets_from : ℤ → List ℕ → ℕ → List ℕ
octets_from (pos o) octets taken = if nat_le o taken then drop (taken - o) octets else []
octets_from (negsuc n) octets taken = drop (taken + suc n) octets

-- x is the octet at a place of the stream, among octets that begin at the place from
abbrev pub StandsAt : ℤ → List ℕ → ℕ → ℕ → Type 0
StandsAt from octets place x = (j : ℕ) × ((slice_get octets j ≡ Some x) × (pos place ≡ from +ℤ pos j))

-- the place of a segment with this number, the one nearest to what was taken
abbrev pub place_in : Received → ℕ → ℤ
place_in r number = place number r.first r.taken

-- the octets of a segment that come next in the stream: none once its end was taken
abbrev pub next_octets : Received → ℕ → List ℕ → List ℕ
next_octets r number octets = if r.ended then [] else octets_from (place_in r number) octets r.taken

-- how many places lie between what was taken and octets that begin at a place
abbrev pub gap : ℤ → ℕ → ℕ
gap (pos o) taken = o - taken
gap (negsuc n) taken = 0

-- the buffer with octets that begin at a place: what comes next is taken, what comes past a gap is kept, and then the kept
-- octets that come next are taken
abbrev pub placed : ℤ → ℕ → List ℕ → Upward → Upward
placed place taken octets up =
    if nat_lt 0 (gap place taken) then after_keep up (gap place taken) octets else after_take up (octets_from place octets taken)

-- the buffer after a segment: it stays once the end was taken
abbrev pub up_after : Received → ℕ → List ℕ → Upward → Upward
up_after r number octets up = if r.ended then up else after_join (placed (place_in r number) r.taken octets up)

-- The buffer is that of this stream: what was taken is written or held, and no octet is kept that comes next.
pub record Fills (r : Received) (up : Upward) : Type 0 where
  pub taken : r.taken ≡ up.written + length up.held
  pub next : octet_at up.kept 0 ≡ None

-- a segment's FIN is taken: the end was not taken before, and every octet before the FIN is among those taken now, those
-- that were kept too
abbrev pub IsEndTaken : Received → ℕ → List ℕ → Bool → ℕ → Type 0
IsEndTaken r number octets fin taken_now =
    IsTrue fin × (r.ended ≡ false) × (place_in r number +ℤ pos (length octets) ≡ pos taken_now)

-- an acknowledgement is owed for octets, for a FIN, and for a number before the next expected one: octets that came
-- again, or a probe of the window or of whether the connection is alive
abbrev pub IsAckOwed : Received → ℕ → List ℕ → Bool → Type 0
IsAckOwed r number octets fin =
    (0 < length octets) ⊎ IsTrue fin ⊎ (place_in r number <ℤ pos (places_taken r))

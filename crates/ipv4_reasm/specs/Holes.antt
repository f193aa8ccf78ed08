-- The holes of a datagram: the units of 8 octets that didn't come yet (RFC 815).
use Rattle.std.specs.Prelude.{◌≡◌, ℕ, ◌+◌, ◌<◌, ◌≤◌, Bool, List, [], ◌∷◌, ◌++◌, Option, None, Some, if◌then◌else◌}
use Rattle.std.specs.List.{list_any}
use Rattle.ipv4_head.specs.declared.holes.Hole.{Hole}
use Rattle.ipv4_head.specs.Sets.{Part}
use Rattle.ipv4_head.specs.Holes.{hole, is_in, left_before, left_behind, lies_in}

-- a unit is in one of some holes
abbrev pub is_open : ℕ → List Hole → Bool
is_open u holes = list_any (is_in u) holes

-- a part lies in one of some
abbrev pub has_hole : Part → List Hole → Bool
has_hole p holes = list_any (lies_in p) holes

abbrev pub listed : Option Hole → List Hole
listed None = []
listed (Some h) = h ∷ []

-- the holes once the part is there: what is left of the one in which it lies takes its place
abbrev pub filled : Part → List Hole → List Hole
filled p [] = []
filled p (h ∷ holes) =
    if lies_in p h then listed (left_before p h) ++ (listed (left_behind p h) ++ holes) else h ∷ filled p holes

-- the holes before the first part
abbrev pub all_open : List Hole
all_open = hole 0 None ∷ []

-- Holes from a unit on in rising order: each has a unit and begins within the longest body or right behind it, between two lies one that came, and none follows the endless one.
abbrev pub Rise : ℕ → List Hole → Type 0
Rise low [] = Unit {0}
Rise low (h ∷ holes) =
    (low ≤ h.from) × (h.from ≤ 8190) × (h.to ≡ None → holes ≡ [])
    × ((to : ℕ) → h.to ≡ Some to → (h.from < to) × Rise (to + 1) holes)

-- the room of their row is for 4,097
pub record IsRow (holes : List Hole) (room : ℕ) : Type 0 where
  pub rise : Rise 0 holes
  pub fits : 4097 ≤ room

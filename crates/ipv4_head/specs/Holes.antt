-- A hole of a datagram: units of 8 octets that didn't come yet (RFC 815).
use Rattle.std.specs.Prelude.{ℕ, ◌+◌, ◌/◌, ◌&&◌, true, false, Bool, nat_lt, nat_le, length, Option, None, Some, if◌then◌else◌}
use Rattle.ipv4_head.specs.declared.holes.Hole.{Hole}
use Rattle.ipv4_head.specs.Sets.{Part}

-- how many units so many octets take
abbrev pub units_of : ℕ → ℕ
units_of size = (size + 7) / 8

-- the first unit behind those of a part
abbrev pub unit_end : Part → ℕ
unit_end p = p.place + units_of (length p.body)

-- the units from one on, up to another or without end
abbrev pub hole : ℕ → Option ℕ → Hole
hole from to = record { from = from; to = to }

-- a unit, the end of a part and no end at all stand before the end of a hole
abbrev pub is_below : ℕ → Option ℕ → Bool
is_below u None = true
is_below u (Some to) = nat_lt u to

abbrev pub is_up_to : ℕ → Option ℕ → Bool
is_up_to end None = true
is_up_to end (Some to) = nat_le end to

abbrev pub is_endless : Option ℕ → Bool
is_endless None = true
is_endless (Some to) = false

-- a unit is in a hole
abbrev pub is_in : ℕ → Hole → Bool
is_in u h = nat_le h.from u && is_below u h.to

-- a part lies in a hole: it doesn't begin before it nor end behind it, and the last part needs the endless one
abbrev pub lies_in : Part → Hole → Bool
lies_in p h = nat_le h.from p.place && (if p.more then is_up_to (unit_end p) h.to else is_endless h.to)

-- what is left of a hole before a part that lies in it
abbrev pub left_before : Part → Hole → Option Hole
left_before p h = if nat_lt h.from p.place then Some (hole h.from (Some p.place)) else None

-- and what is left from a unit on
abbrev pub left_from : ℕ → Option ℕ → Option Hole
left_from end None = Some (hole end None)
left_from end (Some to) = if nat_lt end to then Some (hole end (Some to)) else None

-- and behind the part; nothing is behind the last one
abbrev pub left_behind : Part → Hole → Option Hole
left_behind p h = if p.more then left_from (unit_end p) h.to else None

-- What a contract sees of a buffer of octets on their way up, from a guest to a host socket.
use Rattle.std.specs.Prelude.{ℕ, ◌+◌, ◌-◌, Bool, ◌||◌, nat_lt, nat_eq, List, [], ◌++◌, length, take, drop, min, if◌then◌else◌}
use Rattle.sock_buffers.specs.Kept.{Octets, octets_with, first_octets, first_covered, past, range, uncovered, with_range}
use Rattle.sock_buffers.specs.declared.ranges.KeptRange.{KeptRange}

-- The octets that are held, the oldest first; how many went on before them; how many may be held at most; and the octets
-- that are kept past the held ones since others between were not there yet, with the ranges of their places. A place is
-- counted from the end of what is held: the next octet has the place 0.
pub record Upward : Type 0 where
  pub held : List ℕ
  pub written : ℕ
  pub size : ℕ
  pub ranges : List KeptRange
  pub kept : Octets

abbrev pub upward : List ℕ → ℕ → ℕ → List KeptRange → Octets → Upward
upward held written size ranges kept = record { held = held; written = written; size = size; ranges = ranges; kept = kept }

-- with nothing in it
abbrev pub empty : ℕ → Upward
empty size = upward [] 0 size [] []

-- how many more octets may be held
abbrev pub room_of : Upward → ℕ
room_of u = u.size - length u.held

-- the longest front of these octets that fits
abbrev pub fitting : Upward → List ℕ → List ℕ
fitting u octets = take (min (length octets) (room_of u)) octets

-- octets that come next are held as far as they fit; they take the places of kept ones
abbrev pub after_take : Upward → List ℕ → Upward
after_take u octets = record u {
  held = u.held ++ fitting u octets;
  ranges = past (length (fitting u octets)) u.ranges;
  kept = drop (length (fitting u octets)) u.kept;
}

-- the longest front of octets from a place on that lies within the size
abbrev pub within : Upward → ℕ → List ℕ → List ℕ
within u ahead octets = take (min (length octets) (room_of u - ahead)) octets

abbrev pub range_of : Upward → ℕ → List ℕ → KeptRange
range_of u ahead octets = range ahead (ahead + length (within u ahead octets))

-- nothing is kept of these octets: none lies within the size, or the ranges would be more than 32
abbrev pub keeps_none : Upward → ℕ → List ℕ → Bool
keeps_none u ahead octets =
    nat_eq (length (within u ahead octets)) 0 || nat_lt 32 (length (with_range u.ranges (range_of u ahead octets)))

-- the octets that begin a gap past what comes next are kept at the places where none is kept, cut to the size; ranges that overlap or adjoin become one
abbrev pub after_keep : Upward → ℕ → List ℕ → Upward
after_keep u ahead octets = if keeps_none u ahead octets then u else record u {
  ranges = with_range u.ranges (range_of u ahead octets);
  kept = octets_with u.kept ahead (within u ahead octets);
}

-- at how many places octets are kept then where none was
abbrev pub newly_kept : Upward → ℕ → List ℕ → ℕ
newly_kept u ahead octets = if keeps_none u ahead octets then 0 else uncovered u.ranges ahead (length (within u ahead octets))

-- the kept octets that come next are held
abbrev pub after_join : Upward → Upward
after_join u = record u {
  held = u.held ++ first_octets u.kept (first_covered u.ranges);
  ranges = past (first_covered u.ranges) u.ranges;
  kept = drop (first_covered u.ranges) u.kept;
}

-- Places past the octets that are held, where octets are kept that came before others: ranges of them, by how many
-- places each begins and ends past the held octets.
use Rattle.std.specs.Prelude.{◌≡◌, ℕ, zero, suc, ◌+◌, ◌-◌, ◌<◌, ◌≤◌, Bool, ◌&&◌, not, nat_lt, nat_le, nat_eq, List, [], ◌∷◌, Option, None, Some, slice_get, min, max, if◌then◌else◌}
use Rattle.std.specs.List.{list_any}
use Rattle.sock_buffers.specs.declared.ranges.KeptRange.{KeptRange}

-- a range from a place up to another, which is not of it
abbrev pub range : ℕ → ℕ → KeptRange
range start end = record { start = start; end = end }

abbrev pub has_place : ℕ → KeptRange → Bool
has_place place r = nat_le r.start place && nat_lt place r.end

-- whether a place is in one of these ranges
abbrev pub covers : List KeptRange → ℕ → Bool
covers ranges place = list_any (has_place place) ranges

-- the ranges rise, each has a place, and a place lies between each and the next
abbrev pub AreApart : ℕ → List KeptRange → Type 0
AreApart from [] = Unit {0}
AreApart from (r ∷ rs) = (from ≤ r.start) × (r.start < r.end) × AreApart (r.end + 1) rs

-- the place after all of them
abbrev pub span : List KeptRange → ℕ
span [] = 0
span (r ∷ rs) = max r.end (span rs)

-- the least range over two
abbrev pub hull : KeptRange → KeptRange → KeptRange
hull a b = range (min a.start b.start) (max a.end b.end)

-- these ranges with one more, where those that it overlaps or adjoins become one with it
abbrev pub with_range : List KeptRange → KeptRange → List KeptRange
with_range [] new = new ∷ []
with_range (r ∷ rs) new =
    if nat_lt new.end r.start then new ∷ r ∷ rs
    else (if nat_lt r.end new.start then r ∷ with_range rs new else with_range rs (hull r new))

-- these ranges past the first so many places, counted from there
abbrev pub past : ℕ → List KeptRange → List KeptRange
past count [] = []
past count (r ∷ rs) = if nat_le r.end count then past count rs else range (r.start - count) (r.end - count) ∷ past count rs

-- how many places from the first on are covered, by ranges that lie apart
abbrev pub first_covered : List KeptRange → ℕ
first_covered [] = 0
first_covered (r ∷ rs) = if nat_eq r.start 0 then r.end else 0

-- how many of so many places from one on are not covered
abbrev pub uncovered : List KeptRange → ℕ → ℕ → ℕ
uncovered ranges from zero = 0
uncovered ranges from (suc n) = uncovered ranges from n + (if covers ranges (from + n) then 0 else 1)

-- the octets that are kept: at each place its octet, where it is kept
abbrev pub Octets : Type 0
Octets = List (Option ℕ)

abbrev pub octet_at : Octets → ℕ → Option ℕ
octet_at [] place = None
octet_at (o ∷ os) zero = o
octet_at (o ∷ os) (suc place) = octet_at os place

-- an octet is kept at a place
abbrev pub KeepsAt : Octets → ℕ → ℕ → Type 0
KeepsAt kept place x = octet_at kept place ≡ Some x

-- a place that is kept already keeps its octet
abbrev pub kept_or : Option ℕ → ℕ → Option ℕ
kept_or None x = Some x
kept_or (Some kept) x = Some kept

-- the kept octets with more of them, from a place on
abbrev pub octets_with : Octets → ℕ → List ℕ → Octets
octets_with kept zero [] = kept
octets_with [] zero (x ∷ xs) = Some x ∷ octets_with [] zero xs
octets_with (o ∷ os) zero (x ∷ xs) = kept_or o x ∷ octets_with os zero xs
octets_with [] (suc from) octets = None ∷ octets_with [] from octets
octets_with (o ∷ os) (suc from) octets = o ∷ octets_with os from octets

-- the octets at the first so many places, up to one where none is kept
abbrev pub first_octets : Octets → ℕ → List ℕ
first_octets kept zero = []
first_octets [] (suc n) = []
first_octets (None ∷ os) (suc n) = []
first_octets (Some x ∷ os) (suc n) = x ∷ first_octets os n

-- the octet at a place of a ring after the first so many of these octets were written from the place ahead past what is
-- held on, but for the places that are covered
abbrev pub written_at : List KeptRange → (held ahead count : ℕ) → (octets old : List ℕ) → ℕ → Option ℕ
written_at ranges held ahead count octets old place =
    if nat_le (held + ahead) place && nat_lt place (held + ahead + count) && not (covers ranges (place - held))
    then slice_get octets (place - (held + ahead))
    else slice_get old place

-- of octets from a place on, those at places that are covered
abbrev pub masked : List KeptRange → ℕ → List ℕ → Octets
masked ranges from [] = []
masked ranges from (x ∷ xs) = (if covers ranges from then Some x else None) ∷ masked ranges (suc from) xs

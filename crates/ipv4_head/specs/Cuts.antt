-- The parts into which a datagram is cut (RFC 791, 2.3).
use Rattle.std.specs.Prelude.{◌≡◌, zero, suc, ◌≢◌, ℕ, ◌+◌, ◌-◌, ◌*◌, ◌/◌, true, Bool, nat_lt, List, [], ◌∷◌, length, take, drop, Option, None, Some, if◌then◌else◌}
use Rattle.std.specs.List.{Contains, AllPairs}
use Rattle.ipv4_head.specs.Sets.{Part}

-- how many octets a frame has room for behind a header of 20, and how many of them are whole units
abbrev pub room_in : ℕ → ℕ
room_in mtu = mtu - 20

abbrev pub units_in : ℕ → ℕ
units_in mtu = (mtu - 20) / 8

-- where the k-th part begins, in octets
abbrev pub cut_start : ℕ → ℕ → ℕ
cut_start mtu k = 8 * (k * units_in mtu)

-- a part that comes before the last one: what is left from its beginning doesn't fit
abbrev pub is_before_last : ℕ → ℕ → ℕ → Bool
is_before_last mtu size k = nat_lt (room_in mtu) (size - cut_start mtu k)

-- the first is there, and each other one whose forerunner isn't the last
abbrev pub is_cut : ℕ → ℕ → ℕ → Bool
is_cut mtu size zero = true
is_cut mtu size (suc k) = is_before_last mtu size k

-- what the k-th carries: whole units, or all that is left
abbrev pub cut_body : ℕ → List ℕ → ℕ → List ℕ
cut_body mtu body k = let rest = drop (cut_start mtu k) body in
    if is_before_last mtu (length body) k then take (8 * units_in mtu) rest else rest

-- the k-th part
abbrev pub cut_at : ℕ → Part → ℕ → Part
cut_at mtu whole k = record whole { place = k * units_in mtu; more = is_before_last mtu (length whole.body) k; body = cut_body mtu whole.body k }

-- the k-th part of a datagram that is none itself
abbrev pub cut_of : ℕ → Part → ℕ → Option Part
cut_of mtu whole k = if is_cut mtu (length whole.body) k then Some (cut_at mtu whole k) else None

-- how many parts there are: the last, and as many before it as what doesn't fit has whole units for
abbrev pub cut_count : ℕ → ℕ → ℕ
cut_count mtu size = suc ((size - room_in mtu + (8 * units_in mtu - 1)) / (8 * units_in mtu))

-- so many parts, from the k-th on
abbrev pub cuts_from : ℕ → Part → ℕ → ℕ → List Part
cuts_from mtu whole k zero = []
cuts_from mtu whole k (suc n) = cut_at mtu whole k ∷ cuts_from mtu whole (suc k) n

-- the parts into which a datagram is cut, in their order
abbrev pub cuts : ℕ → Part → List Part
cuts mtu whole = cuts_from mtu whole 0 (cut_count mtu (length whole.body))

-- parts are those into which a datagram is cut, each once, in any order
pub record AreCuts (mtu : ℕ) (whole : Part) (parts : List Part) : Type 0 where
  pub each : (k : ℕ) (p : Part) → cut_of mtu whole k ≡ Some p → Contains parts p
  pub only : (p : Part) → Contains parts p → (k : ℕ) × (cut_of mtu whole k ≡ Some p)
  pub once : AllPairs (λ p q. p.place ≢ q.place) parts

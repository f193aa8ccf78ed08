-- Areas in which the parts of datagrams are put together, and the sets of parts for which they stand.
use Rattle.std.specs.Prelude.{◌≡◌, ℕ, ◌-◌, ◌*◌, ◌<◌, ◌≤◌, ◌==◌, ◌&&◌, ◌⊎◌, not, true, false, Bool, nat_lt, nat_le, ◌^◌, max, List, [], ◌∷◌, ◌++◌, length, take, drop, None, Some, if◌then◌else◌}
use Rattle.std.specs.List.{AllPairs, Contains, list_any, position_or_len}
use Rattle.net_octets.specs.Octets.{part}
use Rattle.ipv4_reasm.specs.declared.area.DatagramKey.{DatagramKey}
use Rattle.ipv4_head.specs.Ip.{Ip}
use Rattle.ipv4_head.specs.declared.holes.Hole.{Hole}
use Rattle.ipv4_head.specs.Holes.{is_in}
use Rattle.ipv4_reasm.specs.Holes.{Rise, all_open, filled, has_hole, is_open}
use Rattle.ipv4_head.specs.Sets.{Key, Part, PartSet, start_of, end_of, do_clash, is_same_key, is_whole, whole_head}

-- an area: whose parts are in it, since when, their octets, the holes between them, the greatest end, time to live and header of the part at the start, and the header of the whole once it is made
pub record Gathered : Type 0 where
  pub key : Key
  pub since : ℕ
  pub octets : List ℕ
  pub holes : List Hole
  pub top : ℕ
  pub life : ℕ
  pub head : List ℕ
  pub joined : List ℕ

-- an area before the first part of its datagram
abbrev pub begun : Key → ℕ → Gathered → Gathered
begun key since g = record { key = key; since = since; octets = g.octets; holes = all_open; top = 0; life = g.life; head = g.head; joined = g.joined }

-- a part can't be of the same datagram as those in the area: it lies in none of their holes
abbrev pub does_clash : Gathered → Part → Bool
does_clash g p = not (has_hole p g.holes)

-- the octets of a part are put into the area
abbrev pub with_octets : Gathered → Part → Gathered
with_octets g p = record g {
  octets = take (start_of p) g.octets ++ p.body ++ drop (end_of p) g.octets;
  holes = filled p g.holes;
  top = max g.top (end_of p);
}

-- and its header and time to live, where it is the part at the start
abbrev pub with_head : Gathered → Part → Gathered
with_head g p = record g { life = p.life; head = p.head }

abbrev pub with_kept : Gathered → Part → Gathered
with_kept g p = if p.place == 0 then with_head (with_octets g p) p else with_octets g p

-- no hole is left
abbrev pub is_full : Gathered → Bool
is_full g = length g.holes == 0

-- the header of the whole is made
abbrev pub with_joined : Gathered → Gathered
with_joined g = record g { joined = whole_head g.head g.top }

-- the part is put into the area, and where it makes the datagram whole so is the header
abbrev pub after_part : Gathered → Part → Gathered
after_part g p = if is_full (with_kept g p) then with_joined (with_kept g p) else with_kept g p

-- a part that fits its datagram
pub record Fits (p : Part) : Type 0 where
  pub carries : 0 < length p.body
  pub even : p.more ≡ true → (n : ℕ) × (length p.body ≡ 8 * n)
  pub end : end_of p ≤ 65515

abbrev pub has_unit : ℕ → Part → Bool
has_unit u p = nat_le p.place u && nat_lt (8 * u) (end_of p)

-- a unit came, lies in a hole, or is behind the last part
abbrev pub IsTold : ℕ → List Hole → List Part → Type 0
IsTold u holes parts =
    (list_any (has_unit u) parts ≡ true) ⊎ (is_open u holes ≡ true)
    ⊎ ((q : Part) × (Contains parts q × (q.more ≡ false) × (end_of q ≤ 8 * u)))

-- a hole between parts: no unit in it came, the last part didn't come where it is endless, and else the unit behind it came
pub record IsHole (h : Hole) (parts : List Part) : Type 0 where
  pub missing : (u : ℕ) → is_in u h ≡ true → list_any (has_unit u) parts ≡ false
  pub endless : h.to ≡ None → (q : Part) → Contains parts q → q.more ≡ true
  pub till : (to : ℕ) → h.to ≡ Some to → list_any (has_unit to) parts ≡ true

abbrev pub AreHoles : List Hole → List Part → Type 0
AreHoles [] parts = Unit {0}
AreHoles (h ∷ holes) parts = IsHole h parts × AreHoles holes parts

-- what is in an area are these parts
pub record Gathers (g : Gathered) (parts : List Part) : Type 0 where
  pub room : length g.octets ≡ 65535
  pub octets : (p : Part) → Contains parts p → part g.octets (start_of p) (length p.body) ≡ p.body
  pub rise : Rise 0 g.holes
  pub holes : AreHoles g.holes parts
  pub told : (u : ℕ) → IsTold u g.holes parts
  pub below : (p : Part) → Contains parts p → end_of p ≤ g.top
  pub top : 0 < g.top → (p : Part) × (Contains parts p × (end_of p ≡ g.top))
  pub first : (p : Part) → Contains parts p → p.place ≡ 0 → (g.head ≡ p.head) × (g.life ≡ p.life)
  pub fits : (p : Part) → Contains parts p → Fits p
  pub apart : AllPairs (λ p q. do_clash p q ≡ false) parts

-- an area stands for a set
pub record StandsFor (g : Gathered) (s : PartSet) : Type 0 where
  pub key : g.key ≡ s.key
  pub since : g.since ≡ s.since
  pub parts : Gathers g s.parts
  pub joined : is_whole s.parts ≡ true → g.joined ≡ whole_head g.head g.top

-- areas stand for sets, one by one
abbrev pub StandFor : List Gathered → List PartSet → Type 0
StandFor [] [] = Unit {0}
StandFor (g ∷ held) (s ∷ sets) = StandsFor g s × StandFor held sets
StandFor _ _ = ⊥

-- a key as the code has it
abbrev pub key_by : DatagramKey → Key
key_by k = record { from = k.from.0; to = k.to.0; proto = k.proto; ident = k.ident }

abbrev pub gathered : DatagramKey → ℕ → List ℕ → List Hole → ℕ → ℕ → List ℕ → List ℕ → Gathered
gathered key since octets holes top life head joined = record { key = key_by key; since = since; octets = octets; holes = holes; top = top; life = life; head = head; joined = joined }

-- the room of an area
pub record IsRoomy (since : ℕ) (octets : List ℕ) (top head joined : ℕ) : Type 0 where
  pub room : length octets ≡ 65535
  pub early : since ≤ 2 ^ 62
  pub within : top ≤ 65515
  pub full_head : 20 ≤ head
  pub short : head ≤ 60
  pub as_short : joined ≤ 60

-- the datagram that an area holds, once it is whole
abbrev pub joined_in : Gathered → Ip
joined_in g = record { ident = g.key.ident; more = false; place = 0; proto = g.key.proto; from = g.key.from; to = g.key.to; head = g.joined; body = take g.top g.octets }

-- areas whose first part is less than 60,000 ms old (RFC 1122, 3.3.2)
abbrev pub is_recent : ℕ → Gathered → Bool
is_recent now g = nat_lt (now - g.since) 60000

-- the place of a datagram's area
abbrev pub place_in : Key → List Gathered → ℕ
place_in key held = position_or_len (λ g. is_same_key key g.key) held

-- the oldest of 16 areas gives way
abbrev pub roomy : List Gathered → List Gathered
roomy held = if nat_le 16 (length held) then drop 1 held else held

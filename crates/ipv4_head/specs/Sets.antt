-- Parts of datagrams, and the sets of them that wait to be joined (RFC 791, 2.3 and 3.2; of overlaps RFC 5722, 3).
use Rattle.std.specs.Prelude.{◌≡◌, ℕ, ◌+◌, ◌-◌, ◌*◌, ◌/◌, ◌%◌, ◌^◌, ◌<◌, ◌≤◌, ◌==◌, ◌&&◌, ◌||◌, not, false, Bool, nat_lt, nat_le, min, List, [], ◌∷◌, ◌++◌, length, drop, filter, find, map}
use Rattle.std.specs.Prelude.{Option, None, Some, slice_get, slice_set, if◌then◌else◌}
use Rattle.std.specs.Option.{option_map, option_map_or}
use Rattle.std.specs.List.{Contains, AllPairs, list_any, list_all, range_with_len, position_or_len, remove}
use Rattle.net_octets.specs.Octets.{one_at, two_at, part, two, word_sum, checksum}
use Rattle.ipv4_head.specs.declared.IpView.{IpView}
use Rattle.ipv4_head.specs.Ip.{Ip}

-- which datagram a part is of (RFC 791, 3.2)
pub record Key : Type 0 where
  pub from : ℕ
  pub to : ℕ
  pub proto : ℕ
  pub ident : ℕ

abbrev pub is_same_key : Key → Key → Bool
is_same_key a b = (a.from == b.from) && (a.to == b.to) && (a.proto == b.proto) && (a.ident == b.ident)

-- its place in the body of the datagram in units of 8 octets, whether more follow, its time to live, its header as it came, and its octets
pub record Part : Type 0 where
  pub place : ℕ
  pub more : Bool
  pub life : ℕ
  pub head : List ℕ
  pub body : List ℕ

-- where it begins and where it ends in the body of the datagram, in octets
abbrev pub start_of : Part → ℕ
start_of p = 8 * p.place

abbrev pub end_of : Part → ℕ
end_of p = 8 * p.place + length p.body

-- it has no octets, or more follow and they are no whole number of units
abbrev pub is_uneven : Part → Bool
is_uneven p = (length p.body == 0) || (p.more && not (length p.body % 8 == 0))

-- it ends past the greatest length of a body: 65,535 octets less a header of 20 (RFC 791, 3.1)
abbrev pub is_too_long : Part → Bool
is_too_long p = nat_lt 65515 (end_of p)

abbrev pub has_octet : ℕ → Part → Bool
has_octet k p = nat_le (start_of p) k && nat_lt k (end_of p)

-- two parts share an octet
abbrev pub do_share : Part → Part → Bool
do_share p q = nat_lt (start_of p) (end_of q) && nat_lt (start_of q) (end_of p)

-- one ends past the end that the other gives
abbrev pub ends_past : Part → Part → Bool
ends_past p q = not q.more && nat_lt (end_of q) (end_of p)

-- no datagram has both: they share an octet, both are the last, or one ends past the end that the other gives
abbrev pub do_clash : Part → Part → Bool
do_clash p q = do_share p q || (not p.more && not q.more) || ends_past p q || ends_past q p

-- some part is the last, and each octet before its end is there
abbrev pub is_whole : List Part → Bool
is_whole parts = list_any (λ last. not last.more && list_all (λ k. list_any (has_octet k) parts) (range_with_len 0 (end_of last))) parts

-- parts join to a body: no two clash, the last ends where it does, each stands in it at its place, and each octet is of one
pub record Joins (parts : List Part) (body : List ℕ) : Type 0 where
  pub apart : AllPairs (λ p q. do_clash p q ≡ false) parts
  pub last : (p : Part) × (Contains parts p × (p.more ≡ false) × (end_of p ≡ length body))
  pub stands : (p : Part) → Contains parts p → part body (start_of p) (length p.body) ≡ p.body
  pub whole : (k : ℕ) → k < length body → (p : Part) × (Contains parts p × (start_of p ≤ k) × (k < end_of p))

-- the parts of one datagram that came so far, in their order, and the moment at which the first came, in milliseconds
pub record PartSet : Type 0 where
  pub key : Key
  pub since : ℕ
  pub parts : List Part

-- sets whose first part is 60,000 ms old or older go (RFC 1122, 3.3.2: after 60 to 120 seconds)
abbrev pub is_young : ℕ → PartSet → Bool
is_young now s = nat_lt (now - s.since) 60000

abbrev pub young : ℕ → List PartSet → List PartSet
young now sets = filter (is_young now) sets

-- the place of the datagram's set among the sets, or past them where it has none
abbrev pub place_of : Key → List PartSet → ℕ
place_of key sets = position_or_len (λ s. is_same_key key s.key) sets

abbrev pub set_for : Key → List PartSet → Option PartSet
set_for key sets = slice_get sets (place_of key sets)

-- the parts of the datagram that wait so far
abbrev pub parts_for : Key → List PartSet → List Part
parts_for key sets = option_map_or (λ s. s.parts) (set_for key sets) []

-- the oldest of 16 sets gives way to a new one
abbrev pub with_room : List PartSet → List PartSet
with_room sets = if nat_le 16 (length sets) then drop 1 sets else sets

-- the part joins its set, or is the first of a new one
abbrev pub put_in : ℕ → Key → Part → List PartSet → Option PartSet → List PartSet
put_in now key p sets None = with_room sets ++ record { key = key; since = now; parts = p ∷ [] } ∷ []
put_in now key p sets (Some s) = slice_set sets (place_of key sets) (record s { parts = s.parts ++ p ∷ [] })

abbrev pub with_part : ℕ → Key → Part → List PartSet → List PartSet
with_part now key p sets = put_in now key p sets (set_for key sets)

-- what becomes of a part
pub data Outcome : Type 0 where
  UnevenPart : Outcome
  LongPart : Outcome
  Clashes : Outcome
  Waits : Outcome
  Joined : Outcome

abbrev pub outcome_among : Part → List Part → Outcome
outcome_among p parts =
    if is_uneven p then UnevenPart else (if is_too_long p then LongPart
    else (if list_any (do_clash p) parts then Clashes
    else (if is_whole (parts ++ p ∷ []) then Joined else Waits)))

abbrev pub outcome : ℕ → Key → Part → List PartSet → Outcome
outcome now key p sets = outcome_among p (parts_for key (young now sets))

-- the sets after a part came: old sets go, a part that clashes takes its set with it, and one that is uneven or too long changes nothing
abbrev pub changed_by : Outcome → ℕ → Key → Part → List PartSet → List PartSet
changed_by Clashes now key p sets = remove sets (place_of key sets)
changed_by Waits now key p sets = with_part now key p sets
changed_by Joined now key p sets = with_part now key p sets
changed_by _ now key p sets = sets

abbrev pub sets_after : ℕ → Key → Part → List PartSet → List PartSet
sets_after now key p sets = changed_by (outcome now key p sets) now key p (young now sets)

-- where the part joined its datagram the set goes, as the datagram is taken
abbrev pub left_by : Outcome → Key → List PartSet → List PartSet
left_by Joined key sets = remove sets (place_of key sets)
left_by _ key sets = sets

-- the sets after a part came at this moment
abbrev pub sets_left : ℕ → Key → Part → List PartSet → List PartSet
sets_left now key p sets = left_by (outcome now key p sets) key (sets_after now key p sets)

-- the header of a datagram that was joined: that of its part at the start, with no flag for more fragments, the place 0, the whole length as far as it can be said, and the sum made anew
abbrev pub whole_head_with : ℕ → List ℕ → ℕ → List ℕ
whole_head_with sum head size =
    part head 0 2 ++ two (min 65535 (length head + size)) ++ part head 4 2 ++ two (2 ^ 14 * (two_at head 6 / 2 ^ 14)) ++ part head 8 2 ++ two sum ++ drop 12 head

abbrev pub whole_head : List ℕ → ℕ → List ℕ
whole_head head size = whole_head_with (checksum (word_sum (whole_head_with 0 head size))) head size

-- the datagram to which a set joins, and its time to live
pub record IsJoined (s : PartSet) (ip : Ip) (life : ℕ) : Type 0 where
  pub body : Joins s.parts ip.body
  pub first : (p : Part) × (Contains s.parts p × (p.place ≡ 0) × (ip.head ≡ whole_head p.head (length ip.body)) × (life ≡ p.life))
  pub more : ip.more ≡ false
  pub place : ip.place ≡ 0
  pub from : ip.from ≡ s.key.from
  pub to : ip.to ≡ s.key.to
  pub proto : ip.proto ≡ s.key.proto
  pub ident : ip.ident ≡ s.key.ident

-- the octet at a place of the body to which parts join: that of the part that has it
abbrev pub octet_of : List Part → ℕ → ℕ
octet_of parts k = option_map_or (λ p. one_at p.body (k - start_of p)) (find (has_octet k) parts) 0

-- where the last part ends
abbrev pub joined_size : List Part → ℕ
joined_size parts = option_map_or end_of (find (λ p. not p.more) parts) 0

abbrev pub joined_body : List Part → List ℕ
joined_body parts = map (octet_of parts) (range_with_len 0 (joined_size parts))

-- the header of the part at the start
abbrev pub first_head : List Part → List ℕ
first_head parts = option_map_or (λ p. p.head) (find (λ p. p.place == 0) parts) []

-- the datagram to which the parts of a set join, where they do
abbrev pub joined : PartSet → Ip
joined s = let body = joined_body s.parts in
    record { ident = s.key.ident; more = false; place = 0; proto = s.key.proto; from = s.key.from; to = s.key.to; head = whole_head (first_head s.parts) (length body); body = body }

-- the datagram that is whole by a part, where these sets wait, all of them young: that to which its set then joins
abbrev pub whole_by : Outcome → Option PartSet → Option Ip
whole_by Joined set = option_map joined set
whole_by _ set = None

abbrev pub whole_with : ℕ → Key → Part → List PartSet → Option Ip
whole_with now key p waiting = whole_by (outcome_among p (parts_for key waiting)) (set_for key (changed_by (outcome_among p (parts_for key waiting)) now key p waiting))

-- what holds of each part of a set, and of each set
abbrev pub OfParts : (Key → Part → Type 0) → Key → List Part → Type 0
OfParts P key [] = Unit {0}
OfParts P key (p ∷ parts) = P key p × OfParts P key parts

abbrev pub OfSets : (Key → Part → Type 0) → List PartSet → Type 0
OfSets P [] = Unit {0}
OfSets P (s ∷ sets) = OfParts P s.key s.parts × OfSets P sets

-- a part carries octets
abbrev pub Carrying : Key → Part → Type 0
Carrying key p = 0 < length p.body

-- a datagram as a part, and its key
abbrev pub key_of : IpView → Key
key_of v = record { from = v.from.0; to = v.to.0; proto = v.proto; ident = v.ident }

abbrev pub part_of : IpView → Part
part_of v = record { place = v.offset; more = v.more; life = v.ttl; head = v.head.now; body = v.body.now }

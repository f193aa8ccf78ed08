-- Datagrams of IPv4 and their parts (RFC 791, 3.1).
use Rattle.std.specs.Prelude.{◌≡◌, ℕ, ◌+◌, ◌-◌, ◌*◌, ◌/◌, ◌%◌, ◌^◌, ◌<◌, ◌≤◌, ◌==◌, ◌&&◌, ◌||◌, not, cond, true, nat_le, nat_lt, Bool, List, [], ◌∷◌, ◌++◌, length, take, Option, Some}
use Rattle.std.specs.Prelude.{None, if◌then◌else◌}
use Rattle.net_octets.specs.Octets.{one_at, two_at, four_at, part, two, four, word_sum, checksum, sum_ok}
use Rattle.net_octets.specs.declared.Fault.{Fault}
use Rattle.net_octets.specs.declared.FaultKind.TheVariants.{Short, BadKind, BadLength, BadSum}
use Rattle.ipv4_head.specs.declared.IpView.{IpView}

-- a fragment's place is a number of 8 octets
pub record Ip : Type 0 where
  pub ident : ℕ
  pub more : Bool
  pub place : ℕ
  pub proto : ℕ
  pub from : ℕ
  pub to : ℕ
  pub head : List ℕ
  pub body : List ℕ

-- the number that tells whether more fragments follow, and the place
abbrev pub fragment_of : Bool → ℕ → ℕ
fragment_of more place = 2 ^ 13 * cond more 1 0 + place

-- the grammar: the fields in their order, options to a whole number of words, a sum that holds, the payload, and octets that belong to no packet
pub record IsIp (octets : List ℕ) (ip : Ip) : Type 0 where
  pub words : ℕ
  pub words_fit : (5 ≤ words) × (words < 16)
  pub service : ℕ
  pub flags : ℕ
  pub flags_fit : flags < 4
  pub life : ℕ
  pub sum : ℕ
  pub sum_fits : sum < 2 ^ 16
  pub options : List ℕ
  pub ident : ip.ident < 2 ^ 16
  pub place : ip.place < 2 ^ 13
  pub from : ip.from < 2 ^ 32
  pub to : ip.to < 2 ^ 32
  pub size : length ip.head + length ip.body < 2 ^ 16
  pub head_size : length ip.head ≡ 4 * words
  pub head_is : ip.head ≡ (64 + words) ∷ service ∷ two (length ip.head + length ip.body) ++ two ip.ident
      ++ two (2 ^ 14 * flags + fragment_of ip.more ip.place) ++ life ∷ ip.proto ∷ two sum ++ four ip.from ++ four ip.to ++ options
  pub holds : sum_ok (word_sum ip.head) ≡ true
  pub rest : List ℕ
  pub is : octets ≡ ip.head ++ ip.body ++ rest

-- the length of the header, in octets
abbrev pub head_length : List ℕ → ℕ
head_length octets = 4 * (one_at octets 0 % 16)

-- version 4, a header of at least 20 octets, a total length from there to the end of what came, and a header whose sum holds
abbrev pub is_ip : List ℕ → Bool
is_ip octets =
    nat_le 20 (length octets) && (one_at octets 0 / 16 == 4) && nat_le 20 (head_length octets)
    && nat_le (head_length octets) (two_at octets 2) && nat_le (two_at octets 2) (length octets)
    && sum_ok (word_sum (take (head_length octets) octets))

-- the fields that octets encode
abbrev pub read_ip : List ℕ → Option Ip
read_ip octets =
    if is_ip octets
    then Some (record {
      ident = two_at octets 4;
      more = (two_at octets 6 / 2 ^ 13) % 2 == 1;
      place = two_at octets 6 % 2 ^ 13;
      proto = one_at octets 9;
      from = four_at octets 12;
      to = four_at octets 16;
      head = take (head_length octets) octets;
      body = part octets (head_length octets) (two_at octets 2 - head_length octets);
    })
    else None

-- the first fault of octets that encode none
abbrev pub ip_fault : List ℕ → Option Fault
ip_fault octets =
    if nat_lt (length octets) 20 then Some (record { kind = Short; at = length octets })
    else (if not (one_at octets 0 / 16 == 4) then Some (record { kind = BadKind; at = 0 })
    else (if nat_lt (head_length octets) 20 then Some (record { kind = BadLength; at = 0 })
    else (if nat_lt (length octets) (head_length octets) then Some (record { kind = Short; at = length octets })
    else (if nat_lt (two_at octets 2) (head_length octets) || nat_lt (length octets) (two_at octets 2) then Some (record { kind = BadLength; at = 2 })
    else (if not (sum_ok (word_sum (take (head_length octets) octets))) then Some (record { kind = BadSum; at = 10 })
    else None)))))

-- the 20 octets of a header without options, with this time to live and this sum
abbrev pub head_with : (life sum ident fragment proto from to size : ℕ) → List ℕ
head_with life sum ident fragment proto from to size =
    69 ∷ 0 ∷ two (20 + size) ++ two ident ++ two fragment ++ life ∷ proto ∷ two sum ++ four from ++ four to

-- the same with the sum that holds
abbrev pub summed_head : (life ident fragment proto from to size : ℕ) → List ℕ
summed_head life ident fragment proto from to size =
    head_with life (checksum (word_sum (head_with life 0 ident fragment proto from to size))) ident fragment proto from to size

-- a header and what it carries
abbrev pub ip_with : (life ident fragment proto from to : ℕ) → List ℕ → List ℕ
ip_with life ident fragment proto from to body = summed_head life ident fragment proto from to (length body) ++ body

-- the same with the time to live that we write
abbrev pub head_octets : (sum ident fragment proto from to size : ℕ) → List ℕ
head_octets sum ident fragment proto from to size = head_with 64 sum ident fragment proto from to size

abbrev pub ip_octets : (ident fragment proto from to : ℕ) → List ℕ → List ℕ
ip_octets ident fragment proto from to body = ip_with 64 ident fragment proto from to body

-- no part of a greater datagram
abbrev pub is_unbroken : Ip → Bool
is_unbroken ip = not ip.more && (ip.place == 0)

-- what we write: no options, no octets behind, service 0, no flag but the one for more fragments, and the sum that a checksum gives
pub record IsPlain (octets : List ℕ) (ip : Ip) (g : IsIp octets ip) : Type 0 where
  pub options : g.options ≡ []
  pub rest : g.rest ≡ []
  pub service : g.service ≡ 0
  pub flags : g.flags ≡ 0
  pub sum : g.sum ≡ checksum (word_sum (head_with g.life 0 ip.ident (fragment_of ip.more ip.place) ip.proto ip.from ip.to (length ip.body)))

-- the same fields, the header as it came aside
pub record SameFields (one other : Ip) : Type 0 where
  pub ident : one.ident ≡ other.ident
  pub more : one.more ≡ other.more
  pub place : one.place ≡ other.place
  pub proto : one.proto ≡ other.proto
  pub from : one.from ≡ other.from
  pub to : one.to ≡ other.to
  pub body : one.body ≡ other.body

-- the fields as the grammar names them
abbrev pub ip_of : IpView → Ip
ip_of v = record { ident = v.ident; more = v.more; place = v.offset; proto = v.proto; from = v.from.0; to = v.to.0; head = v.head.now; body = v.body.now }

-- the fields of what is written, with the header that it gets
abbrev pub sent : IpView → Ip
sent v = record (ip_of v) { head = summed_head v.ttl v.ident (fragment_of v.more v.offset) v.proto v.from.0 v.to.0 (length v.body.now) }

-- octets are a datagram of these fields and this time to live, as we write it
abbrev pub IsDatagram : List ℕ → ℕ → Ip → Type 0
IsDatagram octets life ip = (g : IsIp octets ip) × (g.life ≡ life) × IsPlain octets ip g

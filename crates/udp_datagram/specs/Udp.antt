-- Datagrams of UDP (RFC 768).
use Rattle.std.specs.Prelude.{◌≡◌, ℕ, ◌+◌, ◌-◌, ◌^◌, ◌<◌, ◌==◌, ◌&&◌, ◌||◌, not, true, nat_le, nat_lt, Bool, List, [], ◌++◌, length, take, Option, Some, None, if◌then◌else◌}
use Rattle.net_octets.specs.Kinds.{udp_proto}
use Rattle.net_octets.specs.Octets.{two_at, part, two, word_sum, checksum, sum_ok, before_sum}
use Rattle.net_octets.specs.declared.Fault.{Fault}
use Rattle.net_octets.specs.declared.FaultKind.TheVariants.{Short, BadLength, BadSum}
use Rattle.udp_datagram.specs.declared.UdpView.{UdpView}

-- the ports and the payload
pub record Udp : Type 0 where
  pub from_port : ℕ
  pub to_port : ℕ
  pub body : List ℕ

-- a datagram with this sum
abbrev pub udp_with : ℕ → Udp → List ℕ
udp_with sum udp = two udp.from_port ++ two udp.to_port ++ two (8 + length udp.body) ++ two sum ++ udp.body

-- the words that the sum is over: the addresses, the protocol and the length stand before the datagram
abbrev pub summed : (from to : ℕ) → List ℕ → ℕ
summed from to octets = before_sum from to udp_proto (length octets) + word_sum octets

-- a sum of 0 says that there is none, so a computed 0 is written as its other form
abbrev pub written_sum : ℕ → ℕ
written_sum sum = if checksum sum == 0 then 65535 else checksum sum

-- what is written, with the sum that holds
abbrev pub udp_octets : (from to : ℕ) → Udp → List ℕ
udp_octets from to udp = udp_with (written_sum (summed from to (udp_with 0 udp))) udp

-- the grammar: the fields in their order, a sum that holds or none, and octets that belong to no packet
pub record IsUdp (from to : ℕ) (octets : List ℕ) (udp : Udp) : Type 0 where
  pub from_port : udp.from_port < 2 ^ 16
  pub to_port : udp.to_port < 2 ^ 16
  pub size : 8 + length udp.body < 2 ^ 16
  pub sum : ℕ
  pub sum_fits : sum < 2 ^ 16
  pub holds : ((sum == 0) || sum_ok (summed from to (udp_with sum udp))) ≡ true
  pub rest : List ℕ
  pub is : octets ≡ udp_with sum udp ++ rest

-- the octets up to the length that they say
abbrev pub within : List ℕ → List ℕ
within octets = take (two_at octets 4) octets

-- a length from 8 to what came, and a sum that holds or none
abbrev pub is_udp : (from to : ℕ) → List ℕ → Bool
is_udp from to octets =
    nat_le 8 (length octets) && nat_le 8 (two_at octets 4) && nat_le (two_at octets 4) (length octets)
    && ((two_at octets 6 == 0) || sum_ok (summed from to (within octets)))

-- the fields that octets encode
abbrev pub read_udp : (from to : ℕ) → List ℕ → Option Udp
read_udp from to octets =
    if is_udp from to octets
    then Some (record { from_port = two_at octets 0; to_port = two_at octets 2; body = part octets 8 (two_at octets 4 - 8) })
    else None

-- the first fault of octets that encode none
abbrev pub udp_fault : (from to : ℕ) → List ℕ → Option Fault
udp_fault from to octets =
    if nat_lt (length octets) 8 then Some (record { kind = Short; at = length octets })
    else (if nat_lt (two_at octets 4) 8 || nat_lt (length octets) (two_at octets 4) then Some (record { kind = BadLength; at = 4 })
    else (if not ((two_at octets 6 == 0) || sum_ok (summed from to (within octets))) then Some (record { kind = BadSum; at = 6 })
    else None))

-- what we write: the sum is there, and no octets behind
pub record IsPlain (from to : ℕ) (octets : List ℕ) (udp : Udp) (g : IsUdp from to octets udp) : Type 0 where
  pub rest : g.rest ≡ []
  pub sum : g.sum ≡ written_sum (summed from to (udp_with 0 udp))

-- the fields as the grammar names them
abbrev pub udp_of : UdpView → Udp
udp_of v = record { from_port = v.from_port; to_port = v.to_port; body = v.body.now }

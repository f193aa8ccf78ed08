-- Frames of Ethernet (RFC 894): two hardware addresses, the kind of packet, and the packet.
use Rattle.std.specs.Prelude.{◌≡◌, ℕ, ◌<◌, ◌^◌, nat_le, nat_lt, List, ◌++◌, length, drop, Option, Some, None, if◌then◌else◌}
use Rattle.net_octets.specs.Octets.{two_at, part, two}
use Rattle.net_octets.specs.declared.Fault.{Fault}
use Rattle.net_octets.specs.declared.FaultKind.TheVariants.{Short}
use Rattle.ether_frame.specs.declared.EtherView.{EtherView}

pub record Ether : Type 0 where
  pub to : List ℕ
  pub from : List ℕ
  pub kind : ℕ
  pub body : List ℕ

abbrev pub ether_octets : List ℕ → List ℕ → ℕ → List ℕ → List ℕ
ether_octets to from kind body = to ++ from ++ two kind ++ body

-- the grammar: the fields in their order, and all the rest is the packet
pub record IsEther (octets : List ℕ) (ether : Ether) : Type 0 where
  pub to : length ether.to ≡ 6
  pub from : length ether.from ≡ 6
  pub kind : ether.kind < 2 ^ 16
  pub is : octets ≡ ether_octets ether.to ether.from ether.kind ether.body

-- the fields that octets encode
abbrev pub read_ether : List ℕ → Option Ether
read_ether octets =
    if nat_le 14 (length octets)
    then Some (record { to = part octets 0 6; from = part octets 6 6; kind = two_at octets 12; body = drop 14 octets })
    else None

-- the first fault of octets that encode none
abbrev pub ether_fault : List ℕ → Option Fault
ether_fault octets =
    if nat_lt (length octets) 14
    then Some (record { kind = Short; at = length octets })
    else None

-- a frame without where its packet lies in memory
abbrev pub ether_of : EtherView → Ether
ether_of v = record { to = v.to.0; from = v.from.0; kind = v.kind; body = v.body.now }

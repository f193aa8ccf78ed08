-- Packets of ARP for IPv4 over Ethernet (RFC 826): whose hardware address is asked or told.
use Rattle.std.specs.Prelude.{◌≡◌, ℕ, ◌<◌, ◌^◌, ◌==◌, ◌&&◌, ◌||◌, not, nat_le, nat_lt, Bool, false, List, [], ◌∷◌, ◌++◌, length, Option, Some, None, if◌then◌else◌}
use Rattle.net_octets.specs.Kinds.{ipv4_kind}
use Rattle.net_octets.specs.Octets.{one_at, two_at, four_at, our_mac, part, two, four}
use Rattle.net_octets.specs.declared.Fault.{Fault}
use Rattle.net_octets.specs.declared.FaultKind.TheVariants.{Short, BadKind, BadLength}
use Rattle.arp_table.specs.declared.ArpView.{ArpView}

pub record Arp : Type 0 where
  pub is_reply : Bool
  pub sender_mac : List ℕ
  pub sender : ℕ
  pub target_mac : List ℕ
  pub target : ℕ

-- hardware Ethernet, protocol IPv4, addresses of 6 and 4 octets, a request or a reply, and the addresses
abbrev pub arp_octets : Arp → List ℕ
arp_octets arp =
    two 1 ++ two ipv4_kind ++ 6 ∷ 4 ∷ two (if arp.is_reply then 2 else 1)
    ++ arp.sender_mac ++ four arp.sender ++ arp.target_mac ++ four arp.target

-- the hardware address to which all listen (RFC 894), and the one that stands where none is known yet
abbrev pub everyone : List ℕ
everyone = 255 ∷ 255 ∷ 255 ∷ 255 ∷ 255 ∷ 255 ∷ []

abbrev pub nobody : List ℕ
nobody = 0 ∷ 0 ∷ 0 ∷ 0 ∷ 0 ∷ 0 ∷ []

-- an address of ours asks for the hardware address of another, of everyone
abbrev pub asking : (ours other : ℕ) → Arp
asking ours other = record { is_reply = false; sender_mac = our_mac ours; sender = ours; target_mac = nobody; target = other }

-- the grammar: the fields in their order, and octets that belong to no packet
pub record IsArp (octets : List ℕ) (arp : Arp) : Type 0 where
  pub sender_mac : length arp.sender_mac ≡ 6
  pub sender : arp.sender < 2 ^ 32
  pub target_mac : length arp.target_mac ≡ 6
  pub target : arp.target < 2 ^ 32
  pub rest : List ℕ
  pub is : octets ≡ arp_octets arp ++ rest

abbrev pub is_arp : List ℕ → Bool
is_arp octets =
    nat_le 28 (length octets) && (two_at octets 0 == 1) && (two_at octets 2 == ipv4_kind) && (one_at octets 4 == 6) && (one_at octets 5 == 4)
    && ((two_at octets 6 == 1) || (two_at octets 6 == 2))

-- the fields that octets encode
abbrev pub read_arp : List ℕ → Option Arp
read_arp octets =
    if is_arp octets
    then Some (record { is_reply = two_at octets 6 == 2; sender_mac = part octets 8 6; sender = four_at octets 14; target_mac = part octets 18 6; target = four_at octets 24 })
    else None

-- the first fault of octets that encode none
abbrev pub arp_fault : List ℕ → Option Fault
arp_fault octets =
    if nat_lt (length octets) 28 then Some (record { kind = Short; at = length octets })
    else (if not (two_at octets 0 == 1) then Some (record { kind = BadKind; at = 0 })
    else (if not (two_at octets 2 == ipv4_kind) then Some (record { kind = BadKind; at = 2 })
    else (if not (one_at octets 4 == 6) then Some (record { kind = BadLength; at = 4 })
    else (if not (one_at octets 5 == 4) then Some (record { kind = BadLength; at = 5 })
    else (if not ((two_at octets 6 == 1) || (two_at octets 6 == 2)) then Some (record { kind = BadKind; at = 6 })
    else None)))))

-- the fields as the grammar names them
abbrev pub arp_of : ArpView → Arp
arp_of v = record { is_reply = v.reply; sender_mac = v.sender_mac.0; sender = v.sender_ip.0; target_mac = v.target_mac.0; target = v.target_ip.0 }

-- A list of pairs of an IPv4 address and its hardware address, the one learnt last first.
use Rattle.std.specs.Prelude.{◌==◌, not, List, ◌∷◌, Bool, Option, option_map, filter, take}
use Rattle.std.specs.List.{find}
use Rattle.net_octets.specs.declared.Ip4.{Ip4}
use Rattle.net_octets.specs.declared.Mac.{Mac}

abbrev pub is_for : Ip4 → Ip4 × Mac → Bool
is_for ip pair = pair.0.0 == ip.0

-- the new pair, then those of other addresses, 64 in all at most
abbrev pub learnt : Ip4 → Mac → List (Ip4 × Mac) → List (Ip4 × Mac)
learnt ip mac pairs = take 64 ((ip, mac) ∷ filter (λ pair. not (is_for ip pair)) pairs)

-- the hardware address of the first pair that has the address
abbrev pub mac_of : Ip4 → List (Ip4 × Mac) → Option Mac
mac_of ip pairs = option_map (λ pair. pair.1) (find (is_for ip) pairs)

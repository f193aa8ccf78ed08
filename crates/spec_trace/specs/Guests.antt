-- Which hardware addresses were learnt for which guests.
use Rattle.std.specs.Prelude.{List, [], ◌∷◌, Option, Some, None}
use Rattle.net_octets.specs.declared.Ip4.{Ip4}
use Rattle.net_octets.specs.declared.Mac.{Mac}
use Rattle.world_face.specs.Journal.{Entry}
use Rattle.slirp_settings.specs.Addresses.{Config}
use Rattle.arp_table.specs.Table.{learnt}
use Rattle.spec_trace.specs.Happenings.{Arrival, Happening, happens}
use Rattle.spec_trace.specs.Packets.{Pair}

abbrev pub with_pair : Option Pair → List (Ip4 × Mac) → List (Ip4 × Mac)
with_pair None pairs = pairs
with_pair (Some pair) pairs = learnt (record { 0 = pair.address }) (record { 0 = pair.mac }) pairs

-- a guest's address is known by the pair learnt last
abbrev pub with_arrival : Option Arrival → List (Ip4 × Mac) → List (Ip4 × Mac)
with_arrival None pairs = pairs
with_arrival (Some arrival) pairs = with_pair arrival.pair pairs

-- the 64 guests that were learnt last, the newest first
abbrev pub known : Config → List Entry → List (Ip4 × Mac)
known config [] = []
known config (e ∷ past) = with_arrival (happens config past e).came (known config past)

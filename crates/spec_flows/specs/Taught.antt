-- From which hardware addresses each guest was learnt.
use Rattle.std.specs.Prelude.{ℕ, ◌==◌, ◌&&◌, Bool, List, [], ◌∷◌, bytes_eq, Option, Some, None}
use Rattle.net_octets.specs.declared.Ip4.{Ip4}
use Rattle.net_octets.specs.declared.Mac.{Mac}
use Rattle.world_face.specs.Journal.{Entry}
use Rattle.slirp_settings.specs.Addresses.{Config}
use Rattle.spec_trace.specs.Happenings.{Arrival, happens}
use Rattle.spec_trace.specs.Packets.{Pair}

abbrev pub taught_pair : Option Pair → List (Ip4 × Mac) → List (Ip4 × Mac)
taught_pair None pairs = pairs
taught_pair (Some pair) pairs = (record { 0 = pair.address }, record { 0 = pair.mac }) ∷ pairs

abbrev pub taught_by : Option Arrival → List (Ip4 × Mac) → List (Ip4 × Mac)
taught_by None pairs = pairs
taught_by (Some arrival) pairs = taught_pair arrival.pair pairs

-- all pairs of a guest and a hardware address from which a frame of it came, the newest first (RFC 826)
abbrev pub taught : Config → List Entry → List (Ip4 × Mac)
taught config [] = []
taught config (e ∷ past) = taught_by (happens config past e).came (taught config past)

abbrev pub is_pair : ℕ → List ℕ → Ip4 × Mac → Bool
is_pair guest mac pair = (pair.0.0 == guest) && bytes_eq pair.1.0 mac

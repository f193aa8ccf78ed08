-- Fragments of the guests' datagrams, and the sets of them that wait to be joined (RFC 791, 3.2).
use Rattle.std.specs.Prelude.{ℕ, ◌==◌, ◌&&◌, not, List, [], ◌∷◌, Option, Some, None, option_and_then, if◌then◌else◌}
use Rattle.net_octets.specs.Kinds.{ipv4_kind}
use Rattle.net_octets.specs.Octets.{one_at}
use Rattle.world_face.specs.Journal.{Entry}
use Rattle.world_face.specs.Frames.{arrives}
use Rattle.slirp_settings.specs.Addresses.{Config, is_guest}
use Rattle.ether_frame.specs.Ether.{Ether, read_ether}
use Rattle.ipv4_head.specs.Ip.{Ip, read_ip, is_unbroken}
use Rattle.ipv4_head.specs.Sets.{Key, Part, PartSet, sets_left, whole_with, young}
use Rattle.spec_trace.specs.Moments.{moment}

-- a part of a datagram, and which datagram it is of
pub record Fragment : Type 0 where
  pub key : Key
  pub part : Part

abbrev pub key_by : Ip → Key
key_by ip = record { from = ip.from; to = ip.to; proto = ip.proto; ident = ip.ident }

-- the time to live is the ninth octet
abbrev pub part_by : List ℕ → Ip → Part
part_by octets ip = record { place = ip.place; more = ip.more; life = one_at octets 8; head = ip.head; body = ip.body }

-- the fragment that octets hold, of any protocol; its source is a guest
abbrev pub fragment_by : Config → List ℕ → Ip → Option Fragment
fragment_by config octets ip = if is_guest config ip.from && not (is_unbroken ip) then Some (record { key = key_by ip; part = part_by octets ip }) else None

abbrev pub fragment_of : Config → Ether → Option Fragment
fragment_of config ether = if ether.kind == ipv4_kind then option_and_then (fragment_by config ether.body) (read_ip ether.body) else None

abbrev pub fragment_in : Config → List ℕ → Option Fragment
fragment_in config frame = option_and_then (fragment_of config) (read_ether frame)

-- the sets after a fragment came at this moment: sets of 60,000 ms go before, and one that it makes whole goes then
abbrev pub with_fragment : ℕ → Option Fragment → List PartSet → List PartSet
with_fragment now None sets = sets
with_fragment now (Some f) sets = sets_left now f.key f.part sets

abbrev pub with_frame : Config → ℕ → Option (List ℕ) → List PartSet → List PartSet
with_frame config now None sets = sets
with_frame config now (Some frame) sets = with_fragment now (fragment_in config frame) sets

-- the sets that wait, the oldest first
abbrev pub sets : Config → List Entry → List PartSet
sets config [] = []
sets config (e ∷ past) = with_frame config (moment past) (arrives e past) (sets config past)

-- of which those go on waiting that are less than 60,000 ms old
abbrev pub waiting : Config → List Entry → List PartSet
waiting config past = young (moment past) (sets config past)

-- The datagram that arrives by what a frame carries: it, where it is whole, or that to which its set joins by it.
abbrev pub joined_by : ℕ → List PartSet → Option Fragment → Option Ip
joined_by now waiting None = None
joined_by now waiting (Some f) = whole_with now f.key f.part waiting

abbrev pub arrived : Config → ℕ → List PartSet → List ℕ → Ip → Option Ip
arrived config now waiting octets ip = if is_unbroken ip then Some ip else joined_by now waiting (fragment_by config octets ip)

-- Fragments and joined datagrams as the core has them.
use Rattle.std.specs.Prelude.{◌≡◌, ℕ, ◌≤◌, Bool, true, false, List, take, Option, None}
use Rattle.std.specs.Option.{option_and_then, option_map}
use Rattle.net_octets.specs.Octets.{part}
use Rattle.slirp_settings.specs.Addresses.{Config, is_guest}
use Rattle.ether_frame.specs.Ether.{read_ether}
use Rattle.ipv4_head.specs.Ip.{Ip}
use Rattle.ipv4_head.specs.Sets.{Carrying, Key, OfSets, Part, PartSet, sets_left, whole_with, young}
use Rattle.ipv4_reasm.specs.Areas.{Gathered, StandFor}
use Rattle.spec_trace.specs.Fragments.{Fragment, key_by, with_fragment}
use Rattle.spec_run.specs.Answers.{frames_of}
use Rattle.slirp_core.specs.Packets.{leases_with, owed_for, owed_for_arrived, owed_for_frame, owed_for_ip, udp_in, udp_of, udp_of_arrived, with_ether, with_ip}
use Rattle.slirp_core.specs.State.{SlirpState, serving_of}
use Rattle.slirp_core.specs.declared.fragments.Assembled.{Assembled}

-- the areas stand for these sets, each part of which carries octets
pub record IsHeld (areas : List Gathered) (held : List PartSet) : Type 0 where
  pub stand : StandFor areas held
  pub carry : OfSets Carrying held

-- the joined datagram at the front of the octets
abbrev pub assembled_ip : Assembled → List ℕ → Ip
assembled_ip a octets = record { ident = a.ident; more = false; place = 0; proto = a.proto; from = a.from.0; to = a.to.0; head = take a.head octets; body = part octets a.head a.body }

-- a joined datagram: a header of at most 60 octets, and a body of at most 65,515 (RFC 791, 3.1)
abbrev pub FitsAssembled : Assembled → Type 0
FitsAssembled a = (a.head ≤ 60) × (a.body ≤ 65515)

-- these areas stand for the sets that those of the network stand for, once this fragment came
abbrev pub HoldWith : SlirpState → Option Fragment → List Gathered → Type 0
HoldWith slirp fragment parts = (held : List PartSet) → IsHeld slirp.fragments held → IsHeld parts (with_fragment slirp.moment fragment held)

-- a part came at this moment: the areas stand for the sets as they are then, and what it made whole stands in the buffer
pub record Took (now : ℕ) (key : Key) (p : Part) (held : List PartSet) (areas : List Gathered) (assembled : Option Assembled) (octets : List ℕ) : Type 0 where
  pub held_by : IsHeld areas (sets_left now key p held)
  pub whole : option_map (λ a. assembled_ip a octets) assembled ≡ whole_with now key p (young now held)

-- the same of a part that counts only where it is a guest's
abbrev pub GathersIf : Bool → SlirpState → List PartSet → Ip → Part → List Gathered → Option Assembled → List ℕ → Type 0
GathersIf true slirp held ip p areas assembled octets = Took slirp.moment (key_by ip) p held areas assembled octets
GathersIf false slirp held ip p areas assembled octets = (areas ≡ slirp.fragments) × (assembled ≡ None)

abbrev pub Gathers : SlirpState → List PartSet → Ip → Part → List Gathered → Option Assembled → List ℕ → Type 0
Gathers slirp held ip p areas assembled octets = GathersIf (is_guest slirp.config ip.from) slirp held ip p areas assembled octets

-- the network once a whole datagram is taken in that came from this hardware address
abbrev pub after_ip : SlirpState → List ℕ → Ip → SlirpState
after_ip s mac ip = record s {
  pending = frames_of s.config s.sent (owed_for_ip s.config (serving_of s) mac ip);
  leases = leases_with s.config s.moment (udp_of s.config mac ip) s.leases;
}

-- once octets of IPv4 are that came from it, while these sets of fragments wait, with these areas then
abbrev pub after_octets : SlirpState → List PartSet → List ℕ → List ℕ → List Gathered → Option Ip → SlirpState
after_octets s waiting mac octets parts ip = record s {
  pending = frames_of s.config s.sent (owed_for (owed_for_arrived s.config (serving_of s) waiting mac octets) ip);
  known = with_ip s.config mac ip s.known;
  fragments = parts;
  leases = leases_with s.config s.moment (option_and_then (udp_of_arrived s.config s.moment waiting mac octets) ip) s.leases;
}

-- and once a frame is, by these settings
abbrev pub after_frame : Config → SlirpState → List PartSet → List Gathered → List ℕ → SlirpState
after_frame config s waiting parts frame = record s {
  pending = frames_of config s.sent (owed_for_frame config (serving_of s) waiting frame);
  known = with_ether config (read_ether frame) s.known;
  fragments = parts;
  leases = leases_with config s.moment (udp_in config s.moment waiting frame) s.leases;
}

-- What came on the link, and is still to be taken in: a frame, octets of IPv4, a whole datagram.
use Rattle.std.specs.Prelude.{◌≡◌, ℕ, List, [], ◌++◌, Some, false}
use Rattle.std.specs.Option.{option_and_then}
use Rattle.world_face.specs.Journal.{Entry, AreAllowed}
use Rattle.slirp_settings.specs.Addresses.{Config}
use Rattle.stream_netdev.specs.Keeps.{Keeps, ReadsFrame, hands}
use Rattle.stream_netdev.specs.State.{LinkState}
use Rattle.stream_netdev.specs.declared.Arrived.TheVariants.{Frame}
use Rattle.ipv4_head.specs.Ip.{Ip, read_ip}
use Rattle.ipv4_head.specs.Sets.{PartSet, young}
use Rattle.ipv4_reasm.specs.Areas.{Gathered}
use Rattle.spec_trace.specs.Fragments.{fragment_by}
use Rattle.slirp_core.specs.Fragments.{HoldWith, IsHeld, after_ip, after_octets}
use Rattle.slirp_core.specs.Holds.{WorkLeft, Standing, Holds, flowing}
use Rattle.slirp_core.specs.Packets.{request_for_udp, udp_of, udp_of_arrived}
use Rattle.slirp_core.specs.Segments.{segment_of_arrived, segment_of_ip}
use Rattle.slirp_core.specs.State.{SlirpState}

-- The newest calls are reads of the link that made this frame whole. Before them all stood as it must, with nothing left to be sent; the network is as it was then, and the link as they left it.
pub record FrameCame (config : Config) (at : Standing) (slirp : SlirpState) (link : LinkState) (frame : List ℕ) (now : List Entry) : Type 0 where
  pub before : LinkState
  pub past : List Entry
  pub made : List Entry
  pub is : made ++ past ≡ now
  pub holds : Holds config at slirp (flowing false slirp.flows) before past
  pub out : before.tail ≡ []
  pub allowed : AreAllowed made
  pub reads : (past : List Entry) → Keeps before past → Keeps link (made ++ past) × ReadsFrame Frame link made past
  pub came : hands Frame link ≡ Some frame

-- Octets of IPv4 came from this hardware address: with whichever areas stand for the fragments that wait then, the network as it is once they are taken in still
-- has to do what they ask for.
pub record OctetsCame (config : Config) (at : Standing) (slirp : SlirpState) (link : LinkState) (mac octets : List ℕ) (now : List Entry) : Type 0 where
  pub held : List PartSet
  pub is_held : IsHeld slirp.fragments held
  pub asks : (parts : List Gathered) → HoldWith slirp (option_and_then (fragment_by slirp.config octets) (read_ip octets)) parts
      → WorkLeft config at (after_octets slirp (young slirp.moment held) mac octets parts (read_ip octets)) link
      (request_for_udp slirp.config (option_and_then (udp_of_arrived slirp.config slirp.moment (young slirp.moment held) mac octets) (read_ip octets)))
      (option_and_then (segment_of_arrived slirp.config slirp.moment (young slirp.moment held) mac octets) (read_ip octets)) now

-- A whole datagram came from it: the network as it is once that is taken in still has to do what it asks for.
abbrev pub DatagramCame : Config → Standing → SlirpState → LinkState → List ℕ → Ip → List Entry → Type 0
DatagramCame config at slirp link mac ip now =
    WorkLeft config at (after_ip slirp mac ip) link (request_for_udp slirp.config (udp_of slirp.config mac ip)) (segment_of_ip slirp.config mac ip) now

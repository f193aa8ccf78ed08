-- What an entry of the trace means after a past: the packet that came by it, the frame that went out by it, or the call alone.
use Rattle.std.specs.Prelude.{ℕ, List, Option, option_map, None, Some}
use Rattle.world_face.specs.Journal.{Entry}
use Rattle.world_face.specs.Frames.{arrives, goes_out}
use Rattle.slirp_settings.specs.Addresses.{Config}
use Rattle.ipv4_head.specs.Sets.{PartSet}
use Rattle.spec_trace.specs.Fragments.{waiting}
use Rattle.spec_trace.specs.Moments.{moment}
use Rattle.spec_trace.specs.Packets.{Packet, Pair, Datagram, DatagramPacket, packet_in, pair_in}

-- a frame came that is whole by this entry: what it teaches, and what it holds or makes whole
pub record Arrival : Type 0 where
  pub pair : Option Pair
  pub packet : Packet

-- what an entry means after a past: the frame that is whole by it, the frame that went out by it, and the call itself
pub record Happening : Type 0 where
  -- a frame came
  pub came : Option Arrival
  -- a frame went out
  pub went : Option (List ℕ)
  -- the call, with its answer
  pub call : Entry

abbrev pub arrival_of : Config → ℕ → List PartSet → List ℕ → Arrival
arrival_of config now waiting frame = record { pair = pair_in config frame; packet = packet_in config now waiting frame }

abbrev pub happens : Config → List Entry → Entry → Happening
happens config past e = record { came = option_map (arrival_of config (moment past) (waiting config past)) (arrives e past); went = goes_out e past; call = e }

-- the datagram that came
abbrev pub datagram_by : Packet → Option Datagram
datagram_by (DatagramPacket d) = Some d
datagram_by _ = None

abbrev pub datagram_came : Option Arrival → Option Datagram
datagram_came None = None
datagram_came (Some arrival) = datagram_by arrival.packet

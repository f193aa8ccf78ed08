-- The messages of clients of DHCP that came, by the trace of calls, as a history of dhcp_server.
use Rattle.std.specs.Prelude.{ℕ, ◌≤◌, ⊤, List, [], ◌∷◌, ◌++◌, Option, Some, None}
use Rattle.world_face.specs.Journal.{Entry}
use Rattle.slirp_settings.specs.Addresses.{Config}
use Rattle.rules_dhcp.specs.History.{Received}
use Rattle.spec_trace.specs.Happenings.{Arrival, happens}
use Rattle.spec_trace.specs.Moments.{moment}
use Rattle.spec_trace.specs.Packets.{Packet, Datagram, DatagramPacket}
use Rattle.spec_run.specs.Datagrams.{DatagramVerdict, ForLeases, datagram_verdict}

-- a datagram for the server of leases is a message, at this moment
abbrev pub message_by_verdict : ℕ → Datagram → DatagramVerdict → List Received
message_by_verdict now d ForLeases = record { at = now; octets = d.body } ∷ []
message_by_verdict now d _ = []

abbrev pub message_by_packet : Config → ℕ → Packet → List Received
message_by_packet config now (DatagramPacket d) = message_by_verdict now d (datagram_verdict config d)
message_by_packet config now _ = []

abbrev pub message_by : Config → ℕ → Option Arrival → List Received
message_by config now None = []
message_by config now (Some arrival) = message_by_packet config now arrival.packet

-- each with the moment in force when it came, newest first
abbrev pub messages : Config → List Entry → List Received
messages config [] = []
messages config (e ∷ past) = message_by config (moment past) (happens config past e).came ++ messages config past

-- none came later than this moment, nor than one behind which it stands
abbrev pub AreInOrder : ℕ → List Received → Type 0
AreInOrder now [] = ⊤
AreInOrder now (r ∷ before) = (r.at ≤ now) × AreInOrder r.at before

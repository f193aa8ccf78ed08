-- The addresses that are leased, by the trace of calls, and the datagram that a message of a client owes (RFC 2131).
use Rattle.std.specs.Prelude.{ℕ, List, [], ◌∷◌, replicate, Option, Some, None}
use Rattle.net_octets.specs.declared.Endpoint.{Endpoint}
use Rattle.world_face.specs.Journal.{Entry}
use Rattle.slirp_settings.specs.Addresses.{Config}
use Rattle.rules_udp.specs.declared.Reply.{Reply}
use Rattle.rules_udp.specs.declared.Reply.TheVariants.{Datagram as ADatagram}
use Rattle.rules_dhcp.specs.declared.Lease.{Lease}
use Rattle.rules_dhcp.specs.declared.Lease.TheVariants.{Free}
use Rattle.rules_dhcp.specs.Messages.{read_message}
use Rattle.rules_dhcp.specs.Replies.{replied_octets, reply_to}
use Rattle.rules_dhcp.specs.Serving.{leases_after}
use Rattle.spec_trace.specs.Happenings.{Arrival, happens}
use Rattle.spec_trace.specs.Moments.{moment}
use Rattle.spec_trace.specs.Packets.{Packet, Datagram, DatagramPacket}
use Rattle.spec_run.specs.Datagrams.{DatagramVerdict, ForLeases, datagram_verdict}

-- what a datagram for the server of leases makes of them, at this moment
abbrev pub leases_by_verdict : Config → ℕ → Datagram → DatagramVerdict → List Lease → List Lease
leases_by_verdict config now d ForLeases leases = leases_after config now d.body leases
leases_by_verdict config now d _ leases = leases

abbrev pub leases_by_packet : Config → ℕ → Packet → List Lease → List Lease
leases_by_packet config now (DatagramPacket d) leases = leases_by_verdict config now d (datagram_verdict config d) leases
leases_by_packet config now _ leases = leases

abbrev pub leases_by : Config → ℕ → Option Arrival → List Lease → List Lease
leases_by config now None leases = leases
leases_by config now (Some arrival) leases = leases_by_packet config now arrival.packet leases

-- of each of the 16 addresses, in their order, who has it
abbrev pub leases : Config → List Entry → List Lease
leases config [] = replicate 16 Free
leases config (e ∷ past) = leases_by config (moment past) (happens config past e).came (leases config past)

-- a datagram of ours: from which of our ends, to which end at which hardware address, and its payload
pub record Sending : Type 0 where
  pub mac : List ℕ
  pub from : Endpoint
  pub to : Endpoint
  pub body : List ℕ

-- the reply to a client, where it has a hardware address
abbrev pub sending_of : Reply → List ℕ → List Sending
sending_of (ADatagram count from to (Some mac)) octets = record { mac = mac.0; from = from; to = to; body = octets } ∷ []
sending_of _ octets = []

-- the reply that a message owes, by the leases before it
abbrev pub lease_reply : Config → ℕ → List Lease → Datagram → List Sending
lease_reply config now leases d = sending_of (reply_to config now leases (read_message d.body)) (replied_octets config now leases (read_message d.body))

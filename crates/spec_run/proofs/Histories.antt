-- The leases of the trace are those of a history of messages, and that is in order.
use Rattle.std.proofs.Common.{◌≡◌, ℕ, ◌≤◌, arith, List, [], ◌∷◌, ◌++◌, Option, Some, None, refl, ap, ◌∙◌}
use Rattle.world_face.specs.Journal.{Entry}
use Rattle.slirp_settings.specs.Addresses.{Config}
use Rattle.rules_dhcp.specs.History.{Received, leases_over}
use Rattle.spec_trace.specs.Happenings.{Arrival, happens}
use Rattle.spec_trace.specs.Moments.{moment}
use Rattle.spec_trace.specs.Packets.{Packet, Datagram, Unheard, ArpPacket, Message, DatagramPacket, Segment}
use Rattle.spec_run.specs.Datagrams.{DatagramVerdict, Ignored, Refused, ForLeases, ForFiles, GoesTo, datagram_verdict}
use Rattle.spec_run.specs.Leasing.{leases, leases_by, leases_by_verdict, leases_by_packet}
use Rattle.spec_run.specs.Messages.{messages, message_by, message_by_verdict, message_by_packet, AreInOrder}
use Rattle.spec_run.proofs.KeptFiles.{rises}

by_datagram_verdict : (config : Config) (now : ℕ) (d : Datagram) (f : DatagramVerdict) (before : List Received) →
    leases_by_verdict config now d f (leases_over config before) ≡ leases_over config (message_by_verdict now d f ++ before)
by_datagram_verdict config now d ForLeases before = refl
by_datagram_verdict config now d Ignored before = refl
by_datagram_verdict config now d Refused before = refl
by_datagram_verdict config now d ForFiles before = refl
by_datagram_verdict config now d (GoesTo to) before = refl

by_packet : (config : Config) (now : ℕ) (packet : Packet) (before : List Received) →
    leases_by_packet config now packet (leases_over config before) ≡ leases_over config (message_by_packet config now packet ++ before)
by_packet config now (DatagramPacket d) before = by_datagram_verdict config now d (datagram_verdict config d) before
by_packet config now Unheard before = refl
by_packet config now (ArpPacket arp) before = refl
by_packet config now (Message mac ip icmp) before = refl
by_packet config now (Segment mac ip tcp) before = refl

by_arrival : (config : Config) (now : ℕ) (came : Option Arrival) (before : List Received) →
    leases_by config now came (leases_over config before) ≡ leases_over config (message_by config now came ++ before)
by_arrival config now None before = refl
by_arrival config now (Some arrival) before = by_packet config now arrival.packet before

pub of_messages : (config : Config) (past : List Entry) → leases config past ≡ leases_over config (messages config past)
of_messages config [] = refl
of_messages config (e ∷ past) =
    ap (leases_by config (moment past) (happens config past e).came) (of_messages config past)
    ∙ by_arrival config (moment past) (happens config past e).came (messages config past)

-- ---- in order

later : (now after : ℕ) (history : List Received) → now ≤ after → AreInOrder now history → AreInOrder after history
later now after [] less are = tt
later now after (r ∷ before) less are = (omega (arith, are.0, less), are.1)

order_by_verdict : (now after : ℕ) (d : Datagram) (f : DatagramVerdict) (before : List Received) → now ≤ after → AreInOrder now before → AreInOrder after (message_by_verdict now d f ++ before)
order_by_verdict now after d ForLeases before less are = (less, are)
order_by_verdict now after d Ignored before less are = later now after before less are
order_by_verdict now after d Refused before less are = later now after before less are
order_by_verdict now after d ForFiles before less are = later now after before less are
order_by_verdict now after d (GoesTo to) before less are = later now after before less are

order_by_packet : (config : Config) (now after : ℕ) (packet : Packet) (before : List Received) → now ≤ after → AreInOrder now before →
    AreInOrder after (message_by_packet config now packet ++ before)
order_by_packet config now after (DatagramPacket d) before less are = order_by_verdict now after d (datagram_verdict config d) before less are
order_by_packet config now after Unheard before less are = later now after before less are
order_by_packet config now after (ArpPacket arp) before less are = later now after before less are
order_by_packet config now after (Message mac ip icmp) before less are = later now after before less are
order_by_packet config now after (Segment mac ip tcp) before less are = later now after before less are

order_by : (config : Config) (now after : ℕ) (came : Option Arrival) (before : List Received) → now ≤ after → AreInOrder now before →
    AreInOrder after (message_by config now came ++ before)
order_by config now after None before less are = later now after before less are
order_by config now after (Some arrival) before less are = order_by_packet config now after arrival.packet before less are

pub in_order : (config : Config) (past : List Entry) → AreInOrder (moment past) (messages config past)
in_order config [] = tt
in_order config (e ∷ past) =
    order_by config (moment past) (moment (e ∷ past)) (happens config past e).came (messages config past) (rises e past) (in_order config past)

-- No client has two of the addresses that are leased, whatever came.
use Rattle.std.proofs.Common.{◌≡◌, ℕ, List, [], ◌∷◌, length, Option, Some, None, refl}
use Rattle.world_face.specs.Journal.{Entry}
use Rattle.slirp_settings.specs.Addresses.{Config}
use Rattle.rules_dhcp.specs.Leases.{IsOneToOne}
use Rattle.rules_dhcp.specs.declared.Lease.{Lease}
use Rattle.rules_dhcp.proofs.Owning.{all_free, good_after}
use Rattle.spec_trace.specs.Happenings.{Arrival, happens}
use Rattle.spec_trace.specs.Moments.{moment}
use Rattle.spec_trace.specs.Packets.{Packet, Datagram, Unheard, ArpPacket, Message, DatagramPacket, Segment}
use Rattle.spec_run.specs.Datagrams.{DatagramVerdict, Ignored, Refused, ForLeases, ForFiles, GoesTo, datagram_verdict}
use Rattle.spec_run.specs.Leasing.{leases, leases_by, leases_by_verdict, leases_by_packet}

-- each has one at most, and there are 16 yet
abbrev AreLeased : List Lease → Type 0
AreLeased leased = IsOneToOne leased × (length leased ≡ 16)

by_datagram_verdict : (config : Config) (now : ℕ) (d : Datagram) (f : DatagramVerdict) (leased : List Lease) → AreLeased leased → AreLeased (leases_by_verdict config now d f leased)
by_datagram_verdict config now d ForLeases leased are = good_after config now d.body leased are.1 are.0
by_datagram_verdict config now d Ignored leased are = are
by_datagram_verdict config now d Refused leased are = are
by_datagram_verdict config now d ForFiles leased are = are
by_datagram_verdict config now d (GoesTo to) leased are = are

by_packet : (config : Config) (now : ℕ) (packet : Packet) (leased : List Lease) → AreLeased leased → AreLeased (leases_by_packet config now packet leased)
by_packet config now (DatagramPacket d) leased are = by_datagram_verdict config now d (datagram_verdict config d) leased are
by_packet config now Unheard leased are = are
by_packet config now (ArpPacket arp) leased are = are
by_packet config now (Message mac ip icmp) leased are = are
by_packet config now (Segment mac ip tcp) leased are = are

by_arrival : (config : Config) (now : ℕ) (came : Option Arrival) (leased : List Lease) → AreLeased leased → AreLeased (leases_by config now came leased)
by_arrival config now None leased are = are
by_arrival config now (Some arrival) leased are = by_packet config now arrival.packet leased are

are_leased : (config : Config) (past : List Entry) → AreLeased (leases config past)
are_leased config [] = (all_free 16, refl)
are_leased config (e ∷ past) = by_arrival config (moment past) (happens config past e).came (leases config past) (are_leased config past)

pub one_to_one : (config : Config) (past : List Entry) → IsOneToOne (leases config past)
one_to_one config past = (are_leased config past).0

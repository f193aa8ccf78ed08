-- Which datagram of a guest is still to go out.
use Rattle.std.specs.Prelude.{List, [], ◌∷◌, Option, Some, None}
use Rattle.world_face.specs.Journal.{Entry, UdpOpen, UdpSend}
use Rattle.world_face.specs.declared.Made.TheVariants.{Failed}
use Rattle.slirp_settings.specs.Addresses.{Config}
use Rattle.spec_trace.specs.Happenings.{Arrival, happens}
use Rattle.spec_run.specs.Datagrams.{Errand, errand_by_packet}

-- A datagram that is to go out asks for it until it was sent, or could get no socket, or something else came.
abbrev pub errand_by_call : Entry → Option Errand → Option Errand
errand_by_call (UdpOpen socket at Failed) before = None
errand_by_call (UdpSend socket to octets answer) before = None
errand_by_call _ before = before

abbrev pub errand_after : Config → Entry → Option Arrival → Option Errand → Option Errand
errand_after config e None before = errand_by_call e before
errand_after config e (Some arrival) before = errand_by_packet config arrival.packet

abbrev pub errand_left : Config → List Entry → Option Errand
errand_left config [] = None
errand_left config (e ∷ past) = errand_after config e (happens config past e).came (errand_left config past)

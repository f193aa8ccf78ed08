-- What the replies of the sockets for datagrams leave to be sent.
use Rattle.std.specs.Prelude.{ℕ, List, [], ◌∷◌, take, Option, Some, None}
use Rattle.net_octets.specs.declared.Endpoint.{Endpoint}
use Rattle.net_octets.specs.declared.Mac.{Mac}
use Rattle.arp_table.specs.Table.{mac_of as learnt_for}
use Rattle.slirp_settings.specs.Addresses.{Config}
use Rattle.dns_relay.specs.Relaying.{Asked}
use Rattle.rules_udp.specs.declared.Reply.{Reply}
use Rattle.rules_udp.specs.declared.Reply.TheVariants.{Nothing, Datagram as ADatagram, Unreachable}
use Rattle.udp_assoc.specs.Relays.{Outbound}
use Rattle.spec_trace.specs.Packets.{Datagram}
use Rattle.spec_run.specs.Answers.{answer_of, asks_for, frames_of, told_about, reply_at}
use Rattle.spec_run.specs.Datagrams.{Errand}
use Rattle.slirp_core.specs.State.{SlirpState}

-- an errand as the associations have it
abbrev pub outbound_of : Errand → Outbound
outbound_of errand = record { from = errand.datagram.from; mac = record { 0 = errand.datagram.mac }; to = errand.to; body = errand.datagram.body }

-- and as the relay of questions has it
abbrev pub asked_of : Errand → Asked
asked_of errand = record { from = errand.datagram.from; mac = record { 0 = errand.datagram.mac }; to = errand.to; body = errand.datagram.body }

-- a guest whose datagram doesn't go out is told
abbrev pub told_by : SlirpState → Datagram → Reply → List (List ℕ)
told_by slirp d Nothing = slirp.pending
told_by slirp d (ADatagram count from to mac) = slirp.pending
told_by slirp d (Unreachable code) = frames_of slirp.config slirp.sent (told_about slirp.config code d)

-- and gets what a peer sent, whose octets stand at the front of these, at this hardware address, or at the one that was learnt last for it; where none is known it is asked for it
abbrev pub or_learnt : SlirpState → Endpoint → Option Mac → Option Mac
or_learnt slirp guest (Some mac) = Some mac
or_learnt slirp guest None = learnt_for guest.addr slirp.known

abbrev pub owed_at : SlirpState → Endpoint → List ℕ → Endpoint → Option Mac → List (List ℕ)
owed_at slirp peer octets guest (Some mac) = frames_of slirp.config slirp.sent (reply_at slirp.config peer octets guest mac.0)
owed_at slirp peer octets guest None = frames_of slirp.config slirp.sent (asks_for slirp.config peer guest)

abbrev pub owed_by : SlirpState → List ℕ → Reply → List (List ℕ)
owed_by slirp octets Nothing = slirp.pending
owed_by slirp octets (ADatagram count peer guest mac) = owed_at slirp peer (take count octets) guest (or_learnt slirp guest mac)
owed_by slirp octets (Unreachable code) = slirp.pending

-- the datagram of a reply goes out as it is, with this identification; where there is none what was left stays
abbrev pub replied_by : Config → ℕ → List (List ℕ) → Reply → List ℕ → List (List ℕ)
replied_by config ident left Nothing octets = left
replied_by config ident left (ADatagram count from guest (Some mac)) octets = frames_of config ident (answer_of (record { mac = mac.0; from = from; to = guest; body = take count octets }) ∷ [])
replied_by config ident left (ADatagram count from guest None) octets = left
replied_by config ident left (Unreachable code) octets = left

-- so does the answer to a question
abbrev pub answered_by : SlirpState → List ℕ → Reply → List (List ℕ)
answered_by slirp octets reply = replied_by slirp.config slirp.sent slirp.pending reply octets

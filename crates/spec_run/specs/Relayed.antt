-- The list of associations in the order of use, the longest unused first, as a program keeps it. A law says that it has what the trace says of the sockets.
use Rattle.std.specs.Prelude.{ℕ, nat_le, List, [], ◌∷◌, ◌++◌, length, Option, Some, None, if◌then◌else◌}
use Rattle.world_face.specs.Journal.{Entry, Close, UdpOpen, UdpSend, UdpRecv}
use Rattle.world_face.specs.declared.Made.{Made}
use Rattle.world_face.specs.declared.Made.TheVariants.{Done, Failed}
use Rattle.world_face.specs.declared.Got.{Got}
use Rattle.world_face.specs.declared.Got.TheVariants.{From, NotYet as GotNotYet, Failed as GotFailed}
use Rattle.net_octets.specs.declared.Endpoint.{Endpoint}
use Rattle.slirp_settings.specs.Addresses.{Config}
use Rattle.rules_udp.specs.Associations.{most_associations, socket_of, without, moved_last, sent_from, heard_at}
use Rattle.rules_udp.specs.declared.Association.{Association}
use Rattle.rules_dns.specs.declared.Question.{Question}
use Rattle.spec_trace.specs.Moments.{moment}
use Rattle.spec_run.specs.Errands.{errand_left}
use Rattle.spec_run.specs.Names.{step_to_names}
use Rattle.spec_run.specs.Datagrams.{Errand, Step, NeedsNothing, NeedsRoom, NeedsSocket, NeedsSending, asks_a_name}

-- a socket was opened for a datagram that isn't a question to the name server
abbrev pub association : ℕ → Errand → ℕ → Association
association socket errand now = record { number = socket; guest = errand.datagram.from; mac = record { 0 = errand.datagram.mac }; used = now }

abbrev pub with_opened : Config → Made → ℕ → ℕ → Option Errand → List Association → List Association
with_opened config Done socket now None list = list
with_opened config Done socket now (Some errand) list = if asks_a_name config errand then list else list ++ (association socket errand now ∷ [])
with_opened config Failed socket now errand list = list

-- it was sent on
abbrev pub with_sent : ℕ → ℕ → Option Errand → List Association → List Association
with_sent socket now None list = list
with_sent socket now (Some errand) list = moved_last (sent_from (record { 0 = errand.datagram.mac }) now) socket list

-- a peer's datagram was received on it
abbrev pub with_heard : Got → ℕ → ℕ → List Association → List Association
with_heard (From peer n) socket now list = moved_last (heard_at now) socket list
with_heard GotNotYet socket now list = list
with_heard GotFailed socket now list = list

abbrev pub after_call : Config → Entry → ℕ → Option Errand → List Association → List Association
after_call config (Close socket) now errand list = without socket list
after_call config (UdpOpen socket at answer) now errand list = with_opened config answer socket now errand list
after_call config (UdpSend socket to octets answer) now errand list = with_sent socket now errand list
after_call config (UdpRecv socket asked answer octets) now errand list = with_heard answer socket now list
after_call config _ now errand list = list

abbrev pub associations : Config → List Entry → List Association
associations config [] = []
associations config (e ∷ past) = after_call config e (moment past) (errand_left config past) (associations config past)

-- What is asked for, as the list has it: a new socket takes the place of the longest unused one where as many are open as may be
abbrev pub without_socket : List Association → Errand → Step
without_socket [] errand = NeedsSocket errand
without_socket (oldest ∷ associations) errand =
    if nat_le most_associations (length (oldest ∷ associations)) then NeedsRoom oldest.number errand else NeedsSocket errand

abbrev pub with_socket : Option ℕ → List Association → Errand → Step
with_socket None associations errand = without_socket associations errand
with_socket (Some socket) associations errand = NeedsSending socket errand

-- where this is the first port of the host that is given to a port of a guest, it is sent on that
abbrev pub with_forward : Option ℕ → List Association → Errand → Step
with_forward (Some forward) associations errand = NeedsSending forward errand
with_forward None associations errand = with_socket (socket_of errand.datagram.from associations) associations errand

-- a question to the name server has a socket of its own
abbrev pub step_for : Config → List Question → (forward : Endpoint → Option ℕ) → List Association → Option Errand → Step
step_for config questions forward associations None = NeedsNothing
step_for config questions forward associations (Some errand) =
    if asks_a_name config errand then step_to_names questions errand
    else with_forward (forward errand.datagram.from) associations errand

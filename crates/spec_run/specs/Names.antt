-- The questions to the name server that wait for their answer, by the trace of calls.
use Rattle.std.specs.Prelude.{ℕ, ◌==◌, nat_le, nat_lt, Bool, List, [], ◌∷◌, ◌++◌, length, Option, Some, None, if◌then◌else◌}
use Rattle.world_face.specs.Journal.{Entry, Close, UdpOpen, UdpSend, UdpRecv}
use Rattle.world_face.specs.declared.Made.{Made}
use Rattle.world_face.specs.declared.Made.TheVariants.{Done}
use Rattle.world_face.specs.declared.Got.{Got}
use Rattle.world_face.specs.declared.Got.TheVariants.{From}
use Rattle.net_octets.specs.declared.Endpoint.{Endpoint}
use Rattle.slirp_settings.specs.Addresses.{Config}
use Rattle.rules_dns.specs.declared.Question.{Question}
use Rattle.rules_dns.specs.Questions.{asked_from, heard_at, ident_in, is_answered, is_idle, most_questions, moved_last, numbered, socket_of, without}
use Rattle.spec_trace.specs.Moments.{moment, waits}
use Rattle.spec_trace.specs.Sockets.{DnsSocket, Kind, datagram_kind, kind_by}
use Rattle.spec_run.specs.Datagrams.{Errand, Step, NeedsRoom, NeedsSocket, NeedsSending, asks_a_name}
use Rattle.spec_run.specs.Errands.{errand_left}

-- a socket was opened for one
abbrev pub question : ℕ → Errand → ℕ → Question
question socket errand now = record { number = socket; guest = errand.datagram.from; mac = record { 0 = errand.datagram.mac }; ident = ident_in errand.datagram.body; used = now }

abbrev pub with_opened : Config → Made → ℕ → ℕ → Option Errand → List Question → List Question
with_opened config Done socket now (Some errand) list = if asks_a_name config errand then list ++ (question socket errand now ∷ []) else list
with_opened config _ socket now _ list = list

-- it was sent on, and a peer's datagram was received on it
abbrev pub with_sent : ℕ → ℕ → Option Errand → List Question → List Question
with_sent socket now None list = list
with_sent socket now (Some errand) list = moved_last (asked_from (record { 0 = errand.datagram.mac }) now) socket list

abbrev pub with_heard : Got → ℕ → ℕ → List Question → List Question
with_heard (From peer n) socket now list = moved_last (heard_at now) socket list
with_heard _ socket now list = list

abbrev pub after_call : Config → Entry → ℕ → Option Errand → List Question → List Question
after_call config (Close socket) now errand list = without socket list
after_call config (UdpOpen socket at answer) now errand list = with_opened config answer socket now errand list
after_call config (UdpSend socket to octets answer) now errand list = with_sent socket now errand list
after_call config (UdpRecv socket asked answer octets) now errand list = with_heard answer socket now list
after_call config _ now errand list = list

-- the longest unused first
abbrev pub questions : Config → List Entry → List Question
questions config [] = []
questions config (e ∷ past) = after_call config e (moment past) (errand_left config past) (questions config past)

-- A socket that is opened for a question is of a kind of its own; every other one is of that which its entry makes it.
abbrev pub datagram_kind_for : Config → (waited : Bool) (port : ℕ) → Option Errand → Kind
datagram_kind_for config waited port None = datagram_kind waited port
datagram_kind_for config waited port (Some errand) = if asks_a_name config errand then DnsSocket else datagram_kind waited port

abbrev pub kind_after : Config → ℕ → Entry → Bool → Option Errand → Option Kind → Option Kind
kind_after config number (UdpOpen socket at answer) waited errand before = if socket == number then Some (datagram_kind_for config waited at.port errand) else before
kind_after config number e waited errand before = kind_by number e waited before

-- the kind of the socket with this number, by the trace; whether a datagram is a question is no matter of flows, for which `kind_of` is enough
abbrev pub kind_for : Config → ℕ → List Entry → Option Kind
kind_for config number [] = None
kind_for config number (e ∷ past) = kind_after config number e (nat_lt 0 (waits past)) (errand_left config past) (kind_for config number past)

-- A question is sent on the socket of the same question. Where there is none a socket is opened; and before, where as many wait as may be, that of the longest unused one is closed.
abbrev pub without_socket : List Question → Errand → Step
without_socket [] errand = NeedsSocket errand
without_socket (oldest ∷ list) errand = if nat_le most_questions (length (oldest ∷ list)) then NeedsRoom oldest.number errand else NeedsSocket errand

abbrev pub with_socket : Option ℕ → List Question → Errand → Step
with_socket None list errand = without_socket list errand
with_socket (Some socket) list errand = NeedsSending socket errand

abbrev pub step_to_names : List Question → Errand → Step
step_to_names list errand = with_socket (socket_of errand.datagram.from (ident_in errand.datagram.body) list) list errand

-- ---- what comes on their sockets

-- the socket of the question that what came last answers
abbrev pub answered_on : Config → Endpoint → List ℕ → Option Question → Option ℕ
answered_on config peer octets None = None
answered_on config peer octets (Some q) = if is_answered config.resolver q peer octets then Some q.number else None

abbrev pub answered_by : Config → Entry → List Question → Option ℕ
answered_by config (UdpRecv socket asked (From peer n) octets) list = answered_on config peer octets (numbered socket list)
answered_by config _ list = None

-- by the newest call
abbrev pub answered : Config → List Entry → Option ℕ
answered config [] = None
answered config (e ∷ past) = answered_by config e (questions config past)

-- why one may be closed before the end: it waited for long enough
abbrev pub has_waited : Config → List Entry → ℕ → Bool
has_waited config past socket = is_idle socket (moment past) (questions config past)

-- What the laws come to of questions to the name server and of their answers, by the trace of calls.
use Rattle.std.specs.Prelude.{◌≡◌, ℕ, ◌+◌, ◌^◌, ◌<◌, ◌≤◌, ◌==◌, Bool, true, false, List, ◌∷◌, ◌++◌, length, filter, Option, Some}
use Rattle.world_face.specs.Journal.{Entry, UdpSend, UdpRecv}
use Rattle.world_face.specs.declared.Sent.{Sent}
use Rattle.world_face.specs.declared.Got.TheVariants.{From}
use Rattle.net_octets.specs.declared.Endpoint.{Endpoint}
use Rattle.slirp_settings.specs.Addresses.{Config, address, in_network}
use Rattle.rules_dns.specs.declared.Question.{Question}
use Rattle.rules_dns.specs.Questions.{ident_in, is_answer, most_questions, question_life}
use Rattle.spec_trace.specs.Moments.{moment}
use Rattle.spec_trace.specs.Packets.{Datagram}
use Rattle.spec_trace.specs.Sockets.{DnsSocket, Kind, is_among, open_sockets}
use Rattle.spec_run.specs.Names.{kind_for}
use Rattle.spec_run.specs.Ports.{last_datagram, last_use, used_at}
use Rattle.spec_run.specs.Said.{HeardOfName, last_occasion}

-- the open sockets of questions, by rising number
abbrev pub is_for_question : Option Kind → Bool
is_for_question (Some DnsSocket) = true
is_for_question _ = false

-- the open sockets of questions, by rising number
abbrev pub questions_open : Config → List Entry → List ℕ
questions_open config past = filter (λ s. is_for_question (kind_for config s past)) (open_sockets past)

-- A question with this identifier was sent on a socket: the payload, whole, of a datagram that this port of a guest sent to the name server. It went to the resolver.
pub record WasAsked (config : Config) (past : List Entry) (socket : ℕ) (guest : Endpoint) (ident : ℕ) : Type 0 where
  pub later : List Entry
  pub resolver : Endpoint
  pub datagram : Datagram
  pub answer : Sent
  pub earlier : List Entry
  pub sent : past ≡ later ++ (UdpSend socket resolver datagram.body answer ∷ earlier)
  pub resolves : config.resolver ≡ Some resolver
  pub last : last_datagram config earlier ≡ Some datagram
  pub port : datagram.from ≡ guest
  pub to_names : address datagram.to ≡ config.vnameserver
  pub identifier : ident_in datagram.body ≡ ident

-- What came on a socket answers a question of this port that was sent on it before: it comes from the resolver, is an answer, and has that question's identifier (RFC 1035, 4.1.1 and 7.3).
pub record IsAnswerTo (config : Config) (past : List Entry) (socket : ℕ) (guest peer : Endpoint) (octets : List ℕ) : Type 0 where
  pub resolves : config.resolver ≡ Some peer
  pub answers : is_answer octets ≡ true
  pub asked : WasAsked config past socket guest (ident_in octets)

-- What came last that an answer may be owed for came on the socket of a question, and answers one of this port.
pub record AnswerCame (config : Config) (past : List Entry) (guest : Endpoint) (octets : List ℕ) : Type 0 where
  pub question : Question
  pub resolver : Endpoint
  pub last : last_occasion config past ≡ HeardOfName question resolver octets
  pub later : List Entry
  pub asked : ℕ
  pub count : ℕ
  pub before : List Entry
  pub received : past ≡ later ++ (UdpRecv question.number asked (From resolver count) octets ∷ before)
  pub answer : IsAnswerTo config before question.number guest resolver octets

-- the answer came by the newest call
pub record WasJustAnswered (config : Config) (socket : ℕ) (past : List Entry) : Type 0 where
  pub asked : ℕ
  pub peer : Endpoint
  pub count : ℕ
  pub octets : List ℕ
  pub before : List Entry
  pub received : past ≡ UdpRecv socket asked (From peer count) octets ∷ before
  pub guest : Endpoint
  pub answer : IsAnswerTo config before socket guest peer octets

-- the socket of a question wasn't used for so long
abbrev pub HasWaitedLong : ℕ → List Entry → Type 0
HasWaitedLong socket past = used_at socket past + question_life ≤ moment past

-- As many questions wait as may, and the socket of none of them was used before this one.
pub record HasWaitedLongest (config : Config) (socket : ℕ) (past : List Entry) : Type 0 where
  pub full : most_questions ≤ length (questions_open config past)
  pub least : (other : ℕ) → is_among other (questions_open config past) ≡ true → last_use socket past ≤ last_use other past

-- the name server has one address of the network, other than the virtual host's
pub record HasNameServer (config : Config) : Type 0 where
  pub fits : config.vnameserver < 2 ^ 32
  pub inside : in_network config config.vnameserver ≡ true
  pub other : (config.vnameserver == config.vhost) ≡ false

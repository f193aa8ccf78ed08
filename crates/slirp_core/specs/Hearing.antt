-- The calls of a receipt, and of a tick.
use Rattle.std.specs.Prelude.{◌≡◌, ℕ, ◌<◌, ◌||◌, Bool, false, is_some, List, [], ◌∷◌, ◌++◌, if◌then◌else◌}
use Rattle.world_face.specs.Journal.{Close, Entry, UdpRecv}
use Rattle.world_face.specs.declared.Got.{Got}
use Rattle.slirp_settings.specs.Addresses.{Config}
use Rattle.stream_netdev.specs.State.{LinkState}
use Rattle.tcp_flows.specs.Runs.{ClosesRising}
use Rattle.spec_trace.specs.Sockets.{is_among}
use Rattle.slirp_core.specs.Forwards.{guest_on}
use Rattle.slirp_core.specs.Holds.{Holds, after, carriers, flowing, holders_of}
use Rattle.slirp_core.specs.State.{SlirpState}

-- the socket is that of a port of the host for datagrams, of an association, or of a question
abbrev pub is_heard : ℕ → SlirpState → Bool
is_heard number slirp = is_some (guest_on slirp.forwards number) || is_among number (carriers (holders_of slirp))

-- a datagram is asked for on this socket, once; where it answers a question the socket is closed then
abbrev pub Receives : ℕ → List Entry → Type 0
Receives number made = (asked : ℕ) × (answer : Got) × (octets : List ℕ) × (closed : Bool) × (made ≡ (if closed then Close number ∷ [] else []) ++ (UdpRecv number asked answer octets ∷ []))

-- first sockets of flows are closed, then those of associations, then those of questions, each by rising number; the newest call stands first
pub record ClosesByKind (made : List Entry) : Type 0 where
  pub flows : List Entry
  pub associations : List Entry
  pub questions : List Entry
  pub is : made ≡ questions ++ (associations ++ flows)
  pub flows_rise : ClosesRising flows
  pub associations_rise : ClosesRising associations
  pub questions_rise : ClosesRising questions

-- where the core stands for a trace, and another wait may come
abbrev pub WhereItTicks : SlirpState → Type 0 → Type 0
WhereItTicks slirp P = (config : Config) (count : ℕ) (link : LinkState) (past : List Entry) → count < config.turns → Holds config (after count) slirp (flowing false slirp.flows) link past → P

-- Words in which laws of the flows of a run are said.
use Rattle.std.specs.Prelude.{◌≡◌, ℕ, ◌<◌, ◌≤◌, ◌==◌, true, false, List, [], ◌∷◌, ◌++◌, ◌⊎◌, take, Contains, Option, Some, None, if◌then◌else◌}
use Rattle.world_face.specs.Journal.{Entry, TcpRead, TcpWrite}
use Rattle.world_face.specs.declared.Io.{Io}
use Rattle.world_face.specs.declared.Io.TheVariants.{Done, End, NotYet, Failed}
use Rattle.net_octets.specs.declared.Endpoint.{Endpoint}
use Rattle.slirp_settings.specs.Addresses.{Config}
use Rattle.host_policy.specs.Targets.{target}
use Rattle.slirp_settings.specs.declared.Proto.TheVariants.{Tcp as OverTcp}
use Rattle.host_policy.specs.declared.Verdict.TheVariants.{Go, Denied}
use Rattle.host_policy.specs.declared.Rule.{Rule}
use Rattle.spec_flow.specs.Event.{IsStory, newest_moment}
use Rattle.spec_flow.specs.Close.{host_failed, last_at, may_give_way}
use Rattle.spec_flow.specs.Dutiful.{IsDutiful}
use Rattle.spec_flow.specs.Lawful.{IsLawful}
use Rattle.spec_flow.specs.Settings.{Settings}
use Rattle.spec_trace.specs.Moments.{moment}
use Rattle.spec_trace.specs.Sockets.{next_number}
use Rattle.spec_flows.specs.Book.{book}
use Rattle.spec_flows.specs.Flows.{Flow, Book, flow_of, is_used, used, has_time_wait}
use Rattle.spec_flows.specs.SegmentVerdicts.{is_opening, is_to_many}
use Rattle.spec_flows.specs.Segments.{OnTuple}
use Rattle.spec_flows.specs.Laws.{flow_settings}

-- something holds of each
abbrev pub Each : {A : Type 0} → (A → Type 0) → List A → Type 0
Each P [] = Unit {0}
Each P (x ∷ xs) = P x × Each P xs

-- no two flows have one number
abbrev pub Differ : List Flow → Type 0
Differ [] = Unit {0}
Differ (f ∷ flows) = (flow_of f.number flows ≡ None) × Differ flows

-- A flow's story keeps the law of one flow, and what was done for it was done as it must be; where a call on its socket failed last, this is the socket that the next entry closes.
pub record Kept (s : Settings) (now : ℕ) (doomed : Option ℕ) (f : Flow) : Type 0 where
  pub story : IsStory f.story
  pub moment : newest_moment f.story ≤ now
  pub lawful : IsLawful s f.story
  pub dutiful : IsDutiful s f.story
  pub failed : host_failed f.story ≡ true → doomed ≡ Some f.number

-- each flow of the book has a number of its own, below the next one, and keeps the law
pub record IsSound (s : Settings) (now next : ℕ) (b : Book) : Type 0 where
  pub differ : Differ b.flows
  pub below : Each (λ f. f.number < next) b.flows
  pub each : Each (Kept s now b.doomed) b.flows

-- all flows of a trace are sound at its moment
abbrev pub AreKept : Config → List Entry → Type 0
AreKept config past = IsSound (flow_settings config) (moment past) (next_number past) (book config past)

-- what the host took on a socket of the octets that were offered to it, in their order
abbrev pub taken_of : Io → List ℕ → List ℕ
taken_of (Done n) octets = take n octets
taken_of End octets = []
taken_of NotYet octets = []
taken_of Failed octets = []

abbrev pub taken_by : ℕ → Entry → List ℕ → List ℕ
taken_by socket (TcpWrite s octets answer) so_far = if s == socket then so_far ++ taken_of answer octets else so_far
taken_by socket _ so_far = so_far

-- by all calls of a trace
abbrev pub taken_on : ℕ → List Entry → List ℕ
taken_on socket [] = []
taken_on socket (e ∷ past) = taken_by socket e (taken_on socket past)

-- what was read on a socket, in its order; a read that has nothing yet gives nothing
abbrev pub given_of : Io → List ℕ → List ℕ
given_of (Done n) octets = octets
given_of End octets = []
given_of NotYet octets = octets
given_of Failed octets = []

abbrev pub given_by : ℕ → Entry → List ℕ → List ℕ
given_by socket (TcpRead s asked answer octets) so_far = if s == socket then so_far ++ given_of answer octets else so_far
given_by socket _ so_far = so_far

-- by all calls of a trace
abbrev pub given_on : ℕ → List Entry → List ℕ
given_on socket [] = []
given_on socket (e ∷ past) = given_by socket e (given_on socket past)

-- A socket connects for the segment that came by the newest entry: a guest's SYN, on a tuple that no flow has and that isn't in TIME-WAIT, where there
-- is room for a flow more. It connects to where the policy says that a connection to the segment's destination goes.
pub record ConnectsAsAsked (config : Config) (b : Book) (to : Endpoint) : Type 0 where
  pub on : OnTuple
  pub came : b.came ≡ Some on
  pub opening : is_opening on.segment ≡ true
  pub free : is_used on.tuple b.flows ≡ false
  pub awake : has_time_wait on.tuple b ≡ false
  pub room : used b.flows < config.flows
  pub target : target config OverTcp on.tuple.other ≡ Go to

-- A segment is no flow's: no flow on its two ends is in use, and none is in TIME-WAIT.
pub record IsNobodys (b : Book) (on : OnTuple) : Type 0 where
  pub free : is_used on.tuple b.flows ≡ false
  pub awake : has_time_wait on.tuple b ≡ false

-- A guest's SYN is answered by a reset: the policy denies a connection to its destination, which is of one host.
pub record IsDenied (config : Config) (b : Book) (on : OnTuple) : Type 0 where
  pub nobodys : IsNobodys b on
  pub one_host : is_to_many config on.tuple.other ≡ false
  pub rule : Rule
  pub denied : target config OverTcp on.tuple.other ≡ Denied rule

-- A guest's SYN is ignored: its destination is of many, or as many flows as may be are in use.
pub record IsIgnored (config : Config) (b : Book) (on : OnTuple) : Type 0 where
  pub nobodys : IsNobodys b on
  pub why : (is_to_many config on.tuple.other ≡ true) ⊎ (config.flows ≤ used b.flows)

-- a flow may give way, and of all that may none had its last sign of life earlier
pub record IsQuietest (now : ℕ) (flows : List Flow) (f : Flow) : Type 0 where
  pub one : Contains flows f
  pub may : may_give_way now f.story ≡ true
  pub least : (g : Flow) → Contains flows g → may_give_way now g.story ≡ true → last_at f.story ≤ last_at g.story

-- The flows of a run and which of them are in TIME-WAIT: one fold over the trace, a history in the order of the entries, with no counter, slot or window.
use Rattle.std.specs.Prelude.{ℕ, ◌+◌, ◌==◌, ◌||◌, not, nat_le, nat_lt, Bool, List, [], ◌∷◌, ◌++◌, length, drop, filter, map, Option, Some, None, is_some, option_and_then, if◌then◌else◌}
use Rattle.net_octets.specs.declared.Endpoint.{Endpoint}
use Rattle.world_face.specs.Journal.{Entry}
use Rattle.slirp_settings.specs.declared.Forward.{Forward}
use Rattle.slirp_settings.specs.declared.Proto.{Proto}
use Rattle.slirp_settings.specs.declared.Proto.TheVariants.{Tcp, Udp}
use Rattle.slirp_settings.specs.Addresses.{Config, forward_on}
use Rattle.host_policy.specs.Targets.{shown, is_hidden}
use Rattle.spec_flows.specs.declared.Tuple.{Tuple}
use Rattle.spec_flow.specs.Event.{Segment, Event, Connects, Accepts, Arrives, At, Story, is_failure}
use Rattle.spec_flow.specs.Flow.{first_number}
use Rattle.spec_flow.specs.Close.{renews, ends_time_wait, in_time_wait_since}
use Rattle.spec_trace.specs.Guests.{known}
use Rattle.spec_trace.specs.Moments.{moment}
use Rattle.spec_trace.specs.Shape.{is_ended}
use Rattle.spec_trace.specs.Sockets.{first, open_sockets}
use Rattle.spec_flows.specs.Doings.{Doing, Nothing, Comes, Goes, Resolves, Pauses, Joins, Visits, Calls, Shuts, doing}
use Rattle.spec_flows.specs.Flows.{Flow, TimeWait, Book, Scene, is_on, is_numbered, owner, flow_of, is_used, used, is_among_time_waits, tell, with_event, sends, resolves_for, shuts}
use Rattle.spec_flows.specs.SegmentVerdicts.{giving_way}
use Rattle.spec_flows.specs.Segments.{OnTuple}

-- ---- TIME-WAITs (RFC 9293, 3.6.1)

abbrev pub without : ℕ → List TimeWait → List TimeWait
without number time_waits = filter (λ r. not (r.number == number)) time_waits

abbrev pub time_wait : ℕ → ℕ → TimeWait
time_wait number now = record { number = number; since = now }

-- a segment ends a TIME-WAIT, or begins it anew
abbrev pub after_segment : ℕ → Segment → Option Flow → List TimeWait → List TimeWait
after_segment now segment None time_waits = time_waits
after_segment now segment (Some f) time_waits =
    if not (is_among_time_waits time_waits (Some f)) then time_waits
    else (if ends_time_wait f.story segment then without f.number time_waits
    else (if renews segment then without f.number time_waits ++ (time_wait f.number now ∷ []) else time_waits))

-- how many milliseconds a flow is in TIME-WAIT: 60,000; ours, where RFC 9293, 3.6.1 has twice the maximum segment lifetime
abbrev pub longest_time_wait : ℕ
longest_time_wait = 60000

abbrev pub is_young : ℕ → TimeWait → Bool
is_young now r = nat_lt now (r.since + longest_time_wait)

-- a flow that is closed may rest
abbrev pub after_close : ℕ → Option Flow → List TimeWait → List TimeWait
after_close now None time_waits = time_waits
after_close now (Some f) time_waits = if is_some (in_time_wait_since f.story) then time_waits ++ (time_wait f.number now ∷ []) else time_waits

-- a new flow ends the rest of its tuple; where it needs room it ends the longest one
abbrev pub with_room : Config → Book → List TimeWait
with_room config book = if nat_le config.flows (used book.flows + length book.time_waits) then drop 1 book.time_waits else book.time_waits

abbrev pub make_room : Config → Option Flow → Book → List TimeWait
make_room config None book = with_room config book
make_room config (Some f) book = if is_among_time_waits book.time_waits (Some f) then without f.number book.time_waits else with_room config book

-- ---- a new flow

abbrev pub opens : Config → ℕ → ℕ → Tuple → Event → Book → Book
opens config now socket tuple event book =
    record { flows = record { number = socket; tuple = tuple; story = At now event ∷ [] } ∷ book.flows; time_waits = make_room config (owner tuple book.flows) book; came = None; doomed = None }

-- the guest's port for which the host listens on a socket
abbrev pub port_by : Proto → Endpoint → Option Endpoint
port_by Tcp guest = Some guest
port_by Udp guest = None

abbrev pub port_of : Config → ℕ → Option Endpoint
port_of config listener = option_and_then (λ (f : Forward). port_by f.proto f.guest) (forward_on config listener)

abbrev pub tuple_for : Config → Endpoint → Endpoint → Tuple
tuple_for config guest peer = record { guest = guest; other = shown config peer }

-- a peer is refused that would pass for a guest, or for the other end of a flow
abbrev pub is_refused : Config → Endpoint → Endpoint → Book → Bool
is_refused config guest peer book = is_hidden config peer || is_used (tuple_for config guest peer) book.flows

-- ---- the book

abbrev pub quiet : Book → Book
quiet book = record { flows = book.flows; time_waits = book.time_waits; came = None; doomed = None }

abbrev pub joins_for : Config → ℕ → ℕ → Option OnTuple → Book → Book
joins_for config now socket None book = quiet book
joins_for config now socket (Some on) book = opens config now socket on.tuple (Connects (first_number now (length book.flows)) on.segment) book

-- a segment came: its flow was told
abbrev pub heard : ℕ → OnTuple → Book → Book
heard now on book = record (quiet book) {
  flows = tell (is_on on.tuple) (with_event now (Arrives on.segment)) book.flows;
  time_waits = after_segment now on.segment (owner on.tuple book.flows) book.time_waits;
  came = Some on;
}

abbrev pub doom : ℕ → Book → Book
doom socket book = record (quiet book) { doomed = Some socket }

abbrev pub visits_for : Config → ℕ → ℕ → Endpoint → Option Endpoint → Book → Book
visits_for config now socket peer None book = quiet book
visits_for config now socket peer (Some guest) book =
    if is_refused config guest peer book then doom socket book
    else opens config now socket (tuple_for config guest peer) (Accepts (first_number now (length book.flows))) book

abbrev pub shut : Scene → ℕ → List Flow → Book → Book
shut scene socket flows book = record (quiet book) { flows = flows; time_waits = after_close scene.moment (flow_of socket flows) book.time_waits }

-- by a segment that came one flow may give way to it
abbrev pub turned : Config → Scene → Doing → Book → Book
turned config scene Nothing book = quiet book
turned config scene (Comes on) book = record (heard scene.moment on book) { doomed = giving_way config scene.moment on (heard scene.moment on book) }
turned config scene (Goes on) book = record (quiet book) { flows = tell (is_on on.tuple) (sends scene.moment on.segment) book.flows }
turned config scene (Resolves guest) book = record (quiet book) { flows = map (resolves_for scene.moment guest) book.flows }
turned config scene Pauses book = record (quiet book) { time_waits = filter (is_young scene.moment) book.time_waits }
turned config scene (Joins socket) book = joins_for config scene.moment socket book.came book
turned config scene (Visits listener socket peer) book = visits_for config scene.moment socket peer (port_of config listener) book
turned config scene (Calls socket event) book =
    record (quiet book) { flows = tell (is_numbered socket) (with_event scene.moment event) book.flows; doomed = if is_failure event then Some socket else None }
turned config scene (Shuts socket) book = shut scene socket (tell (is_numbered socket) (shuts scene book.came) book.flows) book

abbrev pub scene : Config → List Entry → Scene
scene config past = record { moment = moment past; last = if is_ended config past then first (open_sockets past) else None; known = known config past }

abbrev pub empty : Book
empty = record { flows = []; time_waits = []; came = None; doomed = None }

abbrev pub book : Config → List Entry → Book
book config [] = empty
book config (e ∷ past) = turned config (scene config past) (doing config past e) (book config past)

abbrev pub story_in : Option Flow → Story
story_in None = []
story_in (Some f) = f.story

-- what happened to the flow of a socket
abbrev pub story : Config → List Entry → ℕ → Story
story config past number = story_in (flow_of number (book config past).flows)

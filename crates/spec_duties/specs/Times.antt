-- How long a run may wait, and how long it waits at least.
use Rattle.std.specs.Prelude.{ℕ, ◌+◌, nat_lt, Bool, true, false, List, [], ◌∷◌, ◌++◌, filter, map, Option, Some, None}
use Rattle.world_face.specs.Journal.{Entry}
use Rattle.world_face.specs.Frames.{is_blocked}
use Rattle.slirp_settings.specs.Addresses.{Config}
use Rattle.rules_dns.specs.Questions.{question_life}
use Rattle.ipv4_head.specs.Sets.{PartSet}
use Rattle.rules_udp.specs.Associations.{idle_life}
use Rattle.spec_trace.specs.Fragments.{waiting}
use Rattle.spec_trace.specs.Moments.{moment}
use Rattle.spec_flow.specs.Event.{Story}
use Rattle.spec_flow.specs.Dutiful.{close_deadline, resend_deadline, wakes}
use Rattle.spec_flows.specs.Book.{book, is_young, longest_time_wait}
use Rattle.spec_flows.specs.Flows.{Flow, TimeWait}
use Rattle.spec_run.specs.Answers.{is_free, ledger, serving}
use Rattle.spec_run.specs.Ports.{associations_open, used_at}
use Rattle.spec_run.specs.Questions.{questions_open}
use Rattle.rules_tftp.specs.Transfers.{Transfer, ticked}

-- the moments that each flow has
abbrev pub of_flows : (Story → List ℕ) → List Flow → List ℕ
of_flows moments [] = []
of_flows moments (f ∷ flows) = moments f.story ++ of_flows moments flows

-- when the idle life of each open socket of a guest's port is over, and that of each question
abbrev pub association_lives : Config → List Entry → List ℕ
association_lives config past = map (λ socket. used_at socket past + idle_life) (associations_open config past)

-- of each question its socket's last use and 10,000 ms
abbrev pub question_lives : Config → List Entry → List ℕ
question_lives config past = map (λ socket. used_at socket past + question_life) (questions_open config past)

-- the ends of all idle lives
abbrev pub lives : Config → List Entry → List ℕ
lives config past = association_lives config past ++ question_lives config past

-- what has to go out has a moment only while the link isn't blocked
abbrev pub unless_blocked : Bool → List ℕ → List ℕ
unless_blocked true moments = []
unless_blocked false moments = moments

-- when the first of fragments that wait are dropped: 60,000 ms after they came (RFC 1122, 3.3.2)
abbrev pub drops : Config → List Entry → List ℕ
drops config past = map (λ (s : PartSet). s.since + 60000) (waiting config past)

-- and the flows in TIME-WAIT are through
abbrev pub time_wait_ends : Config → List Entry → List ℕ
time_wait_ends config past = map (λ (r : TimeWait). r.since + longest_time_wait) (filter (is_young (moment past)) (book config past).time_waits)

-- when a packet of each file is due to go again, as this wait leaves them: it counts the packet that is on its way
abbrev pub file_alarms : Config → List Entry → List ℕ
file_alarms config past =
    filter (nat_lt (moment past)) (map (λ (t : Transfer). t.due) (ticked (moment past) (is_free (ledger config past)) (serving config past).files.transfers))

-- a wait doesn't pass the end of a host's time to connect, of an idle life or of a TIME-WAIT, nor, unless the link is blocked, a minute since what is under
-- way or a request for a guest's hardware address went out, or since a window was found closed, nor the moment at which a packet of a file goes again
abbrev pub deadlines : Config → List Entry → List ℕ
deadlines config past =
    of_flows close_deadline (book config past).flows ++ lives config past ++ time_wait_ends config past
    ++ unless_blocked (is_blocked past) (of_flows resend_deadline (book config past).flows ++ file_alarms config past)

-- the moments for which a wait may be cut short
abbrev pub alarms : Config → List Entry → List ℕ
alarms config past = of_flows wakes (book config past).flows ++ lives config past ++ drops config past ++ time_wait_ends config past ++ file_alarms config past

-- the moment at which a wait that begins now is over
abbrev pub wait_end : ℕ → Option ℕ → Option ℕ
wait_end now None = None
wait_end now (Some timeout) = Some (now + timeout)

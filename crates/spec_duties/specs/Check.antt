-- A test that says of a trace whether it is dutiful, by computing. It asks of every guest what the duties ask of a conforming one.
use Rattle.std.specs.Prelude.{ℕ, ◌&&◌, ◌||◌, not, nat_le, nat_lt, Bool, true, false, List, [], ◌∷◌, Option, Some, None}
use Rattle.poll_list.specs.Listing.{reads, writes}
use Rattle.poll_list.specs.declared.Want.{Want}
use Rattle.poll_list.specs.declared.Who.{Who}
use Rattle.poll_list.specs.declared.Who.TheVariants.{Link, Listener, Tcp, Udp}
use Rattle.world_face.specs.Journal.{Entry, Call, call_of, CallWait, Wait}
use Rattle.world_face.specs.Frames.{is_blocked}
use Rattle.slirp_settings.specs.Addresses.{Config}
use Rattle.spec_trace.specs.Moments.{moment}
use Rattle.spec_trace.specs.Sockets.{open_sockets}
use Rattle.spec_flow.specs.CheckDuty.{all_ahead, is_settled, may_wait, may_wait_to_write}
use Rattle.spec_flows.specs.Book.{book, scene}
use Rattle.spec_flows.specs.Flows.{Flow, flow_of, guest_is_known}
use Rattle.spec_flows.specs.Laws.{flow_settings}
use Rattle.spec_duties.specs.Duties.{is_in_time_wait}
use Rattle.spec_duties.specs.Serving.{is_left_to_read, is_left_to_write}
use Rattle.spec_duties.specs.Times.{alarms, deadlines, lives, wait_end}
use Rattle.spec_duties.specs.Waiting.{are_in_order, is_all_sent, is_read, is_written}

abbrev pub same : Bool → Bool → Bool
same true b = b
same false b = not b

abbrev pub implies : Bool → Bool → Bool
implies a b = not a || b

-- ---- what is waited for

abbrev pub may_write_flow : Option Flow → Bool
may_write_flow None = false
may_write_flow (Some f) = may_wait_to_write f.story

abbrev pub may_be_written : Config → List Entry → Who → Bool
may_be_written config past Link = is_blocked past
may_be_written config past (Listener socket) = false
may_be_written config past (Udp socket) = false
may_be_written config past (Tcp socket) = may_write_flow (flow_of socket (book config past).flows)

-- an item that is waited for may be
abbrev pub may_be_wanted : Config → List Entry → Want → Bool
may_be_wanted config past want = implies want.read (is_read config past want.of) && implies want.write (may_be_written config past want.of)

abbrev pub all_may : Config → List Entry → List Want → Bool
all_may config past [] = true
all_may config past (want ∷ wants) = may_be_wanted config past want && all_may config past wants

-- what must be waited for is
abbrev pub is_wanted : Config → List Entry → List Want → Who → Bool
is_wanted config past wants who = implies (is_read config past who) (reads who wants) && implies (is_written config past who) (writes who wants)

abbrev pub sockets_are : Config → List Entry → List Want → List ℕ → Bool
sockets_are config past wants [] = true
sockets_are config past wants (n ∷ sockets) = is_wanted config past wants (Listener n) && is_wanted config past wants (Udp n) && sockets_are config past wants sockets

abbrev pub flows_are : Config → List Entry → List Want → List Flow → Bool
flows_are config past wants [] = true
flows_are config past wants (f ∷ flows) = is_wanted config past wants (Tcp f.number) && flows_are config past wants flows

abbrev pub waits_for : Config → List Entry → List Want → Bool
waits_for config past wants =
    (all_may config past wants && is_wanted config past wants Link)
    && (sockets_are config past wants (open_sockets past) && flows_are config past wants (book config past).flows) && are_in_order wants

-- ---- reports

-- what the last wait reported
abbrev pub reported : List Entry → List Want
reported [] = []
reported (Wait wants timeout answer ready ∷ past) = ready
reported (_ ∷ past) = reported past

abbrev pub all_served : Config → List Entry → List Want → Bool
all_served config past [] = true
all_served config past (item ∷ items) = not (is_left_to_read config past item.of) && not (is_left_to_write config past item.of) && all_served config past items

-- ---- flows

abbrev pub all_flows : (Flow → Bool) → List Flow → Bool
all_flows test [] = true
all_flows test (f ∷ flows) = test f && all_flows test flows

abbrev pub is_settled_now : Config → List Entry → Flow → Bool
is_settled_now config past f = is_settled (flow_settings config) f.story (guest_is_known (scene config past) f) (is_in_time_wait config past f) (moment past)

-- ---- times

abbrev pub is_by : Option ℕ → List ℕ → Bool
is_by due [] = true
is_by None (m ∷ ms) = false
is_by (Some at) (m ∷ ms) = nat_le at m && is_by (Some at) ms

abbrev pub is_from : Option ℕ → List ℕ → Bool
is_from None ms = true
is_from (Some at) [] = false
is_from (Some at) (m ∷ ms) = nat_le m at || is_from (Some at) ms

-- ---- a wait

abbrev pub is_some_time : Option ℕ → Bool
is_some_time None = true
is_some_time (Some timeout) = nat_lt 0 timeout

abbrev pub must_wait : Config → List Entry → List Want → Option ℕ → Bool
must_wait config past wants timeout =
    (waits_for config past wants && (is_blocked past || is_all_sent config past))
    && ((is_blocked past || all_flows (is_settled_now config past) (book config past).flows) && all_flows (λ f. may_wait f.story (moment past)) (book config past).flows
    && all_ahead (moment past) (lives config past))
    && ((is_by (wait_end (moment past) timeout) (deadlines config past) && is_from (wait_end (moment past) timeout) (alarms config past)) && all_served config past (reported past))
    && is_some_time timeout

abbrev pub is_must : Config → List Entry → Call → Bool
is_must config past (CallWait wants timeout) = must_wait config past wants timeout
is_must config past _ = true

-- ---- a trace

abbrev pub is_dutiful : Config → List Entry → Bool
is_dutiful config [] = true
is_dutiful config (e ∷ past) = is_must config past (call_of e) && is_dutiful config past

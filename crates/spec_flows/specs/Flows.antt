-- The flows of a run: each with its two ends and its story.
use Rattle.std.specs.Prelude.{ℕ, ◌==◌, ◌&&◌, not, nat_lt, Bool, false, List, [], ◌∷◌, length, filter, find, Option, Some, None, is_some, if◌then◌else◌}
use Rattle.std.specs.List.{list_any}
use Rattle.net_octets.specs.declared.Ip4.{Ip4}
use Rattle.net_octets.specs.declared.Mac.{Mac}
use Rattle.slirp_settings.specs.Addresses.{address}
use Rattle.arp_table.specs.Table.{mac_of}
use Rattle.rules_flow.specs.Choices.{most_for_peers}
use Rattle.spec_flows.specs.declared.Tuple.{Tuple}
use Rattle.spec_flow.specs.Event.{Segment, Event, Departs, AsksAddress, Closes, At, Story}
use Rattle.spec_flow.specs.Flow.{is_accepted}
use Rattle.spec_flow.specs.Close.{owes_reset, is_owed_reset, is_in_use}
use Rattle.spec_flow.specs.Lawful.{Act, Close}
use Rattle.spec_flows.specs.Segments.{OnTuple, same_tuple}

-- a flow: its socket's number, its two ends, and what happened to it
pub record Flow : Type 0 where
  pub number : ℕ
  pub tuple : Tuple
  pub story : Story

-- a flow in TIME-WAIT (RFC 9293, 3.6), and since when
pub record TimeWait : Type 0 where
  pub number : ℕ
  pub since : ℕ

-- The flows, the newest first; those in TIME-WAIT, the longest in TIME-WAIT first; the segment that came by the newest entry; and the socket that
-- the next entry closes, since a call on it failed, its peer was refused, or its flow gives way to a SYN.
pub record Book : Type 0 where
  pub flows : List Flow
  pub time_waits : List TimeWait
  pub came : Option OnTuple
  pub doomed : Option ℕ

-- what else of the run matters to flows: the moment in force, the socket that the end of the run closes next, and the guests that are known
pub record Scene : Type 0 where
  pub moment : ℕ
  pub last : Option ℕ
  pub known : List (Ip4 × Mac)

-- ---- which flow

abbrev pub is_on : Tuple → Flow → Bool
is_on tuple f = same_tuple f.tuple tuple

abbrev pub is_numbered : ℕ → Flow → Bool
is_numbered number f = f.number == number

-- a segment on a tuple is one of the flow that was opened on it last
abbrev pub owner : Tuple → List Flow → Option Flow
owner tuple flows = find (is_on tuple) flows

abbrev pub flow_of : ℕ → List Flow → Option Flow
flow_of number flows = find (is_numbered number) flows

abbrev pub uses : Option Flow → Bool
uses None = false
uses (Some f) = is_in_use f.story

-- the tuple has a flow that isn't closed, or owes a reset
abbrev pub is_used : Tuple → List Flow → Bool
is_used tuple flows = uses (owner tuple flows)

-- how many tuples have
abbrev pub used : List Flow → ℕ
used flows = length (filter (λ f. is_in_use f.story) flows)

-- there is room for the flow of a peer: not all are in use, and of the share of peers not all by flows that were accepted
abbrev pub has_room_for_peer : ℕ → List Flow → Bool
has_room_for_peer most flows = nat_lt (used flows) most && nat_lt (length (filter (λ f. is_in_use f.story && is_accepted f.story) flows)) (most_for_peers most)

abbrev pub is_among_time_waits : List TimeWait → Option Flow → Bool
is_among_time_waits time_waits None = false
is_among_time_waits time_waits (Some f) = list_any (λ r. r.number == f.number) time_waits

-- the flow of the tuple is in TIME-WAIT
abbrev pub has_time_wait : Tuple → Book → Bool
has_time_wait tuple book = is_among_time_waits book.time_waits (owner tuple book.flows)

-- ---- what becomes of it

-- the first flow that passes a test is changed
abbrev pub tell : (Flow → Bool) → (Flow → Flow) → List Flow → List Flow
tell test change [] = []
tell test change (f ∷ flows) = if test f then change f ∷ flows else f ∷ tell test change flows

abbrev pub with_event : ℕ → Event → Flow → Flow
with_event now event f = record { number = f.number; tuple = f.tuple; story = At now event ∷ f.story }

-- a reset that goes out is the flow's where it owes one and this is it; else it answers a segment without a flow
abbrev pub is_strange : Segment → Flow → Bool
is_strange segment f = segment.rst && not (owes_reset f.story && is_owed_reset f.story segment)

abbrev pub sends : ℕ → Segment → Flow → Flow
sends now segment f = if is_strange segment f then f else with_event now (Departs segment) f

-- one request serves all flows that were accepted for the guest
abbrev pub resolves_for : ℕ → ℕ → Flow → Flow
resolves_for now guest f = if is_accepted f.story && (address f.tuple.guest == guest) then with_event now AsksAddress f else f

abbrev pub came_on : Tuple → Option OnTuple → Bool
came_on tuple None = false
came_on tuple (Some on) = same_tuple on.tuple tuple

abbrev pub is_it : ℕ → Option ℕ → Bool
is_it n None = false
is_it n (Some m) = m == n

-- a close comes directly after a segment of the flow or not, by the end of the run or not, where its guest is known or not
abbrev pub comes_directly : Option OnTuple → Flow → Bool
comes_directly came f = came_on f.tuple came

abbrev pub comes_last : Scene → Flow → Bool
comes_last scene f = is_it f.number scene.last

abbrev pub guest_is_known : Scene → Flow → Bool
guest_is_known scene f = is_some (mac_of f.tuple.guest.addr scene.known)

abbrev pub closing : Scene → Option OnTuple → Flow → Act
closing scene came f = Close (comes_directly came f) (comes_last scene f) (guest_is_known scene f)

abbrev pub shuts : Scene → Option OnTuple → Flow → Flow
shuts scene came f = with_event scene.moment (Closes (comes_directly came f) (comes_last scene f) (guest_is_known scene f)) f

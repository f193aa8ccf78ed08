-- What a run must do: it waits only where nothing that can be done is left.
use Rattle.std.specs.Prelude.{◌≡◌, ℕ, Bool, true, false, List, filter, Option, Some}
use Rattle.poll_list.specs.declared.Want.{Want}
use Rattle.world_face.specs.Journal.{Entry, Call, CallWait, Follows}
use Rattle.world_face.specs.Frames.{is_blocked}
use Rattle.world_face.specs.Heard.{Heard}
use Rattle.world_face.specs.Tells.{Telling}
use Rattle.slirp_settings.specs.Addresses.{Config}
use Rattle.spec_trace.specs.Moments.{moment}
use Rattle.spec_flow.specs.Dutiful.{AreAhead, IsSettled, MayWait}
use Rattle.spec_flow.specs.Bounds.{IsBy, IsFrom}
use Rattle.spec_flows.specs.Book.{book, is_young, scene}
use Rattle.spec_flows.specs.Flows.{Flow, flow_of, guest_is_known, is_among_time_waits}
use Rattle.spec_flows.specs.Laws.{flow_settings}
use Rattle.spec_duties.specs.Serving.{AllServed}
use Rattle.spec_duties.specs.Times.{alarms, deadlines, lives, wait_end}
use Rattle.spec_duties.specs.Waiting.{WaitsFor, is_all_sent}

-- this holds of each flow of the trace
abbrev pub EachFlow : Config → List Entry → (Flow → Type 0) → Type 0
EachFlow config past P = (number : ℕ) (f : Flow) → flow_of number (book config past).flows ≡ Some f → P f

-- a flow is in TIME-WAIT at this wait
abbrev pub is_in_time_wait : Config → List Entry → Flow → Bool
is_in_time_wait config past f = is_among_time_waits (filter (is_young (moment past)) (book config past).time_waits) (Some f)

-- What can go out of a flow is out, what came is acknowledged, the room is told, and what is under way goes again within a minute, as
-- do a request for a guest's hardware address and a question about a closed window.
abbrev pub IsSettledNow : Config → List Entry → Flow → Type 0
IsSettledNow config past f = IsSettled (flow_settings config) f.story (guest_is_known (scene config past) f) (is_in_time_wait config past f) (moment past)

-- A wait for these, no longer than this.
pub record MustWait (config : Config) (past : List Entry) (wants : List Want) (timeout : Option ℕ) : Type 0 where
  -- they are all that can be taken, and nothing else
  pub waits_for : WaitsFor config past wants
  -- each direction that the wait before wanted and reported had its call, or wasn't waited for any more
  pub served : AllServed config past
  -- unless the link is blocked all that is owed is out, of the answer to what came last and of a packet of a file that goes again, and each flow is settled
  pub out : is_blocked past ≡ false → is_all_sent config past ≡ true
  pub settled : is_blocked past ≡ false → EachFlow config past (IsSettledNow config past)
  -- no socket for datagrams is open whose idle life is over
  pub unused : AreAhead (moment past) (lives config past)
  -- flows of which both ends passed are closed, and those whose host had its time to connect; no guest that said nothing was called a tenth time
  pub closed : EachFlow config past (λ f. MayWait f.story (moment past))
  -- it lasts some time: what was due is done, or waits for the link
  pub some_time : timeout ≡ Some 0 → ⊥
  -- it lasts no longer than to what has to be done at a time, and at least to the first of them
  pub until : IsBy (wait_end (moment past) timeout) (deadlines config past)
  pub from : IsFrom (wait_end (moment past) timeout) (alarms config past)

-- the next call is as it must be
abbrev pub Must : Config → List Entry → Call → Type 0
Must config past (CallWait wants timeout) = MustWait config past wants timeout
Must config past _ = Unit {0}

-- each call was as it must be
abbrev pub Dutiful : Config → List Entry → Type 0
Dutiful config past = Follows (Must config) past

-- what a World that was live tells of such a run, with the call at which it ceased
abbrev pub Attended : Config → Telling → Telling → Type 0
Attended config old new = old.live ≡ true → Heard (Must config) (λ made. Unit {0}) old new

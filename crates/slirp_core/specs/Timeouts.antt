-- How long a wait may last.
use Rattle.std.specs.Prelude.{◌≡◌, ℕ, ◌-◌, ◌<◌, ◌≤◌, ◌&&◌, ◌⊎◌, nat_le, Bool, true, false, List, [], Option, Some, None, option_map}
use Rattle.world_face.specs.Journal.{Entry}
use Rattle.slirp_settings.specs.Addresses.{Config}
use Rattle.ipv4_head.specs.Sets.{PartSet}
use Rattle.ipv4_reasm.specs.Answers.{IsFirstDue}
use Rattle.spec_flow.specs.Dutiful.{AreAhead, close_deadline, resend_deadline}
use Rattle.spec_flow.specs.Bounds.{IsBy}
use Rattle.spec_flows.specs.Book.{book}
use Rattle.flow_splice.specs.Splice.{Splice}
use Rattle.spec_duties.specs.Times.{of_flows, time_wait_ends}
use Rattle.sim_flows.specs.Core.{CoreHolds}
use Rattle.tcp_flows.specs.Reading.{AllClear, IsDue, IsDueAfter, NoneDue, NoneDueAfter}
use Rattle.tcp_flows.specs.Settled.{HaveTime, IsInTime}
use Rattle.tcp_flows.specs.Waits.{IsForSome, TimeWaitOnce}
use Rattle.spec_trace.specs.Moments.{moment}
use Rattle.slirp_core.specs.Pumps.{question_left, time_left}
use Rattle.slirp_core.specs.State.{SlirpState}
use Rattle.world_face.specs.Moments.{sooner}
use Rattle.tftp_server.specs.Serving.{IsNextDue}
use Rattle.rules_tftp.specs.Transfers.{Transfer}

-- what is left until the first of these sets is 60,000 ms old
abbrev pub IsPartTime : ℕ → List PartSet → Option ℕ → Type 0
IsPartTime now held None = held ≡ []
IsPartTime now held (Some left) = (at : ℕ) × (IsFirstDue held at × (left ≡ at - now))

-- the link is blocked, and one of these flows is to be told the time already
abbrev pub WaitForLink : Bool → ℕ → List (Option Splice) → Type 0
WaitForLink blocked now parts = (blocked ≡ true) × (first : ℕ) × IsDue parts first × (first ≤ now)

-- What is left until the first of these flows is to be told the time. Where that one waits for the link, it is the first after now of those that don't.
abbrev pub IsFlowTime : Bool → ℕ → List (Option Splice) → Option ℕ → Type 0
IsFlowTime blocked now parts None = NoneDue parts ⊎ (WaitForLink blocked now parts × NoneDueAfter now parts)
IsFlowTime blocked now parts (Some left) =
    (at : ℕ) × ((IsDue parts at × ((blocked && nat_le at now) ≡ false)) ⊎ (WaitForLink blocked now parts × IsDueAfter now parts at)) × (left ≡ at - now)

-- By the trace a wait that ends with this time suits the flows. It isn't too long for one that connects, if no host's time to connect is over, nor, where the
-- link isn't blocked and no flow owes a frame, for one that waits for its guest, nor for one that is in TIME-WAIT; and it isn't too short: something of a flow is to be
-- done by then, or a TIME-WAIT is over. Where no flow is late it is some time.
pub record SuitsFlows (config : Config) (now : ℕ) (blocked : Bool) (parts : List (Option Splice)) (past : List Entry) (time : Option ℕ) : Type 0 where
  pub due : Option ℕ
  pub left : time ≡ option_map (λ at. at - now) due
  pub connects : AreAhead now (of_flows close_deadline (book config past).flows) → IsBy due (of_flows close_deadline (book config past).flows)
  pub resends : blocked ≡ false → AllClear parts → IsBy due (of_flows resend_deadline (book config past).flows)
  pub time_waits : TimeWaitOnce config past → AreAhead now (time_wait_ends config past) → IsBy due (time_wait_ends config past)
  pub for_some : IsForSome config past due
  pub later : moment past ≡ now → HaveTime now parts → (blocked ≡ false → (n : ℕ) → IsInTime now parts n) → (at : ℕ) → due ≡ Some at → now < at

-- what is left until the first packet of these transfers is due to go again, of those that aren't due yet
abbrev pub IsFileTime : ℕ → List Transfer → Option ℕ → Type 0
IsFileTime now transfers None = IsNextDue now transfers None
IsFileTime now transfers (Some left) = (at : ℕ) × (IsNextDue now transfers (Some at) × (left ≡ at - now))

-- it lasts until the idle life of the longest unused socket is over, the longest unused question has waited for long enough, these sets are dropped, a flow is
-- to be told the time, or a packet of a file is due to go again
pub record IsTimeout (slirp : SlirpState) (blocked : Bool) (held : List PartSet) (timeout : Option ℕ) : Type 0 where
  pub fragments : Option ℕ
  pub of_fragments : IsPartTime slirp.moment held fragments
  pub flows : Option ℕ
  pub of_flows : IsFlowTime blocked slirp.moment slirp.flows.flows.slots flows
  pub suits_flows : (config : Config) (before : ℕ) (past : List Entry) → CoreHolds config before true None slirp.flows.flows past →
      SuitsFlows config slirp.moment blocked slirp.flows.flows.slots past flows
  pub files : Option ℕ
  pub of_files : IsFileTime slirp.moment slirp.transfers files
  pub is : timeout ≡ sooner (sooner (sooner (sooner (time_left slirp.moment slirp.associations) (question_left slirp.moment slirp.questions)) fragments) flows) files

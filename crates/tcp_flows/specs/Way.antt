-- Which flow gives way to a guest's SYN.
use Rattle.std.specs.Prelude.{◌≡◌, ℕ, ◌&&◌, ◌++◌, not, nat_le, Bool, true, false, List, Option, Some, None, slice_get, if◌then◌else◌}
use Rattle.world_face.specs.Journal.{Entry}
use Rattle.slirp_settings.specs.Addresses.{Config}
use Rattle.rules_flow.specs.Choices.{is_before}
use Rattle.rules_flow.specs.declared.Quiet.{Quiet}
use Rattle.spec_flows.specs.Book.{book}
use Rattle.spec_flows.specs.SegmentVerdicts.{NeedsRoom, due_for_flows, giving_way, segment_verdict}
use Rattle.spec_flows.specs.Segments.{OnTuple}
use Rattle.spec_trace.specs.Sockets.{next_number}
use Rattle.spec_run.specs.Agenda.{agenda}
use Rattle.flow_splice.specs.Splice.{Splice, is_in_use, is_open}
use Rattle.flow_splice.specs.Wants.{gives_way_at}
use Rattle.sim_flows.specs.Core.{number_of}
use Rattle.tcp_flows.specs.Kept.{Kept}
use Rattle.tcp_flows.specs.Runs.{Between, Leaves}

-- a flow that was closed and owes its guest a reset
abbrev pub owes : Splice → Bool
owes p = is_in_use p.place && not (is_open p)

-- an open flow may give way at this moment
abbrev pub gives : ℕ → Splice → Bool
gives now p = is_open p && nat_le (gives_way_at p) now

abbrev pub quiet_of : ℕ → Splice → Quiet
quiet_of k p = record { slot = k; last = p.last; number = number_of p }

abbrev pub quiet_at : (now k : ℕ) → Splice → Option Quiet
quiet_at now k p = if gives now p then Some (quiet_of k p) else None

-- of these flows the one in this slot may give way, and none that may goes before it
pub record IsFirstQuiet (now : ℕ) (parts : List Splice) (q : Quiet) : Type 0 where
  pub part : Splice
  pub at : slice_get parts q.slot ≡ Some part
  pub is : q ≡ quiet_of q.slot part
  pub may : gives now part ≡ true
  pub first : (j : ℕ) (r : Splice) → slice_get parts j ≡ Some r → gives now r ≡ true → is_before (quiet_of j r) q ≡ false

abbrev pub AreFirst : (now : ℕ) → List Splice → Option Quiet → Type 0
AreFirst now parts None = (j : ℕ) (r : Splice) → slice_get parts j ≡ Some r → gives now r ≡ false
AreFirst now parts (Some q) = IsFirstQuiet now parts q

-- The newest entry brought a SYN that finds all slots in use, and at this moment this flow gives way to it, or none.
pub record IsCrowded (config : Config) (now : ℕ) (on : OnTuple) (past : List Entry) : Type 0 where
  pub came : (book config past).came ≡ Some on
  pub segment_verdict : segment_verdict config (book config past) on ≡ NeedsRoom
  pub doomed : (book config past).doomed ≡ giving_way config now on (book config past)

-- the flow that is to give way is closed, or there is none
abbrev pub GivesWay : (now : ℕ) → (old new : Kept) → List Entry → Type 0
GivesWay now old new made =
    (config : Config) (past : List Entry) (on : OnTuple) → IsCrowded config now on past
    → Between config now false (due_for_flows config (book config past) (next_number past)) old past
    → Between config now false None new (made ++ past) × Leaves config past made × (agenda (made ++ past) ≡ agenda past)

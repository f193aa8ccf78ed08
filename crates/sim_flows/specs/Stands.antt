-- Where a run stands between two calls of one flow.
use Rattle.std.specs.Prelude.{◌≡◌, ℕ, Bool, true, false, List, [], ◌∷◌, ◌++◌, Option, Some, None, option_map, ◌==◌, ◌||◌, if◌then◌else◌}
use Rattle.poll_list.specs.declared.Want.{Want}
use Rattle.world_face.specs.Journal.{Entry, Call, CallClose}
use Rattle.slirp_settings.specs.Addresses.{Config}
use Rattle.spec_trace.specs.Shape.{Working, phase}
use Rattle.spec_trace.specs.Sockets.{next_number}
use Rattle.spec_flow.specs.Settings.{Settings}
use Rattle.spec_flow.specs.Event.{Story}
use Rattle.spec_flow.specs.Lawful.{IsLawful}
use Rattle.spec_flow.specs.Dutiful.{IsDutiful, MustClose}
use Rattle.spec_flow.specs.Close.{host_failed}
use Rattle.spec_flow.specs.Flow.{is_closed}
use Rattle.spec_flows.specs.Book.{book, time_wait}
use Rattle.spec_flows.specs.Flows.{Flow, TimeWait, flow_of, owner}
use Rattle.spec_flows.specs.SegmentVerdicts.{SegmentVerdict, Dropped, GetsReset, due_for_flows, is_opening, is_to_many, verdict_by_policy}
use Rattle.spec_flows.specs.Segments.{OnTuple}
use Rattle.host_policy.specs.Targets.{target}
use Rattle.slirp_settings.specs.declared.Proto.TheVariants.{Tcp as OverTcp}
use Rattle.spec_run.specs.Errands.{errand_left}
use Rattle.spec_run.specs.Laws.{due_for_services, is_closing, joins}
use Rattle.flow_table.specs.declared.Slot.{Slot}
use Rattle.flow_table.specs.declared.Slot.TheVariants.{Free as FreeSlot, InUse as SlotInUse, InTimeWait as SlotInTimeWait}
use Rattle.spec_flows.specs.declared.Tuple.{Tuple}
use Rattle.flow_splice.specs.Splice.{Face}
use Rattle.flow_splice.specs.declared.Place.{Place}
use Rattle.flow_splice.specs.declared.Place.TheVariants.{Empty, InUse, InTimeWait}

-- it is in a turn; no datagram asks for a call, nor a service, and the closing hasn't begun
pub record InWork (config : Config) (past : List Entry) : Type 0 where
  pub working : phase config past ≡ Working
  pub errand : errand_left config past ≡ None
  pub services : due_for_services config past ≡ None
  pub open_yet : is_closing config past ≡ false

-- whatever was done for a flow was lawful, and as it must be
abbrev pub IsInOrder : Settings → Story → Type 0
IsInOrder s past = IsLawful s past × IsDutiful s past

-- after a call on its socket that failed a flow asks for the close, and else for nothing
abbrev pub close_if : Bool → ℕ → Option Call
close_if failed socket = if failed then Some (CallClose socket) else None

-- The flow of a socket, between these two ends. No other was opened later on them; its socket is open unless it was closed; flows ask for this call, or for
-- none; and no other flow is one that the next call must close.
pub record HasFlowOf (asks : Option Call) (config : Config) (face : Face) (f : Flow) (past : List Entry) : Type 0 where
  pub found : flow_of face.number (book config past).flows ≡ Some f
  pub guest : f.tuple.guest ≡ face.guest
  pub other : f.tuple.other ≡ face.other
  pub owned : option_map (λ (g : Flow). g.number) (owner f.tuple (book config past).flows) ≡ Some face.number
  pub socket : is_closed f.story ≡ false → joins past face.number ≡ true
  pub due : due_for_flows config (book config past) (next_number past) ≡ asks
  pub others : (number : ℕ) (g : Flow) → (number == face.number) ≡ false → flow_of number (book config past).flows ≡ Some g → MustClose g.story → ⊥

-- Flows ask for nothing but the close of this one, where a call on its socket failed.
abbrev pub HasFlow : Config → Face → Flow → List Entry → Type 0
HasFlow config face f past = HasFlowOf (close_if (host_failed f.story) face.number) config face f past

-- a flow that entered TIME-WAIT is the last of those in TIME-WAIT
abbrev pub with_time_wait : Option ℕ → ℕ → List TimeWait → List TimeWait
with_time_wait None number time_waits = time_waits
with_time_wait (Some since) number time_waits = time_waits ++ time_wait number since ∷ []

-- the slot at a place of a flow between two ends
abbrev pub slot_at : Place → Tuple → Slot
slot_at Empty t = FreeSlot
slot_at InUse t = SlotInUse t
slot_at (InTimeWait since) t = SlotInTimeWait t since

-- the flow with these events more
abbrev pub with_beats : Flow → Story → Flow
with_beats f beats = record { number = f.number; tuple = f.tuple; story = beats ++ f.story }

-- these are the last of those
abbrev pub IsLast : List Want → List Want → Type 0
IsLast items all = (before : List Want) × (all ≡ before ++ items)

-- what becomes of a segment without a flow, where there is room for one more or not
abbrev pub verdict_without_flow : Config → (room : Bool) → OnTuple → SegmentVerdict
verdict_without_flow config room on =
    if on.segment.rst || is_to_many config on.tuple.other then Dropped
    else (if is_opening on.segment then verdict_by_policy (target config OverTcp on.tuple.other) room else GetsReset)

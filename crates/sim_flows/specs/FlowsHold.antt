-- What the core keeps of TCP, of the calls made on the World: the fields to be added to the core's relation.
use Rattle.std.specs.Prelude.{◌≡◌, ℕ, Bool, List, filter, length, Contains, slice_get, Option, Some, if◌then◌else◌}
use Rattle.net_octets.specs.declared.Mac.{Mac}
use Rattle.world_face.specs.Journal.{Entry, Call}
use Rattle.slirp_settings.specs.Addresses.{Config}
use Rattle.flow_table.specs.Slots.{Flows}
use Rattle.spec_flow.specs.Event.{Story}
use Rattle.spec_flows.specs.SegmentVerdicts.{due_for_flows}
use Rattle.spec_flows.specs.Book.{book, is_young}
use Rattle.spec_flows.specs.Flows.{Flow, TimeWait, flow_of}
use Rattle.spec_flows.specs.Taught.{taught}
use Rattle.spec_trace.specs.Moments.{moment}
use Rattle.spec_trace.specs.Sockets.{next_number}
use Rattle.sim_flows.specs.Seats.{Seats}

-- what a contract sees of the core's flows: the table of slots, the part of each slot, and how many flows were opened
pub record FlowsState (P : Type 0) : Type 0 where
  pub table : Flows
  pub slots : List (Option P)
  pub opened : ℕ

-- The core lets old TIME-WAITs go before it waits; those of the trace end with the wait.
abbrev pub time_waits_at : Bool → Config → List Entry → List TimeWait
time_waits_at aged config past = if aged then filter (is_young (moment past)) (book config past).time_waits else (book config past).time_waits

-- the newest entry asks for this call, or for none
pub record FlowsHold {P : Type 0} (number : P → ℕ) (mac : P → Option Mac) (Follows : P → Story → Type 0) (config : Config) (aged : Bool) (task : Option Call) (state : FlowsState P)
    (past : List Entry) : Type 0 where
  pub seats : Seats number Follows state.table state.slots (next_number past) (book config past).flows (time_waits_at aged config past)
  pub slots : length state.table.slots ≡ config.flows
  pub opened : length (book config past).flows ≡ state.opened
  pub asked : due_for_flows config (book config past) (next_number past) ≡ task
  -- a part's hardware address is one that was learnt for its guest
  pub learnt : (k : ℕ) (p : P) (f : Flow) (m : Mac) → slice_get state.slots k ≡ Some (Some p) → flow_of (number p) (book config past).flows ≡ Some f → mac p ≡ Some m → Contains
      (taught config past) (f.tuple.guest.addr, m)

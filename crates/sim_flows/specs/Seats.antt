-- The slots of the core, against the flows of the trace.
use Rattle.std.specs.Prelude.{◌≡◌, ℕ, suc, ◌≤◌, true, false, List, [], ◌∷◌, map, Contains, slice_get, Option, Some, None, option_map, filter_map}
use Rattle.flow_table.specs.Slots.{Flows}
use Rattle.flow_table.specs.declared.Slot.{Slot}
use Rattle.flow_table.specs.declared.Slot.TheVariants.{Free, InUse, InTimeWait}
use Rattle.spec_flows.specs.declared.Tuple.{Tuple}
use Rattle.spec_flow.specs.Event.{Story}
use Rattle.spec_flow.specs.Close.{is_in_use}
use Rattle.spec_flows.specs.Flows.{Flow, TimeWait, owner, flow_of, uses, used}
use Rattle.spec_trace.specs.Sockets.{is_among}
use Rattle.spec_flows.specs.Said.{Differ}

-- a slot and the flow that has it: in use, or in TIME-WAIT since the moment of the book
abbrev pub IsSlotOf : List TimeWait → Flow → Slot → Type 0
IsSlotOf time_waits f Free = ⊥
IsSlotOf time_waits f (InUse t) = (f.tuple ≡ t) × (is_in_use f.story ≡ true)
IsSlotOf time_waits f (InTimeWait t since) = (f.tuple ≡ t) × Contains time_waits (record { number = f.number; since = since }) × (is_in_use f.story ≡ false)

abbrev pub number_in : {P : Type 0} → (P → ℕ) → Option (Option P) → Option ℕ
number_in number (Some (Some p)) = Some (number p)
number_in number (Some None) = None
number_in number None = None

abbrev pub number_at : {P : Type 0} → (P → ℕ) → List (Option P) → ℕ → Option ℕ
number_at number parts k = number_in number (slice_get parts k)

abbrev pub count_used : Slot → ℕ → ℕ
count_used (InUse t) n = suc n
count_used _ n = n

abbrev pub in_use_slots : List Slot → ℕ
in_use_slots [] = 0
in_use_slots (s ∷ slots) = count_used s (in_use_slots slots)

-- the numbers of the flows in TIME-WAIT, in the order in which their slots entered TIME-WAIT
abbrev pub time_waits_at : Option Slot → Option ℕ → Option ℕ
time_waits_at (Some (InTimeWait t since)) n = n
time_waits_at _ n = None

abbrev pub numbers_in_time_wait : {P : Type 0} → (P → ℕ) → Flows → List (Option P) → List ℕ
numbers_in_time_wait number table parts = filter_map (λ k. time_waits_at (slice_get table.slots k) (number_at number parts k)) table.time_wait_order

-- no number stands twice
abbrev pub Once : List ℕ → Type 0
Once [] = Unit {0}
Once (n ∷ ns) = (is_among n ns ≡ false) × Once ns

-- P is what the core has of a flow, number its socket, and Follows its relation to the flow's story.
pub record Seats {P : Type 0} (number : P → ℕ) (Follows : P → Story → Type 0) (table : Flows) (parts : List (Option P)) (next : ℕ) (flows : List Flow) (time_waits : List TimeWait) : Type 0 where
  -- each part has its flow, whose story it follows, and its slot
  pub seated : (k : ℕ) (p : P) → slice_get parts k ≡ Some (Some p)
      → (f : Flow) × (s : Slot) × (flow_of (number p) flows ≡ Some f) × (f.number ≡ number p) × Follows p f.story × (slice_get table.slots k ≡ Some s) × IsSlotOf time_waits f s
  -- a slot without a part is free
  pub empty : (k : ℕ) → slice_get parts k ≡ Some None → slice_get table.slots k ≡ Some Free
  -- no flow has two slots
  pub numbers : (k j n : ℕ) → number_at number parts k ≡ Some n → number_at number parts j ≡ Some n → k ≡ j
  -- the flow of a slot is the one that was opened last on its tuple
  pub owned : (k n : ℕ) (t : Tuple) → number_at number parts k ≡ Some n → option_map (λ (f : Flow). f.tuple) (flow_of n flows) ≡ Some t
      → option_map (λ (f : Flow). f.number) (owner t flows) ≡ Some n
  -- each flow in use has a slot
  pub found : (n : ℕ) → uses (flow_of n flows) ≡ true → (k : ℕ) × (number_at number parts k ≡ Some n)
  -- those in TIME-WAIT, in their order
  pub order : map (λ (r : TimeWait). r.number) time_waits ≡ numbers_in_time_wait number table parts
  -- as many tuples are in use as slots
  pub counted : used flows ≡ in_use_slots table.slots
  pub differ : Differ flows
  -- the next numbers are no flow's
  pub fresh : (n : ℕ) → next ≤ n → flow_of n flows ≡ None

-- none of these TIME-WAITs since an earlier moment; and each is in TIME-WAIT at least as long as those behind it
abbrev pub AreFrom : ℕ → List TimeWait → Type 0
AreFrom m [] = Unit {0}
AreFrom m (r ∷ time_waits) = (m ≤ r.since) × AreFrom m time_waits

-- the TIME-WAITs stand in the order of time
abbrev pub Rise : List TimeWait → Type 0
Rise [] = Unit {0}
Rise (r ∷ time_waits) = AreFrom r.since time_waits × Rise time_waits

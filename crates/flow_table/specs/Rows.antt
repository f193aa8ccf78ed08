-- The rows by which a table of flows finds a slot without a walk: one by tuple, and one with the longest TIME-WAIT first.
use Rattle.std.specs.Prelude.{◌≡◌, ◌≢◌, ℕ, ◌+◌, ◌<◌, ◌≤◌, List, length, slice_get, slice_set, [], ◌∷◌, ◌++◌, Option, Some, None, Result, Ok, Err}
use Rattle.std.specs.List.Sorted.{IsNonDecreasingBy}
use Rattle.std.specs.declared.cmp.Ordering.{Ordering}
use Rattle.std.specs.declared.cmp.Ordering.TheVariants.{Less, Greater}
use Rattle.std.specs.Ordering.{nat_cmp, ordering_then}
use Rattle.flow_table.specs.declared.Entry.{Entry}
use Rattle.flow_table.specs.declared.TimeWait.{TimeWait}
use Rattle.flow_table.specs.declared.Slot.{Slot}
use Rattle.spec_flows.specs.declared.Tuple.{Tuple}
use Rattle.flow_table.specs.declared.Slot.TheVariants.{Free}
use Rattle.flow_table.specs.Slots.{AreKept, HasTuple, IsFree, MayBeTaken, InTimeWaitSince, Stands, StandsBefore, Once, flows}

-- the order of tuples: by guest address, guest port, other address, other port
abbrev pub tuple_cmp : Tuple → Tuple → Ordering
tuple_cmp a b = ordering_then (nat_cmp a.guest.addr.0 b.guest.addr.0) (ordering_then (nat_cmp a.guest.port b.guest.port) (ordering_then (nat_cmp a.other.addr.0 b.other.addr.0)
    (nat_cmp a.other.port b.other.port)))

-- a tuple with its slot
abbrev pub entry_of : Tuple → ℕ → Entry
entry_of t k = record { tuple = t; slot = k }

-- each tuple is above those before it
abbrev pub Rise : List Entry → Type 0
Rise entries = (i j : ℕ) (a b : Entry) → i < j → slice_get entries i ≡ Some a → slice_get entries j ≡ Some b → tuple_cmp a.tuple b.tuple ≡ Less

-- each before this place has a lower tuple
abbrev pub AreBelow : List Entry → ℕ → Tuple → Type 0
AreBelow entries place t = (i : ℕ) (e : Entry) → i < place → slice_get entries i ≡ Some e → tuple_cmp e.tuple t ≡ Less

-- and each from it on a higher one
abbrev pub AreAbove : List Entry → ℕ → Tuple → Type 0
AreAbove entries place t = (i : ℕ) (e : Entry) → place ≤ i → slice_get entries i ≡ Some e → tuple_cmp e.tuple t ≡ Greater

-- where a tuple stands
abbrev pub StandsAt : List Entry → ℕ → Tuple → Type 0
StandsAt entries place t = (k : ℕ) × (slice_get entries place ≡ Some (entry_of t k))

-- where a tuple would stand that has no slot
pub record BelongsAt (entries : List Entry) (place : ℕ) (t : Tuple) : Type 0 where
  pub within : place ≤ length entries
  pub below : AreBelow entries place t
  pub above : AreAbove entries place t

abbrev pub IsPlaceOf : List Entry → Tuple → Result ℕ ℕ → Type 0
IsPlaceOf entries t (Ok place) = StandsAt entries place t
IsPlaceOf entries t (Err place) = BelongsAt entries place t

-- the slot that stands in the row with a tuple, or none where none does
abbrev pub IsSlotIn : List Entry → Tuple → Option ℕ → Type 0
IsSlotIn entries t (Some slot) = (i : ℕ) × (slice_get entries i ≡ Some (entry_of t slot))
IsSlotIn entries t None = (i k : ℕ) → slice_get entries i ≡ Some (entry_of t k) → ⊥

-- each slot with a tuple stands once in the row, by its tuple
pub record AreEntries (slots : List Slot) (entries : List Entry) : Type 0 where
  pub has : (i : ℕ) (e : Entry) → slice_get entries i ≡ Some e → HasTuple slots e.slot e.tuple
  pub all : (k : ℕ) (t : Tuple) → HasTuple slots k t → (i : ℕ) × (slice_get entries i ≡ Some (entry_of t k))
  pub rise : Rise entries

-- the free slots, each once
pub record AreFree (slots : List Slot) (free : List ℕ) : Type 0 where
  pub is : (i k : ℕ) → slice_get free i ≡ Some k → IsFree slots k
  pub all : (k : ℕ) → IsFree slots k → Stands free k
  pub once : Once free

-- a slot in TIME-WAIT since a moment
abbrev pub time_wait_of : ℕ → ℕ → TimeWait
time_wait_of slot since = record { slot = slot; since = since }

-- the one is in TIME-WAIT for longer, or as long and entered TIME-WAIT first
pub record IsLonger (time_wait_order : List ℕ) (a b : TimeWait) : Type 0 where
  pub since : a.since ≤ b.since
  pub first : a.since ≡ b.since → StandsBefore time_wait_order a.slot b.slot
  pub other : a.slot ≢ b.slot

-- each slot in TIME-WAIT stands once in the row, before those in TIME-WAIT for less long
pub record AreTimeWaits (slots : List Slot) (time_wait_order : List ℕ) (time_waits : List TimeWait) : Type 0 where
  pub has : (i : ℕ) (r : TimeWait) → slice_get time_waits i ≡ Some r → (t : Tuple) × InTimeWaitSince slots r.slot t r.since
  pub all : (k : ℕ) (t : Tuple) (since : ℕ) → InTimeWaitSince slots k t since → (i : ℕ) × (slice_get time_waits i ≡ Some (time_wait_of k since))
  pub order : (i j : ℕ) (a b : TimeWait) → i < j → slice_get time_waits i ≡ Some a → slice_get time_waits j ≡ Some b → IsLonger time_wait_order a b

-- none is in TIME-WAIT since an earlier moment than one before it
abbrev pub DoNotFall : List TimeWait → Type 0
DoNotFall time_waits = IsNonDecreasingBy (λ (r : TimeWait). r.since) time_waits

-- the first place of those that are in TIME-WAIT since this moment or a later one
pub record IsFirstSince (time_waits : List TimeWait) (since place : ℕ) : Type 0 where
  pub within : place ≤ length time_waits
  pub before : (i : ℕ) (r : TimeWait) → i < place → slice_get time_waits i ≡ Some r → r.since < since
  pub after : (i : ℕ) (r : TimeWait) → place ≤ i → slice_get time_waits i ≡ Some r → since ≤ r.since

-- the first place of those that are in TIME-WAIT since a later moment
pub record IsFirstAfter (time_waits : List TimeWait) (since place : ℕ) : Type 0 where
  pub within : place ≤ length time_waits
  pub before : (i : ℕ) (r : TimeWait) → i < place → slice_get time_waits i ≡ Some r → r.since ≤ since
  pub after : (i : ℕ) (r : TimeWait) → place ≤ i → slice_get time_waits i ≡ Some r → since < r.since

-- a slot that could be taken stands in neither row, and isn't among the free ones any more, whose order is free
pub record IsVacated (slots : List Slot) (slot : ℕ) (time_waits : List TimeWait) (entries_left : List Entry) (rests_left : List TimeWait) (free_left : List ℕ) : Type 0 where
  pub within : slot < length slots
  pub may : (time_wait_order : List ℕ) → AreKept slots time_wait_order → AreTimeWaits slots time_wait_order time_waits → MayBeTaken (flows slots time_wait_order) slot
  pub by_tuple : AreEntries (slice_set slots slot Free) entries_left
  pub by_rest : (time_wait_order : List ℕ) → AreTimeWaits slots time_wait_order time_waits → AreTimeWaits (slice_set slots slot Free) time_wait_order rests_left
  pub freed : AreFree (slice_set slots slot Free) (free_left ++ slot ∷ [])

-- what always holds of a table and its rows, which have room for all slots
pub record IsTable (slots : List Slot) (time_wait_order : List ℕ) (entries : List Entry) (time_waits : List TimeWait) (free : List ℕ) (entries_room rests_room free_room : ℕ) : Type 0 where
  pub kept : AreKept slots time_wait_order
  pub by_tuple : AreEntries slots entries
  pub by_rest : AreTimeWaits slots time_wait_order time_waits
  pub are_free : AreFree slots free
  pub count : length entries + length free ≡ length slots
  pub entries_fit : length slots ≤ entries_room
  pub rests_fit : length slots ≤ rests_room
  pub free_fit : length slots ≤ free_room

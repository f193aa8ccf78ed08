-- Slots for flows: in each its tuple, where it has one, and since when it is in TIME-WAIT, where it is; and the order in which slots entered TIME-WAIT.
use Rattle.std.specs.Prelude.{◌≡◌, ℕ, ◌<◌, ◌≤◌, ◌==◌, ◌++◌, ◌⊎◌, List, [], ◌∷◌, length, Option, None, Some, option_and_then, slice_get, slice_set, replicate}
use Rattle.std.specs.List.{remove, position_or_len, range_with_len}
use Rattle.flow_table.specs.declared.Slot.{Slot}
use Rattle.flow_table.specs.declared.Slot.TheVariants.{Free, InUse, InTimeWait}
use Rattle.spec_flows.specs.declared.Tuple.{Tuple}

-- the slots, and their numbers in the order in which each last entered TIME-WAIT, the latest last
pub record Flows : Type 0 where
  pub slots : List Slot
  pub time_wait_order : List ℕ

abbrev pub flows : List Slot → List ℕ → Flows
flows slots time_wait_order = record { slots = slots; time_wait_order = time_wait_order }

-- what a slot is
abbrev pub IsFree : List Slot → ℕ → Type 0
IsFree slots k = slice_get slots k ≡ Some Free

abbrev pub InTimeWaitSince : List Slot → ℕ → Tuple → ℕ → Type 0
InTimeWaitSince slots k t since = slice_get slots k ≡ Some (InTimeWait t since)

-- a slot has a tuple, in use or in TIME-WAIT
abbrev pub tuple_of : Slot → Option Tuple
tuple_of Free = None
tuple_of (InUse t) = Some t
tuple_of (InTimeWait t since) = Some t

abbrev pub HasTuple : List Slot → ℕ → Tuple → Type 0
HasTuple slots k t = option_and_then tuple_of (slice_get slots k) ≡ Some t

abbrev pub HasSome : List Slot → ℕ → Type 0
HasSome slots k = (t : Tuple) × HasTuple slots k t

abbrev pub NoneHas : List Slot → Tuple → Type 0
NoneHas slots t = (k : ℕ) → HasTuple slots k t → ⊥

abbrev pub NoneIsFree : List Slot → Type 0
NoneIsFree slots = (k : ℕ) → IsFree slots k → ⊥

abbrev pub NoneInTimeWait : List Slot → Type 0
NoneInTimeWait slots = (k : ℕ) (t : Tuple) (since : ℕ) → InTimeWaitSince slots k t since → ⊥

-- a number stands in a list
abbrev pub Stands : List ℕ → ℕ → Type 0
Stands time_wait_order k = (i : ℕ) × (slice_get time_wait_order i ≡ Some k)

-- it stands there at or before each place of another
abbrev pub StandsBefore : List ℕ → ℕ → ℕ → Type 0
StandsBefore time_wait_order k other = (j : ℕ) → slice_get time_wait_order j ≡ Some other → (i : ℕ) × ((i ≤ j) × (slice_get time_wait_order i ≡ Some k))

-- the slot that has been in TIME-WAIT the longest: no other is in TIME-WAIT since an earlier moment, and each that is in TIME-WAIT since the same entered TIME-WAIT later
pub record IsLongestInTimeWait (f : Flows) (k : ℕ) : Type 0 where
  pub tuple : Tuple
  pub since : ℕ
  pub time_waits : InTimeWaitSince f.slots k tuple since
  pub longest : (other : ℕ) (t : Tuple) (moment : ℕ) → InTimeWaitSince f.slots other t moment → since ≤ moment
  pub first : (other : ℕ) (t : Tuple) → InTimeWaitSince f.slots other t since → StandsBefore f.time_wait_order k other

-- a free slot, or else the one that has been in TIME-WAIT the longest
abbrev pub MayBeTaken : Flows → ℕ → Type 0
MayBeTaken f k = IsFree f.slots k ⊎ (NoneIsFree f.slots × IsLongestInTimeWait f k)

-- a table of so many slots before its first flow
abbrev pub all_free : ℕ → Flows
all_free n = flows (replicate n Free) (range_with_len 0 n)

-- a number goes to the end of a list
abbrev pub moved_last : ℕ → List ℕ → List ℕ
moved_last k time_wait_order = remove time_wait_order (position_or_len (λ other. other == k) time_wait_order) ++ k ∷ []

-- a slot has another content, and the order stays
abbrev pub with_slot : Flows → ℕ → Slot → Flows
with_slot f k s = flows (slice_set f.slots k s) f.time_wait_order

-- no number stands twice
abbrev pub Once : List ℕ → Type 0
Once [] = Unit {0}
Once (k ∷ time_wait_order) = (Stands time_wait_order k → ⊥) × Once time_wait_order

-- what always holds: no two slots have the same tuple, and the order has each slot's number once and no other
pub record AreKept (slots : List Slot) (time_wait_order : List ℕ) : Type 0 where
  pub apart : (k other : ℕ) (t : Tuple) → HasTuple slots k t → HasTuple slots other t → k ≡ other
  pub within : (i k : ℕ) → slice_get time_wait_order i ≡ Some k → k < length slots
  pub all : (k : ℕ) → k < length slots → Stands time_wait_order k
  pub once : Once time_wait_order

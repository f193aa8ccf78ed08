-- Whether a slot in use has two ends, and what becomes of one that is in TIME-WAIT on them.
use Rattle.std.proofs.Common.{refl, ◌≡◌, ℕ, Bool, true, false, List, length, Some, None, Option, option_and_then, slice_get, ap, sym, ◌∙◌}
use Rattle.world_face.specs.Journal.{Call, Entry}
use Rattle.slirp_settings.specs.Addresses.{Config}
use Rattle.spec_trace.specs.Sockets.{next_number}
use Rattle.flow_table.specs.Slots.{HasTuple, InTimeWaitSince, tuple_of}
use Rattle.flow_table.specs.declared.Slot.{Slot}
use Rattle.flow_table.specs.declared.Slot.TheVariants.{Free, InUse as SlotInUse, InTimeWait as SlotInTimeWait}
use Rattle.spec_flows.specs.declared.Tuple.{Tuple}
use Rattle.spec_flows.specs.Book.{book}
use Rattle.spec_flows.specs.Flows.{is_used, uses}
use Rattle.sim_flows.specs.FlowsHold.{FlowsState, time_waits_at}
use Rattle.flow_splice.specs.Splice.{Splice, is_in_use}
use Rattle.flow_splice.specs.declared.Place.{Place}
use Rattle.flow_splice.specs.declared.Place.TheVariants.{Empty, InUse, InTimeWait}
use Rattle.sim_flows.specs.Core.{CoreHolds, Following, number_of}
use Rattle.sim_flows.specs.Stands.{slot_at}
use Rattle.sim_flows.proofs.Looking.{none_used, slot_rests, slot_used}
use Rattle.sim_flows.proofs.Options.{none_some, some_same, true_false}
use Rattle.tcp_flows.specs.Reading.{NoneUses}

module _ (slots : List Slot) (t : Tuple) where
  -- a slot that has them is in TIME-WAIT, where none in use does
  pub rests_only : (k : ℕ) → HasTuple slots k t → NoneUses slots t → (since : ℕ) × InTimeWaitSince slots k t since
  rests_only k has unused = by (slice_get slots k) refl has
    where
      by : (o : Option Slot) → slice_get slots k ≡ o → option_and_then tuple_of o ≡ Some t → (since : ℕ) × (slice_get slots k ≡ Some (SlotInTimeWait t since))
      by None is none = absurd (none_some none)
      by (Some Free) is none = absurd (none_some none)
      by (Some (SlotInUse u)) is same = absurd (unused k (is ∙ ap (λ x. Some (SlotInUse x)) (some_same u t same)))
      by (Some (SlotInTimeWait u since)) is same = (since, is ∙ ap (λ x. Some (SlotInTimeWait x since)) (some_same u t same))

  -- and where no slot has them none in use does
  pub none_used_is : ((k : ℕ) → HasTuple slots k t → ⊥) → NoneUses slots t
  none_used_is none k at = none k (ap (option_and_then tuple_of) at)

  -- the slot is that of a flow at this place
  module _ (k : ℕ) (x : Place) (slot : slice_get slots k ≡ Some (slot_at x t)) where
    pub use_found : is_in_use x ≡ true → slice_get slots k ≡ Some (SlotInUse t)
    use_found is = by x slot is
      where
        by : (y : Place) → slice_get slots k ≡ Some (slot_at y t) → is_in_use y ≡ true → slice_get slots k ≡ Some (SlotInUse t)
        by Empty at is = absurd (true_false (sym is))
        by InUse at is = at
        by (InTimeWait since) at is = absurd (true_false (sym is))

    pub use_none : ((other : ℕ) → HasTuple slots other t → other ≡ k) → is_in_use x ≡ false → NoneUses slots t
    use_none alone none j at = by x (sym slot ∙ ap (slice_get slots) (sym (alone j (ap (option_and_then tuple_of) at))) ∙ at) none
      where
        by : (y : Place) → Some (slot_at y t) ≡ Some (SlotInUse t) → is_in_use y ≡ false → ⊥
        by Empty same none = cc
        by InUse same none = absurd (true_false none)
        by (InTimeWait since) same none = cc

-- ---- in the trace

module _ (config : Config) (now : ℕ) (aged : Bool) (task : Option Call) (state : FlowsState Splice) (past : List Entry) (holds : CoreHolds config now aged task state past)
    (sizes : length state.slots ≡ length state.table.slots) (t : Tuple) where
  pub none_recorded : ((k : ℕ) → HasTuple state.table.slots k t → ⊥) → is_used t (book config past).flows ≡ false
  none_recorded none = none_used number_of (Following config now) state.table state.slots (next_number past) (book config past).flows (time_waits_at aged config past) holds.seats sizes t none

  pub use_recorded : (k : ℕ) (x : Place) → slice_get state.table.slots k ≡ Some (slot_at x t) → (x ≡ Empty → ⊥) → is_in_use x ≡ is_used t (book config past).flows
  use_recorded k Empty slot some = absurd (some refl)
  use_recorded k InUse slot some =
      let had = slot_used number_of (Following config now) state.table state.slots (next_number past) (book config past).flows (time_waits_at aged config past) holds.seats sizes k t slot in
      sym (ap uses had.4 ∙ had.5)
  use_recorded k (InTimeWait since) slot some =
      let had = slot_rests number_of (Following config now) state.table state.slots (next_number past) (book config past).flows (time_waits_at aged config past) holds.seats sizes k t since slot in
      sym (ap uses had.4 ∙ had.5)

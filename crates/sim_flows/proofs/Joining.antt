-- A socket connects, or a peer is accepted: a flow more in the trace, and the slot that the table gives it.
use Rattle.std.proofs.Common.{◌≡◌, ℕ, suc, true, false, List, [], ◌∷◌, length, set, slice_get, Option, Some, None, option_map, ◌⊎◌, inl, inr, refl, sym, ◌∙◌, ap, subst}
use Rattle.std.specs.Prelude.{option_and_then}
use Rattle.slirp_settings.specs.Addresses.{Config}
use Rattle.flow_table.specs.Slots.{AreKept, Flows, flows, IsFree, MayBeTaken, NoneHas, tuple_of}
use Rattle.flow_table.specs.declared.Slot.{Slot}
use Rattle.flow_table.specs.declared.Slot.TheVariants.{Free, InUse, InTimeWait}
use Rattle.spec_flows.specs.declared.Tuple.{Tuple}
use Rattle.spec_flow.specs.Event.{Event, At, Story}
use Rattle.spec_flow.specs.Close.{is_in_use}
use Rattle.spec_flows.specs.Book.{make_room, opens, without}
use Rattle.spec_flows.specs.Flows.{Flow, TimeWait, Book, owner, flow_of, is_among_time_waits}
use Rattle.sim_flows.specs.Seats.{IsSlotOf, number_in, number_at, Rise, Seats}
use Rattle.sim_flows.proofs.Opening.{none_some, seats_opened, some_same}
use Rattle.sim_flows.proofs.Taking.{room_else, room_free, room_full, room_own, seats_taken_longest, seats_taken_own}

-- the part that has a number
part_with : {P : Type 0} (number : P → ℕ) (o : Option (Option P)) (n : ℕ) → number_in number o ≡ Some n → (p : P) × (o ≡ Some (Some p)) × (number p ≡ n)
part_with number None n is = absurd (none_some is)
part_with number (Some None) n is = absurd (none_some is)
part_with number (Some (Some p)) n is = (p, refl, some_same (number p) n is)

module _ {P : Type 0} (number : P → ℕ) (Follows : P → Story → Type 0) (table : Flows) (parts : List (Option P)) (next : ℕ) (config : Config) (b : Book)
    (seats : Seats number Follows table parts next b.flows b.time_waits) (kept : AreKept table.slots table.time_wait_order) (sizes : length parts ≡ length table.slots)
    (slots : length table.slots ≡ config.flows)
    (rise : Rise b.time_waits) where
  -- where no slot has a tuple, no part's flow has it
  nobody_has : (t : Tuple) → NoneHas table.slots t → (j n : ℕ) → number_at number parts j ≡ Some n → option_map (λ (g : Flow). g.tuple) (flow_of n b.flows) ≡ Some t → ⊥
  nobody_has t none j n has is_on =
      let part = part_with number (slice_get parts j) n has in
      let seat = seats.seated j part.0 part.1 in
      let tuple : seat.0.tuple ≡ t = some_same seat.0.tuple t (sym (ap (option_map (λ (g : Flow). g.tuple)) (ap (λ m. flow_of m b.flows) (sym part.2) ∙ seat.2)) ∙ is_on) in
      by_slot seat.0 seat.1 seat.5 seat.6 tuple
    where
      by_slot : (f : Flow) (s : Slot) → slice_get table.slots j ≡ Some s → IsSlotOf b.time_waits f s → f.tuple ≡ t → ⊥
      by_slot f Free at of_it tuple = of_it
      by_slot f (InUse u) at of_it tuple = none j (ap (option_and_then tuple_of) at ∙ ap Some (sym of_it.0 ∙ tuple))
      by_slot f (InTimeWait u since) at of_it tuple = none j (ap (option_and_then tuple_of) at ∙ ap Some (sym of_it.0 ∙ tuple))

  -- A flow is opened on a tuple that no slot has, and the table gives it a slot: the flow stands in it, and the TIME-WAITs are those of the trace.
  pub seats_joined : (k : ℕ) (q : P) (now : ℕ) (t : Tuple) (e : Event) → NoneHas table.slots t → is_among_time_waits b.time_waits (owner t b.flows) ≡ false → MayBeTaken table k
      → slice_get parts k ≡ Some None ⊎ (IsFree table.slots k → ⊥)
      → number q ≡ next → is_in_use (At now e ∷ []) ≡ true → Follows q (At now e ∷ [])
      → Seats number Follows (flows (set table.slots k (InUse t)) table.time_wait_order) (set parts k (Some q)) (suc next) (opens config now next t e b).flows (opens config now next t e b).time_waits
  seats_joined k q now t e none awake (inl free) (inl empty) is uses follows =
      subst (λ (l : List TimeWait). Seats number Follows (flows (set table.slots k (InUse t)) table.time_wait_order) (set parts k (Some q)) (suc next) (opens config now next t e b).flows l)
      (sym (room_else config (owner t b.flows) b awake ∙ room_free number Follows table parts next config b seats kept sizes slots k free))
      (seats_opened number Follows table parts next b.flows b.time_waits k q (record { number = next; tuple = t; story = At now e ∷ [] }) free empty refl is uses follows (nobody_has t none) seats)
  seats_joined k q now t e none awake (inl free) (inr not) is uses follows = absurd (not free)
  seats_joined k q now t e none awake (inr longest) empty is uses follows =
      subst (λ (l : List TimeWait). Seats number Follows (flows (set table.slots k (InUse t)) table.time_wait_order) (set parts k (Some q)) (suc next) (opens config now next t e b).flows l)
      (sym (room_else config (owner t b.flows) b awake ∙ room_full number Follows table parts next config b seats kept sizes slots longest.0))
      (seats_taken_longest number Follows table parts next b.flows b.time_waits seats k q
      (record { number = next; tuple = t; story = At now e ∷ [] }) sizes kept rise longest.1 refl is uses follows (nobody_has t none))

  -- A flow is opened on a tuple whose flow is in TIME-WAIT: it takes that slot, and that TIME-WAIT ends.
  pub seats_joined_again : (k : ℕ) (p q : P) (now : ℕ) (t : Tuple) (since : ℕ) (e : Event) (f : Flow) → slice_get parts k ≡ Some (Some p) → slice_get table.slots k ≡ Some (InTimeWait t since)
      → owner t b.flows ≡ Some f → f.number ≡ number p → is_among_time_waits b.time_waits (Some f) ≡ true
      → number q ≡ next → is_in_use (At now e ∷ []) ≡ true → Follows q (At now e ∷ [])
      → Seats number Follows (flows (set table.slots k (InUse t)) table.time_wait_order) (set parts k (Some q)) (suc next) (opens config now next t e b).flows (opens config now next t e b).time_waits
  seats_joined_again k p q now t since e f at slot own same time_waits is uses follows =
      subst (λ (l : List TimeWait). Seats number Follows (flows (set table.slots k (InUse t)) table.time_wait_order) (set parts k (Some q)) (suc next) (opens config now next t e b).flows l)
      (sym (ap (λ o. make_room config o b) own ∙ room_own config f b time_waits ∙ ap (λ n. without n b.time_waits) same))
      (seats_taken_own number Follows table parts next b.flows b.time_waits seats k p q (record { number = next; tuple = t; story = At now e ∷ [] }) since at slot refl is uses follows)

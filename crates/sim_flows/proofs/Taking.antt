-- A flow is opened and takes the slot that has been in TIME-WAIT the longest, or the one in which a flow on its own tuple is in TIME-WAIT; and what the trace says of the TIME-WAITs then.
use Rattle.std.proofs.Common.{◌≡◌, ℕ, suc, ◌+◌, ◌<◌, ◌==◌, true, false, List, ◌∷◌, length, drop, set, slice_get, Option, Some, None, option_map, if◌then◌else◌, nat_le, inl, inr, refl, sym}
use Rattle.std.proofs.Common.{◌∙◌, ap, subst, arith}
use Rattle.std.proofs.lemmas.Bool.Decides.{nat_tests}
use Rattle.slirp_settings.specs.Addresses.{Config}
use Rattle.flow_table.specs.Slots.{AreKept, Flows, flows, IsLongestInTimeWait, IsFree, NoneIsFree}
use Rattle.flow_table.specs.declared.Slot.{Slot}
use Rattle.flow_table.specs.declared.Slot.TheVariants.{Free, InUse, InTimeWait}
use Rattle.spec_flow.specs.Event.{Story}
use Rattle.spec_flow.specs.Close.{is_in_use}
use Rattle.spec_flows.specs.Book.{make_room, with_room, without}
use Rattle.spec_flows.specs.Flows.{Flow, TimeWait, Book, owner, flow_of, is_among_time_waits, uses, used}
use Rattle.sim_flows.specs.Seats.{IsSlotOf, number_in, number_at, Rise, Seats}
use Rattle.sim_flows.proofs.Counted.{full, has_room}
use Rattle.sim_flows.proofs.Laying.{set_twice}
use Rattle.sim_flows.proofs.Only.{only_none}
use Rattle.sim_flows.proofs.Opening.{none_some, seats_opened, some_same}
use Rattle.sim_flows.proofs.Seats.{differ, same_or_not}
use Rattle.sim_flows.proofs.Tables.{get_set_at, get_set_other}
use Rattle.sim_flows.proofs.Waking.{seats_woken}
use Rattle.sim_flows.proofs.Yielding.{seats_yielded, seats_part}

module _ {P : Type 0} (number : P → ℕ) (Follows : P → Story → Type 0) (table : Flows) (parts : List (Option P)) (next : ℕ) (old : List Flow) (time_waits : List TimeWait)
    (seats : Seats number Follows table parts next old time_waits) where
  -- what is opened in a slot that was freed just before
  opened_in : (k : ℕ) (p : P) (q : P) (f : Flow) (s : Slot) (left : List TimeWait) → slice_get table.slots k ≡ Some s → slice_get parts k ≡ Some (Some p)
      → f.number ≡ next → number q ≡ next → is_in_use f.story ≡ true → Follows q f.story
      → ((j n : ℕ) → (j == k) ≡ false → number_at number parts j ≡ Some n → option_map (λ (g : Flow). g.tuple) (flow_of n old) ≡ Some f.tuple → ⊥)
      → Seats number Follows (flows (set table.slots k Free) table.time_wait_order) (set parts k None) next old left
      → Seats number Follows (flows (set table.slots k (InUse f.tuple)) table.time_wait_order) (set parts k (Some q)) (suc next) (f ∷ old) left
  opened_in k p q f s left slot at f_next q_next in_use follows nobody freed =
      let none : slice_get (set parts k None) k ≡ Some None = get_set_at parts k (Some p) None at in
      let free : slice_get (set table.slots k Free) k ≡ Some Free = get_set_at table.slots k s Free slot in
      let opened = seats_opened number Follows (flows (set table.slots k Free) table.time_wait_order) (set parts k None) next old left k q f free none f_next q_next in_use follows
      (λ j n has is_on. elsewhere j n has is_on) freed in
      subst (λ (l : List Slot). Seats number Follows (flows l table.time_wait_order) (set parts k (Some q)) (suc next) (f ∷ old) left) (set_twice table.slots k Free (InUse f.tuple))
      (subst (λ (l : List (Option P)). Seats number Follows (flows (set (set table.slots k Free) k (InUse f.tuple)) table.time_wait_order) l (suc next) (f ∷ old) left)
      (set_twice parts k None (Some q)) opened)
    where
      elsewhere : (j n : ℕ) → number_at number (set parts k None) j ≡ Some n → option_map (λ (g : Flow). g.tuple) (flow_of n old) ≡ Some f.tuple → ⊥
      elsewhere j n has is_on = elim (same_or_not j k) [
        | inl same ↦ none_some (sym (ap (λ i. number_at number (set parts k None) i) same ∙ ap (number_in number) (get_set_at parts k (Some p) None at)) ∙ has)
        | inr other ↦ nobody j n other (sym (ap (number_in number) (get_set_other parts k j None (differ j k other))) ∙ has) is_on
      ]

  -- No slot is free and none has the tuple: the slot that has been in TIME-WAIT the longest is taken.
  pub seats_taken_longest : (k : ℕ) (q : P) (f : Flow) → length parts ≡ length table.slots → AreKept table.slots table.time_wait_order → Rise time_waits → IsLongestInTimeWait table k
      → f.number ≡ next → number q ≡ next → is_in_use f.story ≡ true → Follows q f.story
      → ((j n : ℕ) → number_at number parts j ≡ Some n → option_map (λ (g : Flow). g.tuple) (flow_of n old) ≡ Some f.tuple → ⊥)
      → Seats number Follows (flows (set table.slots k (InUse f.tuple)) table.time_wait_order) (set parts k (Some q)) (suc next) (f ∷ old) (drop 1 time_waits)
  seats_taken_longest k q f sizes kept rise longest f_next q_next in_use follows nobody =
      let p = seats_part number Follows table parts next old time_waits seats kept k sizes rise longest in
      opened_in k p.0 q f (InTimeWait longest.tuple longest.since) (drop 1 time_waits) longest.time_waits p.1 f_next q_next in_use follows (λ j n other. nobody j n)
      (seats_yielded number Follows table parts next old time_waits seats kept k sizes rise longest)

  -- A flow is in TIME-WAIT on the tuple: its slot is taken.
  pub seats_taken_own : (k : ℕ) (p q : P) (f : Flow) (since : ℕ) → slice_get parts k ≡ Some (Some p) → slice_get table.slots k ≡ Some (InTimeWait f.tuple since)
      → f.number ≡ next → number q ≡ next → is_in_use f.story ≡ true → Follows q f.story
      → Seats number Follows (flows (set table.slots k (InUse f.tuple)) table.time_wait_order) (set parts k (Some q)) (suc next) (f ∷ old) (without (number p) time_waits)
  seats_taken_own k p q f since at slot f_next q_next in_use follows =
      let seat = seats.seated k p at in
      let slot_is : seat.1 ≡ InTimeWait f.tuple since = some_same seat.1 (InTimeWait f.tuple since) (sym seat.5 ∙ slot) in
      let of_it = subst (IsSlotOf time_waits seat.0) slot_is seat.6 in
      let unused : uses (flow_of (number p) old) ≡ false = ap uses seat.2 ∙ of_it.2 in
      let here_is : number_at number parts k ≡ Some (number p) = ap (number_in number) at in
      let own : option_map (λ (g : Flow). g.number) (owner f.tuple old) ≡ Some (number p) = seats.owned k (number p) f.tuple here_is (ap (option_map (λ (g : Flow). g.tuple)) seat.2
      ∙ ap Some of_it.0) in
      opened_in k p q f (InTimeWait f.tuple since) (without (number p) time_waits) slot at f_next q_next in_use follows
      (λ j n other has is_on. differ j k other (seats.numbers j k (number p) (has ∙ sym (seats.owned j n f.tuple has is_on) ∙ own) here_is))
      (seats_woken number Follows table parts next old old time_waits k p f.tuple since at slot unused unused (only_none (number p) old) seats)

-- ---- the TIME-WAITs of the trace

-- the owner isn't in TIME-WAIT: only where there is no room the longest TIME-WAIT ends
pub room_else : (config : Config) (o : Option Flow) (b : Book) → is_among_time_waits b.time_waits o ≡ false → make_room config o b ≡ with_room config b
room_else config None b awake = refl
room_else config (Some f) b awake = ap (λ t. if t then without f.number b.time_waits else with_room config b) awake

-- the owner is in TIME-WAIT: its TIME-WAIT ends
pub room_own : (config : Config) (f : Flow) (b : Book) → is_among_time_waits b.time_waits (Some f) ≡ true → make_room config (Some f) b ≡ without f.number b.time_waits
room_own config f b time_waits = ap (λ t. if t then without f.number b.time_waits else with_room config b) time_waits

module _ {P : Type 0} (number : P → ℕ) (Follows : P → Story → Type 0) (table : Flows) (parts : List (Option P)) (next : ℕ) (config : Config) (b : Book)
    (seats : Seats number Follows table parts next b.flows b.time_waits) (kept : AreKept table.slots table.time_wait_order) (sizes : length parts ≡ length table.slots)
    (slots : length table.slots ≡ config.flows) where
  -- where a slot is free no TIME-WAIT ends
  pub room_free : (k : ℕ) → IsFree table.slots k → with_room config b ≡ b.time_waits
  room_free k free = ap (λ t. if t then drop 1 b.time_waits else b.time_waits)
      (not_le config.flows (used b.flows + length b.time_waits) (below (length table.slots) (has_room number Follows table parts next b.flows b.time_waits k seats kept sizes free)))
    where
      below : (n : ℕ) → used b.flows + length b.time_waits < length table.slots → used b.flows + length b.time_waits < config.flows
      below n is = omega (arith, is, slots)

      not_le : (a c : ℕ) → c < a → nat_le a c ≡ false
      not_le a c is = grind (arith, nat_tests, is)

  -- where none is the longest does
  pub room_full : NoneIsFree table.slots → with_room config b ≡ drop 1 b.time_waits
  room_full none = ap (λ t. if t then drop 1 b.time_waits else b.time_waits)
      (is_le config.flows (used b.flows + length b.time_waits) (full number Follows table parts next b.flows b.time_waits seats kept sizes none ∙ slots))
    where
      is_le : (a c : ℕ) → c ≡ a → nat_le a c ≡ true
      is_le a c is = grind (arith, nat_tests, is)

-- The flow of a slot leaves it: what the other slots have stays.
use Rattle.std.proofs.Common.{◌≡◌, ℕ, ◌≤◌, ◌==◌, true, false, List, set, slice_get, Option, Some, None, option_map, inl, inr, sym, ◌∙◌, ap}
use Rattle.flow_table.specs.Slots.{Flows}
use Rattle.flow_table.specs.declared.Slot.{Slot}
use Rattle.flow_table.specs.declared.Slot.TheVariants.{Free}
use Rattle.spec_flows.specs.declared.Tuple.{Tuple}
use Rattle.spec_flow.specs.Event.{Story}
use Rattle.spec_flows.specs.Flows.{Flow, TimeWait, flow_of, owner, uses}
use Rattle.sim_flows.specs.Only.{Only}
use Rattle.sim_flows.specs.Seats.{IsSlotOf, number_in, number_at, Seats}
use Rattle.sim_flows.proofs.Opening.{none_some, some_same}
use Rattle.sim_flows.proofs.Seats.{same_or_not, differ, found_id, owner_id}
use Rattle.sim_flows.proofs.Tables.{get_set_at, get_set_other}

module _ {P : Type 0} (number : P → ℕ) (Follows : P → Story → Type 0) (table : Flows) (parts : List (Option P)) (next : ℕ) (old new : List Flow) (time_waits : List TimeWait) (k : ℕ) (p : P)
    (at : slice_get parts k ≡ Some (Some p)) (unused : uses (flow_of (number p) new) ≡ false) (only : Only (number p) old new) (seats : Seats number Follows table parts next old time_waits) where
  here : number_at number parts k ≡ Some (number p)
  here = ap (number_in number) at

  pub stays : (j : ℕ) → (j == k) ≡ false → number_at number (set parts k None) j ≡ number_at number parts j
  stays j other = ap (number_in number) (get_set_other parts k j None (differ j k other))

  gone : (j : ℕ) → j ≡ k → number_at number (set parts k None) j ≡ None
  gone j same = ap (λ i. number_at number (set parts k None) i) same ∙ ap (number_in number) (get_set_at parts k (Some p) None at)

  elsewhere : (j n : ℕ) → number_at number (set parts k None) j ≡ Some n → (j == k) ≡ false
  elsewhere j n has = elim (same_or_not j k) [
    | inl same ↦ absurd (none_some (sym (gone j same) ∙ has))
    | inr not ↦ not
  ]

  others : (j n : ℕ) → number_at number parts j ≡ Some n → (j == k) ≡ false → (n == number p) ≡ false
  others j n has other = elim (same_or_not n (number p)) [
    | inl same ↦ absurd (differ j k other (seats.numbers j k (number p) (has ∙ ap Some same) here))
    | inr not ↦ not
  ]

  not_here : (j n : ℕ) → number_at number parts j ≡ Some n → (n == number p) ≡ false → (j == k) ≡ false
  not_here j n has other = elim (same_or_not j k) [
    | inl same ↦ absurd (differ n (number p) other (some_same n (number p) (sym has ∙ ap (number_at number parts) same ∙ here)))
    | inr not ↦ not
  ]

  not_used : false ≡ true → ⊥
  not_used is = cc

  -- each other part has its flow and its slot, and another number
  pub seated_others : (j : ℕ) (r : P) → slice_get (set parts k None) j ≡ Some (Some r)
      → (f : Flow) × (s : Slot) × (flow_of (number r) new ≡ Some f) × (f.number ≡ number r) × Follows r f.story ×
      (slice_get (set table.slots k Free) j ≡ Some s) × IsSlotOf time_waits f s × ((number r == number p) ≡ false)
  seated_others j r is =
      let other = elsewhere j (number r) (ap (number_in number) is) in
      let was : slice_get parts j ≡ Some (Some r) = sym (get_set_other parts k j None (differ j k other)) ∙ is in
      let seat = seats.seated j r was in
      let apart = others j (number r) (ap (number_in number) was) other in
      (seat.0, seat.1, only.apart (number r) apart ∙ seat.2, seat.3, seat.4, get_set_other table.slots k j Free (differ j k other) ∙ seat.5, seat.6, apart)

  pub empty_others : (s : Slot) → slice_get table.slots k ≡ Some s → (j : ℕ) → slice_get (set parts k None) j ≡ Some None → slice_get (set table.slots k Free) j ≡ Some Free
  empty_others s slot j nothing = elim (same_or_not j k) [
    | inl same ↦ ap (slice_get (set table.slots k Free)) same ∙ get_set_at table.slots k s Free slot
    | inr other ↦ get_set_other table.slots k j Free (differ j k other) ∙ seats.empty j (sym (get_set_other parts k j None (differ j k other)) ∙ nothing)
  ]

  pub numbers_others : (i j n : ℕ) → number_at number (set parts k None) i ≡ Some n → number_at number (set parts k None) j ≡ Some n → i ≡ j
  numbers_others i j n at_i at_j = seats.numbers i j n (sym (stays i (elsewhere i n at_i)) ∙ at_i) (sym (stays j (elsewhere j n at_j)) ∙ at_j)

  pub owned_others : (j n : ℕ) (t : Tuple) → number_at number (set parts k None) j ≡ Some n → option_map (λ (f : Flow). f.tuple) (flow_of n new) ≡ Some t → option_map
      (λ (f : Flow). f.number) (owner t new) ≡ Some n
  owned_others j n t is is_on = owner_id t new old only.same ∙ seats.owned j n t (sym (stays j (elsewhere j n is)) ∙ is) (sym (found_id n new old only.same) ∙ is_on)

  pub found_others : (n : ℕ) → uses (flow_of n new) ≡ true → (j : ℕ) × (number_at number (set parts k None) j ≡ Some n)
  found_others n in_use = elim (same_or_not n (number p)) [
    | inl same ↦ absurd (not_used (sym unused ∙ ap (λ m. uses (flow_of m new)) (sym same) ∙ in_use))
    | inr other ↦
        let had = seats.found n (ap uses (sym (only.apart n other)) ∙ in_use) in
        (had.0, stays had.0 (not_here had.0 n had.1 other) ∙ had.1)
  ]

  pub fresh_others : (f : Flow) → flow_of (number p) old ≡ Some f → (n : ℕ) → next ≤ n → flow_of n new ≡ None
  fresh_others f was n past = elim (same_or_not n (number p)) [
    | inl same ↦ absurd (none_some (sym (seats.fresh n past) ∙ ap (λ m. flow_of m old) same ∙ was))
    | inr other ↦ only.apart n other ∙ seats.fresh n past
  ]

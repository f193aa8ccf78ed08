-- A flow is no longer in use and isn't in TIME-WAIT: its slot is free.
use Rattle.std.proofs.Common.{◌≡◌, ℕ, zero, suc, ◌+◌, true, false, List, [], ◌∷◌, set, slice_get, Option, Some, None, inl, inr, refl, sym, ◌∙◌, ap, arith}
use Rattle.std.specs.Prelude.{filter_map}
use Rattle.flow_table.specs.Slots.{Flows, flows}
use Rattle.flow_table.specs.declared.Slot.{Slot}
use Rattle.flow_table.specs.declared.Slot.TheVariants.{Free, InUse, InTimeWait}
use Rattle.spec_flows.specs.declared.Tuple.{Tuple}
use Rattle.spec_flow.specs.Event.{Story}
use Rattle.spec_flows.specs.Flows.{Flow, TimeWait, flow_of, uses, used}
use Rattle.sim_flows.specs.Only.{one_if, Only}
use Rattle.sim_flows.specs.Seats.{number_in, number_at, time_waits_at, count_used, in_use_slots, Seats}
use Rattle.sim_flows.proofs.Opening.{some_same}
use Rattle.sim_flows.proofs.Seats.{same_or_not, differ}
use Rattle.sim_flows.proofs.Tables.{get_set_at, get_set_other}
use Rattle.sim_flows.proofs.Vacated.{empty_others, found_others, fresh_others, numbers_others, owned_others, seated_others}

used_freed : (slots : List Slot) (k : ℕ) (t : Tuple) → slice_get slots k ≡ Some (InUse t) → suc (in_use_slots (set slots k Free)) ≡ in_use_slots slots
used_freed [] k t at = absurd cc
used_freed (s ∷ slots) zero t at = let used_is : s ≡ InUse t = some_same s (InUse t) at in ap (λ r. count_used r (in_use_slots slots)) (sym used_is)
used_freed (s ∷ slots) (suc k) t at = counts s (in_use_slots (set slots k Free)) ∙ ap (count_used s) (used_freed slots k t at)
  where
    counts : (s : Slot) (n : ℕ) → suc (count_used s n) ≡ count_used s (suc n)
    counts Free n = refl
    counts (InUse t) n = refl
    counts (InTimeWait t since) n = refl

pub one_less : (new_used old_used : ℕ) (o n : Option Flow) → new_used + one_if (uses o) ≡ old_used + one_if (uses n) → uses o ≡ true → uses n ≡ false → suc new_used ≡ old_used
one_less new_used old_used o n is was now =
    let before : new_used + 1 ≡ old_used + 0 = sym (ap (λ b. new_used + one_if b) was) ∙ is ∙ ap (λ b. old_used + one_if b) now in
    omega (arith, before)

pub same_less : (a b c d : ℕ) → suc a ≡ b → b ≡ c → suc d ≡ c → a ≡ d
same_less a b c d one two three = omega (arith, one, two, three)

module _ {P : Type 0} (number : P → ℕ) (Follows : P → Story → Type 0) (table : Flows) (parts : List (Option P)) (next : ℕ) (old new : List Flow) (time_waits : List TimeWait) where
  pub seats_freed : (k : ℕ) (p : P) (f : Flow) (t : Tuple) → slice_get parts k ≡ Some (Some p) → slice_get table.slots k ≡ Some (InUse t)
      → flow_of (number p) old ≡ Some f → uses (flow_of (number p) old) ≡ true → uses (flow_of (number p) new) ≡ false → Only (number p) old new
      → Seats number Follows table parts next old time_waits → Seats number Follows (flows (set table.slots k Free) table.time_wait_order) (set parts k None) next new time_waits
  seats_freed k p f t at slot was was_used is_unused only seats =
      record {
        seated = λ j r here. let seat = seated_others number Follows table parts next old new time_waits k p at is_unused only seats j r here in (seat.0, seat.1, seat.2, seat.3, seat.4, seat.5, seat.6);
        empty = empty_others number Follows table parts next old new time_waits k p at is_unused only seats (InUse t) slot;
        numbers = numbers_others number Follows table parts next old new time_waits k p at is_unused only seats;
        owned = owned_others number Follows table parts next old new time_waits k p at is_unused only seats;
        found = found_others number Follows table parts next old new time_waits k p at is_unused only seats;
        order = seats.order ∙ (λ i. filter_map (λ j. sym (as_before j) i) table.time_wait_order);
        counted = same_less (used new) (used old) (in_use_slots table.slots) (in_use_slots (set table.slots k Free))
            (one_less (used new) (used old) (flow_of (number p) old) (flow_of (number p) new) only.used was_used is_unused) seats.counted (used_freed table.slots k t slot);
        differ = only.differ seats.differ;
        fresh = fresh_others number Follows table parts next old new time_waits k p at is_unused only seats f was;
      }
    where
      as_before : (j : ℕ) → time_waits_at (slice_get (set table.slots k Free) j) (number_at number (set parts k None) j) ≡ time_waits_at (slice_get table.slots j) (number_at number parts j)
      as_before j = elim (same_or_not j k) [
        | inl same ↦
            ap (λ s. time_waits_at s (number_at number (set parts k None) j)) (ap (slice_get (set table.slots k Free)) same ∙ get_set_at table.slots k (InUse t) Free slot)
            ∙ sym (ap (λ s. time_waits_at s (number_at number parts j)) (ap (slice_get table.slots) same ∙ slot))
        | inr other ↦
            ap (λ s. time_waits_at s (number_at number (set parts k None) j)) (get_set_other table.slots k j Free (differ j k other))
            ∙ ap (λ n. time_waits_at (slice_get table.slots j) n) (ap (number_in number) (get_set_other parts k j None (differ j k other)))
      ]

-- A flow is closed and is in TIME-WAIT: its slot enters TIME-WAIT, as the last.
use Rattle.std.proofs.Common.{◌≡◌, ℕ, zero, suc, ◌==◌, true, false, List, [], ◌∷◌, ◌++◌, map, set, slice_get, Option, Some, option_map, inl, inr, refl, sym, ◌∙◌, ap, subst}
use Rattle.std.specs.Prelude.{Contains}
use Rattle.std.proofs.lemmas.List.Elements.{Contains-append_left, Contains-push}
use Rattle.flow_table.specs.Slots.{Flows, flows, moved_last}
use Rattle.flow_table.specs.declared.Slot.{Slot}
use Rattle.flow_table.specs.declared.Slot.TheVariants.{Free, InUse, InTimeWait}
use Rattle.spec_flows.specs.declared.Tuple.{Tuple}
use Rattle.spec_flow.specs.Event.{Story}
use Rattle.spec_flows.specs.Book.{time_wait}
use Rattle.spec_flows.specs.Flows.{Flow, TimeWait, flow_of, uses, used}
use Rattle.sim_flows.specs.Only.{Only}
use Rattle.sim_flows.specs.Seats.{IsSlotOf, number_in, number_at, time_waits_at, count_used, in_use_slots, Once, Seats}
use Rattle.sim_flows.proofs.Only.{number_of_found}
use Rattle.sim_flows.proofs.Opening.{not_both, none_some, some_same}
use Rattle.sim_flows.proofs.Freeing.{one_less, same_less}
use Rattle.sim_flows.proofs.Seats.{same_or_not, differ, found_id, owner_id, number_put}
use Rattle.sim_flows.proofs.Tables.{get_set_same, get_set_at, get_set_other}
use Rattle.sim_flows.proofs.Turning.{comes_last}

used_retired : (slots : List Slot) (k : ℕ) (t : Tuple) (m : ℕ) → slice_get slots k ≡ Some (InUse t) → suc (in_use_slots (set slots k (InTimeWait t m))) ≡ in_use_slots slots
used_retired [] k t m at = absurd cc
used_retired (s ∷ slots) zero t m at = let used_is : s ≡ InUse t = some_same s (InUse t) at in ap (λ r. count_used r (in_use_slots slots)) (sym used_is)
used_retired (s ∷ slots) (suc k) t m at = counts s (in_use_slots (set slots k (InTimeWait t m))) ∙ ap (count_used s) (used_retired slots k t m at)
  where
    counts : (s : Slot) (n : ℕ) → suc (count_used s n) ≡ count_used s (suc n)
    counts Free n = refl
    counts (InUse t) n = refl
    counts (InTimeWait t since) n = refl

pub numbers_last : (time_waits : List TimeWait) (r : TimeWait) → map (λ (x : TimeWait). x.number) (time_waits ++ r ∷ []) ≡ map (λ (x : TimeWait). x.number) time_waits ++ r.number ∷ []
numbers_last [] r = refl
numbers_last (x ∷ time_waits) r = ap (λ l. x.number ∷ l) (numbers_last time_waits r)

pub slot_more : (time_waits : List TimeWait) (r : TimeWait) (f : Flow) (s : Slot) → IsSlotOf time_waits f s → IsSlotOf (time_waits ++ r ∷ []) f s
slot_more time_waits r f Free is = is
slot_more time_waits r f (InUse t) is = is
slot_more time_waits r f (InTimeWait t since) is = (is.0, Contains-append_left time_waits (r ∷ []) (time_wait f.number since) is.1, is.2)

module _ {P : Type 0} (number : P → ℕ) (Follows : P → Story → Type 0) (table : Flows) (parts : List (Option P)) (next : ℕ) (old new : List Flow) (time_waits : List TimeWait) where
  pub seats_retired : (k : ℕ) (p q : P) (f g : Flow) (t : Tuple) (m : ℕ) → slice_get parts k ≡ Some (Some p) → slice_get table.slots k ≡ Some (InUse t) → number q ≡ number p → Once table.time_wait_order
      → flow_of (number p) old ≡ Some f → f.tuple ≡ t → uses (flow_of (number p) old) ≡ true → flow_of (number p) new ≡ Some g → uses (flow_of (number p) new) ≡ false →
      Follows q g.story → Only (number p) old new
      → Seats number Follows table parts next old time_waits
      → Seats number Follows (flows (set table.slots k (InTimeWait t m)) (moved_last k table.time_wait_order)) (set parts k (Some q)) next new (time_waits ++ time_wait (number p) m ∷ [])
  seats_retired k p q f g t m at slot same once was f_tuple was_used is is_unused follows only seats =
      let stays : (n : ℕ) → (n == number p) ≡ false → flow_of n new ≡ flow_of n old = only.apart in
      let put : (j : ℕ) → number_at number (set parts k (Some q)) j ≡ number_at number parts j = number_put number parts k p q at same in
      let here_is : number_at number parts k ≡ Some (number p) = ap (number_in number) at in
      let g_number : g.number ≡ number p = number_of_found (number p) new g is in
      let tuple : g.tuple ≡ t = some_same g.tuple t (sym (ap (option_map (λ (h : Flow). h.tuple)) is) ∙ found_id (number p) new old only.same ∙ ap
      (option_map (λ (h : Flow). h.tuple)) was ∙ ap Some f_tuple) in
      let others : (j n : ℕ) → number_at number parts j ≡ Some n → (j == k) ≡ false → (n == number p) ≡ false = λ j n has other. elim (same_or_not n (number p)) [
        | inl same ↦ absurd (differ j k other (seats.numbers j k (number p) (has ∙ ap Some same) here_is))
        | inr not ↦ not
      ] in
      record {
        seated = λ j r here. elim (same_or_not j k) [
          | inl at_k ↦
              let one : r ≡ q = some_same r q (get_set_same parts k (Some p) (Some q) (Some r) at (subst (λ i. slice_get (set parts k (Some q)) i ≡ Some (Some r)) at_k here)) in
              let is_p : number r ≡ number p = ap number one ∙ same in (
                g,
                InTimeWait t m,
                ap (λ n. flow_of n new) is_p ∙ is,
                g_number ∙ sym is_p,
                subst (λ (x : P). Follows x g.story) (sym one) follows,
                ap (λ i. slice_get (set table.slots k (InTimeWait t m)) i) at_k ∙ get_set_at table.slots k (InUse t) (InTimeWait t m) slot,
                (tuple, subst (λ n. Contains (time_waits ++ time_wait (number p) m ∷ []) (time_wait n m)) (sym g_number) (Contains-push time_waits (time_wait (number p) m)), sym (ap uses is) ∙ is_unused),
              )
          | inr other ↦
              let was_here : slice_get parts j ≡ Some (Some r) = sym (get_set_other parts k j (Some q) (differ j k other)) ∙ here in
              let seat = seats.seated j r was_here in (
                seat.0,
                seat.1,
                stays (number r) (others j (number r) (ap (number_in number) was_here) other) ∙ seat.2,
                seat.3,
                seat.4,
                get_set_other table.slots k j (InTimeWait t m) (differ j k other) ∙ seat.5,
                slot_more time_waits (time_wait (number p) m) seat.0 seat.1 seat.6,
              )
        ];
        empty = λ j nothing. elim (same_or_not j k) [
          | inl at_k ↦ absurd (not_both (sym (ap (λ i. slice_get (set parts k (Some q)) i) at_k ∙ get_set_at parts k (Some p) (Some q) at) ∙ nothing))
          | inr other ↦ get_set_other table.slots k j (InTimeWait t m) (differ j k other) ∙ seats.empty j (sym (get_set_other parts k j (Some q) (differ j k other)) ∙ nothing)
        ];
        numbers = λ i j n at_i at_j. seats.numbers i j n (sym (put i) ∙ at_i) (sym (put j) ∙ at_j);
        owned = λ j n t here is_on. owner_id t new old only.same ∙ seats.owned j n t (sym (put j) ∙ here) (sym (found_id n new old only.same) ∙ is_on);
        found = λ n in_use. elim (same_or_not n (number p)) [
          | inl same ↦ absurd (not_used (sym is_unused ∙ ap (λ x. uses (flow_of x new)) (sym same) ∙ in_use))
          | inr other ↦ let had = seats.found n (ap uses (sym (stays n other)) ∙ in_use) in (had.0, put had.0 ∙ had.1)
        ];
        order = numbers_last time_waits (time_wait (number p) m) ∙ ap (λ l. l ++ number p ∷ []) seats.order
            ∙ sym (comes_last (λ j. time_waits_at (slice_get table.slots j) (number_at number parts j)) (λ j. time_waits_at (slice_get (set table.slots k (InTimeWait t m)) j)
            (number_at number (set parts k (Some q)) j))
            k (number p) table.time_wait_order once (ap (λ s. time_waits_at s (number_at number parts k)) slot)
            (ap (λ s. time_waits_at s (number_at number (set parts k (Some q)) k)) (get_set_at table.slots k (InUse t) (InTimeWait t m) slot) ∙ put k ∙ here_is)
            (λ j other. ap (λ s. time_waits_at s (number_at number (set parts k (Some q)) j)) (get_set_other table.slots k j (InTimeWait t m) (differ j k other)) ∙ ap
            (time_waits_at (slice_get table.slots j)) (put j)));
        counted = same_less (used new) (used old) (in_use_slots table.slots) (in_use_slots (set table.slots k (InTimeWait t m)))
            (one_less (used new) (used old) (flow_of (number p) old) (flow_of (number p) new) only.used was_used is_unused) seats.counted (used_retired table.slots k t m slot);
        differ = only.differ seats.differ;
        fresh = λ n past. elim (same_or_not n (number p)) [
          | inl same ↦ absurd (none_some (sym (seats.fresh n past) ∙ ap (λ x. flow_of x old) same ∙ was))
          | inr other ↦ stays n other ∙ seats.fresh n past
        ];
      }
    where
      not_used : false ≡ true → ⊥
      not_used is = cc

-- A TIME-WAIT ends: the flow's slot is free.
use Rattle.std.proofs.Common.{◌≡◌, ℕ, zero, suc, ◌+◌, ◌<◌, ◌==◌, Bool, true, false, not, cond, List, [], ◌∷◌, length, map, filter, set, slice_get, slice_index_or, Option, Some, None, inl}
use Rattle.std.proofs.Common.{inr, refl, sym, ◌∙◌, ap, subst, arith}
use Rattle.std.proofs.lemmas.Bool.Decides.{nat_tests}
use Rattle.std.specs.Prelude.{filter_map, Contains}
use Rattle.std.proofs.lemmas.List.Elements.{Contains-append_right}
use Rattle.std.specs.List.{cons_option}
use Rattle.flow_table.specs.Slots.{Flows, flows}
use Rattle.flow_table.specs.declared.Slot.{Slot}
use Rattle.flow_table.specs.declared.Slot.TheVariants.{Free, InUse, InTimeWait}
use Rattle.spec_flows.specs.declared.Tuple.{Tuple}
use Rattle.spec_flow.specs.Event.{Story}
use Rattle.spec_flows.specs.Book.{time_wait, without}
use Rattle.spec_flows.specs.Flows.{Flow, TimeWait, flow_of, uses, used}
use Rattle.sim_flows.specs.Only.{one_if, Only}
use Rattle.sim_flows.specs.Seats.{IsSlotOf, number_in, number_at, time_waits_at, count_used, in_use_slots, Seats}
use Rattle.sim_flows.proofs.Opening.{none_some, some_same}
use Rattle.sim_flows.proofs.Seats.{same_or_not, differ}
use Rattle.sim_flows.proofs.Tables.{get_set_at, get_set_other}
use Rattle.sim_flows.proofs.Vacated.{empty_others, found_others, fresh_others, numbers_others, owned_others, seated_others, stays}

pub used_woken : (slots : List Slot) (k : ℕ) (t : Tuple) (m : ℕ) → slice_get slots k ≡ Some (InTimeWait t m) → in_use_slots (set slots k Free) ≡ in_use_slots slots
used_woken [] k t m at = absurd cc
used_woken (s ∷ slots) zero t m at = let rests_is : s ≡ InTimeWait t m = some_same s (InTimeWait t m) at in ap (λ r. count_used r (in_use_slots slots)) (sym rests_is)
used_woken (s ∷ slots) (suc k) t m at = ap (count_used s) (used_woken slots k t m at)

-- ---- lists without a number

abbrev pub others_of : ℕ → List ℕ → List ℕ
others_of n ns = filter (λ x. not (x == n)) ns

without_numbers : (n : ℕ) (time_waits : List TimeWait) → map (λ (r : TimeWait). r.number) (without n time_waits) ≡ others_of n (map (λ (r : TimeWait). r.number) time_waits)
without_numbers n [] = refl
without_numbers n (r ∷ time_waits) = by_test (not (r.number == n)) (without_numbers n time_waits)
  where
    by_test : (b : Bool) → map (λ (x : TimeWait). x.number) (without n time_waits) ≡ others_of n (map (λ (x : TimeWait). x.number) time_waits)
        → map (λ (x : TimeWait). x.number) (cond b (r ∷ without n time_waits) (without n time_waits)) ≡ cond b (r.number ∷ others_of n (map (λ (x : TimeWait). x.number) time_waits))
        (others_of n (map (λ (x : TimeWait). x.number) time_waits))
    by_test true same = ap (λ l. r.number ∷ l) same
    by_test false same = same

-- k gave n and gives nothing now; no other gives n
left_out : (F G : ℕ → Option ℕ) (k n : ℕ) → F k ≡ Some n → G k ≡ None → ((j : ℕ) → (j == k) ≡ false → G j ≡ F j) → ((j : ℕ) → (j == k) ≡ false → F j ≡ Some n → ⊥) → (turns : List ℕ)
    → others_of n (filter_map F turns) ≡ filter_map G turns
left_out F G k n gave gives same other [] = refl
left_out F G k n gave gives same other (j ∷ turns) = elim (same_or_not j k) [
  | inl at_k ↦
      ap (λ o. others_of n (cons_option o (filter_map F turns))) (ap F at_k ∙ gave)
      ∙ (ap (λ b. cond (not b) (n ∷ others_of n (filter_map F turns)) (others_of n (filter_map F turns))) (number_is n)
      ∙ (left_out F G k n gave gives same other turns ∙ sym (ap (λ o. cons_option o (filter_map G turns)) (ap G at_k ∙ gives))))
  | inr apart ↦ by_option (F j) (other j apart) ∙ (ap (cons_option (F j)) (left_out F G k n gave gives same other turns) ∙ sym (ap (λ o. cons_option o (filter_map G turns)) (same j apart)))
]
  where
    number_is : (n : ℕ) → (n == n) ≡ true
    number_is n = grind (arith, nat_tests)

    by_option : (o : Option ℕ) → (o ≡ Some n → ⊥) → others_of n (cons_option o (filter_map F turns)) ≡ cons_option o (others_of n (filter_map F turns))
    by_option None not_n = refl
    by_option (Some x) not_n = elim (same_or_not x n) [
      | inl is ↦ absurd (not_n (ap Some is))
      | inr apart ↦ ap (λ b. cond (not b) (x ∷ others_of n (filter_map F turns)) (others_of n (filter_map F turns))) apart
    ]

-- an element that passes stays
kept : (test : TimeWait → Bool) (xs : List TimeWait) (x : TimeWait) (k : ℕ) → k < length xs → slice_index_or xs k x ≡ x → test x ≡ true → Contains (filter test xs) x
kept test [] x k within at passes = absurd (omega (arith, within))
kept test (y ∷ ys) x zero within at passes = subst (λ b. Contains (cond b (y ∷ filter test ys) (filter test ys)) x) (sym (ap test at ∙ passes)) (0, omega arith, at)
kept test (y ∷ ys) x (suc k) within at passes = by_test (test y) (kept test ys x k (omega (arith, within)) at passes)
  where
    by_test : (b : Bool) → Contains (filter test ys) x → Contains (cond b (y ∷ filter test ys) (filter test ys)) x
    by_test true has = Contains-append_right (y ∷ []) (filter test ys) x has
    by_test false has = has

slot_less : (time_waits : List TimeWait) (n : ℕ) (f : Flow) (s : Slot) → (f.number == n) ≡ false → IsSlotOf time_waits f s → IsSlotOf (without n time_waits) f s
slot_less time_waits n f Free other is = is
slot_less time_waits n f (InUse t) other is = is
slot_less time_waits n f (InTimeWait t since) other is = (is.0, kept (λ r. not (r.number == n)) time_waits (time_wait f.number since) is.1.0 is.1.1 is.1.2 (ap not other), is.2)

same_used : (new_used old_used : ℕ) (o n : Option Flow) → new_used + one_if (uses o) ≡ old_used + one_if (uses n) → uses o ≡ false → uses n ≡ false → new_used ≡ old_used
same_used new_used old_used o n is was now =
    let before : new_used + 0 ≡ old_used + 0 = sym (ap (λ b. new_used + one_if b) was) ∙ is ∙ ap (λ b. old_used + one_if b) now in
    omega (arith, before)

module _ {P : Type 0} (number : P → ℕ) (Follows : P → Story → Type 0) (table : Flows) (parts : List (Option P)) (next : ℕ) (old new : List Flow) (time_waits : List TimeWait) where
  pub seats_woken : (k : ℕ) (p : P) (t : Tuple) (m : ℕ) → slice_get parts k ≡ Some (Some p) → slice_get table.slots k ≡ Some (InTimeWait t m)
      → uses (flow_of (number p) old) ≡ false → uses (flow_of (number p) new) ≡ false → Only (number p) old new
      → Seats number Follows table parts next old time_waits → Seats number Follows (flows (set table.slots k Free) table.time_wait_order) (set parts k None) next new (without (number p) time_waits)
  seats_woken k p t m at slot was_unused is_unused only seats =
      let here : number_at number parts k ≡ Some (number p) = ap (number_in number) at in
      record {
        seated = λ j r is.
            let seat = seated_others number Follows table parts next old new time_waits k p at is_unused only seats j r is in
            (seat.0, seat.1, seat.2, seat.3, seat.4, seat.5, slot_less time_waits (number p) seat.0 seat.1 (ap (λ n. n == number p) seat.3 ∙ seat.7) seat.6);
        empty = empty_others number Follows table parts next old new time_waits k p at is_unused only seats (InTimeWait t m) slot;
        numbers = numbers_others number Follows table parts next old new time_waits k p at is_unused only seats;
        owned = owned_others number Follows table parts next old new time_waits k p at is_unused only seats;
        found = found_others number Follows table parts next old new time_waits k p at is_unused only seats;
        order = without_numbers (number p) time_waits ∙ ap (others_of (number p)) seats.order
            ∙ left_out (λ j. time_waits_at (slice_get table.slots j) (number_at number parts j)) (λ j. time_waits_at (slice_get (set table.slots k Free) j) (number_at number (set parts k None) j)) k (number p)
            (ap (λ s. time_waits_at s (number_at number parts k)) slot ∙ here) (ap (λ s. time_waits_at s (number_at number (set parts k None) k)) (get_set_at table.slots k (InTimeWait t m) Free slot))
            (λ j other. ap (λ s. time_waits_at s (number_at number (set parts k None) j)) (get_set_other table.slots k j Free (differ j k other)) ∙ ap
            (time_waits_at (slice_get table.slots j)) (stays number Follows table parts next old new time_waits k p at is_unused only seats j other))
            (λ j other gives. differ j k other (seats.numbers j k (number p) (of_slot (slice_get table.slots j) (number_at number parts j) gives) here)) table.time_wait_order;
        counted = same_used (used new) (used old) (flow_of (number p) old) (flow_of (number p) new) only.used was_unused is_unused ∙ seats.counted ∙ sym (used_woken table.slots k t m slot);
        differ = only.differ seats.differ;
        fresh = let seat = seats.seated k p at in fresh_others number Follows table parts next old new time_waits k p at is_unused only seats seat.0 seat.2;
      }
    where
      of_slot : (s : Option Slot) (o : Option ℕ) → time_waits_at s o ≡ Some (number p) → o ≡ Some (number p)
      of_slot None o is = absurd (none_some is)
      of_slot (Some Free) o is = absurd (none_some is)
      of_slot (Some (InUse t)) o is = absurd (none_some is)
      of_slot (Some (InTimeWait t since)) o is = is

-- A TIME-WAIT begins anew: its slot is free for a moment, and is in TIME-WAIT again, as the last.
use Rattle.std.proofs.Common.{◌≡◌, ℕ, zero, suc, ◌==◌, false, List, [], ◌∷◌, ◌++◌, set, slice_get, Option, Some, None, option_map, inl, inr, refl, sym, ◌∙◌, ap, subst}
use Rattle.std.specs.Prelude.{Contains}
use Rattle.std.proofs.lemmas.List.Elements.{Contains-push}
use Rattle.flow_table.specs.Slots.{Flows, flows, moved_last}
use Rattle.flow_table.specs.declared.Slot.{Slot}
use Rattle.flow_table.specs.declared.Slot.TheVariants.{Free, InTimeWait}
use Rattle.spec_flows.specs.declared.Tuple.{Tuple}
use Rattle.spec_flow.specs.Event.{Story}
use Rattle.spec_flow.specs.Close.{is_in_use}
use Rattle.spec_flows.specs.Book.{time_wait, without}
use Rattle.spec_flows.specs.Flows.{Flow, TimeWait, owner, flow_of, uses}
use Rattle.sim_flows.specs.Only.{Only}
use Rattle.sim_flows.specs.Seats.{IsSlotOf, number_in, number_at, time_waits_at, count_used, in_use_slots, Once, Seats}
use Rattle.sim_flows.proofs.Only.{number_of_found}
use Rattle.sim_flows.proofs.Opening.{not_both, none_some, some_same}
use Rattle.sim_flows.proofs.Retiring.{numbers_last, slot_more}
use Rattle.sim_flows.proofs.Seats.{same_or_not, differ, found_id, owner_id}
use Rattle.sim_flows.proofs.Tables.{get_set_same, get_set_at, get_set_other}
use Rattle.sim_flows.proofs.Turning.{comes_last}
use Rattle.sim_flows.proofs.Waking.{seats_woken}

pub set_twice : {X : Type 0} (xs : List X) (k : ℕ) (x y : X) → set (set xs k x) k y ≡ set xs k y
set_twice [] k x y = refl
set_twice (z ∷ xs) zero x y = refl
set_twice (z ∷ xs) (suc k) x y = ap (λ l. z ∷ l) (set_twice xs k x y)

used_laid : (slots : List Slot) (k : ℕ) (t : Tuple) (m : ℕ) → slice_get slots k ≡ Some Free → in_use_slots (set slots k (InTimeWait t m)) ≡ in_use_slots slots
used_laid [] k t m at = absurd cc
used_laid (s ∷ slots) zero t m at = let free : s ≡ Free = some_same s Free at in ap (λ r. count_used r (in_use_slots slots)) (sym free)
used_laid (s ∷ slots) (suc k) t m at = ap (count_used s) (used_laid slots k t m at)

module _ {P : Type 0} (number : P → ℕ) (Follows : P → Story → Type 0) (table : Flows) (parts : List (Option P)) (next : ℕ) (all : List Flow) (time_waits : List TimeWait) where
  -- a flow that is no longer in use is in TIME-WAIT in a free slot
  pub seats_laid : (k : ℕ) (q : P) (g : Flow) (t : Tuple) (m : ℕ) → slice_get table.slots k ≡ Some Free → slice_get parts k ≡ Some None
      → flow_of (number q) all ≡ Some g → g.tuple ≡ t → is_in_use g.story ≡ false → Follows q g.story
      → option_map (λ (f : Flow). f.number) (owner t all) ≡ Some (number q) → ((j : ℕ) → number_at number parts j ≡ Some (number q) → ⊥) → Once table.time_wait_order
      → Seats number Follows table parts next all time_waits
      → Seats number Follows (flows (set table.slots k (InTimeWait t m)) (moved_last k table.time_wait_order)) (set parts k (Some q)) next all (time_waits ++ time_wait (number q) m ∷ [])
  seats_laid k q g t m free none found_g g_tuple unused follows own nobody once seats =
      let kept : (j : ℕ) → (j == k) ≡ false → number_at number (set parts k (Some q)) j ≡ number_at number parts j = λ j other. ap (number_in number)
      (get_set_other parts k j (Some q) (differ j k other)) in
      let put : (j : ℕ) → j ≡ k → number_at number (set parts k (Some q)) j ≡ Some (number q) = λ j at_k. ap (λ i. number_at number (set parts k (Some q)) i) at_k ∙ ap
      (number_in number) (get_set_at parts k None (Some q) none) in
      record {
        seated = λ j r here. elim (same_or_not j k) [
          | inl at_k ↦
              let one : r ≡ q = some_same r q (get_set_same parts k None (Some q) (Some r) none (subst (λ i. slice_get (set parts k (Some q)) i ≡ Some (Some r)) at_k here)) in
              let is_q : number r ≡ number q = ap number one in (
                g,
                InTimeWait t m,
                ap (λ n. flow_of n all) is_q ∙ found_g,
                number_of_found (number q) all g found_g ∙ sym is_q,
                subst (λ (x : P). Follows x g.story) (sym one) follows,
                ap (λ i. slice_get (set table.slots k (InTimeWait t m)) i) at_k ∙ get_set_at table.slots k Free (InTimeWait t m) free,
                (g_tuple, subst (λ n. Contains (time_waits ++ time_wait (number q) m ∷ []) (time_wait n m)) (sym (number_of_found (number q) all g found_g)) (Contains-push time_waits (time_wait (number q) m)), unused),
              )
          | inr other ↦
              let was_here : slice_get parts j ≡ Some (Some r) = sym (get_set_other parts k j (Some q) (differ j k other)) ∙ here in
              let seat = seats.seated j r was_here in
              (seat.0, seat.1, seat.2, seat.3, seat.4, get_set_other table.slots k j (InTimeWait t m) (differ j k other) ∙ seat.5, slot_more time_waits (time_wait (number q) m) seat.0 seat.1 seat.6)
        ];
        empty = λ j nothing. elim (same_or_not j k) [
          | inl at_k ↦ absurd (not_both (sym (ap (λ i. slice_get (set parts k (Some q)) i) at_k ∙ get_set_at parts k None (Some q) none) ∙ nothing))
          | inr other ↦ get_set_other table.slots k j (InTimeWait t m) (differ j k other) ∙ seats.empty j (sym (get_set_other parts k j (Some q) (differ j k other)) ∙ nothing)
        ];
        numbers = λ i j n at_i at_j. elim (same_or_not i k) [
          | inl i_k ↦ elim (same_or_not j k) [
            | inl j_k ↦ i_k ∙ sym j_k
            | inr j_other ↦ absurd (nobody j (sym (kept j j_other) ∙ at_j ∙ sym at_i ∙ put i i_k))
          ]
          | inr i_other ↦ elim (same_or_not j k) [
            | inl j_k ↦ absurd (nobody i (sym (kept i i_other) ∙ at_i ∙ sym at_j ∙ put j j_k))
            | inr j_other ↦ seats.numbers i j n (sym (kept i i_other) ∙ at_i) (sym (kept j j_other) ∙ at_j)
          ]
        ];
        owned = λ j n u here is_on. elim (same_or_not j k) [
          | inl at_k ↦
              let is_q : number q ≡ n = some_same (number q) n (sym (put j at_k) ∙ here) in
              let tuple : t ≡ u = some_same t u (sym (ap (option_map (λ (f : Flow). f.tuple)) (ap (λ x. flow_of x all) (sym is_q) ∙ found_g) ∙ ap Some g_tuple) ∙ is_on) in
              ap (λ v. option_map (λ (f : Flow). f.number) (owner v all)) (sym tuple) ∙ own ∙ ap Some is_q
          | inr other ↦ seats.owned j n u (sym (kept j other) ∙ here) is_on
        ];
        found = λ n in_use.
            let had = seats.found n in_use in
            (had.0, kept had.0 (elsewhere had.0 n had.1) ∙ had.1);
        order = numbers_last time_waits (time_wait (number q) m) ∙ ap (λ l. l ++ number q ∷ []) seats.order
            ∙ sym (comes_last (λ j. time_waits_at (slice_get table.slots j) (number_at number parts j)) (λ j. time_waits_at (slice_get (set table.slots k (InTimeWait t m)) j)
            (number_at number (set parts k (Some q)) j))
            k (number q) table.time_wait_order once (ap (λ s. time_waits_at s (number_at number parts k)) free)
            (ap (λ s. time_waits_at s (number_at number (set parts k (Some q)) k)) (get_set_at table.slots k Free (InTimeWait t m) free) ∙ put k refl)
            (λ j other. ap (λ s. time_waits_at s (number_at number (set parts k (Some q)) j)) (get_set_other table.slots k j (InTimeWait t m) (differ j k other)) ∙ ap
            (time_waits_at (slice_get table.slots j)) (kept j other)));
        counted = seats.counted ∙ sym (used_laid table.slots k t m free);
        differ = seats.differ;
        fresh = seats.fresh;
      }
    where
      elsewhere : (j n : ℕ) → number_at number parts j ≡ Some n → (j == k) ≡ false
      elsewhere j n at = elim (same_or_not j k) [
        | inl same ↦ absurd (none_some (sym (ap (number_in number) none) ∙ ap (number_at number parts) (sym same) ∙ at))
        | inr not ↦ not
      ]

-- A segment renews a TIME-WAIT: the flow that is in TIME-WAIT is told it, and is the last of those in TIME-WAIT.
pub seats_renewed : {P : Type 0} (number : P → ℕ) (Follows : P → Story → Type 0) (table : Flows) (parts : List (Option P)) (next : ℕ) (old new : List Flow) (time_waits : List TimeWait)
    (k : ℕ) (p q : P) (g : Flow) (t : Tuple) (since m : ℕ) → slice_get parts k ≡ Some (Some p) → slice_get table.slots k ≡ Some (InTimeWait t since) → number q ≡ number p
    → uses (flow_of (number p) old) ≡ false → flow_of (number p) new ≡ Some g → is_in_use g.story ≡ false → Follows q g.story → Only (number p) old new → Once table.time_wait_order
    → Seats number Follows table parts next old time_waits
    → Seats number Follows (flows (set table.slots k (InTimeWait t m)) (moved_last k table.time_wait_order)) (set parts k (Some q)) next new (without (number p) time_waits ++ time_wait (number p) m ∷ [])
seats_renewed {P} number Follows table parts next old new time_waits k p q g t since m at slot same was_unused is unused follows only once seats =
    let woken = seats_woken number Follows table parts next old new time_waits k p t since at slot was_unused (ap uses is ∙ unused) only seats in
    let seat = seats.seated k p at in
    let slot_is : seat.1 ≡ InTimeWait t since = some_same seat.1 (InTimeWait t since) (sym seat.5 ∙ slot) in
    let of_it = subst (IsSlotOf time_waits seat.0) slot_is seat.6 in
    let was_on : option_map (λ (f : Flow). f.tuple) (flow_of (number p) old) ≡ Some t = ap (option_map (λ (f : Flow). f.tuple)) seat.2 ∙ ap Some of_it.0 in
    let is_on : g.tuple ≡ t = some_same g.tuple t (sym (ap (option_map (λ (f : Flow). f.tuple)) is) ∙ found_id (number p) new old only.same ∙ was_on) in
    let own : option_map (λ (f : Flow). f.number) (owner t new) ≡ Some (number p) = owner_id t new old only.same ∙ seats.owned k (number p) t (ap (number_in number) at) was_on in
    let laid = seats_laid number Follows (flows (set table.slots k Free) table.time_wait_order) (set parts k None) next new (without (number p) time_waits) k q g t m
    (get_set_at table.slots k (InTimeWait t since) Free slot) (get_set_at parts k (Some p) None at) (ap (λ n. flow_of n new) same ∙ is) is_on unused follows
    (own ∙ ap Some (sym same)) (λ j has. alone j (has ∙ ap Some same)) once woken in
    subst (λ (l : List Slot). Seats number Follows (flows l (moved_last k table.time_wait_order)) (set parts k (Some q)) next new (without (number p) time_waits ++ time_wait (number p) m ∷ []))
    (set_twice table.slots k Free (InTimeWait t m))
    (subst (λ (l : List (Option P)). Seats number Follows (flows (set (set table.slots k Free) k (InTimeWait t m)) (moved_last k table.time_wait_order)) l next new
    (without (number p) time_waits ++ time_wait (number p) m ∷ [])) (set_twice parts k None (Some q))
    (subst (λ n. Seats number Follows (flows (set (set table.slots k Free) k (InTimeWait t m)) (moved_last k table.time_wait_order)) (set (set parts k None) k (Some q)) next new
    (without (number p) time_waits ++ time_wait n m ∷ [])) same laid))
  where
    alone : (j : ℕ) → number_at number (set parts k None) j ≡ Some (number p) → ⊥
    alone j has = elim (same_or_not j k) [
      | inl same ↦ absurd (none_some (sym (ap (λ i. number_at number (set parts k None) i) same ∙ ap (number_in number) (get_set_at parts k (Some p) None at)) ∙ has))
      | inr other ↦ absurd (differ j k other (seats.numbers j k (number p) (sym (ap (number_in number) (get_set_other parts k j None (differ j k other))) ∙ has) (ap (number_in number) at)))
    ]

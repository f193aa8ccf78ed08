-- One flow is changed, and the others stay as they are.
use Rattle.std.proofs.Common.{◌≡◌, ◌≢◌, ℕ, ◌+◌, ◌==◌, Bool, true, false, cond, List, [], ◌∷◌, set, slice_get, Option, Some, None, option_map, ◌⊎◌, inl, inr, refl, sym, ◌∙◌, ap, subst, arith}
use Rattle.std.proofs.lemmas.Bool.Decides.{nat_tests}
use Rattle.std.specs.Prelude.{filter_map}
use Rattle.flow_table.specs.Slots.{Flows}
use Rattle.flow_table.specs.declared.Slot.{Slot}
use Rattle.flow_table.specs.declared.Slot.TheVariants.{Free, InUse, InTimeWait}
use Rattle.spec_flows.specs.declared.Tuple.{Tuple}
use Rattle.spec_flow.specs.Event.{Story}
use Rattle.spec_flow.specs.Close.{is_in_use}
use Rattle.spec_flows.specs.Segments.{same_tuple}
use Rattle.spec_flows.specs.Flows.{Flow, TimeWait, owner, flow_of, uses, used}
use Rattle.sim_flows.specs.Only.{ids, one_if, Only}
use Rattle.sim_flows.specs.Seats.{IsSlotOf, number_in, number_at, time_waits_at, numbers_in_time_wait, Seats}
use Rattle.sim_flows.proofs.Only.{number_of_found, head_same}
use Rattle.sim_flows.proofs.Tables.{get_set_same, get_set_at, get_set_other}

pub same_or_not : (a b : ℕ) → (a ≡ b) ⊎ ((a == b) ≡ false)
same_or_not a b = by_test (a == b) refl
  where
    by_test : (t : Bool) → (a == b) ≡ t → (a ≡ b) ⊎ ((a == b) ≡ false)
    by_test true is = inl (grind (arith, nat_tests, is))
    by_test false is = inr is

pub differ : (a b : ℕ) → (a == b) ≡ false → a ≢ b
differ a b is same = grind (arith, nat_tests, is, same)

-- ---- flows with the same numbers and tuples

id_of : Flow → ℕ × Tuple
id_of f = (f.number, f.tuple)

pub found_id : (n : ℕ) (a b : List Flow) → ids a ≡ ids b → option_map (λ (f : Flow). f.tuple) (flow_of n a) ≡ option_map (λ (f : Flow). f.tuple) (flow_of n b)
found_id n [] [] same = refl
found_id n [] (g ∷ b) same = absurd cc
found_id n (f ∷ a) [] same = absurd cc
found_id n (f ∷ a) (g ∷ b) same =
    let parts = head_same f g a b same in
    let number = parts.0 in
    let tuple = parts.1 in
    let rest = parts.2 in
    ap (λ m. option_map (λ (h : Flow). h.tuple) (cond (m == n) (Some f) (flow_of n a))) number ∙ by_test (g.number == n) tuple (found_id n a b rest)
  where
    by_test : (t : Bool) → f.tuple ≡ g.tuple → option_map (λ (h : Flow). h.tuple) (flow_of n a) ≡ option_map (λ (h : Flow). h.tuple) (flow_of n b)
        → option_map (λ (h : Flow). h.tuple) (cond t (Some f) (flow_of n a)) ≡ option_map (λ (h : Flow). h.tuple) (cond t (Some g) (flow_of n b))
    by_test true tuple rest = ap Some tuple
    by_test false tuple rest = rest

pub owner_id : (t : Tuple) (a b : List Flow) → ids a ≡ ids b → option_map (λ (f : Flow). f.number) (owner t a) ≡ option_map (λ (f : Flow). f.number) (owner t b)
owner_id t [] [] same = refl
owner_id t [] (g ∷ b) same = absurd cc
owner_id t (f ∷ a) [] same = absurd cc
owner_id t (f ∷ a) (g ∷ b) same =
    let parts = head_same f g a b same in
    let number = parts.0 in
    let tuple = parts.1 in
    let rest = parts.2 in
    ap (λ (u : Tuple). option_map (λ (h : Flow). h.number) (cond (same_tuple u t) (Some f) (owner t a))) tuple ∙ by_test (same_tuple g.tuple t) number (owner_id t a b rest)
  where
    by_test : (c : Bool) → f.number ≡ g.number → option_map (λ (h : Flow). h.number) (owner t a) ≡ option_map (λ (h : Flow). h.number) (owner t b)
        → option_map (λ (h : Flow). h.number) (cond c (Some f) (owner t a)) ≡ option_map (λ (h : Flow). h.number) (cond c (Some g) (owner t b))
    by_test true number rest = ap Some number
    by_test false number rest = rest

pub slot_kept : (time_waits : List TimeWait) (f g : Flow) (s : Slot) → g.number ≡ f.number → g.tuple ≡ f.tuple → is_in_use f.story ≡ true → is_in_use g.story ≡ true → IsSlotOf time_waits f s → IsSlotOf time_waits g s
slot_kept time_waits f g Free number tuple was uses is = is
slot_kept time_waits f g (InUse t) number tuple was uses is = (tuple ∙ is.0, uses)
slot_kept time_waits f g (InTimeWait t since) number tuple was uses is = absurd (true_false (sym was ∙ is.2))
  where
    true_false : true ≡ false → ⊥
    true_false is = cc

-- ---- numbers of parts

pub number_put : {P : Type 0} (number : P → ℕ) (parts : List (Option P)) (k : ℕ) (p q : P) → slice_get parts k ≡ Some (Some p) → number q ≡ number p
    → (j : ℕ) → number_at number (set parts k (Some q)) j ≡ number_at number parts j
number_put number parts k p q at same j = elim (same_or_not j k) [
  | inl here ↦
      ap (λ i. number_in number (slice_get (set parts k (Some q)) i)) here
      ∙ ap (number_in number) (get_set_at parts k (Some p) (Some q) at) ∙ ap Some same
      ∙ sym (ap (number_in number) at) ∙ sym (ap (λ i. number_in number (slice_get parts i)) here)
  | inr other ↦ ap (number_in number) (get_set_other parts k j (Some q) (differ j k other))
]

resting_put : {P : Type 0} (number : P → ℕ) (table : Flows) (parts parts_new : List (Option P)) → ((j : ℕ) → number_at number parts_new j ≡ number_at number parts j)
    → numbers_in_time_wait number table parts_new ≡ numbers_in_time_wait number table parts
resting_put number table parts parts_new same = λ i. filter_map (λ k. time_waits_at (slice_get table.slots k) (same k i)) table.time_wait_order

used_kept : (new_used old_used : ℕ) (o n : Option Flow) → new_used + one_if (uses o) ≡ old_used + one_if (uses n) → uses o ≡ true → uses n ≡ true → new_used ≡ old_used
used_kept new_used old_used o n is was now =
    let before : new_used + 1 ≡ old_used + 1 = sym (ap (λ b. new_used + one_if b) was) ∙ is ∙ ap (λ b. old_used + one_if b) now in
    omega (arith, before)

module _ {P : Type 0} (number : P → ℕ) (Follows : P → Story → Type 0) (table : Flows) (parts : List (Option P)) (next : ℕ) (old new : List Flow) (time_waits : List TimeWait) where
  -- The flow of a slot is in use and stays in use.
  pub seats_one : (k : ℕ) (p q : P) (f g : Flow) → slice_get parts k ≡ Some (Some p) → number q ≡ number p
      → flow_of (number p) old ≡ Some f → is_in_use f.story ≡ true → flow_of (number p) new ≡ Some g → is_in_use g.story ≡ true → Follows q g.story
      → Only (number p) old new
      → Seats number Follows table parts next old time_waits → Seats number Follows table (set parts k (Some q)) next new time_waits
  seats_one k p q f g at same was was_used is is_used follows only seats =
      let stays : (n : ℕ) → (n == number p) ≡ false → flow_of n new ≡ flow_of n old = only.apart in
      let owners : (t : Tuple) → option_map (λ (h : Flow). h.number) (owner t new) ≡ option_map (λ (h : Flow). h.number) (owner t old) = λ t. owner_id t new old only.same in
      let put : (j : ℕ) → number_at number (set parts k (Some q)) j ≡ number_at number parts j = number_put number parts k p q at same in
      let g_number : g.number ≡ number p = number_of_found (number p) new g is in
      let others : (j : ℕ) (r : P) → slice_get parts j ≡ Some (Some r) → (j == k) ≡ false → (number r == number p) ≡ false = λ j r here other. not_one j k (number r)
      (number p) other (λ one. seats.numbers j k (number p) (ap (number_in number) here ∙ ap Some one) (ap (number_in number) at)) in
      record {
        seated = λ j r here. elim (same_or_not j k) [
          | inl at_k ↦
              let one : r ≡ q = part_here k p q r at (subst (λ i. slice_get (set parts k (Some q)) i ≡ Some (Some r)) at_k here) in
              let seat = seats.seated k p at in
              let tuple : g.tuple ≡ f.tuple = same_tuples f g was is only.same in
              let is_f : seat.0 ≡ f = some_one seat.0 f (sym seat.2 ∙ was) in (
                g,
                seat.1,
                ap (λ (x : P). flow_of (number x) new) one ∙ ap (λ n. flow_of n new) same ∙ is,
                g_number ∙ sym same ∙ sym (ap number one),
                subst (λ (x : P). Follows x g.story) (sym one) follows,
                ap (λ i. slice_get table.slots i) at_k ∙ seat.5,
                slot_kept time_waits f g seat.1 (g_number ∙ sym (number_of_found (number p) old f was)) tuple was_used is_used (subst (λ (x : Flow). IsSlotOf time_waits x seat.1) is_f seat.6),
              )
          | inr other ↦
              let was_here : slice_get parts j ≡ Some (Some r) = sym (get_set_other parts k j (Some q) (differ j k other)) ∙ here in
              let seat = seats.seated j r was_here in
              (seat.0, seat.1, stays (number r) (others j r was_here other) ∙ seat.2, seat.3, seat.4, seat.5, seat.6)
        ];
        empty = λ j none. elim (same_or_not j k) [
          | inl at_k ↦
              let has : slice_get (set parts k (Some q)) j ≡ Some (Some q) = ap (λ i. slice_get (set parts k (Some q)) i) at_k ∙ get_set_at parts k (Some p) (Some q) at in
              absurd (not_both (sym has ∙ none))
          | inr other ↦ seats.empty j (sym (get_set_other parts k j (Some q) (differ j k other)) ∙ none)
        ];
        numbers = λ i j n here there. seats.numbers i j n (sym (put i) ∙ here) (sym (put j) ∙ there);
        owned = λ j n t here is_on. owners t ∙ seats.owned j n t (sym (put j) ∙ here) (sym (found_id n new old only.same) ∙ is_on);
        found = λ n in_use. elim (same_or_not n (number p)) [
          | inl here ↦ (k, put k ∙ ap (number_in number) at ∙ ap Some (sym here))
          | inr other ↦ let had = seats.found n (ap uses (sym (stays n other)) ∙ in_use) in (had.0, put had.0 ∙ had.1)
        ];
        order = seats.order ∙ sym (resting_put number table parts (set parts k (Some q)) put);
        counted = used_kept (used new) (used old) (flow_of (number p) old) (flow_of (number p) new) only.used (ap uses was ∙ was_used) (ap uses is ∙ is_used) ∙ seats.counted;
        differ = only.differ seats.differ;
        fresh = λ n past. elim (same_or_not n (number p)) [
          | inl here ↦ absurd (none_some (sym (seats.fresh n past) ∙ ap (λ m. flow_of m old) here ∙ was))
          | inr other ↦ stays n other ∙ seats.fresh n past
        ];
      }
    where
      not_one : (j k m n : ℕ) → (j == k) ≡ false → (m ≡ n → j ≡ k) → (m == n) ≡ false
      not_one j k m n other one = elim (same_or_not m n) [ inl same ↦ absurd (differ j k other (one same)) | inr not ↦ not ]

      some_one : (a b : Flow) → Some a ≡ Some b → a ≡ b
      some_one a b is = cc

      not_both : {X : Type 0} {x : X} → Some (Some x) ≡ Some None → ⊥
      not_both is = cc

      none_some : {X : Type 0} {x : X} → None ≡ Some x → ⊥
      none_some is = cc

      part_here : (k : ℕ) (p q r : P) → slice_get parts k ≡ Some (Some p) → slice_get (set parts k (Some q)) k ≡ Some (Some r) → r ≡ q
      part_here k p q r at here = let one : Some r ≡ Some q = get_set_same parts k (Some p) (Some q) (Some r) at here in cc

      same_tuples : (f g : Flow) → flow_of (number p) old ≡ Some f → flow_of (number p) new ≡ Some g → ids new ≡ ids old → g.tuple ≡ f.tuple
      same_tuples f g was is same =
          let tuples : Some g.tuple ≡ Some f.tuple = sym (ap (option_map (λ (h : Flow). h.tuple)) is) ∙ found_id (number p) new old same ∙ ap (option_map (λ (h : Flow). h.tuple)) was in
          cc

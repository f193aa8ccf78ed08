-- A flow's calls were made: the slots of the core stand for the flows of the trace again, where the flow's slot follows its place.
use Rattle.std.proofs.Common.{◌≡◌, ℕ, ◌+◌, ◌==◌, not, Bool, true, false, List, set, slice_get, Option, Some, None, option_map, inl, inr, sym, ◌∙◌, ap, subst, arith}
use Rattle.std.specs.Prelude.{Contains, filter_map}
use Rattle.flow_table.specs.Slots.{Flows, flows, moved_last}
use Rattle.flow_table.specs.declared.Slot.{Slot}
use Rattle.flow_table.specs.declared.Slot.TheVariants.{Free, InUse, InTimeWait}
use Rattle.spec_flows.specs.declared.Tuple.{Tuple}
use Rattle.spec_flow.specs.Event.{Story}
use Rattle.spec_flow.specs.Close.{is_in_use, in_time_wait_since}
use Rattle.spec_flow.specs.Settings.{Settings}
use Rattle.spec_flows.specs.Book.{time_wait}
use Rattle.spec_flows.specs.Flows.{Flow, TimeWait, flow_of, uses, used}
use Rattle.sim_flows.specs.Only.{Only, one_if}
use Rattle.sim_flows.specs.Seats.{IsSlotOf, Once, Seats, number_at, number_in, time_waits_at}
use Rattle.sim_flows.proofs.Freeing.{seats_freed}
use Rattle.sim_flows.proofs.Only.{number_of_found}
use Rattle.sim_flows.proofs.InTimeWait.{in_use_awake}
use Rattle.sim_flows.proofs.Retiring.{seats_retired}
use Rattle.sim_flows.proofs.Seats.{differ, found_id, number_put, owner_id, same_or_not, seats_one}
use Rattle.sim_flows.proofs.Tables.{get_set_at, get_set_other, get_set_same}
use Rattle.flow_splice.specs.Follows.{Follows}
use Rattle.flow_splice.specs.Splice.{Splice, is_in_time_wait, is_in_use as is_used_at}
use Rattle.flow_splice.specs.declared.Place.{Place}
use Rattle.flow_splice.specs.declared.Place.TheVariants.{Empty, InUse as At, InTimeWait as Rests}
use Rattle.flow_splice.proofs.Promises.{place_is, rest_is, rest_none}
use Rattle.sim_flows.specs.Core.{number_of}
use Rattle.sim_flows.specs.Stands.{with_time_wait}
use Rattle.sim_flows.proofs.Options.{some_same}

same_used : (new_used old_used : ℕ) (o n : Option Flow) → new_used + one_if (uses o) ≡ old_used + one_if (uses n) → uses o ≡ false → uses n ≡ false → new_used ≡ old_used
same_used new_used old_used o n is was now =
    let before : new_used + 0 ≡ old_used + 0 = sym (ap (λ b. new_used + one_if b) was) ∙ is ∙ ap (λ b. old_used + one_if b) now in
    omega (arith, before)

slot_unused : (time_waits : List TimeWait) (f g : Flow) (t : Tuple) (since : ℕ) → g.number ≡ f.number → g.tuple ≡ f.tuple → is_in_use g.story ≡ false → IsSlotOf time_waits f (InTimeWait t since) →
    IsSlotOf time_waits g (InTimeWait t since)
slot_unused time_waits f g t since number tuple unused is = (tuple ∙ is.0, subst (λ n. Contains time_waits (time_wait n since)) (sym number) is.1, unused)

module _ {P : Type 0} (number : P → ℕ) (Follows : P → Story → Type 0) (table : Flows) (parts : List (Option P)) (next : ℕ) (old new : List Flow) (time_waits : List TimeWait) where
  -- The flow of a slot is in TIME-WAIT, and stays in TIME-WAIT: what was sent changed nothing of that.
  pub seats_kept : (k : ℕ) (p q : P) (f g : Flow) (t : Tuple) (since : ℕ) → slice_get parts k ≡ Some (Some p) → slice_get table.slots k ≡ Some (InTimeWait t since) → number q ≡ number p
      → flow_of (number p) old ≡ Some f → is_in_use f.story ≡ false → flow_of (number p) new ≡ Some g → is_in_use g.story ≡ false → Follows q g.story
      → Only (number p) old new
      → Seats number Follows table parts next old time_waits → Seats number Follows table (set parts k (Some q)) next new time_waits
  seats_kept k p q f g t since at slot same was was_unused is unused follows only seats =
      let stays : (n : ℕ) → (n == number p) ≡ false → flow_of n new ≡ flow_of n old = only.apart in
      let put : (j : ℕ) → number_at number (set parts k (Some q)) j ≡ number_at number parts j = number_put number parts k p q at same in
      let g_number : g.number ≡ number p = number_of_found (number p) new g is in
      let others : (j : ℕ) (r : P) → slice_get parts j ≡ Some (Some r) → (j == k) ≡ false → (number r == number p) ≡ false = λ j r here other. not_one j k (number r)
      (number p) other (λ one. seats.numbers j k (number p) (ap (number_in number) here ∙ ap Some one) (ap (number_in number) at)) in
      record {
        seated = λ j r here. elim (same_or_not j k) [
          | inl at_k ↦
              let one : r ≡ q = some_same r q (get_set_same parts k (Some p) (Some q) (Some r) at (subst (λ i. slice_get (set parts k (Some q)) i ≡ Some (Some r)) at_k here)) in
              let seat = seats.seated k p at in
              let is_f : seat.0 ≡ f = some_same seat.0 f (sym seat.2 ∙ was) in
              let is_slot : seat.1 ≡ InTimeWait t since = some_same seat.1 (InTimeWait t since) (sym seat.5 ∙ slot) in
              let tuple : g.tuple ≡ f.tuple = some_same g.tuple f.tuple (sym (ap (option_map (λ (h : Flow). h.tuple)) is) ∙ found_id (number p) new old only.same ∙ ap
              (option_map (λ (h : Flow). h.tuple)) was) in
              let of_f = subst (λ (s : Slot). IsSlotOf time_waits f s) is_slot (subst (λ (x : Flow). IsSlotOf time_waits x seat.1) is_f seat.6) in (
                g,
                InTimeWait t since,
                ap (λ (x : P). flow_of (number x) new) one ∙ ap (λ n. flow_of n new) same ∙ is,
                g_number ∙ sym same ∙ sym (ap number one),
                subst (λ (x : P). Follows x g.story) (sym one) follows,
                ap (λ i. slice_get table.slots i) at_k ∙ slot,
                slot_unused time_waits f g t since (g_number ∙ sym (number_of_found (number p) old f was)) tuple unused of_f,
              )
          | inr other ↦
              let was_here : slice_get parts j ≡ Some (Some r) = sym (get_set_other parts k j (Some q) (differ j k other)) ∙ here in
              let seat = seats.seated j r was_here in
              (seat.0, seat.1, stays (number r) (others j r was_here other) ∙ seat.2, seat.3, seat.4, seat.5, seat.6)
        ];
        empty = λ j none. elim (same_or_not j k) [
          | inl at_k ↦
              let has : slice_get (set parts k (Some q)) j ≡ Some (Some q) = ap (λ i. slice_get (set parts k (Some q)) i) at_k ∙ get_set_at parts k (Some p) (Some q) at in
              absurd (not_both (sym has ∙ none))
          | inr other ↦ seats.empty j (sym (get_set_other parts k j (Some q) (differ j k other)) ∙ none)
        ];
        numbers = λ i j n here there. seats.numbers i j n (sym (put i) ∙ here) (sym (put j) ∙ there);
        owned = λ j n t here is_on. owner_id t new old only.same ∙ seats.owned j n t (sym (put j) ∙ here) (sym (found_id n new old only.same) ∙ is_on);
        found = λ n in_use. elim (same_or_not n (number p)) [
          | inl here ↦ (k, put k ∙ ap (number_in number) at ∙ ap Some (sym here))
          | inr other ↦ let had = seats.found n (ap uses (sym (stays n other)) ∙ in_use) in (had.0, put had.0 ∙ had.1)
        ];
        order = seats.order ∙ (λ i. filter_map (λ j. time_waits_at (slice_get table.slots j) (sym (put j) i)) table.time_wait_order);
        counted = same_used (used new) (used old) (flow_of (number p) old) (flow_of (number p) new) only.used (ap uses was ∙ was_unused) (ap uses is ∙ unused) ∙ seats.counted;
        differ = only.differ seats.differ;
        fresh = λ n past. elim (same_or_not n (number p)) [
          | inl here ↦ absurd (none_some (sym (seats.fresh n past) ∙ ap (λ m. flow_of m old) here ∙ was))
          | inr other ↦ stays n other ∙ seats.fresh n past
        ];
      }
    where
      not_one : (j k m n : ℕ) → (j == k) ≡ false → (m ≡ n → j ≡ k) → (m == n) ≡ false
      not_one j k m n other one = elim (same_or_not m n) [ inl same ↦ absurd (differ j k other (one same)) | inr not ↦ not ]

      not_both : {X : Type 0} {x : X} → Some (Some x) ≡ Some None → ⊥
      not_both is = cc

      none_some : {X : Type 0} {x : X} → None ≡ Some x → ⊥
      none_some is = cc

-- ---- by the place

-- the slots and parts of a core, once the slot at a place follows the flow
pub record Seated : Type 0 where
  pub table : Flows
  pub slots : List (Option Splice)

-- a flow that was in use: it is, or enters TIME-WAIT, or leaves its slot
abbrev pub seated_from_use : Flows → List (Option Splice) → (k : ℕ) → Tuple → Splice → Place → Seated
seated_from_use table parts k t q At = record { table = table; slots = set parts k (Some q) }
seated_from_use table parts k t q (Rests since) = record { table = flows (set table.slots k (InTimeWait t since)) (moved_last k table.time_wait_order); slots = set parts k (Some q) }
seated_from_use table parts k t q Empty = record { table = flows (set table.slots k Free) table.time_wait_order; slots = set parts k None }

module _ (s : Settings) (now : ℕ) (table : Flows) (parts : List (Option Splice)) (next : ℕ) (old new : List Flow) (time_waits new_rests : List TimeWait) where
  abbrev Follow : Splice → Story → Type 0
  Follow p story = Follows s p story now

  module _ (k : ℕ) (p q : Splice) (f g : Flow) (t : Tuple) (at : slice_get parts k ≡ Some (Some p)) (same : number_of q ≡ number_of p)
      (was : flow_of (number_of p) old ≡ Some f) (is : flow_of (number_of p) new ≡ Some g) (follows : Follow q g.story) (only : Only (number_of p) old new)
      (seats : Seats number_of Follow table parts next old time_waits) where
    -- it was in use
    module _ (slot : slice_get table.slots k ≡ Some (InUse t)) (tuple : f.tuple ≡ t) (was_used : is_in_use f.story ≡ true) (once : Once table.time_wait_order) where
      used_by : (b : Bool) → is_used_at q.place ≡ b → is_in_use g.story ≡ b
      used_by b place = sym (place_is s q g.story now follows) ∙ place

      pub settled_from_use : (x : Place) → q.place ≡ x
          → ((g_rests : Option ℕ) → in_time_wait_since g.story ≡ g_rests → new_rests ≡ with_time_wait g_rests (number_of p) time_waits)
          → Seats number_of Follow (seated_from_use table parts k t q x).table (seated_from_use table parts k t q x).slots next new new_rests
      settled_from_use At place rests_are =
          let used_is = used_by true (ap is_used_at place) in
          subst (λ (r : List TimeWait). Seats number_of Follow table (set parts k (Some q)) next new r) (sym (rests_are None (in_use_awake g.story used_is)))
          (seats_one number_of Follow table parts next old new time_waits k p q f g at same was was_used is used_is follows only seats)
      settled_from_use (Rests since) place rests_are =
          let unused = used_by false (ap is_used_at place) in
          subst (λ (r : List TimeWait). Seats number_of Follow (flows (set table.slots k (InTimeWait t since)) (moved_last k table.time_wait_order)) (set parts k (Some q)) next new r)
          (sym (rests_are (Some since) (rest_is s q g.story now since follows place)))
          (seats_retired number_of Follow table parts next old new time_waits k p q f g t since at slot same once was tuple (ap uses was ∙ was_used) is (ap uses is ∙ unused) follows only seats)
      settled_from_use Empty place rests_are =
          let unused = used_by false (ap is_used_at place) in
          subst (λ (r : List TimeWait). Seats number_of Follow (flows (set table.slots k Free) table.time_wait_order) (set parts k None) next new r)
          (sym (rests_are None (rest_none s q g.story now follows (ap is_in_time_wait place))))
          (seats_freed number_of Follow table parts next old new time_waits k p f t at slot was (ap uses was ∙ was_used) (ap uses is ∙ unused) only seats)

    -- it was in TIME-WAIT, and stays in TIME-WAIT
    pub settled_at_rest : (since : ℕ) → slice_get table.slots k ≡ Some (InTimeWait t since) → is_in_use f.story ≡ false → q.place ≡ Rests since → new_rests ≡ time_waits
        → Seats number_of Follow table (set parts k (Some q)) next new new_rests
    settled_at_rest since slot was_unused place rests_are =
        subst (λ (r : List TimeWait). Seats number_of Follow table (set parts k (Some q)) next new r) (sym rests_are)
        (seats_kept number_of Follow table parts next old new time_waits k p q f g t since at slot same was was_unused is (sym (place_is s q g.story now follows) ∙ ap is_used_at place) follows only seats)

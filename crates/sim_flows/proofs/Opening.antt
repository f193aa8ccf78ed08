-- A flow is opened and gets a free slot.
use Rattle.std.proofs.Common.{◌≡◌, ℕ, zero, suc, ◌≤◌, ◌==◌, ◌&&◌, Bool, true, false, cond, List, [], ◌∷◌, length, filter, set, slice_get, Option, Some, None, option_map, inl, inr, refl}
use Rattle.std.proofs.Common.{sym, ◌∙◌, ap, subst, arith}
use Rattle.std.proofs.lemmas.Bool.Decides.{nat_tests}
use Rattle.std.specs.Prelude.{filter_map}
use Rattle.net_octets.specs.declared.Endpoint.{Endpoint}
use Rattle.flow_table.specs.Slots.{Flows, flows}
use Rattle.flow_table.specs.declared.Slot.{Slot}
use Rattle.flow_table.specs.declared.Slot.TheVariants.{Free, InUse, InTimeWait}
use Rattle.spec_flows.specs.declared.Tuple.{Tuple}
use Rattle.spec_flow.specs.Event.{Story}
use Rattle.spec_flow.specs.Close.{is_in_use}
use Rattle.slirp_settings.specs.Classes.{same_endpoint}
use Rattle.spec_flows.specs.Segments.{same_tuple}
use Rattle.spec_flows.specs.Flows.{Flow, TimeWait, owner, flow_of, uses}
use Rattle.sim_flows.specs.Seats.{number_in, number_at, time_waits_at, count_used, in_use_slots, Seats}
use Rattle.sim_flows.proofs.Seats.{same_or_not, differ}
use Rattle.sim_flows.proofs.Tables.{get_set_same, get_set_at, get_set_other}

-- ---- tuples

one_and : (a b : Bool) → (a && b) ≡ true → (a ≡ true) × (b ≡ true)
one_and true true is = (refl, refl)
one_and true false is = cc
one_and false b is = cc

numbers_same : (a b : ℕ) → (a == b) ≡ true → a ≡ b
numbers_same a b is = grind (arith, nat_tests, is)

number_is : (n : ℕ) → (n == n) ≡ true
number_is n = grind (arith, nat_tests)

ends_same : (a b : Endpoint) → same_endpoint a b ≡ true → a ≡ b
ends_same a b is =
    let parts = one_and (a.addr.0 == b.addr.0) (a.port == b.port) is in
    let addr = numbers_same a.addr.0 b.addr.0 parts.0 in
    let port = numbers_same a.port b.port parts.1 in
    λ i. record { addr = record { 0 = addr i }; port = port i }

pub tuples_same : (t u : Tuple) → same_tuple t u ≡ true → t ≡ u
tuples_same t u is =
    let parts = one_and (same_endpoint t.guest u.guest) (same_endpoint t.other u.other) is in
    let guest = ends_same t.guest u.guest parts.0 in
    let other = ends_same t.other u.other parts.1 in
    λ i. record { guest = guest i; other = other i }

-- ---- slots

used_put : (slots : List Slot) (k : ℕ) (t : Tuple) → slice_get slots k ≡ Some Free → in_use_slots (set slots k (InUse t)) ≡ suc (in_use_slots slots)
used_put [] k t at = absurd cc
used_put (s ∷ slots) zero t at = let free : s ≡ Free = cc in ap suc (ap (λ r. count_used r (in_use_slots slots)) (sym free))
used_put (s ∷ slots) (suc k) t at = ap (count_used s) (used_put slots k t at) ∙ counts s (in_use_slots slots)
  where
    counts : (s : Slot) (n : ℕ) → count_used s (suc n) ≡ suc (count_used s n)
    counts Free n = refl
    counts (InUse t) n = refl
    counts (InTimeWait t since) n = refl

pub same_is : (t : Tuple) → same_tuple t t ≡ true
same_is t = λ i. both_true (both_true (number_is t.guest.addr.0 i) (number_is t.guest.port i)) (both_true (number_is t.other.addr.0 i) (number_is t.other.port i))
  where
    both_true : Bool → Bool → Bool
    both_true a b = a && b

-- the part that has a number
part_of : {P : Type 0} (number : P → ℕ) (o : Option (Option P)) (n : ℕ) → number_in number o ≡ Some n → (p : P) × (o ≡ Some (Some p)) × (number p ≡ n)
part_of number None n is = absurd cc
part_of number (Some None) n is = absurd cc
part_of number (Some (Some p)) n is = (p, refl, cc)

pub not_both : {X : Type 0} {x : X} → Some (Some x) ≡ Some None → ⊥
not_both is = cc

pub none_some : {X : Type 0} {x : X} → None ≡ Some x → ⊥
none_some is = cc

pub some_same : {X : Type 0} (x y : X) → Some x ≡ Some y → x ≡ y
some_same x y is = cc

module _ {P : Type 0} (number : P → ℕ) (Follows : P → Story → Type 0) (table : Flows) (parts : List (Option P)) (next : ℕ) (old : List Flow) (time_waits : List TimeWait) where
  -- The slot at k is free, and no slot has the tuple.
  pub seats_opened : (k : ℕ) (q : P) (f : Flow) → slice_get table.slots k ≡ Some Free → slice_get parts k ≡ Some None → f.number ≡ next → number q ≡ next → is_in_use f.story ≡ true → Follows q f.story
      → ((j n : ℕ) → number_at number parts j ≡ Some n → option_map (λ (g : Flow). g.tuple) (flow_of n old) ≡ Some f.tuple → ⊥)
      → Seats number Follows table parts next old time_waits
      → Seats number Follows (flows (set table.slots k (InUse f.tuple)) table.time_wait_order) (set parts k (Some q)) (suc next) (f ∷ old) time_waits
  seats_opened k q f free none f_next q_next in_use follows nobody seats =
      let here_is : (f.number == next) ≡ true = ap (λ n. n == next) f_next ∙ number_is next in
      let others : (n : ℕ) → (n == next) ≡ false → flow_of n (f ∷ old) ≡ flow_of n old =
      λ n not. ap (λ b. cond b (Some f) (flow_of n old)) (ap (λ m. m == n) f_next ∙ swapped n next not) in
      let this : flow_of next (f ∷ old) ≡ Some f = ap (λ b. cond b (Some f) (flow_of next old)) here_is in
      let before : (j r : ℕ) → number_at number parts j ≡ Some r → (r == next) ≡ false = λ j r at. not_next j r at in
      let kept : (j : ℕ) → (j == k) ≡ false → number_at number (set parts k (Some q)) j ≡ number_at number parts j = λ j other. ap (number_in number)
      (get_set_other parts k j (Some q) (differ j k other)) in
      let put : (j : ℕ) → j ≡ k → number_at number (set parts k (Some q)) j ≡ Some next = λ j at_k. ap (λ i. number_at number (set parts k (Some q)) i) at_k ∙
      (ap (number_in number) (get_set_at parts k None (Some q) none) ∙ ap Some q_next) in
      record {
        seated = λ j r here. elim (same_or_not j k) [
          | inl at_k ↦
              let one : r ≡ q = some_same r q (get_set_same parts k None (Some q) (Some r) none (subst (λ i. slice_get (set parts k (Some q)) i ≡ Some (Some r)) at_k here)) in
              let is_next : number r ≡ next = ap number one ∙ q_next in (
                f,
                InUse f.tuple,
                ap (λ n. flow_of n (f ∷ old)) is_next ∙ this,
                f_next ∙ sym is_next,
                subst (λ (x : P). Follows x f.story) (sym one) follows,
                ap (λ i. slice_get (set table.slots k (InUse f.tuple)) i) at_k ∙ get_set_at table.slots k Free (InUse f.tuple) free,
                (refl, in_use),
              )
          | inr other ↦
              let was_here : slice_get parts j ≡ Some (Some r) = sym (get_set_other parts k j (Some q) (differ j k other)) ∙ here in
              let seat = seats.seated j r was_here in (
                seat.0,
                seat.1,
                others (number r) (before j (number r) (ap (number_in number) was_here)) ∙ seat.2,
                seat.3,
                seat.4,
                get_set_other table.slots k j (InUse f.tuple)
                    (differ j k other) ∙ seat.5,
                seat.6,
              )
        ];
        empty = λ j nothing. elim (same_or_not j k) [
          | inl at_k ↦ absurd (not_both (sym (ap (λ i. slice_get (set parts k (Some q)) i) at_k ∙ get_set_at parts k None (Some q) none) ∙ nothing))
          | inr other ↦ get_set_other table.slots k j (InUse f.tuple) (differ j k other) ∙ seats.empty j (sym (get_set_other parts k j (Some q) (differ j k other)) ∙ nothing)
        ];
        numbers = λ i j n at_i at_j. elim (same_or_not i k) [
          | inl i_k ↦ elim (same_or_not j k) [
            | inl j_k ↦ i_k ∙ sym j_k
            | inr j_other ↦ absurd (differ n next (before j n (sym (kept j j_other) ∙ at_j)) (sym (some_same next n (sym (put i i_k) ∙ at_i))))
          ]
          | inr i_other ↦ elim (same_or_not j k) [
            | inl j_k ↦ absurd (differ n next (before i n (sym (kept i i_other) ∙ at_i)) (sym (some_same next n (sym (put j j_k) ∙ at_j))))
            | inr j_other ↦ seats.numbers i j n (sym (kept i i_other) ∙ at_i) (sym (kept j j_other) ∙ at_j)
          ]
        ];
        owned = λ j n t here is_on. elim (same_or_not j k) [
          | inl at_k ↦
              let is_next : next ≡ n = some_same next n (sym (put j at_k) ∙ here) in
              let tuple : f.tuple ≡ t = some_same f.tuple t (sym (ap (option_map (λ (g : Flow). g.tuple)) (ap (λ m. flow_of m (f ∷ old)) (sym is_next) ∙ this)) ∙ is_on) in
              ap (λ b. option_map (λ (g : Flow). g.number) (cond b (Some f) (owner t old))) (ap (same_tuple f.tuple) (sym tuple) ∙ same_is f.tuple) ∙ ap Some (f_next ∙ is_next)
          | inr other ↦
              let was_here : number_at number parts j ≡ Some n = sym (kept j other) ∙ here in
              let was_on : option_map (λ (g : Flow). g.tuple) (flow_of n old) ≡ Some t = sym (ap (option_map (λ (g : Flow). g.tuple)) (others n (before j n was_here))) ∙ is_on in
              let apart : same_tuple f.tuple t ≡ false = by_test (same_tuple f.tuple t) refl (λ same. nobody j n was_here (was_on ∙ ap Some (sym same))) in
              ap (λ b. option_map (λ (g : Flow). g.number) (cond b (Some f) (owner t old))) apart ∙ seats.owned j n t was_here was_on
        ];
        found = λ n used_is. elim (same_or_not n next) [
          | inl is_next ↦ (k, put k refl ∙ ap Some (sym is_next))
          | inr other ↦
              let had = seats.found n (sym (ap uses (others n other)) ∙ used_is) in
              (had.0, kept had.0 (elsewhere had.0 n had.1) ∙ had.1)
        ];
        order = seats.order ∙ (λ i. filter_map (λ j. sym (as_before j) i) table.time_wait_order);
        counted = ap (λ b. length (cond b (f ∷ filter (λ (g : Flow). is_in_use g.story) old) (filter (λ (g : Flow). is_in_use g.story) old))) in_use ∙ ap suc seats.counted ∙ sym
            (used_put table.slots k f.tuple free);
        differ = (seats.fresh f.number (subst (λ n. next ≤ n) (sym f_next) (omega arith)), seats.differ);
        fresh = λ n past. others n (later n past) ∙ seats.fresh n (omega (arith, past));
      }
    where
      swapped : (a b : ℕ) → (a == b) ≡ false → (b == a) ≡ false
      swapped a b not = grind (arith, nat_tests, not)

      later : (n : ℕ) → suc next ≤ n → (n == next) ≡ false
      later n past = grind (arith, nat_tests, past)

      not_next : (j r : ℕ) → number_at number parts j ≡ Some r → (r == next) ≡ false
      not_next j r at =
          let had = part_of number (slice_get parts j) r at in
          let seat = seats.seated j had.0 had.1 in
          elim (same_or_not r next) [
            | inl same ↦ absurd (none_some (sym (seats.fresh next (omega arith)) ∙ ap (λ n. flow_of n old) (sym same ∙ sym had.2) ∙ seat.2))
            | inr not ↦ not
          ]

      elsewhere : (j n : ℕ) → number_at number parts j ≡ Some n → (j == k) ≡ false
      elsewhere j n at = elim (same_or_not j k) [
        | inl same ↦ absurd (none_some (sym (ap (number_in number) none) ∙ ap (number_at number parts) (sym same) ∙ at))
        | inr not ↦ not
      ]

      by_test : {t u : Tuple} (b : Bool) → same_tuple t u ≡ b → (t ≡ u → ⊥) → same_tuple t u ≡ false
      by_test {t} {u} true is not = absurd (not (tuples_same t u is))
      by_test false is not = is

      as_before : (j : ℕ) → time_waits_at (slice_get (set table.slots k (InUse f.tuple)) j) (number_at number (set parts k (Some q)) j) ≡ time_waits_at (slice_get table.slots j) (number_at number parts j)
      as_before j = elim (same_or_not j k) [
        | inl same ↦
            ap (λ s. time_waits_at s (number_at number (set parts k (Some q)) j)) (ap (λ i. slice_get (set table.slots k (InUse f.tuple)) i) same ∙ get_set_at table.slots k Free (InUse f.tuple) free)
            ∙ sym (ap (λ s. time_waits_at s (number_at number parts j)) (ap (slice_get table.slots) same ∙ free))
        | inr other ↦
            ap (λ s. time_waits_at s (number_at number (set parts k (Some q)) j)) (get_set_other table.slots k j (InUse f.tuple) (differ j k other))
            ∙ ap (λ n. time_waits_at (slice_get table.slots j) n) (ap (number_in number) (get_set_other parts k j (Some q) (differ j k other)))
      ]

-- What a step makes of the slots and of their order.
use Rattle.std.proofs.Common.{◌≡◌, ◌==◌, ℕ, ◌<◌, ◌+◌, ◌⊎◌, inl, inr, List, [], ◌∷◌, ◌++◌, length, Some, zero, suc, refl, sym, ap, ◌∙◌, subst, arith, true, get_or, replicate, length-set}
use Rattle.std.proofs.Common.{zero-add, eq-eqb}
use Rattle.std.specs.Prelude.{slice_get, slice_set}
use Rattle.std.specs.List.{remove, position_or_len, range_with_len}
use Rattle.std.specs.Option.{option_and_then}
use Rattle.std.proofs.lemmas.Bool.Decides.{eqb_tells}
use Rattle.std.proofs.lemmas.List.{length-replicate}
use Rattle.std.proofs.lemmas.List.FromFn.{length-range_with_len, get_or-range_with_len}
use Rattle.std.proofs.lemmas.Option.{same_Some, slice_get_read, slice_get_within, slice_get-get_or, get_or_from_slice_get}
use Rattle.flow_table.specs.declared.Slot.{Slot}
use Rattle.flow_table.specs.declared.Slot.TheVariants.{Free, InTimeWait}
use Rattle.spec_flows.specs.declared.Tuple.{Tuple}
use Rattle.flow_table.specs.Slots.{AreKept, Flows, HasTuple, Once, Stands, flows, tuple_of, moved_last}

-- all slots are free
pub free_has_none : (n k : ℕ) (t : Tuple) → HasTuple (replicate n Free) k t → ⊥
free_has_none zero k t h = cc
free_has_none (suc n) zero t h = cc
free_has_none (suc n) (suc k) t h = free_has_none n k t h

-- the tuple of a slot after a write
pub has_after : (slots : List Slot) (i k : ℕ) (s : Slot) (t : Tuple) → HasTuple (slice_set slots i s) k t → ((k ≡ i) × (tuple_of s ≡ Some t)) ⊎ HasTuple slots k t
has_after [] i k s t h = inr h
has_after (z ∷ xs) zero zero s t h = inl (refl, h)
has_after (z ∷ xs) zero (suc k) s t h = inr h
has_after (z ∷ xs) (suc i) zero s t h = inr h
has_after (z ∷ xs) (suc i) (suc k) s t h = elim (has_after xs i k s t h) [ inl p ↦ inl (ap suc p.0, p.1) | inr q ↦ inr q ]

pub further : (z : ℕ) (xs : List ℕ) (x : ℕ) → Stands xs x → Stands (z ∷ xs) x
further z xs x s = (suc s.0, s.1)

pub at_end : (xs : List ℕ) (x : ℕ) → Stands (xs ++ x ∷ []) x
at_end [] x = (zero, refl)
at_end (z ∷ xs) x = further z (xs ++ x ∷ []) x (at_end xs x)

pub before_end : (xs : List ℕ) (y i x : ℕ) → slice_get xs i ≡ Some x → Stands (xs ++ y ∷ []) x
before_end [] y i x h = cc
before_end (z ∷ xs) y zero x h = (zero, h)
before_end (z ∷ xs) y (suc i) x h = further z (xs ++ y ∷ []) x (before_end xs y i x h)

pub of_end : (xs : List ℕ) (y i x : ℕ) → slice_get (xs ++ y ∷ []) i ≡ Some x → Stands xs x ⊎ (x ≡ y)
of_end [] y zero x h = inr cc
of_end [] y (suc i) x h = cc
of_end (z ∷ xs) y zero x h = inl (zero, h)
of_end (z ∷ xs) y (suc i) x h = elim (of_end xs y i x h) [ inl s ↦ inl (further z xs x s) | inr e ↦ inr e ]

-- what stands in a list after one was taken out of it
pub of_removed : (xs : List ℕ) (n i x : ℕ) → slice_get (remove xs n) i ≡ Some x → Stands xs x
of_removed [] zero i x h = cc
of_removed [] (suc n) i x h = cc
of_removed (z ∷ xs) zero i x h = (suc i, h)
of_removed (z ∷ xs) (suc n) zero x h = (zero, h)
of_removed (z ∷ xs) (suc n) (suc i) x h = further z xs x (of_removed xs n i x h)

pub in_removed : (xs : List ℕ) (n i x : ℕ) → slice_get xs i ≡ Some x → (i ≡ n) ⊎ Stands (remove xs n) x
in_removed [] n i x h = cc
in_removed (z ∷ xs) zero zero x h = inl refl
in_removed (z ∷ xs) zero (suc i) x h = inr (i, h)
in_removed (z ∷ xs) (suc n) zero x h = inr (zero, h)
in_removed (z ∷ xs) (suc n) (suc i) x h = elim (in_removed xs n i x h) [ inl e ↦ inl (ap suc e) | inr s ↦ inr (further z (remove xs n) x s) ]

-- a number that stood once stands once after another was taken out, and nowhere after it was itself
pub once_removed : (xs : List ℕ) (n : ℕ) → Once xs → Once (remove xs n)
once_removed [] zero once = once
once_removed [] (suc n) once = once
once_removed (z ∷ xs) zero once = once.1
once_removed (z ∷ xs) (suc n) once = (λ s. once.0 (of_removed xs n s.0 z s.1), once_removed xs n once.1)

pub gone : (xs : List ℕ) (n k : ℕ) → Once xs → slice_get xs n ≡ Some k → Stands (remove xs n) k → ⊥
gone [] n k once is s = cc
gone (z ∷ xs) zero k once is s = once.0 (subst (Stands xs) (sym (same_Some z k is)) s)
gone (z ∷ xs) (suc n) k once is (zero, here) = once.0 (subst (Stands xs) (sym (same_Some z k here)) (n, is))
gone (z ∷ xs) (suc n) k once is (suc i, there) = gone xs n k once.1 is (i, there)

pub once_at_end : (xs : List ℕ) (k : ℕ) → Once xs → (Stands xs k → ⊥) → Once (xs ++ k ∷ [])
once_at_end [] k once none = (λ s. cc (s.1), tt)
once_at_end (z ∷ xs) k once none = (
  λ s. elim (of_end xs k s.0 z s.1) [ inl t ↦ once.0 t | inr e ↦ none (zero, ap Some e) ],
  once_at_end xs k once.1 (λ t. none (further z xs k t)),
)

one_more : (n : ℕ) → suc n ≡ 1 + n
one_more n = omega arith

-- the first place of a number that stands in a list has it
pub first_place : (xs : List ℕ) (k i : ℕ) → slice_get xs i ≡ Some k → slice_get xs (position_or_len (λ other. other == k) xs) ≡ Some k
first_place [] k i h = cc
first_place (z ∷ xs) k zero h = let e : (z == k) ≡ true = eq-eqb z k cc in rw e (ap Some cc)
first_place (z ∷ xs) k (suc i) h = elim (eqb_tells z k) [
  | inl same ↦ rw same.0 (ap Some same.1)
  | inr other ↦ rw other.0
      (subst (λ n. slice_get (z ∷ xs) n ≡ Some k) (one_more (position_or_len (λ o. o == k) xs)) (first_place xs k i h))
]

-- an order stays one where a number goes to its end
pub moved_kept : (slots : List Slot) (time_wait_order : List ℕ) (k : ℕ) → k < length slots → AreKept slots time_wait_order → AreKept slots (moved_last k time_wait_order)
moved_kept slots time_wait_order k fits kept =
    let at = position_or_len (λ other. other == k) time_wait_order in
    let stood = kept.all k fits in
    let stands = first_place time_wait_order k stood.0 stood.1 in
    record {
      apart = kept.apart;
      within = λ i x h. elim (of_end (remove time_wait_order at) k i x h) [
        | inl s ↦ let t = of_removed time_wait_order at s.0 x s.1 in kept.within t.0 x t.1
        | inr e ↦ subst
            (λ n. n < length slots) (sym e) fits
      ];
      all = λ x small. let s = kept.all x small in
          elim (in_removed time_wait_order at s.0 x s.1) [
            | inl e ↦ subst (λ n. Stands (moved_last k time_wait_order) n) (same_Some k x (sym stands ∙ ap (slice_get time_wait_order) (sym e) ∙ s.1)) (at_end (remove time_wait_order at) k)
            | inr t ↦ before_end (remove time_wait_order at) k t.0 x t.1
          ];
      once = once_at_end (remove time_wait_order at) k (once_removed time_wait_order at kept.once) (gone time_wait_order at k kept.once stands);
    }

-- a slot gets a content whose tuple no other slot has
pub set_kept : (slots : List Slot) (time_wait_order : List ℕ) (k : ℕ) (s : Slot) → ((other : ℕ) (t : Tuple) → tuple_of s ≡ Some t → HasTuple slots other t → other ≡ k) →
    AreKept slots time_wait_order → AreKept (slice_set slots k s) time_wait_order
set_kept slots time_wait_order k s alone kept =
    let long = length-set slots k s in
    record {
      apart = λ one other t h g.
          elim (has_after slots k one s t h) [
            | inl p ↦ elim (has_after slots k other s t g) [ inl q ↦ p.0 ∙ sym q.0 | inr q ↦ p.0 ∙ sym (alone other t p.1 q) ]
            | inr p ↦ elim (has_after slots k other s t g) [ inl q ↦ alone one t q.1 p ∙ sym q.0 | inr q ↦ kept.apart one other t p q ]
          ];
      within = λ i x h. subst (λ n. x < n) (sym long) (kept.within i x h);
      all = λ x small. kept.all x (subst (λ n. x < n) long small);
      once = kept.once;
    }

-- the numbers of all slots, by number
pub in_range : (from n i x : ℕ) → slice_get (range_with_len from n) i ≡ Some x → x ≡ from + i
in_range from n i x h = let w = slice_get_within (range_with_len from n) i x h in
    let long = length-range_with_len from n in
    sym (get_or_from_slice_get (range_with_len from n) i x 0 h) ∙ get_or-range_with_len from n i 0 (omega arith)

pub once_in_range : (from n : ℕ) → Once (range_with_len from n)
once_in_range from zero = tt
once_in_range from (suc n) = (λ s. let is = in_range (from + 1) n s.0 from s.1 in omega (arith, is), once_in_range (from + 1) n)

-- a table before its first flow
pub start_kept : (n : ℕ) → AreKept (replicate n Free) (range_with_len 0 n)
start_kept n = record {
  apart = λ k other t h g. absurd (free_has_none n k t h);
  within = λ i x h. let w = slice_get_within (range_with_len 0 n) i x h in
      let long = length-range_with_len 0 n in
      let is = get_or_from_slice_get (range_with_len 0 n) i x 0 h in
      let small : i < n = omega arith in
      let same = get_or-range_with_len 0 n i 0 small in
      let size = length-replicate n Free in omega arith;
  all = λ x small. let size = length-replicate n Free in
      let fits : x < n = omega arith in
      let long = length-range_with_len 0 n in
      (x, slice_get-get_or (range_with_len 0 n) x 0 (omega arith) ∙ ap Some (get_or-range_with_len 0 n x 0 fits ∙ zero-add x));
  once = once_in_range 0 n;
}

-- a slot with a tuple is one of them
pub has_within : (slots : List Slot) (k : ℕ) (t : Tuple) → HasTuple slots k t → k < length slots
has_within [] k t h = cc
has_within (s ∷ slots) zero t h = omega arith
has_within (s ∷ slots) (suc k) t h = let w = has_within slots k t h in omega arith

-- what is read from a slot has the tuple of the slot
pub tuple_is_read : (slots : List Slot) (k : ℕ) (s : Slot) (t : Tuple) → HasTuple slots k t → s ≡ get_or slots k s → tuple_of s ≡ Some t
tuple_is_read slots k s t has read = sym (ap (option_and_then tuple_of) (slice_get_read slots (length slots) k s refl (has_within slots k t has) read)) ∙ has

-- a slot that entered TIME-WAIT
pub rested_is : (slots : List Slot) (time_wait_order new : List ℕ) (now : Flows) (k since : ℕ) (t u : Tuple) → flows slots time_wait_order ≡ now → HasTuple slots k u →
    new ≡ moved_last k time_wait_order → HasTuple now.slots k t
    → flows (slice_set slots k (InTimeWait u since)) new ≡ flows (slice_set now.slots k (InTimeWait t since)) (moved_last k now.time_wait_order)
rested_is slots time_wait_order new now k since t u view has moved asked =
    let had : HasTuple slots k t = subst (λ (f : Flows). HasTuple f.slots k t) (sym view) asked in
    let same : u ≡ t = same_Some u t (sym has ∙ had) in
    ap (λ (x : List ℕ). flows (slice_set slots k (InTimeWait u since)) x) moved
    ∙ ap (λ (x : Tuple). flows (slice_set slots k (InTimeWait x since)) (moved_last k time_wait_order)) same
    ∙ ap (λ (f : Flows). flows (slice_set f.slots k (InTimeWait t since)) (moved_last k f.time_wait_order)) view

-- and what holds then
pub rested_kept : (slots : List Slot) (time_wait_order : List ℕ) (k since : ℕ) (u : Tuple) → HasTuple slots k u → AreKept slots time_wait_order → AreKept
    (slice_set slots k (InTimeWait u since)) (moved_last k time_wait_order)
rested_kept slots time_wait_order k since u has kept =
    let fits = has_within slots k u has in
    set_kept slots (moved_last k time_wait_order) k (InTimeWait u since)
    (λ other t is h. kept.apart other k t h (has ∙ is))
    (moved_kept slots time_wait_order k fits kept)

-- The free slots, each once.
use Rattle.std.proofs.Common.{◌≡◌, ℕ, ◌<◌, inl, inr, List, [], ◌∷◌, ◌++◌, Some, zero, suc, refl, sym, ap, ◌∙◌, subst, arith, replicate}
use Rattle.std.specs.Prelude.{slice_set}
use Rattle.std.specs.List.{range_with_len}
use Rattle.std.proofs.lemmas.List.{length-replicate}
use Rattle.std.proofs.lemmas.List.FromFn.{length-range_with_len, get_or-range_with_len}
use Rattle.std.proofs.lemmas.Option.{same_Some, slice_get_within, slice_get-get_or}
use Rattle.std.proofs.Common.{zero-add}
use Rattle.ordered_rows.proofs.Places.{set_from, set_to, set_at}
use Rattle.flow_table.specs.declared.Slot.{Slot}
use Rattle.flow_table.specs.declared.Slot.TheVariants.{Free}
use Rattle.spec_flows.specs.declared.Tuple.{Tuple}
use Rattle.flow_table.specs.Slots.{HasTuple, IsFree, NoneIsFree, Once, Stands}
use Rattle.flow_table.specs.Rows.{AreFree}
use Rattle.flow_table.proofs.Keeping.{at_end, before_end, of_end, once_at_end, once_in_range, in_range, has_within}
use Rattle.flow_table.proofs.Tuples.{free_has_not}

free_at : (n k : ℕ) → k < n → IsFree (replicate n Free) k
free_at zero k h = absurd (omega (arith, h))
free_at (suc n) zero h = refl
free_at (suc n) (suc k) h = free_at n k (omega (arith, h))

pub all_are_free : (n : ℕ) → AreFree (replicate n Free) (range_with_len 0 n)
all_are_free n = record {
  is = λ i k h.
      let w = slice_get_within (range_with_len 0 n) i k h in
      let long = length-range_with_len 0 n in
      let at = in_range 0 n i k h in
      free_at n k (omega (arith, w, long, at));
  all = λ k h.
      let w = slice_get_within (replicate n Free) k Free h in
      let size = length-replicate n Free in
      let long = length-range_with_len 0 n in
      (k, slice_get-get_or (range_with_len 0 n) k 0 (omega (arith, w, size, long)) ∙ ap Some (get_or-range_with_len 0 n k 0 (omega (arith, w, size)) ∙ zero-add k));
  once = once_in_range 0 n;
}

-- a slot that has a tuple isn't among the free ones
not_among : (slots : List Slot) (free : List ℕ) (k : ℕ) (t : Tuple) → AreFree slots free → HasTuple slots k t → Stands free k → ⊥
not_among slots free k t are had s = free_has_not slots k t (are.is s.0 k s.1) had

pub freed : (slots : List Slot) (free : List ℕ) (k : ℕ) (t : Tuple) → AreFree slots free → HasTuple slots k t → AreFree (slice_set slots k Free) (free ++ k ∷ [])
freed slots free k t are had = record {
  is = λ i j h.
      elim (of_end free k i j h) [
        | inl s ↦ set_to slots k j Free Free (are.is s.0 j s.1) (λ same. not_among slots free k t are had (subst (Stands free) same s))
        | inr e ↦ subst (IsFree (slice_set slots k Free)) (sym e) (set_at slots k Free (has_within slots k t had))
      ];
  all = λ j h.
      elim (set_from slots k j Free Free h) [
        | inl p ↦ subst (Stands (free ++ k ∷ [])) (sym p.0) (at_end free k)
        | inr p ↦ let s = are.all j p.1 in before_end free k s.0 j s.1
      ];
  once = once_at_end free k are.once (not_among slots free k t are had);
}

once_before_end : (xs : List ℕ) (k : ℕ) → Once (xs ++ k ∷ []) → Once xs × (Stands xs k → ⊥)
once_before_end [] k once = (tt, λ s. cc (s.1))
once_before_end (z ∷ xs) k once =
    let rest = once_before_end xs k once.1 in
    ((λ s. once.0 (before_end xs k s.0 z s.1), rest.0), λ s. not_first z xs k once rest.1 s)
  where
    not_first : (z : ℕ) (xs : List ℕ) (k : ℕ) → Once (z ∷ (xs ++ k ∷ [])) → (Stands xs k → ⊥) → Stands (z ∷ xs) k → ⊥
    not_first z xs k once none (zero, h) = once.0 (subst (Stands (xs ++ k ∷ [])) (sym (same_Some z k h)) (at_end xs k))
    not_first z xs k once none (suc i, h) = none (i, h)

-- the last of the free slots is taken, and has another content
pub last_taken : (slots : List Slot) (free : List ℕ) (k : ℕ) (s : Slot) → (Free ≡ s → ⊥) → AreFree slots (free ++ k ∷ []) → AreFree (slice_set slots k s) free
last_taken slots free k s busy are =
    let once = once_before_end free k are.once in
    record {
      is = λ i j h.
          let whole = before_end free k i j h in
          set_to slots k j s Free (are.is whole.0 j whole.1) (λ same. once.1 (subst (Stands free) same (i, h)));
      all = λ j h.
          elim (set_from slots k j s Free h) [
            | inl p ↦ absurd (busy p.1)
            | inr p ↦ let w = are.all j p.1 in elim (of_end free k w.0 j w.1) [ inl s ↦ s | inr e ↦ absurd (p.0 e) ]
          ];
      once = once.0;
    }

-- a slot that isn't free has another content, and isn't free then
pub still_free : (slots : List Slot) (free : List ℕ) (k : ℕ) (s : Slot) (t : Tuple) → HasTuple slots k t → (Free ≡ s → ⊥) → AreFree slots free → AreFree (slice_set slots k s) free
still_free slots free k s t had busy are = record {
  is = λ i j h. set_to slots k j s Free (are.is i j h) (λ same. not_among slots free k t are had (subst (Stands free) same (i, h)));
  all = λ j h. elim (set_from slots k j s Free h) [ inl p ↦ absurd (busy p.1) | inr p ↦ are.all j p.1 ];
  once = are.once;
}

pub none_is_free : (slots : List Slot) → AreFree slots [] → NoneIsFree slots
none_is_free slots are k h = cc ((are.all k h).1)

-- The row of TIME-WAITs, the longest first.
use Rattle.std.proofs.Common.{◌≡◌, ◌≢◌, ◌==◌, ℕ, ◌<◌, ◌⊎◌, inl, inr, List, [], ◌∷◌, ◌++◌, length, get_or, Some, zero, suc, refl, sym, ap, ◌∙◌, subst, arith, replicate}
use Rattle.std.specs.Prelude.{slice_get, slice_set}
use Rattle.std.specs.List.{insert, remove, position_or_len}
use Rattle.std.proofs.lemmas.Bool.{cases_eq}
use Rattle.std.proofs.lemmas.Option.{same_Some, slice_get_within, slice_get-get_or, get_or_from_slice_get}
use Rattle.ordered_rows.proofs.Places.{set_from, set_to, set_at, removed_from, removed_to, inserted_from, inserted_at, inserted_to}
use Rattle.flow_table.specs.declared.TimeWait.{TimeWait}
use Rattle.flow_table.specs.declared.Slot.{Slot}
use Rattle.flow_table.specs.declared.Slot.TheVariants.{Free, InTimeWait}
use Rattle.spec_flows.specs.declared.Tuple.{Tuple}
use Rattle.flow_table.specs.Slots.{AreKept, IsLongestInTimeWait, NoneInTimeWait, InTimeWaitSince, Stands, StandsBefore, flows, moved_last}
use Rattle.flow_table.specs.Rows.{AreTimeWaits, DoNotFall, IsFirstAfter, IsLonger, time_wait_of}
use Rattle.flow_table.proofs.Keeping.{first_place, gone}

no_rest : (n k : ℕ) (t : Tuple) (since : ℕ) → InTimeWaitSince (replicate n Free) k t since → ⊥
no_rest zero k t since h = cc
no_rest (suc n) zero t since h = cc
no_rest (suc n) (suc k) t since h = no_rest n k t since h

pub no_rests : (n : ℕ) (time_wait_order : List ℕ) → AreTimeWaits (replicate n Free) time_wait_order []
no_rests n time_wait_order = record {
  has = λ i r h. cc;
  all = λ k t since h. absurd (no_rest n k t since h);
  order = λ i j a b less h g. cc;
}

pub do_not_fall : (slots : List Slot) (time_wait_order : List ℕ) (time_waits : List TimeWait) → AreTimeWaits slots time_wait_order time_waits → DoNotFall time_waits
do_not_fall slots time_wait_order time_waits are i j d le within =
    elim (cases_eq i j) [
      | inl same ↦ omega (arith, ap (λ k. (get_or time_waits k d).since) same)
      | inr other ↦ (are.order i j (get_or time_waits i d) (get_or time_waits j d) (omega (arith, le, other)) (slice_get-get_or time_waits i d (omega (arith, le, within))) (slice_get-get_or time_waits j d within)).since
    ]

one_rest : (slots : List Slot) (k : ℕ) (t u : Tuple) (since moment : ℕ) → InTimeWaitSince slots k t since → InTimeWaitSince slots k u moment → since ≡ moment
one_rest slots k t u since moment h g = let e = same_Some (InTimeWait t since) (InTimeWait u moment) (sym h ∙ g) in cc

-- no slot stands twice
pub rests_once : (time_wait_order : List ℕ) (time_waits : List TimeWait) (i j : ℕ) (a b : TimeWait) → ((i j : ℕ) (a b : TimeWait) → i < j → slice_get time_waits i ≡ Some a → slice_get time_waits j ≡ Some b →
    IsLonger time_wait_order a b) → slice_get time_waits i ≡ Some a → slice_get time_waits j ≡ Some b → a.slot ≡ b.slot → i ≡ j
rests_once time_wait_order time_waits i j a b order h g same =
    let not_below : i < j → ⊥ = λ less. (order i j a b less h g).other same in
    let not_above : j < i → ⊥ = λ less. (order j i b a less g h).other (sym same) in
    omega (arith, not_below, not_above)

-- a slot leaves TIME-WAIT
pub rests_removed : (slots : List Slot) (time_wait_order : List ℕ) (time_waits : List TimeWait) (place : ℕ) (r : TimeWait) → slice_get time_waits place ≡ Some r → AreTimeWaits slots time_wait_order time_waits →
    AreTimeWaits (slice_set slots r.slot Free) time_wait_order (remove time_waits place)
rests_removed slots time_wait_order time_waits place r stands are = record {
  has = λ i x h.
      let from = removed_from time_waits place i x h in
      let had = are.has from.0 x from.1.0 in
      let moved : from.0 ≢ place = λ same. omega (arith, from.1.1, same) in
      (had.0, set_to slots r.slot x.slot Free (InTimeWait had.0 x.since) had.1 (λ same. moved (rests_once time_wait_order time_waits from.0 place x r are.order from.1.0 stands same)));
  all = λ k t since h.
      elim (set_from slots r.slot k Free (InTimeWait t since) h) [
        | inl p ↦ absurd (let e = p.1 in cc)
        | inr p ↦ let w = are.all k t since p.1 in
            let other : w.0 ≢ place = λ same. p.0 (ap (λ (x : TimeWait). x.slot) (same_Some (time_wait_of k since) r (sym w.1 ∙ ap (slice_get time_waits) same ∙ stands))) in
            let to = removed_to time_waits place w.0 (time_wait_of k since) w.1 other in (to.0, to.1.0)
      ];
  order = λ i j a b less h g.
      let p = removed_from time_waits place i a h in
      let q = removed_from time_waits place j b g in
      are.order p.0 q.0 a b (omega (arith, p.1.1, q.1.1, less)) p.1.0 q.1.0;
}

-- a slot that isn't in TIME-WAIT is written, and isn't in TIME-WAIT then
pub rests_quiet : (slots : List Slot) (time_wait_order : List ℕ) (time_waits : List TimeWait) (k : ℕ) (s : Slot) → ((t : Tuple) (since : ℕ) → InTimeWaitSince slots k t since → ⊥) →
    ((t : Tuple) (since : ℕ) → InTimeWait t since ≡ s → ⊥) → AreTimeWaits slots time_wait_order time_waits → AreTimeWaits (slice_set slots k s) time_wait_order time_waits
rests_quiet slots time_wait_order time_waits k s quiet still are = record {
  has = λ i x h. let had = are.has i x h in (had.0, set_to slots k x.slot s (InTimeWait had.0 x.since) had.1 (λ same. quiet had.0 x.since (subst (λ n. InTimeWaitSince slots n had.0 x.since) same had.1)));
  all = λ j t since h. elim (set_from slots k j s (InTimeWait t since) h) [ inl p ↦ absurd (still t since p.1) | inr p ↦ are.all j t since p.1 ];
  order = are.order;
}

-- the places of two numbers after a third was taken out
stands_removed : (xs : List ℕ) (n k a b : ℕ) → slice_get xs n ≡ Some k → a ≢ k → StandsBefore xs a b → StandsBefore (remove xs n) a b
stands_removed xs n k a b is other before j h =
    let from = removed_from xs n j b h in
    let w = before from.0 from.1.0 in
    let apart : w.0 ≢ n = λ same. other (same_Some a k (sym w.1.1 ∙ ap (slice_get xs) same ∙ is)) in
    let to = removed_to xs n w.0 a w.1.1 apart in
    (to.0, (omega (arith, from.1.1, to.1.1, w.1.0), to.1.0))

-- what is before the end of a longer list
in_front : (xs : List ℕ) (y i x : ℕ) → slice_get xs i ≡ Some x → slice_get (xs ++ y ∷ []) i ≡ Some x
in_front [] y i x h = cc
in_front (z ∷ xs) y zero x h = h
in_front (z ∷ xs) y (suc i) x h = in_front xs y i x h

at_the_end : (xs : List ℕ) (y i x : ℕ) → slice_get (xs ++ y ∷ []) i ≡ Some x → (slice_get xs i ≡ Some x) ⊎ ((i ≡ length xs) × (x ≡ y))
at_the_end [] y zero x h = inr (refl, sym (same_Some y x h))
at_the_end [] y (suc i) x h = cc
at_the_end (z ∷ xs) y zero x h = inl h
at_the_end (z ∷ xs) y (suc i) x h = elim (at_the_end xs y i x h) [ inl s ↦ inl s | inr e ↦ inr (omega (arith, e.0), e.1) ]

stands_appended : (xs : List ℕ) (y a b : ℕ) → b ≢ y → StandsBefore xs a b → StandsBefore (xs ++ y ∷ []) a b
stands_appended xs y a b other before j h =
    elim (at_the_end xs y j b h) [
      | inl s ↦ let w = before j s in (w.0, (w.1.0, in_front xs y w.0 a w.1.1))
      | inr e ↦ absurd (other e.1)
    ]

stands_before_last : (xs : List ℕ) (y a i : ℕ) → (Stands xs y → ⊥) → slice_get xs i ≡ Some a → StandsBefore (xs ++ y ∷ []) a y
stands_before_last xs y a i none is j h =
    elim (at_the_end xs y j y h) [
      | inl s ↦ absurd (none (j, s))
      | inr e ↦ let w = slice_get_within xs i a is in (i, (omega (arith, e.0, w), in_front xs y i a is))
    ]

-- a slot enters TIME-WAIT
pub rests_inserted : (slots : List Slot) (time_wait_order : List ℕ) (time_waits : List TimeWait) (place k since : ℕ) (t : Tuple) → k < length slots → AreKept slots time_wait_order → IsFirstAfter time_waits since place
    → AreTimeWaits (slice_set slots k Free) time_wait_order time_waits → AreTimeWaits (slice_set slots k (InTimeWait t since)) (moved_last k time_wait_order) (insert time_waits place (time_wait_of k since))
rests_inserted slots time_wait_order time_waits place k since t fits kept at are =
    let le = at.within in
    let new = time_wait_of k since in
    let s = InTimeWait t since in
    let n = position_or_len (λ other. other == k) time_wait_order in
    let stood = kept.all k fits in
    let here = first_place time_wait_order k stood.0 stood.1 in
    let left = gone time_wait_order n k kept.once here in
    -- a slot in the row isn't this one
    let apart : (i : ℕ) (x : TimeWait) → slice_get time_waits i ≡ Some x → x.slot ≢ k =
    λ i x h same. let had = are.has i x h in let e = sym (set_at slots k Free fits) ∙ subst (λ m. InTimeWaitSince (slice_set slots k Free) m had.0 x.since) same had.1 in absurd
    (let f = same_Some Free (InTimeWait had.0 x.since) e in cc) in
    let was : (i : ℕ) (x : TimeWait) → slice_get time_waits i ≡ Some x → (u : Tuple) × InTimeWaitSince slots x.slot u x.since =
    λ i x h. let had = are.has i x h in (had.0, elim (set_from slots k x.slot Free (InTimeWait had.0 x.since) had.1) [ inl p ↦ absurd (apart i x h p.0) | inr p ↦ p.1 ]) in
    record {
      has = λ i x h.
          elim (inserted_from time_waits place i new x le h) [
            | inl p ↦ (t, subst (λ (y : TimeWait). InTimeWaitSince (slice_set slots k s) y.slot t y.since) (sym p.1) (set_at slots k s fits))
            | inr r ↦ let had = was r.0 x r.1.0 in (had.0, set_to slots k x.slot s (InTimeWait had.0 x.since) had.1 (apart r.0 x r.1.0))
          ];
      all = λ j u moment h.
          elim (set_from slots k j s (InTimeWait u moment) h) [
            | inl p ↦ (place, inserted_at time_waits place new le ∙ ap Some (let e = p.1 in let f = p.0 in cc))
            | inr p ↦ let w = are.all j u moment (set_to slots k j Free (InTimeWait u moment) p.1 p.0) in inserted_to time_waits place w.0 new (time_wait_of j moment) le w.1
          ];
      order = λ i j a b less h g.
          elim (inserted_from time_waits place i new a le h) [
            | inl p ↦ elim (inserted_from time_waits place j new b le g) [
              | inl q ↦ absurd (omega (arith, less, p.0, q.0))
              | inr q ↦ let later = at.after q.0 b (omega (arith, q.1.1, less, p.0)) q.1.0 in
                  let mine = ap (λ (y : TimeWait). y.since) p.1 in
                  record {
                    since = omega (arith, later, mine);
                    first = λ tie. absurd (omega (arith, later, mine, tie));
                    other = λ same. apart q.0 b q.1.0 (sym same ∙ ap (λ (y : TimeWait). y.slot) p.1);
                  }
            ]
            | inr p ↦ elim (inserted_from time_waits place j new b le g) [
              | inl q ↦ let earlier = at.before p.0 a (omega (arith, p.1.1, less, q.0)) p.1.0 in
                  let mine = ap (λ (y : TimeWait). y.since) q.1 in
                  let own = ap (λ (y : TimeWait). y.slot) q.1 in
                  let other = apart p.0 a p.1.0 in
                  let had = was p.0 a p.1.0 in
                  let stood_at = kept.all a.slot (slice_get_within slots a.slot (InTimeWait had.0 a.since) had.1) in
                  let stays : stood_at.0 ≢ n = λ same. other (same_Some a.slot k (sym stood_at.1 ∙ ap (slice_get time_wait_order) same ∙ here)) in
                  let to = removed_to time_wait_order n stood_at.0 a.slot stood_at.1 stays in
                  record {
                    since = omega (arith, earlier, mine);
                    first = λ tie. subst (StandsBefore (moved_last k time_wait_order) a.slot) (sym own) (stands_before_last (remove time_wait_order n) k a.slot to.0 left to.1.0);
                    other = λ same. other (same ∙ own);
                  }
              | inr q ↦ let both = are.order p.0 q.0 a b (omega (arith, p.1.1, q.1.1, less)) p.1.0 q.1.0 in
                  record {
                    since = both.since;
                    first = λ tie. stands_appended (remove time_wait_order n) k a.slot b.slot (apart q.0 b q.1.0) (stands_removed time_wait_order n k a.slot b.slot here (apart p.0 a p.1.0) (both.first tie));
                    other = both.other;
                  }
            ]
          ];
    }

-- the first of the row has been in TIME-WAIT the longest
pub longest_is_first : (slots : List Slot) (time_wait_order : List ℕ) (time_waits : List TimeWait) (r : TimeWait) → slice_get time_waits 0 ≡ Some r → AreTimeWaits slots time_wait_order time_waits → IsLongestInTimeWait
    (flows slots time_wait_order) r.slot
longest_is_first slots time_wait_order time_waits r is are =
    let had = are.has 0 r is in
    record {
      tuple = had.0;
      since = r.since;
      time_waits = had.1;
      longest = λ other t moment h.
          let w = are.all other t moment h in
          elim (cases_eq w.0 0) [
            | inl same ↦ let e = ap (λ (y : TimeWait). y.since) (same_Some r (time_wait_of other moment) (sym is ∙ ap (slice_get time_waits) (sym same) ∙ w.1)) in omega (arith, e)
            | inr later ↦ (are.order 0 w.0 r (time_wait_of other moment) (omega (arith, later)) is w.1).since
          ];
      first = λ other t h.
          let w = are.all other t r.since h in
          elim (cases_eq w.0 0) [
            | inl same ↦ let e = ap (λ (y : TimeWait). y.slot) (same_Some r (time_wait_of other r.since) (sym is ∙ ap (slice_get time_waits) (sym same) ∙ w.1)) in λ j stands.
                (j, (omega arith, stands ∙ ap Some (sym e)))
            | inr later ↦ (are.order 0 w.0 r (time_wait_of other r.since) (omega (arith, later)) is w.1).first refl
          ];
    }

pub none_rests : (slots : List Slot) (time_wait_order : List ℕ) → AreTimeWaits slots time_wait_order [] → NoneInTimeWait slots
none_rests slots time_wait_order are k t since h = cc ((are.all k t since h).1)

-- a slot that is in TIME-WAIT stops, by what was read and by what was taken out
pub rest_ended : (slots : List Slot) (time_waits left : List TimeWait) (k since place : ℕ) (t : Tuple) → slice_get time_waits place ≡ Some (time_wait_of k since) → left ≡ remove time_waits place →
    (time_wait_order : List ℕ) → AreTimeWaits slots time_wait_order time_waits → AreTimeWaits (slice_set slots k Free) time_wait_order left
rest_ended slots time_waits left k since place t stands is time_wait_order are = subst (AreTimeWaits (slice_set slots k Free) time_wait_order) (sym is)
    (rests_removed slots time_wait_order time_waits place (time_wait_of k since) stands are)

pub read_rest : (slots : List Slot) (d : Slot) (k since : ℕ) (t : Tuple) → k < length slots → get_or slots k d ≡ InTimeWait t since → InTimeWaitSince slots k t since
read_rest slots d k since t within is = slice_get-get_or slots k d within ∙ ap Some is

pub no_rest_ended : (slots : List Slot) (d : Slot) (k : ℕ) (time_waits : List TimeWait) → k < length slots → ((t : Tuple) (since : ℕ) → get_or slots k d ≡ InTimeWait t since → ⊥) →
    (time_wait_order : List ℕ) → AreTimeWaits slots time_wait_order time_waits → AreTimeWaits (slice_set slots k Free) time_wait_order time_waits
no_rest_ended slots d k time_waits within never time_wait_order are = rests_quiet slots time_wait_order time_waits k Free
    (λ t since h. never t since (get_or_from_slice_get slots k (InTimeWait t since) d h)) (λ t since h. cc) are

-- The row of slots with numbers: their order, and what a step makes of it.
use Rattle.std.proofs.Common.{◌≡◌, ◌≢◌, ℕ, ◌+◌, ◌<◌, ◌≤◌, List, [], ◌∷◌, length, get_or, Option, Some, None, inl, inr, zero, suc, refl, sym, ap, ◌∙◌, subst, arith, replicate, length-set}
use Rattle.std.specs.Prelude.{slice_get, slice_set, IfSome, IfNone}
use Rattle.std.specs.List.{insert, remove}
use Rattle.std.proofs.lemmas.Bool.{cases_eq, cases_lt}
use Rattle.std.proofs.lemmas.Option.{same_Some, slice_get_within, slice_get-get_or}
use Rattle.ordered_rows.proofs.Counts.{fewer_than}
use Rattle.ordered_rows.proofs.Places.{set_from, set_to, set_at, set_same, removed_from, removed_to, inserted_from, inserted_at, inserted_to}
use Rattle.ordered_rows.specs.declared.Queued.{Queued}
use Rattle.ordered_rows.specs.Numbers.{IsLeast, NoNumbers, IsNumberAt}
use Rattle.ordered_rows.specs.Rows.{AreQueued, BelongsAt, IsBefore, IsRow, Rise, queued_as}

pub before_more : (a b c : Queued) → IsBefore a b → IsBefore b c → IsBefore a c
before_more a b c (inl p) (inl q) = inl (omega (arith, p, q))
before_more a b c (inl p) (inr q) = inl (omega (arith, p, q.0))
before_more a b c (inr p) (inl q) = inl (omega (arith, p.0, q))
before_more a b c (inr p) (inr q) = inr (p.0 ∙ q.0, omega (arith, p.1, q.1))

pub not_before_itself : (a : Queued) → IsBefore a a → ⊥
not_before_itself a (inl p) = omega (arith, p)
not_before_itself a (inr p) = omega (arith, p.1)

after_other : (x t : Queued) → (IsBefore x t → ⊥) → x.slot ≢ t.slot → IsBefore t x
after_other x t never other =
    elim (cases_lt t.number x.number) [
      | inl less ↦ inl less
      | inr le ↦ elim (cases_eq x.number t.number) [
        | inl same ↦ elim (cases_lt t.slot x.slot) [
          | inl lower ↦ inr (sym same, lower)
          | inr above ↦ absurd (never (inr (same, omega (arith, above, other))))
        ]
        | inr apart ↦ absurd (never (inl (omega (arith, le, apart))))
      ]
    ]

-- a step of the search
pub before_read : (row : List Queued) (m : ℕ) (d t : Queued) → Rise row → m < length row → IsBefore (get_or row m d) t → (i : ℕ) (x : Queued) → i < m + 1 →
    slice_get row i ≡ Some x → IsBefore x t
before_read row m d t rise within is i x small h =
    let here = slice_get-get_or row m d within in
    elim (cases_eq i m) [
      | inl same ↦ subst (λ (y : Queued). IsBefore y t) (same_Some (get_or row m d) x (sym here ∙ ap (slice_get row) (sym same) ∙ h)) is
      | inr other ↦ before_more x (get_or row m d) t (rise i m x (get_or row m d) (omega (arith, small, other)) h here) is
    ]

pub after_read : (row : List Queued) (m : ℕ) (d t : Queued) → Rise row → m < length row → (IsBefore (get_or row m d) t → ⊥) → (i : ℕ) (x : Queued) → m ≤ i →
    slice_get row i ≡ Some x → IsBefore x t → ⊥
after_read row m d t rise within never i x large h is =
    let here = slice_get-get_or row m d within in
    elim (cases_eq i m) [
      | inl same ↦ never (subst (λ (y : Queued). IsBefore y t) (same_Some x (get_or row m d) (sym h ∙ ap (slice_get row) same ∙ here)) is)
      | inr other ↦ never (before_more (get_or row m d) x t (rise m i (get_or row m d) x (omega (arith, large, other)) here h) is)
    ]

-- one in the row stands at its place
pub stands_there : (row : List Queued) (place i : ℕ) (t : Queued) → Rise row → BelongsAt row place t → slice_get row i ≡ Some t → i ≡ place
stands_there row place i t rise is stands =
    let not_below : i < place → ⊥ = λ less. not_before_itself t (is.before i t less stands) in
    let not_above : place < i → ⊥ = λ less.
    let w = slice_get_within row i t stands in
    let here = slice_get-get_or row place t (omega (arith, w, less)) in
    is.after place (get_or row place t) (omega arith) here (rise place i (get_or row place t) t less here stands) in
    omega (arith, not_below, not_above)

pub none_queued : (n : ℕ) → AreQueued (replicate n None) []
none_queued n = record { have = λ i x h. cc; all = λ slot at h. absurd (none_in n slot at h); rise = λ i j a b less h g. cc }
  where
    none_in : (n slot at : ℕ) → IsNumberAt (replicate n None) slot at → ⊥
    none_in zero slot at h = cc
    none_in (suc n) zero at h = cc
    none_in (suc n) (suc slot) at h = none_in n slot at h

one_number : (numbers : List (Option ℕ)) (slot at other : ℕ) → IsNumberAt numbers slot at → IsNumberAt numbers slot other → at ≡ other
one_number numbers slot at other h g = same_Some at other (same_Some (Some at) (Some other) (sym h ∙ g))

same_queued : (a b : Queued) → a.slot ≡ b.slot → a.number ≡ b.number → a ≡ b
same_queued a b slot at = ap (λ (n : ℕ). queued_as n a.number) slot ∙ ap (queued_as b.slot) at

stands_once : (row : List Queued) (i j : ℕ) (a b : Queued) → Rise row → slice_get row i ≡ Some a → slice_get row j ≡ Some b → a ≡ b → i ≡ j
stands_once row i j a b rise h g same =
    let not_below : i < j → ⊥ = λ less. not_before_itself b (subst (λ (x : Queued). IsBefore x b) same (rise i j a b less h g)) in
    let not_above : j < i → ⊥ = λ less. not_before_itself b (subst (λ (x : Queued). IsBefore b x) same (rise j i b a less g h)) in
    omega (arith, not_below, not_above)

pub removed_queued : (numbers : List (Option ℕ)) (row left : List Queued) (place : ℕ) (x : Queued) → slice_get row place ≡ Some x → left ≡ remove row place →
    AreQueued numbers row → AreQueued (slice_set numbers x.slot None) left
removed_queued numbers row left place x stands is are = subst (AreQueued (slice_set numbers x.slot None)) (sym is) (record {
  have = λ i y h.
      let from = removed_from row place i y h in
      let had = are.have from.0 y from.1.0 in
      let moved : from.0 ≢ place = λ same. omega (arith, from.1.1, same) in
      let other : y.slot ≢ x.slot = λ same. moved (stands_once row from.0 place y x are.rise from.1.0 stands
      (same_queued y x same (one_number numbers x.slot y.number x.number (subst (λ n. IsNumberAt numbers n y.number) same had) (are.have place x stands)))) in
      set_to numbers x.slot y.slot None (Some y.number) had other;
  all = λ slot at h.
      elim (set_from numbers x.slot slot None (Some at) h) [
        | inl p ↦ absurd (let e = p.1 in cc)
        | inr p ↦ let w = are.all slot at p.1 in
            let other : w.0 ≢ place = λ same. p.0 (ap (λ (y : Queued). y.slot) (same_Some (queued_as slot at) x (sym w.1 ∙ ap (slice_get row) same ∙ stands))) in
            let to = removed_to row place w.0 (queued_as slot at) w.1 other in (to.0, to.1.0)
      ];
  rise = λ i j a b less h g.
      let p = removed_from row place i a h in
      let q = removed_from row place j b g in
      are.rise p.0 q.0 a b (omega (arith, p.1.1, q.1.1, less)) p.1.0 q.1.0;
})

pub none_removed : (numbers : List (Option ℕ)) (row : List Queued) (d : Option ℕ) (k : ℕ) → k < length numbers → ((at : ℕ) → get_or numbers k d ≡ Some at → ⊥) →
    AreQueued numbers row → AreQueued (slice_set numbers k None) row
none_removed numbers row d k within never are = subst (λ (ms : List (Option ℕ)). AreQueued ms row)
    (sym (set_same numbers k None (slice_get-get_or numbers k d within ∙ ap Some (is_none (get_or numbers k d) never)))) are
  where
    is_none : (o : Option ℕ) → ((at : ℕ) → o ≡ Some at → ⊥) → o ≡ None
    is_none None never = refl
    is_none (Some at) never = absurd (never at refl)

pub has_read : (numbers : List (Option ℕ)) (d : Option ℕ) (k at : ℕ) → k < length numbers → get_or numbers k d ≡ Some at → IsNumberAt numbers k at
has_read numbers d k at within is = slice_get-get_or numbers k d within ∙ ap Some is

apart_from : (numbers : List (Option ℕ)) (row : List Queued) (k : ℕ) → k < length numbers → AreQueued (slice_set numbers k None) row → (i : ℕ) (x : Queued) →
    slice_get row i ≡ Some x → x.slot ≢ k
apart_from numbers row k fits are i x h same = let e = sym (set_at numbers k None fits) ∙ subst (λ n. IsNumberAt (slice_set numbers k None) n x.number) same (are.have i x h) in cc

pub inserted_queued : (numbers : List (Option ℕ)) (row new : List Queued) (place k at : ℕ) → k < length numbers → BelongsAt row place (queued_as k at) → new ≡ insert row place
    (queued_as k at) → AreQueued (slice_set numbers k None) row → AreQueued (slice_set numbers k (Some at)) new
inserted_queued numbers row new place k at fits belongs is are =
    let le = belongs.within in
    let t = queued_as k at in
    let apart = apart_from numbers row k fits are in
    let was : (i : ℕ) (x : Queued) → slice_get row i ≡ Some x → IsNumberAt numbers x.slot x.number =
    λ i x h. elim (set_from numbers k x.slot None (Some x.number) (are.have i x h)) [ inl p ↦ absurd (apart i x h p.0) | inr p ↦ p.1 ] in
    subst (AreQueued (slice_set numbers k (Some at))) (sym is) (record {
      have = λ i x h.
          elim (inserted_from row place i t x le h) [
            | inl p ↦ subst (λ (y : Queued). IsNumberAt (slice_set numbers k (Some at)) y.slot y.number) (sym p.1) (set_at numbers k (Some at) fits)
            | inr r ↦ set_to numbers k x.slot (Some at) (Some x.number) (was r.0 x r.1.0) (apart r.0 x r.1.0)
          ];
      all = λ slot moment h.
          elim (set_from numbers k slot (Some at) (Some moment) h) [
            | inl p ↦ (place, inserted_at row place t le ∙ ap Some (ap (queued_as k) (sym (same_Some moment at p.1)) ∙ ap (λ n. queued_as n moment) (sym p.0)))
            | inr p ↦ let w = are.all slot moment (set_to numbers k slot None (Some moment) p.1 p.0) in inserted_to row place w.0 t (queued_as slot moment) le w.1
          ];
      rise = λ i j a b less h g.
          elim (inserted_from row place i t a le h) [
            | inl p ↦ elim (inserted_from row place j t b le g) [
              | inl q ↦ absurd (omega (arith, less, p.0, q.0))
              | inr q ↦ subst (λ (x : Queued). IsBefore x b) (sym p.1) (after_other b t (belongs.after q.0 b (omega (arith, q.1.1, less, p.0)) q.1.0) (apart q.0 b q.1.0))
            ]
            | inr p ↦ elim (inserted_from row place j t b le g) [
              | inl q ↦ subst (λ (x : Queued). IsBefore a x) (sym q.1) (belongs.before p.0 a (omega (arith, p.1.1, less, q.0)) p.1.0)
              | inr q ↦ are.rise p.0 q.0 a b (omega (arith, p.1.1, q.1.1, less)) p.1.0 q.1.0
            ]
          ];
    })

-- there is room for one more
pub fewer_queued : (numbers : List (Option ℕ)) (row : List Queued) (k : ℕ) → k < length numbers → AreQueued (slice_set numbers k None) row → length row < length numbers
fewer_queued numbers row k fits are =
    let size = length-set numbers k None in
    let apart = apart_from numbers row k fits are in
    let within : (i : ℕ) (t : Queued) → slice_get row i ≡ Some t → t.slot < length numbers =
    λ i t h. let w = slice_get_within (slice_set numbers k None) t.slot (Some t.number) (are.have i t h) in omega (arith, w, size) in
    let other : (i j : ℕ) (a b : Queued) → i < j → slice_get row i ≡ Some a → slice_get row j ≡ Some b → a.slot ≢ b.slot =
    λ i j a b less h g same. let e = stands_once row i j a b are.rise h g
    (same_queued a b same (one_number (slice_set numbers k None) b.slot a.number b.number (subst (λ n. IsNumberAt (slice_set numbers k None) n a.number) same (are.have i a h))
    (are.have j b g))) in omega (arith, less, e) in
    fewer_than (λ (t : Queued). t.slot) row (length numbers) k fits within apart other

-- the first of the row is the least
pub first_is : (numbers : List (Option ℕ)) (row : List Queued) (x : Queued) → slice_get row 0 ≡ Some x → AreQueued numbers row → IsLeast numbers x.slot x.number
first_is numbers row x is are = record {
  has = are.have 0 x is;
  least = λ other moment h.
      let w = are.all other moment h in
      elim (cases_eq w.0 0) [
        | inl same ↦ let e = ap (λ (y : Queued). y.number) (same_Some x (queued_as other moment) (sym is ∙ ap (slice_get row) (sym same) ∙ w.1)) in omega (arith, e)
        | inr later ↦ let b = are.rise 0 w.0 x (queued_as other moment) (omega (arith, later)) is w.1 in omega (arith, b)
      ];
  lowest = λ other moment low h.
      let w = are.all other moment h in
      elim (cases_eq w.0 0) [
        | inl same ↦ let e = ap (λ (y : Queued). y.slot) (same_Some x (queued_as other moment) (sym is ∙ ap (slice_get row) (sym same) ∙ w.1)) in absurd (omega (arith, e, low))
        | inr later ↦ let b = are.rise 0 w.0 x (queued_as other moment) (omega (arith, later)) is w.1 in omega (arith, b, low)
      ];
}

pub first_found : (numbers : List (Option ℕ)) (row : List Queued) (r : Option Queued) → r ≡ slice_get row 0 → AreQueued numbers row → IfSome r (λ first. IsLeast numbers first.slot first.number)
first_found numbers row None is are = tt
first_found numbers row (Some x) is are = first_is numbers row x (sym is) are

pub none_found : (numbers : List (Option ℕ)) (row : List Queued) (r : Option Queued) → r ≡ slice_get row 0 → AreQueued numbers row → IfNone r (NoNumbers numbers)
none_found numbers row (Some x) is are = tt
none_found numbers [] None is are = λ slot at h. cc ((are.all slot at h).1)
none_found numbers (t ∷ row) None is are = absurd (let e = is in cc)

pub row_room : (numbers now : List (Option ℕ)) (row : List Queued) (k : ℕ) → numbers ≡ now → k < length now → AreQueued (slice_set numbers k None) row → length row < length numbers
row_room numbers now row k view fits are = fewer_queued numbers row k (subst (λ (ms : List (Option ℕ)). k < length ms) (sym view) fits) are

pub set_row : (numbers now : List (Option ℕ)) (row new : List Queued) (place k at room room_new : ℕ) → numbers ≡ now → k < length now → BelongsAt row place (queued_as k at) →
    new ≡ insert row place (queued_as k at) → AreQueued (slice_set numbers k None) row → length numbers ≤ room → room ≤ room_new → IsRow (slice_set numbers k (Some at)) new room_new
set_row numbers now row new place k at room room_new view fits belongs is are enough more =
    let size = length-set numbers k (Some at) in
    record {
      queued = inserted_queued numbers row new place k at (subst (λ (ms : List (Option ℕ)). k < length ms) (sym view) fits) belongs is are;
      fits = omega (arith, size, enough, more);
    }

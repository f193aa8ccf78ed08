-- The marks of a table's rows, and the codes that were found.
use Rattle.std.proofs.Common.{◌≡◌, ◌≢◌, ◌⊎◌, inl, inr, ℕ, zero, suc, ◌+◌, ◌<◌, ◌≤◌, ◌==◌, nat_lt, Bool, true, false, ◌||◌, cond, List, [], ◌∷◌, ◌++◌, length, get_or, set, Option, Some}
use Rattle.std.proofs.Common.{None, position, slice_get, Err, refl, sym, ◌∙◌, ap, subst, arith, get_or-set_other, get_or-set_same, replicate}
use Rattle.std.specs.List.{position_or_len}
use Rattle.std.proofs.lemmas.Bool.Decides.{nat_tests}
use Rattle.std.proofs.lemmas.List.Folds.{find_at}
use Rattle.std.proofs.lemmas.List.Sums.{passes_at_first}
use Rattle.std.proofs.lemmas.Option.{slice_get-get_or, slice_get_past}
use Rattle.tlv_table.specs.declared.Row.{Row}
use Rattle.tlv_table.specs.declared.TlvFault.{TlvFault}
use Rattle.tlv_table.specs.Tables.{row_of}
use Rattle.tlv_table.specs.Reading.{Found, Ends, Goes, has_code, judged, ends_or_goes, taken, Agrees}

abbrev place_of : List Row → ℕ → ℕ
place_of rows code = position_or_len (λ (row : Row). row.code == code) rows

abbrev blank : Row
blank = record { code = 0; least = 0; greatest = 0; repeats = false }

place_cases : (n all : ℕ) (o : Option ℕ) → o ≡ cond (nat_lt n all) (Some n) None → ((o ≡ None) × (all ≤ n)) ⊎ ((o ≡ Some n) × (n < all))
place_cases n all o is = grind (arith, nat_tests)

-- no row has the code
pub unknown : (rows : List Row) (code : ℕ) → None ≡ position (λ (row : Row). row.code == code) rows → row_of rows code ≡ None
unknown rows code is =
    elim (place_cases (place_of rows code) (length rows) None is) [
      | inl past ↦ find_at (λ row. row.code == code) rows ∙ slice_get_past rows (place_of rows code) past.1
      | inr here ↦ cc
    ]

-- a row has it
pub known : (rows : List Row) (code i : ℕ) → Some i ≡ position (λ (row : Row). row.code == code) rows → (i ≡ place_of rows code) × (i < length rows) × (row_of rows code ≡ Some (get_or rows i blank))
known rows code i is =
    elim (place_cases (place_of rows code) (length rows) (Some i) is) [
      | inl past ↦ cc
      | inr here ↦
          let at : i ≡ place_of rows code = cc in
          let there : i < length rows = omega arith in
          (at, there, find_at (λ row. row.code == code) rows ∙ ap (slice_get rows) (sym at) ∙ slice_get-get_or rows i blank there)
    ]

pub has_code-push : (code : ℕ) (found : List Found) (new : Found) → has_code code (found ++ new ∷ []) ≡ (has_code code found || (new.code == code))
has_code-push code [] new = or_false (new.code == code)
  where
    or_false : (b : Bool) → (b || false) ≡ b
    or_false true = refl
    or_false false = refl
has_code-push code (f ∷ found) new = ap (λ b. (f.code == code) || b) (has_code-push code found new) ∙ or_assoc (f.code == code) (has_code code found) (new.code == code)
  where
    or_assoc : (a b c : Bool) → (a || (b || c)) ≡ ((a || b) || c)
    or_assoc true b c = refl
    or_assoc false b c = refl

or_true : (b c : Bool) → c ≡ true → (b || c) ≡ true
or_true true c is = refl
or_true false c is = is

or_none : (b c : Bool) → c ≡ false → (b || c) ≡ b
or_none true c is = refl
or_none false c is = is

-- the mark of one row is set, and the option of its code is found
pub agrees_more : (rows : List Row) (marks : List Bool) (found : List Found) (new : Found) (i : ℕ) → i ≡ place_of rows new.code → i < length rows → length marks ≡ length rows
    → Agrees rows marks found → Agrees rows (set marks i true) (found ++ new ∷ [])
agrees_more rows marks found new i at there size agrees code within =
    elim (same_or_other new.code code) [
      | inl same ↦
          let here : place_of rows code ≡ i = sym (at ∙ ap (place_of rows) same.0) in
          ap (λ k. get_or (set marks i true) k false) here ∙ get_or-set_same marks i true false (omega arith)
          ∙ sym (has_code-push code found new ∙ or_true (has_code code found) (new.code == code) same.1)
      | inr other ↦
          let apart : place_of rows code ≢ i = λ same. other.0 (codes_same new.code code (sym (ap (place_of rows) refl) ∙ sym at ∙ sym same)
          (at_place new.code (subst (λ k. k < length rows) at there)) (at_place code within)) in
          get_or-set_other marks i (place_of rows code) true false apart ∙ agrees code within
          ∙ sym (has_code-push code found new ∙ or_none (has_code code found) (new.code == code) other.1)
    ]
  where
    same_or_other : (a b : ℕ) → ((a ≡ b) × ((a == b) ≡ true)) ⊎ ((a ≢ b) × ((a == b) ≡ false))
    same_or_other a b = grind (arith, nat_tests)

    at_place : (code : ℕ) → place_of rows code < length rows → (get_or rows (place_of rows code) blank).code ≡ code
    at_place code within = eqb_is _ _ (passes_at_first (λ row. row.code == code) rows blank within)
      where
        eqb_is : (a b : ℕ) → (a == b) ≡ true → a ≡ b
        eqb_is a b is = grind (arith, nat_tests)

    codes_same : (a b : ℕ) → place_of rows a ≡ place_of rows b → (get_or rows (place_of rows a) blank).code ≡ a → (get_or rows (place_of rows b) blank).code ≡ b → a ≡ b
    codes_same a b places a_is b_is = sym a_is ∙ ap (λ k. (get_or rows k blank).code) places ∙ b_is

-- an option of a code that isn't known
pub takes_unknown : (rows : List Row) (marks : List Bool) (found : List Found) (new : Found) → None ≡ position (λ (row : Row). row.code == new.code) rows → Agrees rows marks found
    → (more : List Found) × Agrees rows marks more × (taken (row_of rows new.code) found new ≡ Goes more (1 + length new.body))
takes_unknown rows marks found new is agrees = (found, agrees, ap (λ o. taken o found new) (unknown rows new.code is))

-- an option that is right
pub takes_known : (rows : List Row) (marks : List Bool) (found : List Found) (new : Found) (i : ℕ) → Some i ≡ position (λ (row : Row). row.code == new.code) rows →
    length marks ≡ length rows → Agrees rows marks found
    → judged (get_or rows i blank) (get_or marks i false) (length new.body) new.place ≡ None
    → (more : List Found) × Agrees rows (set marks i true) more × (taken (row_of rows new.code) found new ≡ Goes more (1 + length new.body))
takes_known rows marks found new i is size agrees right =
    let row = known rows new.code i is in
    let marked : get_or marks i false ≡ has_code new.code found = ap (λ k. get_or marks k false) row.0 ∙ agrees new.code (subst (λ k. k < length rows) row.0 row.1) in (
      found ++ new ∷ [],
      agrees_more rows marks found new i row.0 row.1 size agrees,
      ap (λ o. taken o found new) row.2 ∙ ap (λ o. ends_or_goes o found new) (ap (λ b. judged (get_or rows i blank) b (length new.body) new.place) (sym marked) ∙ right),
    )

-- an option that is wrong
pub takes_wrong : (rows : List Row) (marks : List Bool) (found : List Found) (new : Found) (i : ℕ) (fault : TlvFault) → Some i ≡ position
    (λ (row : Row). row.code == new.code) rows → Agrees rows marks found
    → judged (get_or rows i blank) (get_or marks i false) (length new.body) new.place ≡ Some fault
    → taken (row_of rows new.code) found new ≡ Ends (Err fault)
takes_wrong rows marks found new i fault is agrees wrong =
    let row = known rows new.code i is in
    let marked : get_or marks i false ≡ has_code new.code found = ap (λ k. get_or marks k false) row.0 ∙ agrees new.code (subst (λ k. k < length rows) row.0 row.1) in
    ap (λ o. taken o found new) row.2 ∙ ap (λ o. ends_or_goes o found new) (ap (λ b. judged (get_or rows i blank) b (length new.body) new.place) (sym marked) ∙ wrong)

-- nothing is marked, and nothing found
pub agrees_none : (rows : List Row) (n : ℕ) → Agrees rows (replicate n false) []
agrees_none rows n code within = none_marked n (place_of rows code)
  where
    none_marked : (n k : ℕ) → get_or (replicate n false) k false ≡ false
    none_marked zero k = refl
    none_marked (suc n) zero = refl
    none_marked (suc n) (suc k) = none_marked n k

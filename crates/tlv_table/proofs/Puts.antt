-- Options that are put one after another are read again.
use Rattle.std.proofs.Common.{◌≡◌, ◌≢◌, ℕ, ◌+◌, ◌≤◌, ◌<◌, ◌==◌, nat_lt, nat_le, Bool, true, false, not, ◌&&◌, ◌||◌, if◌then◌else◌, List, [], ◌∷◌, ◌++◌, length, map, Option, Some, None}
use Rattle.std.proofs.Common.{find, refl, sym, ◌∙◌, ap, subst, arith, append_assoc, Ok}
use Rattle.std.specs.Prelude.{IfSome, IsSomeAnd, ⊤}
use Rattle.std.specs.List.{list_any, AllByRecursion}
use Rattle.std.proofs.lemmas.Bool.{false≢true}
use Rattle.std.proofs.lemmas.Bool.Decides.{nat_tests}
use Rattle.tlv_table.specs.declared.Form.{Form}
use Rattle.tlv_table.specs.declared.Row.{Row}
use Rattle.tlv_table.specs.Tables.{row_of, is_row, are_rows, is_rising, is_table}
use Rattle.tlv_table.specs.Reading.{Found, has_code, reading}
use Rattle.tlv_table.specs.Grammar.{Item, Field, IsItem, IsField, IsOnce, octets_of, found_of, with_known, IsListOf, BeginsWith}
use Rattle.tlv_table.specs.Putting.{CanPut, CanPutAll, items_of, pairs_of, IsNoneAgain, ReadsAgain}
use Rattle.tlv_table.proofs.Laws.{list_read}

both : (a b : Bool) → (a && b) ≡ true → (a ≡ true) × (b ≡ true)
both true b is = (refl, is)
both false b is = absurd (false≢true is)

not_true : (b : Bool) → not b ≡ true → b ≡ false
not_true true is = absurd (false≢true is)
not_true false is = refl

-- the code of a row is neither the end nor the pad
row_codes : (form : Form) (rows : List Row) (code : ℕ) (row : Row) → are_rows form rows ≡ true → row_of rows code ≡ Some row → ((code == form.end) ≡ false) × ((code == form.pad) ≡ false)
row_codes form [] code row rows is = absurd (none is)
  where
    none : ◌≡◌ {A = Option Row} None (Some row) → ⊥
    none is = cc
row_codes form (r ∷ rs) code row rows is =
    let parts = both (is_row form r) (are_rows form rs) rows in
    let own = both (not (r.code == form.end) && not (r.code == form.pad)) (nat_le r.least r.greatest) parts.0 in
    let codes = both (not (r.code == form.end)) (not (r.code == form.pad)) own.0 in
    here (r.code == code) refl is (not_true (r.code == form.end) codes.0) (not_true (r.code == form.pad) codes.1) (λ later. row_codes form rs code row parts.1 later)
  where
    same : (a b c : ℕ) → (a == b) ≡ true → (a == c) ≡ false → (b == c) ≡ false
    same a b c ab ac = grind (arith, nat_tests)

    here : (b : Bool) → (r.code == code) ≡ b → (if b then Some r else row_of rs code) ≡ Some row → (r.code == form.end) ≡ false → (r.code == form.pad) ≡ false →
        (row_of rs code ≡ Some row → ((code == form.end) ≡ false) × ((code == form.pad) ≡ false)) → ((code == form.end) ≡ false) × ((code == form.pad) ≡ false)
    here true test is no_end no_pad rest = (same r.code code form.end test no_end, same r.code code form.pad test no_pad)
    here false test is no_end no_pad rest = rest is

differ : (a b : ℕ) → (a == b) ≡ false → a ≢ b
differ a b test is = grind (arith, nat_tests)

-- an option that can be put is right by itself
is_field : (form : Form) (rows : List Row) (code : ℕ) (body : List ℕ) (o : Option Row) → are_rows form rows ≡ true → row_of rows code ≡ o → IsSomeAnd o
    (λ row. (row.least ≤ length body) × (length body ≤ row.greatest)) → IsField form rows code body
is_field form rows code body None good is known = absurd known
is_field form rows code body (Some row) good is known =
    let codes = row_codes form rows code row good is in
    record {
      no_end = differ code form.end codes.0;
      no_pad = differ code form.pad codes.1;
      range = subst (λ o. IfSome o (λ row. (row.least ≤ length body) × (length body ≤ row.greatest))) (sym is) known;
    }

are_items : (form : Form) (rows : List Row) (pairs : List (ℕ × List ℕ)) → are_rows form rows ≡ true → AllByRecursion (λ (p : ℕ × List ℕ). CanPut form rows p.0 p.1) pairs →
    AllByRecursion (IsItem form rows) (items_of pairs)
are_items form rows [] good each = tt
are_items form rows (p ∷ pairs) good each = (is_field form rows p.0 p.1 (row_of rows p.0) good refl each.0.known, are_items form rows pairs good each.1)

-- what is found is all that was put
all_found : (form : Form) (rows : List Row) (place : ℕ) (pairs : List (ℕ × List ℕ)) → AllByRecursion (λ (p : ℕ × List ℕ). CanPut form rows p.0 p.1) pairs → pairs_of
    (found_of rows place (items_of pairs)) ≡ pairs
all_found form rows place [] each = refl
all_found form rows place (p ∷ pairs) each = known (row_of rows p.0) (found_of rows (place + 2 + length p.1) (items_of pairs)) each.0.known (all_found form rows (place + 2 + length p.1) pairs each.1)
  where
    known : (o : Option Row) (rest : List Found) → IsSomeAnd o (λ row. (row.least ≤ length p.1) × (length p.1 ≤ row.greatest)) → pairs_of rest ≡ pairs → pairs_of
        (with_known o (record { code = p.0; place = place; body = p.1 }) rest) ≡ p ∷ pairs
    known None rest range is = absurd range
    known (Some row) rest range is = ap (λ (ps : List (ℕ × List ℕ)). p ∷ ps) is

has_code_pairs : (code : ℕ) (found : List Found) → has_code code found ≡ list_any (λ (q : ℕ × List ℕ). q.0 == code) (pairs_of found)
has_code_pairs code [] = refl
has_code_pairs code (f ∷ found) = ap (λ b. (f.code == code) || b) (has_code_pairs code found)

map_append : (xs ys : List Found) → pairs_of (xs ++ ys) ≡ pairs_of xs ++ pairs_of ys
map_append [] ys = refl
map_append (x ∷ xs) ys = ap (λ (ps : List (ℕ × List ℕ)). (x.code, x.body) ∷ ps) (map_append xs ys)

-- none that may not repeat is found twice
found_once : (form : Form) (rows : List Row) (place : ℕ) (before : List Found) (pairs : List (ℕ × List ℕ)) → AllByRecursion (λ (p : ℕ × List ℕ). CanPut form rows p.0 p.1) pairs →
    IsNoneAgain rows (pairs_of before) pairs → IsOnce rows before (found_of rows place (items_of pairs))
found_once form rows place before [] each once = tt
found_once form rows place before (p ∷ pairs) each once =
    let new : Found = record { code = p.0; place = place; body = p.1 } in
    known (row_of rows p.0) (found_of rows (place + 2 + length p.1) (items_of pairs)) refl each.0.known once.0
    (found_once form rows (place + 2 + length p.1) (before ++ new ∷ []) pairs each.1 (subst (λ ps. IsNoneAgain rows ps pairs) (sym (map_append before (new ∷ []))) once.1))
  where
    known : (o : Option Row) (rest : List Found) → row_of rows p.0 ≡ o → IsSomeAnd o (λ row. (row.least ≤ length p.1) × (length p.1 ≤ row.greatest))
        → IfSome o (λ row. row.repeats ≡ false → list_any (λ (q : ℕ × List ℕ). q.0 == p.0) (pairs_of before) ≡ false)
        → IsOnce rows (before ++ (record { code = p.0; place = place; body = p.1 }) ∷ []) rest
        → IsOnce rows before (with_known o (record { code = p.0; place = place; body = p.1 }) rest)
    known None rest is range again after = absurd range
    known (Some row) rest is range again after =
        (subst (λ o. IfSome o (λ row. row.repeats ≡ false → has_code p.0 before ≡ false)) (sym is) (λ may. has_code_pairs p.0 before ∙ again may), after)

pub read_again : (form : Form) (rows : List Row) (pairs : List (ℕ × List ℕ)) (rest : List ℕ) → is_table form rows ≡ true → CanPutAll form rows pairs → ReadsAgain form rows pairs rest
read_again form rows pairs rest table all =
    let good = (both (is_rising rows) (are_rows form rows) table).1 in
    let list : IsListOf form rows (octets_of form (items_of pairs) ++ form.end ∷ rest) (found_of rows 0 (items_of pairs)) = record {
      items = items_of pairs;
      rest = form.end ∷ rest;
      begins = record { each = are_items form rows pairs good all.each; once = found_once form rows 0 [] pairs all.each all.once; is = refl };
      ends = refl;
      found_is = refl;
    } in
    (found_of rows 0 (items_of pairs), list_read form rows _ _ list, all_found form rows 0 pairs all.each)

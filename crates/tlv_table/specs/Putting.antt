-- Options that are put one after another.
use Rattle.std.specs.Prelude.{◌≡◌, ℕ, ◌+◌, ◌≤◌, ◌==◌, false, List, [], ◌∷◌, ◌++◌, length, map, Some, Ok, IfSome, IsSomeAnd, ⊤}
use Rattle.std.specs.List.{list_any, AllByRecursion}
use Rattle.tlv_table.specs.declared.Form.{Form}
use Rattle.tlv_table.specs.declared.Row.{Row}
use Rattle.tlv_table.specs.Tables.{row_of}
use Rattle.tlv_table.specs.Reading.{Found, head_counted, reading}
use Rattle.tlv_table.specs.Grammar.{Item, Field, octets_of}

-- an option that can be put: its code has a row, its body is in the row's range, and its length has room in an octet
pub record CanPut (form : Form) (rows : List Row) (code : ℕ) (body : List ℕ) : Type 0 where
  pub known : IsSomeAnd (row_of rows code) (λ row. (row.least ≤ length body) × (length body ≤ row.greatest))
  pub fits : head_counted form + length body ≤ 255

-- some options, as pairs of a code and a body, and their octets one after another
abbrev pub items_of : List (ℕ × List ℕ) → List Item
items_of pairs = map (λ p. Field p.0 p.1) pairs

abbrev pub put_octets : Form → List (ℕ × List ℕ) → List ℕ
put_octets form pairs = octets_of form (items_of pairs)

abbrev pub pairs_of : List Found → List (ℕ × List ℕ)
pairs_of found = map (λ f. (f.code, f.body)) found

-- after some others none comes again that may not repeat
abbrev pub IsNoneAgain : List Row → List (ℕ × List ℕ) → List (ℕ × List ℕ) → Type 0
IsNoneAgain rows before [] = ⊤
IsNoneAgain rows before (p ∷ after) =
    IfSome (row_of rows p.0) (λ row. row.repeats ≡ false → list_any (λ (q : ℕ × List ℕ). q.0 == p.0) before ≡ false) × IsNoneAgain rows (before ++ p ∷ []) after

-- options that can be put, none twice that may not repeat
pub record CanPutAll (form : Form) (rows : List Row) (pairs : List (ℕ × List ℕ)) : Type 0 where
  pub each : AllByRecursion (λ (p : ℕ × List ℕ). CanPut form rows p.0 p.1) pairs
  pub once : IsNoneAgain rows [] pairs

-- put one after another, with the end code behind them, they are read again
abbrev pub ReadsAgain : Form → List Row → List (ℕ × List ℕ) → List ℕ → Type 0
ReadsAgain form rows pairs rest = (found : List Found) × (reading form rows (put_octets form pairs ++ form.end ∷ rest) ≡ Ok found) × (pairs_of found ≡ pairs)

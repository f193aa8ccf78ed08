-- Lists of options, as a grammar: pads and options, up to the end code or the last octet.
use Rattle.std.specs.Prelude.{◌≡◌, ◌≢◌, ◌⊎◌, ℕ, ◌+◌, ◌<◌, ◌≤◌, true, false, List, [], ◌∷◌, ◌++◌, length, flat_map, Option, Some, None, IfSome, ⊤}
use Rattle.std.specs.List.{AllByRecursion}
use Rattle.tlv_table.specs.declared.Form.{Form}
use Rattle.tlv_table.specs.declared.Row.{Row}
use Rattle.tlv_table.specs.declared.TlvFault.{TlvFault}
use Rattle.tlv_table.specs.declared.TlvFault.TheVariants as faults
use Rattle.tlv_table.specs.Tables.{row_of}
use Rattle.tlv_table.specs.Reading.{Found, has_code, head_counted}

-- what a list is made of: pads, and options with a code and a body
pub data Item : Type 0 where
  Pad : Item
  Field : ℕ → List ℕ → Item

-- how each is written
abbrev pub item_octets : Form → Item → List ℕ
item_octets form Pad = form.pad ∷ []
item_octets form (Field code body) = code ∷ (head_counted form + length body) ∷ body

abbrev pub octets_of : Form → List Item → List ℕ
octets_of form items = flat_map (item_octets form) items

-- an option that is right by itself: a code that is neither the end nor the pad, and a body in the range of the code's row, where it has one
pub record IsField (form : Form) (rows : List Row) (code : ℕ) (body : List ℕ) : Type 0 where
  pub no_end : code ≢ form.end
  pub no_pad : code ≢ form.pad
  pub range : IfSome (row_of rows code) (λ row. (row.least ≤ length body) × (length body ≤ row.greatest))

abbrev pub IsItem : Form → List Row → Item → Type 0
IsItem form rows Pad = form.pad ≢ form.end
IsItem form rows (Field code body) = IsField form rows code body

-- the options whose code has a row, where the first item begins at a place
abbrev pub with_known : Option Row → Found → List Found → List Found
with_known None new found = found
with_known (Some row) new found = new ∷ found

abbrev pub found_of : List Row → ℕ → List Item → List Found
found_of rows place [] = []
found_of rows place (Pad ∷ items) = found_of rows (place + 1) items
found_of rows place (Field code body ∷ items) =
    with_known (row_of rows code) (record { code = code; place = place; body = body }) (found_of rows (place + 2 + length body) items)

-- of what is found after some others, none that may not repeat comes again
abbrev pub IsOnce : List Row → List Found → List Found → Type 0
IsOnce rows before [] = ⊤
IsOnce rows before (new ∷ after) =
    IfSome (row_of rows new.code) (λ row. row.repeats ≡ false → has_code new.code before ≡ false) × IsOnce rows (before ++ new ∷ []) after

-- octets begin with items that are right
pub record BeginsWith (form : Form) (rows : List Row) (octets : List ℕ) (items : List Item) (rest : List ℕ) : Type 0 where
  pub each : AllByRecursion (IsItem form rows) items
  pub once : IsOnce rows [] (found_of rows 0 items)
  pub is : octets ≡ octets_of form items ++ rest

-- the end code, or no octet where the end code isn't needed
abbrev pub Ends : Form → List ℕ → Type 0
Ends form [] = form.end_needed ≡ false
Ends form (code ∷ rest) = code ≡ form.end

-- a list of options, and the options in it whose code has a row
pub record IsListOf (form : Form) (rows : List Row) (octets : List ℕ) (found : List Found) : Type 0 where
  pub items : List Item
  pub rest : List ℕ
  pub begins : BeginsWith form rows octets items rest
  pub ends : Ends form rest
  pub found_is : found ≡ found_of rows 0 items

-- an option of a known code that is there, and is wrong: first by its length, then by coming again
abbrev pub IsWrong : Row → List Found → (code place size : ℕ) → TlvFault → Type 0
IsWrong row found code place size fault =
    (((size < row.least) ⊎ (row.greatest < size)) × (fault ≡ faults.BadLength place))
    ⊎ ((row.least ≤ size) × (size ≤ row.greatest) × (row.repeats ≡ false) × (has_code code found ≡ true) × (fault ≡ faults.Repeated place))

-- the length or the body isn't all there, the length counts the head and is too small, or the option is wrong
abbrev pub Breaks : Form → List Row → List Found → (code place : ℕ) → List ℕ → TlvFault → Type 0
Breaks form rows found code place [] fault = fault ≡ faults.Cut place
Breaks form rows found code place (size ∷ rest) fault =
    ((head_counted form + length rest < size) × (fault ≡ faults.Cut place))
    ⊎ ((size < head_counted form) × (fault ≡ faults.BadLength place))
    ⊎ ((count : ℕ) × (count ≤ length rest) × (size ≡ head_counted form + count) × (row : Row) × (row_of rows code ≡ Some row) × IsWrong row found code place count fault)

abbrev pub IsFault : Form → List Row → List Found → ℕ → List ℕ → TlvFault → Type 0
IsFault form rows found place [] fault = (form.end_needed ≡ true) × (fault ≡ faults.NoEnd)
IsFault form rows found place (code ∷ rest) fault = (code ≢ form.end) × (code ≢ form.pad) × Breaks form rows found code place rest fault

-- octets that are no list of options: items that are right, and then the fault
pub record IsNoList (form : Form) (rows : List Row) (octets : List ℕ) (fault : TlvFault) : Type 0 where
  pub items : List Item
  pub rest : List ℕ
  pub begins : BeginsWith form rows octets items rest
  pub fault_is : IsFault form rows (found_of rows 0 items) (length (octets_of form items)) rest fault

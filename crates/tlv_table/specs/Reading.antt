-- What is read in a list of octets by a table.
use Rattle.std.specs.Prelude.{◌≡◌, ℕ, zero, suc, ◌+◌, ◌-◌, ◌<◌, ◌==◌, nat_lt, nat_le, Bool, false, ◌&&◌, ◌||◌, not, List, [], ◌∷◌, ◌++◌, length, take, Option, Some, None, find, option_map}
use Rattle.std.specs.Prelude.{slice_index_or, Result, Ok, Err, if◌then◌else◌}
use Rattle.std.specs.List.{position_or_len}
use Rattle.tlv_table.specs.declared.Form.{Form}
use Rattle.tlv_table.specs.declared.Row.{Row}
use Rattle.tlv_table.specs.declared.TlvFault.{TlvFault}
use Rattle.tlv_table.specs.declared.TlvFault.TheVariants as faults
use Rattle.tlv_table.specs.Tables.{row_of}

-- an option that was found: its code, the place of the code, and its body
pub record Found : Type 0 where
  pub code : ℕ
  pub place : ℕ
  pub body : List ℕ

abbrev pub has_code : ℕ → List Found → Bool
has_code code [] = false
has_code code (f ∷ fs) = (f.code == code) || has_code code fs

-- the body of the first option of a code
abbrev pub first_body : ℕ → List Found → Option (List ℕ)
first_body code found = option_map (λ f. f.body) (find (λ f. f.code == code) found)

-- how many octets of the head the length of an option counts
abbrev pub head_counted : Form → ℕ
head_counted form = if form.counts_head then 2 else 0

-- the body of an option at a place, by what follows its code
abbrev pub body_in : Form → ℕ → List ℕ → Result (List ℕ) TlvFault
body_in form place [] = Err (faults.Cut place)
body_in form place (size ∷ rest) =
    if nat_lt size (head_counted form) then Err (faults.BadLength place)
    else (if nat_lt (length rest) (size - head_counted form) then Err (faults.Cut place)
    else Ok (take (size - head_counted form) rest))

-- a step over what begins at a place: the reading ends, or goes on with what is found so far after so many more octets
pub data Step : Type 0 where
  Ends : Result (List Found) TlvFault → Step
  Goes : List Found → ℕ → Step

abbrev pub in_range : Row → ℕ → Bool
in_range row size = nat_le row.least size && nat_le size row.greatest

-- what is wrong with an option of a known code, whose body has so many octets, where it comes again or not
abbrev pub judged : Row → Bool → (size place : ℕ) → Option TlvFault
judged row again size place =
    if in_range row size then (if again && not row.repeats then Some (faults.Repeated place) else None)
    else Some (faults.BadLength place)

abbrev pub ends_or_goes : Option TlvFault → List Found → Found → Step
ends_or_goes (Some fault) found new = Ends (Err fault)
ends_or_goes None found new = Goes (found ++ new ∷ []) (1 + length new.body)

-- an option whose code has this row, or none
abbrev pub taken : Option Row → List Found → Found → Step
taken None found new = Goes found (1 + length new.body)
taken (Some row) found new = ends_or_goes (judged row (has_code new.code found) (length new.body) new.place) found new

abbrev pub option_step : List Row → List Found → (code place : ℕ) → Result (List ℕ) TlvFault → Step
option_step rows found code place (Err fault) = Ends (Err fault)
option_step rows found code place (Ok body) = taken (row_of rows code) found (record { code = code; place = place; body = body })

abbrev pub step : Form → List Row → List Found → (place code : ℕ) → List ℕ → Step
step form rows found place code rest =
    if code == form.end then Ends (Ok found)
    else (if code == form.pad then Goes found 0
    else option_step rows found code place (body_in form place rest))

abbrev pub follow : Step → (List Found → ℕ → Result (List Found) TlvFault) → Result (List Found) TlvFault
follow (Ends answer) go_on = answer
follow (Goes found skip) go_on = go_on found skip

-- reading on at a place, after `skip` octets
unfoldable pub read_on : Form → List Row → List Found → (place skip : ℕ) → List ℕ → Result (List Found) TlvFault
read_on form rows found place skip [] = if form.end_needed then Err faults.NoEnd else Ok found
read_on form rows found place zero (code ∷ rest) = follow (step form rows found place code rest) (λ more skip. read_on form rows more (place + 1) skip rest)
read_on form rows found place (suc skip) (octet ∷ rest) = read_on form rows found (place + 1) skip rest

-- what a table reads in octets
abbrev pub reading : Form → List Row → List ℕ → Result (List Found) TlvFault
reading form rows octets = read_on form rows [] 0 0 octets

abbrev pub found_in : Result (List Found) TlvFault → List Found
found_in (Ok found) = found
found_in (Err fault) = []

-- the marks of a table's rows say which codes were found
abbrev pub Agrees : List Row → List Bool → List Found → Type 0
Agrees rows marks found =
    (code : ℕ) → position_or_len (λ row. row.code == code) rows < length rows
    → slice_index_or marks (position_or_len (λ row. row.code == code) rows) false ≡ has_code code found

-- how an option is taken: with what is found then the marks agree, or it is wrong
abbrev pub Takes : List Row → List Bool → List Found → Found → Result Unit TlvFault → Type 0
Takes rows marks found new (Ok done) = (more : List Found) × Agrees rows marks more × (taken (row_of rows new.code) found new ≡ Goes more (1 + length new.body))
Takes rows marks found new (Err fault) = taken (row_of rows new.code) found new ≡ Ends (Err fault)

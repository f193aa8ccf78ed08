-- Tables of options. An option is a code, a length and a body (RFC 9293, 3.1; RFC 2132, 2); a table says of some codes what their bodies may be.
use Rattle.std.specs.Prelude.{ℕ, ◌==◌, nat_lt, nat_le, Bool, true, ◌&&◌, not, List, [], ◌∷◌, Option, find}
use Rattle.tlv_table.specs.declared.Form.{Form}
use Rattle.tlv_table.specs.declared.Row.{Row}

-- a table
pub record Rules : Type 0 where
  pub form : Form
  pub rows : List Row

-- codes in rising order, each under the next one
abbrev pub is_below : Row → List Row → Bool
is_below row [] = true
is_below row (next ∷ rest) = nat_lt row.code next.code

abbrev pub is_rising : List Row → Bool
is_rising [] = true
is_rising (row ∷ rest) = is_below row rest && is_rising rest

-- a row that can be in a table: its code is neither the end nor the pad, and some length is in its range
abbrev pub is_row : Form → Row → Bool
is_row form row = not (row.code == form.end) && not (row.code == form.pad) && nat_le row.least row.greatest

abbrev pub are_rows : Form → List Row → Bool
are_rows form [] = true
are_rows form (row ∷ rest) = is_row form row && are_rows form rest

abbrev pub is_table : Form → List Row → Bool
is_table form rows = is_rising rows && are_rows form rows

-- the row of a code that is known
abbrev pub row_of : List Row → ℕ → Option Row
row_of rows code = find (λ row. row.code == code) rows

-- What the options of a segment say.
use Rattle.std.proofs.Common.{◌≡◌, ℕ, ◌≤◌, List, [], ◌∷◌, ◌++◌, length, Option, Some, refl, sym, ◌∙◌, ap, subst, Bor}
use Rattle.std.specs.Option.{option_copied}
use Rattle.net_octets.specs.Octets.{two}
use Rattle.tlv_table.specs.Tables.{Rules}
use Rattle.tlv_table.specs.Reading.{Found, first_body, read_on}
use Rattle.tlv_table.specs.Grammar.{IsListOf}
use Rattle.tlv_table.proofs.Laws.{read_list, first_in_range}
use Rattle.tcp_segment.specs.Tcp.{tcp_form, tcp_rows, mss_row, scale_row}

-- the body of a greatest segment size has two octets
pub two_octets : (table : Rules) (options : List ℕ) (found : List Found) (first : Option (Bor (List ℕ))) (body : Bor (List ℕ)) →
    table ≡ record { form = tcp_form; rows = tcp_rows } → IsListOf table.form table.rows options found
    → option_copied first ≡ first_body 2 found → first ≡ Some body → 2 ≤ length body.now
two_octets table options found first body table_is lists first_is is =
    let lists_tcp : IsListOf tcp_form tcp_rows options found = subst (λ (t : Rules). IsListOf t.form t.rows options found) table_is lists in
    (first_in_range tcp_form tcp_rows options found 2 mss_row body.now lists_tcp refl (sym first_is ∙ ap option_copied is)).0

-- and that of a window scale one
pub one_octet : (table : Rules) (options : List ℕ) (found : List Found) (first : Option (Bor (List ℕ))) (body : Bor (List ℕ)) →
    table ≡ record { form = tcp_form; rows = tcp_rows } → IsListOf table.form table.rows options found
    → option_copied first ≡ first_body 3 found → first ≡ Some body → 1 ≤ length body.now
one_octet table options found first body table_is lists first_is is =
    let lists_tcp : IsListOf tcp_form tcp_rows options found = subst (λ (t : Rules). IsListOf t.form t.rows options found) table_is lists in
    (first_in_range tcp_form tcp_rows options found 3 scale_row body.now lists_tcp refl (sym first_is ∙ ap option_copied is)).0

-- what we write is a list of options
pub no_options : IsListOf tcp_form tcp_rows [] []
unfolding read_on
no_options = read_list tcp_form tcp_rows [] [] refl

pub mss_alone : (mss : ℕ) → IsListOf tcp_form tcp_rows (2 ∷ 4 ∷ two mss) (record { code = 2; place = 0; body = two mss } ∷ [])
unfolding read_on
mss_alone mss = read_list tcp_form tcp_rows (2 ∷ 4 ∷ two mss) (record { code = 2; place = 0; body = two mss } ∷ []) refl

pub scale_alone : (shift : ℕ) → IsListOf tcp_form tcp_rows (1 ∷ 3 ∷ 3 ∷ shift ∷ []) (record { code = 3; place = 1; body = shift ∷ [] } ∷ [])
unfolding read_on
scale_alone shift = read_list tcp_form tcp_rows (1 ∷ 3 ∷ 3 ∷ shift ∷ []) (record { code = 3; place = 1; body = shift ∷ [] } ∷ []) refl

pub mss_and_scale : (mss shift : ℕ) → IsListOf tcp_form tcp_rows (2 ∷ 4 ∷ two mss ++ 1 ∷ 3 ∷ 3 ∷ shift ∷ []) (record { code = 2; place = 0; body = two mss }
    ∷ record { code = 3; place = 5; body = shift ∷ [] } ∷ [])
unfolding read_on
mss_and_scale mss shift =
    read_list tcp_form tcp_rows (2 ∷ 4 ∷ two mss ++ 1 ∷ 3 ∷ 3 ∷ shift ∷ []) (record { code = 2; place = 0; body = two mss } ∷ record { code = 3; place = 5; body = shift ∷ [] } ∷ []) refl

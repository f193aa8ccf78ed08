-- Numbers as they are written, and why a text that was refused is none.
use Rattle.std.proofs.Common.{◌≡◌, ◌≢◌, ℕ, zero, suc, ◌^◌, ◌<◌, ◌≤◌, true, false, ◌&&◌, eqb, ltb, List, [], ◌∷◌, length, get_or, decimal, Option, Some, None, IfSome, sym, ◌∙◌, ap, subst, arith, rules}
use Rattle.std.specs.Str.{IsUtf8}
use Rattle.std.specs.Str.Parse.{AllDigits, digits_value, without_leading_plus}
use Rattle.std.proofs.lemmas.Bool.Decides.{nat_tests}
use Rattle.std.proofs.lemmas.Str.{IsUtf8-from_ascii}
use Rattle.std.proofs.lemmas.Str.Parse.{IsNumeralModel, numerals_by_value}
use Rattle.std.proofs.lemmas.Fmt.{decimal-digits_value, decimal_is_IsNumeral, decimal_injective, decimal_nonempty, decimal_digit, first_decimal, IsAscii-decimal}
use Rattle.address_text.specs.Texts.{IsReadAs}
use Rattle.address_text.proofs.Parting.{both}

own : IsNumeralModel (AllDigits 10) (digits_value 10)
own = numerals_by_value (AllDigits 10) (search rules)

-- digits with no sign and no needless zero are those of their number
pub number_read : (text : List ℕ) (read : Option ℕ) → IsReadAs text read → 0 < length text → get_or text 0 0 ≢ 43 → (eqb (get_or text 0 0) 48 && ltb 1 (length text) ≡ false) →
    IfSome read (λ n. text ≡ decimal n)
number_read text (Some n) is some plus needless =
    let alone : get_or text 0 0 ≡ 48 → length text ≡ 1 = λ z. grind (arith, nat_tests, z) in
    let plain : without_leading_plus text ≡ text = grind (arith, nat_tests) in
    let digits : AllDigits 10 text = subst (AllDigits 10) plain is.0.0.1 in
    let small : digits_value 10 text < 2 ^ 64 = subst (λ (t : List ℕ). digits_value 10 t < 2 ^ 64) plain is.0.1 in
    sym (decimal-digits_value own text digits some alone small) ∙ ap (λ t. decimal (digits_value 10 t)) (sym plain) ∙ ap decimal (sym is.1)
number_read text None is some plus needless = tt

pub number_some : (text : List ℕ) (n : ℕ) → n < 2 ^ 64 → text ≡ decimal n → 0 < length text
number_some text n small is = subst (λ (t : List ℕ). 0 < length t) (sym is) (decimal_nonempty n small)

pub zero_text : decimal 0 ≡ 48 ∷ []
zero_text = decimal_digit 0 (omega arith)

starts : (n : ℕ) → n < 2 ^ 64 → 48 ≤ get_or (decimal n) 0 0
starts zero small = subst (λ (t : List ℕ). 48 ≤ get_or t 0 0) (sym zero_text) (omega arith)
starts (suc n) small = let first = first_decimal (suc n) (omega arith) small in omega (arith, first)

-- no sign stands first
pub number_unsigned : (text : List ℕ) (n : ℕ) → n < 2 ^ 64 → text ≡ decimal n → get_or text 0 0 ≡ 43 → ⊥
number_unsigned text n small is plus = let first = subst (λ (t : List ℕ). 48 ≤ get_or t 0 0) (sym is) (starts n small) in omega (arith, first)

needless : (n : ℕ) → n < 2 ^ 64 → get_or (decimal n) 0 0 ≡ 48 → 1 < length (decimal n) → ⊥
needless zero small first long = let one : length (decimal 0) ≡ 1 = ap length zero_text in omega (arith, one, long)
needless (suc n) small first long = let above = first_decimal (suc n) (omega arith) small in omega (arith, above)

pub number_needed : (text : List ℕ) (n : ℕ) → n < 2 ^ 64 → text ≡ decimal n → (eqb (get_or text 0 0) 48 && ltb 1 (length text) ≡ true) → ⊥
number_needed text n small is led =
    let h = both (eqb (get_or text 0 0) 48) (ltb 1 (length text)) led in
    let first : get_or text 0 0 ≡ 48 = grind (arith, nat_tests, h.0) in
    let long : 1 < length text = grind (arith, nat_tests, h.1) in
    needless n small (ap (λ (t : List ℕ). get_or t 0 0) (sym is) ∙ first) (subst (λ (t : List ℕ). 1 < length t) is long)

pub number_utf8 : (text : List ℕ) (n : ℕ) → n < 2 ^ 64 → text ≡ decimal n → IsUtf8 text
number_utf8 text n small is = subst IsUtf8 (sym is) (IsUtf8-from_ascii (decimal n) (IsAscii-decimal n small))

pub number_parsed : (text : List ℕ) (n : ℕ) → n < 2 ^ 64 → text ≡ decimal n → IsReadAs text None → ⊥
number_parsed text n small is none =
    let plain : without_leading_plus (decimal n) ≡ decimal n = grind (arith, nat_tests, starts n small) in
    let read : IsReadAs (decimal n) None = subst (λ (t : List ℕ). IsReadAs t None) is none in
    let numeral = decimal_is_IsNumeral n small in
    grind (arith, read, numeral, plain, small)

pub number_over : (n m : ℕ) (text : List ℕ) → n < 2 ^ 64 → text ≡ decimal n → m < n → (k : ℕ) → k ≤ m → text ≡ decimal k → ⊥
number_over n m text small is over k under encoded = let same = decimal_injective n k small (omega arith) (sym is ∙ encoded) in omega (arith, same)

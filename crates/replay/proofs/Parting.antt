-- Kinds of octets in a trace of calls, and of which kinds numbers and octets are as they are written there.
use Rattle.std.proofs.Common.{◌≡◌, ℕ, zero, suc, ◌+◌, ◌*◌, ◌/◌, ◌%◌, ◌^◌, ◌<◌, Bool, true, not, ◌&&◌, eqb, ltb, List, [], ◌∷◌, length, slice_index, decimal, refl, arith}
use Rattle.std.specs.List.{list_all}
use Rattle.std.proofs.lemmas.Bool.Decides.{nat_tests}
use Rattle.std.proofs.lemmas.Fmt.{decimal_is_IsNumeral}
use Rattle.std.proofs.lemmas.List.Elements.{All-head, All-tail}
use Rattle.hex.specs.Hex.{encode_with, lower_digits}
use Rattle.world_face.specs.Journal.{AreOctets}
use Rattle.address_text.specs.Texts.{is_other}
use Rattle.address_text.proofs.Parting.{decimal_digits, fit_weaker, is_digit, pair}
use Rattle.replay.specs.Text.{hexadecimal}

-- what stands in a word, in a call, in a line
abbrev pub is_word : ℕ → Bool
is_word c = ltb 32 c && not (eqb c 61)

abbrev pub is_plain : ℕ → Bool
is_plain c = ltb 10 c && not (eqb c 61)

abbrev pub is_line : ℕ → Bool
is_line c = ltb 10 c

abbrev pub is_small : ℕ → Bool
is_small c = ltb c 256

-- what stands first, and a number that tells short texts apart
abbrev pub first : List ℕ → ℕ
first [] = 0
first (x ∷ xs) = x

abbrev pub mark : List ℕ → ℕ
mark xs = 1000 * length xs + first xs

-- a number
pub decimal_some : (n : ℕ) → n < 2 ^ 64 → 0 < length (decimal n)
decimal_some n small = (decimal_is_IsNumeral n small).0.0

pub digit_is_word : (c : ℕ) → is_digit c ≡ true → is_word c ≡ true
digit_is_word c h = grind (arith, nat_tests)

pub digit_is_no_comma : (c : ℕ) → is_digit c ≡ true → is_other 44 c ≡ true
digit_is_no_comma c h = grind (arith, nat_tests)

pub word_is_no_space : (c : ℕ) → is_word c ≡ true → is_other 32 c ≡ true
word_is_no_space c h = grind (arith, nat_tests)

pub word_is_plain : (c : ℕ) → is_word c ≡ true → is_plain c ≡ true
word_is_plain c h = grind (arith, nat_tests)

pub word_is_line : (c : ℕ) → is_word c ≡ true → is_line c ≡ true
word_is_line c h = grind (arith, nat_tests)

pub plain_is_line : (c : ℕ) → is_plain c ≡ true → is_line c ≡ true
plain_is_line c h = grind (arith, nat_tests)

pub decimal_word : (n : ℕ) → n < 2 ^ 64 → list_all is_word (decimal n) ≡ true
decimal_word n small = fit_weaker is_digit is_word digit_is_word (decimal n) (decimal_digits n small)

-- hexadecimal digits stand in words
glyph_word : (v : ℕ) → v < 16 → is_word (slice_index lower_digits v) ≡ true
glyph_word zero h = refl
glyph_word (suc zero) h = refl
glyph_word (suc (suc zero)) h = refl
glyph_word (suc (suc (suc zero))) h = refl
glyph_word (suc (suc (suc (suc zero)))) h = refl
glyph_word (suc (suc (suc (suc (suc zero))))) h = refl
glyph_word (suc (suc (suc (suc (suc (suc zero)))))) h = refl
glyph_word (suc (suc (suc (suc (suc (suc (suc zero))))))) h = refl
glyph_word (suc (suc (suc (suc (suc (suc (suc (suc zero)))))))) h = refl
glyph_word (suc (suc (suc (suc (suc (suc (suc (suc (suc zero))))))))) h = refl
glyph_word (suc (suc (suc (suc (suc (suc (suc (suc (suc (suc zero)))))))))) h = refl
glyph_word (suc (suc (suc (suc (suc (suc (suc (suc (suc (suc (suc zero))))))))))) h = refl
glyph_word (suc (suc (suc (suc (suc (suc (suc (suc (suc (suc (suc (suc zero)))))))))))) h = refl
glyph_word (suc (suc (suc (suc (suc (suc (suc (suc (suc (suc (suc (suc (suc zero))))))))))))) h = refl
glyph_word (suc (suc (suc (suc (suc (suc (suc (suc (suc (suc (suc (suc (suc (suc zero)))))))))))))) h = refl
glyph_word (suc (suc (suc (suc (suc (suc (suc (suc (suc (suc (suc (suc (suc (suc (suc zero))))))))))))))) h = refl
glyph_word (suc (suc (suc (suc (suc (suc (suc (suc (suc (suc (suc (suc (suc (suc (suc (suc v)))))))))))))))) h = absurd (omega arith)

encode_word : (octets : List ℕ) → AreOctets octets → list_all is_word (encode_with lower_digits octets) ≡ true
unfolding encode_with
encode_word [] h = refl
encode_word (x ∷ xs) h =
    let small : x < 256 = All-head (λ octet. octet < 2 ^ 8) x xs h in
    let rest = encode_word xs (All-tail (λ octet. octet < 2 ^ 8) x xs h) in
    pair (is_word (slice_index lower_digits (x / 16))) (is_word (slice_index lower_digits (x % 16)) && list_all is_word (encode_with lower_digits xs)) (glyph_word (x / 16) (omega arith))
    (pair (is_word (slice_index lower_digits (x % 16))) (list_all is_word (encode_with lower_digits xs)) (glyph_word (x % 16) (omega arith)) rest)

pub hexadecimal_word : (octets : List ℕ) → AreOctets octets → list_all is_word (hexadecimal octets) ≡ true
hexadecimal_word [] h = refl
hexadecimal_word (x ∷ xs) h = encode_word (x ∷ xs) h

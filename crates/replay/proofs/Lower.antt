-- Lower case hexadecimal that decodes is what its octets encode to.
use Rattle.std.proofs.Common.{◌≡◌, ℕ, ◌+◌, ◌*◌, ◌/◌, ◌%◌, ◌<◌, zero, suc, ◌-◌, inl, inr, Bool, true, false, ◌&&◌, List, [], ◌∷◌, length, slice_index, Option, Some, None, Result, Ok, Err}
use Rattle.std.proofs.Common.{refl, sym, ◌∙◌, ap, subst, arith}
use Rattle.std.specs.List.{list_all}
use Rattle.std.proofs.lemmas.Bool.{cases_lt}
use Rattle.hex.specs.Hex.{encode_with, lower_digits, decode_pairs, decode_of, pair_value, value_at, digit_or_error, hex_digit_value, ◌>>=◌}
use Rattle.hex.specs.declared.error.FromHexError.{FromHexError}
use Rattle.hex.proofs.HexLemmas.{decode_of-ok, decode_of-even}
use Rattle.std.specs.Result.{result_unwrap_or}
use Rattle.replay.specs.Encoding.{is_lower}
use Rattle.replay.specs.Text.{hexadecimal}

bind_ok : {A B : Type 0} (r : Result A FromHexError) (f : A → Result B FromHexError) (y : B) → (r >>= f) ≡ Ok y → (x : A) × (r ≡ Ok x) × (f x ≡ Ok y)
bind_ok (Ok x) f y h = (x, refl, h)
bind_ok (Err e) f y h = cc h

digit_read : (c i : ℕ) (o : Option ℕ) (v : ℕ) → digit_or_error c i o ≡ Ok v → o ≡ Some v
digit_read c i (Some w) v h = ap Some (ap (λ (r : Result ℕ FromHexError). result_unwrap_or r 0) h)
digit_read c i None v h = cc h

-- the sixteen digits, by their values
below_ten : (v : ℕ) → v < 10 → slice_index lower_digits v ≡ 48 + v
below_ten zero h = refl
below_ten (suc zero) h = refl
below_ten (suc (suc zero)) h = refl
below_ten (suc (suc (suc zero))) h = refl
below_ten (suc (suc (suc (suc zero)))) h = refl
below_ten (suc (suc (suc (suc (suc zero))))) h = refl
below_ten (suc (suc (suc (suc (suc (suc zero)))))) h = refl
below_ten (suc (suc (suc (suc (suc (suc (suc zero))))))) h = refl
below_ten (suc (suc (suc (suc (suc (suc (suc (suc zero)))))))) h = refl
below_ten (suc (suc (suc (suc (suc (suc (suc (suc (suc zero))))))))) h = refl
below_ten (suc (suc (suc (suc (suc (suc (suc (suc (suc (suc v)))))))))) h = absurd (omega arith)

above_ten : (k : ℕ) → k < 6 → slice_index lower_digits (10 + k) ≡ 97 + k
above_ten zero h = refl
above_ten (suc zero) h = refl
above_ten (suc (suc zero)) h = refl
above_ten (suc (suc (suc zero))) h = refl
above_ten (suc (suc (suc (suc zero)))) h = refl
above_ten (suc (suc (suc (suc (suc zero))))) h = refl
above_ten (suc (suc (suc (suc (suc (suc k)))))) h = absurd (omega arith)

-- a digit that is no capital is the digit of its value
glyph : (c v : ℕ) → hex_digit_value c ≡ Some v → is_lower c ≡ true → (v < 16) × (slice_index lower_digits v ≡ c)
glyph c v h low =
    let small : v < 16 = grind arith in
    elim (cases_lt v 10) [
      | inl lt ↦
          let is : 48 + v ≡ c = grind arith in
          (small, below_ten v lt ∙ is)
      | inr ge ↦
          let is : 87 + v ≡ c = grind arith in
          let k : v ≡ 10 + (v - 10) = omega arith in
          let up = above_ten (v - 10) (omega arith) in
          let sum : 97 + (v - 10) ≡ c = omega arith in
          (small, ap (slice_index lower_digits) k ∙ up ∙ sum)
    ]

both : (x y : Bool) → x && y ≡ true → (x ≡ true) × (y ≡ true)
both true y h = (refl, h)
both false y h = cc h

two : (x y a b : ℕ) (more rest : List ℕ) → x ≡ a → y ≡ b → more ≡ rest → x ∷ y ∷ more ≡ a ∷ b ∷ rest
two x y a b more rest ea eb er = cc

pairs : (i : ℕ) (s octets : List ℕ) → decode_pairs i s ≡ Ok octets → list_all is_lower s ≡ true → encode_with lower_digits octets ≡ s
unfolding decode_pairs encode_with
pairs i [] octets h low = subst (λ (o : List ℕ). encode_with lower_digits o ≡ []) (ap (λ (r : Result (List ℕ) FromHexError). result_unwrap_or r []) h) refl
pairs i (a ∷ []) octets h low = cc h
pairs i (a ∷ b ∷ rest) octets h low =
    let p0 = bind_ok (pair_value a b i) _ octets h in
    let p1 = bind_ok (value_at a i) _ p0.0 p0.1 in
    let p2 = bind_ok (value_at b (i + 1)) _ p0.0 p1.2 in
    let p3 = bind_ok (decode_pairs (i + 2) rest) _ octets p0.2 in
    let la = both (is_lower a) (is_lower b && list_all is_lower rest) low in
    let lb = both (is_lower b) (list_all is_lower rest) la.1 in
    let ga = glyph a p1.0 (digit_read a i (hex_digit_value a) p1.0 p1.1) la.0 in
    let gb = glyph b p2.0 (digit_read b (i + 1) (hex_digit_value b) p2.0 p2.1) lb.0 in
    let octet : p1.0 * 16 + p2.0 ≡ p0.0 = ap (λ (r : Result ℕ FromHexError). result_unwrap_or r 0) p2.2 in
    let high : p0.0 / 16 ≡ p1.0 = omega (arith, octet, ga.0, gb.0) in
    let low_half : p0.0 % 16 ≡ p2.0 = omega (arith, octet, ga.0, gb.0) in
    subst (λ (o : List ℕ). encode_with lower_digits o ≡ a ∷ b ∷ rest) (ap (λ (r : Result (List ℕ) FromHexError). result_unwrap_or r []) p3.2)
    (two (slice_index lower_digits (p0.0 / 16)) (slice_index lower_digits (p0.0 % 16)) a b (encode_with lower_digits p3.0) rest
    (ap (slice_index lower_digits) high ∙ ga.1) (ap (slice_index lower_digits) low_half ∙ gb.1) (pairs (i + 2) rest p3.0 p3.1 lb.1))

of_some : (s octets : List ℕ) → encode_with lower_digits octets ≡ s → 0 < length octets → s ≡ hexadecimal octets
of_some s [] is some = absurd (omega arith)
of_some s (x ∷ xs) is some = sym is

pub hexadecimal_read : (s octets : List ℕ) → decode_of s ≡ Ok octets → list_all is_lower s ≡ true → 0 < length s → s ≡ hexadecimal octets
hexadecimal_read s octets h low some =
    let ok = decode_of-ok s octets h in
    let even : length s % 2 ≡ 0 = omega (arith, ok.2) in
    of_some s octets (pairs 0 s octets (sym (decode_of-even s even) ∙ h) low) (omega (arith, ok.2))

-- Numbers that aren't counted on past a bound.
use Rattle.std.proofs.Common.{◌≡◌, ℕ, ◌+◌, ◌-◌, ◌*◌, ◌≤◌, min, List, [], ◌∷◌, sym, ap, subst, arith, inl, inr}
use Rattle.std.proofs.lemmas.Bool.{cases_lt}
use Rattle.rules_tftp.specs.Packets.{number_from}

grows : (n : ℕ) (digits : List ℕ) → n ≤ number_from n digits
grows n [] = omega arith
grows n (x ∷ digits) = omega (arith, grows (10 * n + (x - 48)) digits)

-- what is cut at the bound stays above it
pub cut_number : (bound n : ℕ) (digits : List ℕ) → min bound (number_from (min n bound) digits) ≡ min bound (number_from n digits)
cut_number bound n digits =
    elim (cases_lt bound n) [
      | inl more ↦ (
          let same : min n bound ≡ bound = omega arith in
          let low : bound ≤ number_from (min n bound) digits = subst (λ m. bound ≤ number_from m digits) (sym same) (grows bound digits) in
          omega (arith, low, grows n digits))
      | inr few ↦ (
          let same : min n bound ≡ n = omega arith in
          ap (λ m. min bound (number_from m digits)) same)
    ]

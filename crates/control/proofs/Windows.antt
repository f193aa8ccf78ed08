-- How much of a list lies between two places.
use Rattle.std.proofs.Common.{◌≡◌, ℕ, ◌-◌, ◌≤◌, min, nat_le, Bool, true, false, List, length, take, refl, ap, sym, ◌∙◌, arith, length-take, length-drop}
use Rattle.std.proofs.lemmas.Bool.Decides.{nat_tests}
use Rattle.std.proofs.lemmas.List.{take-take, take_all}
use Rattle.ordered_rows.proofs.Windows.{window}

pub length_window : (from to : ℕ) (xs : List ℕ) → from ≤ to → to ≤ length xs → length (window from to xs) ≡ to - from
length_window from to xs rises fits = simp (length-take, length-drop) (omega (arith, rises, fits))

-- the front of what is left, which has so many octets at most
pub taken : (n most : ℕ) (xs : List ℕ) → take (min n most) xs ≡ take most (take n xs)
taken n most xs = by (nat_le n most) refl
  where
    by : (b : Bool) → nat_le n most ≡ b → take (min n most) xs ≡ take most (take n xs)
    by true is =
        let less : n ≤ most = grind (arith, nat_tests, is) in
        let least : min n most ≡ n = omega (arith, less) in
        let short : length (take n xs) ≤ most = omega (arith, less, length-take n xs) in
        ap (λ k. take k xs) least ∙ sym (take_all most (take n xs) short)
    by false is =
        let less : most ≤ n = grind (arith, nat_tests, is) in
        let least : min n most ≡ most = omega (arith, less) in
        ap (λ k. take k xs) least ∙ sym (take-take most n xs less)

-- What of a list lies between two places.
use Rattle.std.proofs.Common.{◌≡◌, ℕ, ◌+◌, ◌-◌, ◌≤◌, List, ◌++◌, length, take, drop, ap, sym, ◌∙◌, arith}
use Rattle.std.proofs.lemmas.List.{drop-take, drop-drop, drop-append-le, length-take-le}

abbrev pub window : ℕ → ℕ → List ℕ → List ℕ
window from to xs = take (to - from) (drop from xs)

-- without what lies in front
pub window_past : (from to n : ℕ) (xs : List ℕ) → n ≤ to - from → window (from + n) to xs ≡ drop n (window from to xs)
window_past from to n xs fits =
    let more = to - (from + n) in
    let all : n + more ≡ to - from = omega (arith, fits) in
    ap (take more) (sym (drop-drop n from xs))
    ∙ sym (drop-take n more (drop from xs))
    ∙ ap (λ k. drop n (take k (drop from xs))) all

-- what lies before its end tells it
pub front : (from to : ℕ) (xs : List ℕ) → from ≤ to → window from to xs ≡ drop from (take to xs)
front from to xs rises =
    let whole : from + (to - from) ≡ to = omega (arith, rises) in
    sym (drop-take from (to - from) xs) ∙ ap (λ k. drop from (take k xs)) whole

-- it ends later, where other octets were written from its end on
pub window_on : (from to end : ℕ) (xs ys came now : List ℕ) → from ≤ to → to ≤ end → to ≤ length xs → take end ys ≡ take to xs ++ came → window from to xs ≡ now → window from end ys ≡ now ++ came
window_on from to end xs ys came now rises later fits grown is =
    let size : length (take to xs) ≡ to = length-take-le to xs fits in
    let within : from ≤ length (take to xs) = omega (arith, size, rises) in
    let up : from ≤ end = omega (arith, rises, later) in
    front from end ys up
    ∙ ap (drop from) grown
    ∙ drop-append-le from (take to xs) came within
    ∙ ap (λ l. l ++ came) (sym (front from to xs rises) ∙ is)

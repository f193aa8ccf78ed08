-- What of a buffer lies between two places.
use Rattle.std.proofs.Common.{◌≡◌, ℕ, ◌+◌, ◌-◌, ◌≤◌, List, ◌++◌, length, take, drop, refl, ap, sym, ◌∙◌, arith}
use Rattle.std.proofs.lemmas.List.{drop-drop, take-append-le, length-take-le}
use Rattle.std.proofs.Math.Seq.{take-add, take-append-add}
use Rattle.host_io.specs.Buffered.{Buffered, buffered}
use Rattle.ordered_rows.proofs.Windows.{front, window}

-- it begins n places later, with what lies before that
pub window_from : (from to n : ℕ) (xs : List ℕ) → n ≤ to - from → window from to xs ≡ take n (drop from xs) ++ window (from + n) to xs
window_from from to n xs fits =
    let more = to - (from + n) in
    let all : to - from ≡ n + more = omega (arith, fits) in
    ap (λ k. take k (drop from xs)) all
    ∙ take-add n more (drop from xs)
    ∙ ap (λ l. take n (drop from xs) ++ take more l) (drop-drop n from xs)

-- it stays where what lies before its end does
pub window_same : (from to : ℕ) (xs ys now : List ℕ) → from ≤ to → take to ys ≡ take to xs → window from to xs ≡ now → window from to ys ≡ now
window_same from to xs ys now rises same is = front from to ys rises ∙ ap (drop from) same ∙ sym (front from to xs rises) ∙ is

-- what a buffer shows of its octets, which lie between two places
abbrev pub between : ℕ → ℕ → List ℕ → Buffered
between from to xs = buffered (window from to xs) (length xs - to) (length xs)

-- it stays where what lies before its end does, and the length
pub between_same : (from to : ℕ) (xs ys : List ℕ) (now : Buffered) → from ≤ to → length ys ≡ length xs → take to ys ≡ take to xs → between from to xs ≡ now → between from to ys ≡ now
between_same from to xs ys now rises size same is =
    ap (λ (octets : List ℕ). buffered octets (length ys - to) (length ys)) (window_same from to xs ys (window from to xs) rises same refl)
    ∙ ap (λ (n : ℕ). buffered (window from to xs) (n - to) n) size
    ∙ is

-- the front of what was lent from a place on
pub read_on : (from count : ℕ) (xs lent tail : List ℕ) → from ≤ length xs → count ≤ length lent → take (from + count) (take from xs ++ (lent ++ tail)) ≡ take from xs ++ take count lent
read_on from count xs lent tail fits few =
    let size : length (take from xs) ≡ from = length-take-le from xs fits in
    let seam : from + count ≡ length (take from xs) + count = omega (arith, size) in
    ap (λ k. take k (take from xs ++ (lent ++ tail))) seam
    ∙ take-append-add (take from xs) (lent ++ tail) count
    ∙ ap (λ l. take from xs ++ l) (take-append-le count lent tail few)

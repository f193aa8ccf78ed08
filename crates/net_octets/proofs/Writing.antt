-- Octets that are written one part after another stand one after another.
use Rattle.std.proofs.Common.{◌≡◌, ℕ, ◌+◌, ◌-◌, ◌≤◌, List, ◌++◌, length, take, drop, sym, ap, ◌∙◌, arith, append_assoc}
use Rattle.std.proofs.lemmas.List.{take_at, drop_at, drop-drop, drop-take, length-take-le, take-append-drop, take-append-le}
use borrow.Rule.Slice.PartMut.{put_mid}

-- what a part of a slice keeps behind its front, and what follows that part
kept : (n k : ℕ) (rest : List ℕ) → n ≤ k → drop n (take k rest) ++ drop k rest ≡ drop n rest
kept n k rest le =
    let same : n + (k - n) ≡ k = omega arith in
    ap (λ (m : ℕ). drop n (take m rest) ++ drop m rest) (sym same)
    ∙ ap (λ (xs : List ℕ). xs ++ drop (n + (k - n)) rest) (drop-take n (k - n) rest)
    ∙ ap (λ (xs : List ℕ). take (k - n) (drop n rest) ++ xs) (sym (drop-drop (k - n) n rest))
    ∙ take-append-drop (k - n) (drop n rest)

-- a part w is written behind what is done, at the front of k octets
pub written_front : (done w old now ys : List ℕ) (i n j k : ℕ) → now ≡ done ++ drop i old → ys ≡ w ++ drop n (take k (drop i now)) → length done ≡ i → i + n ≡ j → n ≤ k
    → put_mid i k now ys ≡ (done ++ w) ++ drop j old
written_front done w old now ys i n j k is wrote long at le =
    let rest = drop i old in
    let front : take i now ≡ done = ap (take i) is ∙ take_at done rest i long in
    let back : drop i now ≡ rest = ap (drop i) is ∙ drop_at done rest i long in
    ap (λ (xs : List ℕ). take i now ++ (xs ++ drop k (drop i now))) wrote
    ∙ ap (λ (xs : List ℕ). xs ++ ((w ++ drop n (take k (drop i now))) ++ drop k (drop i now))) front
    ∙ ap (λ (xs : List ℕ). done ++ ((w ++ drop n (take k xs)) ++ drop k xs)) back
    ∙ ap (λ (xs : List ℕ). done ++ xs) (append_assoc w (drop n (take k rest)) (drop k rest))
    ∙ ap (λ (xs : List ℕ). done ++ (w ++ xs)) (kept n k rest le)
    ∙ sym (append_assoc done w (drop n rest))
    ∙ ap (λ (xs : List ℕ). (done ++ w) ++ xs) (drop-drop n i old ∙ ap (λ (m : ℕ). drop m old) at)

-- a part w is written behind what is done
pub written : (done w old now ys : List ℕ) (i n j : ℕ) → now ≡ done ++ drop i old → ys ≡ w → length done ≡ i → i + n ≡ j
    → put_mid i n now ys ≡ (done ++ w) ++ drop j old
written done w old now ys i n j is wrote long at =
    let rest = drop i old in
    let front : take i now ≡ done = ap (take i) is ∙ take_at done rest i long in
    let back : drop i now ≡ rest = ap (drop i) is ∙ drop_at done rest i long in
    ap (λ (xs : List ℕ). take i now ++ (xs ++ drop n (drop i now))) wrote
    ∙ ap (λ (xs : List ℕ). xs ++ (w ++ drop n (drop i now))) front
    ∙ ap (λ (xs : List ℕ). done ++ (w ++ drop n xs)) back
    ∙ sym (append_assoc done w (drop n rest))
    ∙ ap (λ (xs : List ℕ). (done ++ w) ++ xs) (drop-drop n i old ∙ ap (λ (m : ℕ). drop m old) at)

-- what is written behind a front stands behind it
pub behind : (i k n : ℕ) (now ys : List ℕ) → i ≤ length now → n ≤ length ys → take n (drop i (put_mid i k now ys)) ≡ take n ys
behind i k n now ys le few =
    ap (take n) (drop_at (take i now) (ys ++ drop k (drop i now)) i (length-take-le i now le)) ∙ take-append-le n ys (drop k (drop i now)) few

-- What calls in a row keep, they keep together.
use Rattle.std.proofs.Common.{◌≡◌, ℕ, List, [], ◌++◌, Option, None, Some, refl, ap, sym, ◌∙◌, append_assoc}
use Rattle.std.proofs.lemmas.List.{append-nil}
use Rattle.std.specs.Io.KnownBytes.{Appends, Consumes}
use Rattle.guest_link.specs.Keeping.{HandsOn, SendsOn}

pub appends_both : (a b c : Option (List ℕ)) (one two : List ℕ) → Appends a b one → Appends b c two → Appends a c (one ++ two)
appends_both None b c one two first second = tt
appends_both (Some xs) None c one two first second = elim first [ ]
appends_both (Some xs) (Some ys) None one two first second = elim second [ ]
appends_both (Some xs) (Some ys) (Some zs) one two first second = second ∙ ap (λ (l : List ℕ). l ++ two) first ∙ append_assoc xs one two

pub consumes_both : (a b c : Option (List ℕ)) (one two : List ℕ) → Consumes a b one → Consumes b c two → Consumes a c (one ++ two)
consumes_both None b c one two first second = tt
consumes_both (Some xs) None c one two first second = elim first [ ]
consumes_both (Some xs) (Some ys) None one two first second = elim second [ ]
consumes_both (Some xs) (Some ys) (Some zs) one two first second = first ∙ ap (λ (l : List ℕ). one ++ l) second ∙ sym (append_assoc one two zs)

-- what was moved, and behind it what waits, where it is so of two calls
pub behind : (s1 s2 w0 w1 w2 p1 p2 : List ℕ) → s1 ++ w1 ≡ w0 ++ p1 → s2 ++ w2 ≡ w1 ++ p2 → (s1 ++ s2) ++ w2 ≡ w0 ++ (p1 ++ p2)
behind s1 s2 w0 w1 w2 p1 p2 first second =
    append_assoc s1 s2 w2 ∙ ap (λ (l : List ℕ). s1 ++ l) second ∙ sym (append_assoc s1 w1 p2) ∙ ap (λ (l : List ℕ). l ++ p2) first ∙ append_assoc w0 p1 p2

pub sends_both : (a b c : Option (List ℕ)) (w0 w1 w2 p1 p2 : List ℕ) → SendsOn a b w0 w1 p1 → SendsOn b c w1 w2 p2 → SendsOn a c w0 w2 (p1 ++ p2)
sends_both a b c w0 w1 w2 p1 p2 (s1, went1, is1) (s2, went2, is2) = (s1 ++ s2, appends_both a b c s1 s2 went1 went2, behind s1 s2 w0 w1 w2 p1 p2 is1 is2)

pub hands_both : (a b c : Option (List ℕ)) (w0 w1 w2 h1 h2 : List ℕ) → HandsOn a b w0 w1 h1 → HandsOn b c w1 w2 h2 → HandsOn a c w0 w2 (h1 ++ h2)
hands_both a b c w0 w1 w2 h1 h2 (c1, came1, is1) (c2, came2, is2) = (c1 ++ c2, consumes_both a b c c1 c2 came1 came2, behind h1 h2 w0 w1 w2 c1 c2 is1 is2)

pub sends_nothing : (a : Option (List ℕ)) (w : List ℕ) → SendsOn a a w w []
sends_nothing None w = ([], tt, sym (append-nil w))
sends_nothing (Some xs) w = ([], sym (append-nil xs), sym (append-nil w))

pub hands_nothing : (a : Option (List ℕ)) (w : List ℕ) → HandsOn a a w w []
hands_nothing None w = ([], tt, sym (append-nil w))
hands_nothing (Some xs) w = ([], refl, sym (append-nil w))

-- Messages as we write them.
use Rattle.std.proofs.Common.{◌≡◌, ℕ, ◌+◌, ◌<◌, ◌^◌, true, List, ◌∷◌, ◌++◌, length, take, refl, sym, ◌∙◌, ap, subst, arith, lit≤}
use Rattle.std.proofs.lemmas.List.{take_at}
use Rattle.net_octets.specs.Octets.{two, four, word_sum, checksum, sum_ok}
use Rattle.icmp_echo.specs.declared.Parts.{Parts}
use Rattle.net_octets.proofs.Sums.{sum_holds, checksum_fits}
use Rattle.icmp_echo.specs.Icmp.{Icmp, echo, unreachable, other, IsIcmp, IsPlain, CanWrite, Fits, icmp_with, icmp_octets, echo_with, head_with}

-- a message as we write it is what is written
pub plain : (octets : List ℕ) (icmp : Icmp) (g : IsIcmp octets icmp) → IsPlain octets icmp g → octets ≡ icmp_octets icmp
plain octets (echo is_reply ident number body) g p = g.is ∙ ap (λ sum. echo_with sum is_reply ident number body) p
plain octets (unreachable code quoted) g p =
    g.is ∙ ap (λ sum. 3 ∷ code ∷ two sum ++ g.unused ++ quoted) p.0 ∙ ap (λ (unused : List ℕ). 3 ∷ code ∷ two (checksum (word_sum (icmp_with 0 (unreachable code quoted)))) ++ unused ++ quoted) p.1
plain octets (other kind code) g p =
    g.is ∙ ap (λ sum. kind ∷ code ∷ two sum ++ g.rest) p.0 ∙ ap (λ (rest : List ℕ). kind ∷ code ∷ two (checksum (word_sum (icmp_with 0 (other kind code)))) ++ rest) p.1

-- the sum stands in the message as itself
sum_in : (sum : ℕ) (icmp : Icmp) → sum < 2 ^ 16 → word_sum (icmp_with sum icmp) ≡ word_sum (icmp_with 0 icmp) + sum
sum_in sum (echo is_reply ident number body) fits = omega arith
sum_in sum (unreachable code quoted) fits = omega arith
sum_in sum (other kind code) fits = omega arith

written_holds : (icmp : Icmp) → sum_ok (word_sum (icmp_octets icmp)) ≡ true
written_holds icmp =
    let before = word_sum (icmp_with 0 icmp) in
    ap sum_ok (sum_in (checksum before) icmp (checksum_fits before)) ∙ sum_holds before

-- what is written is a message of these fields
written_is : (icmp : Icmp) → CanWrite icmp → Fits icmp → (g : IsIcmp (icmp_octets icmp) icmp) × IsPlain (icmp_octets icmp) icmp g
written_is (echo is_reply ident number body) can fits =
    let before = word_sum (icmp_with 0 (echo is_reply ident number body)) in
    (record { ident_fits = fits.0; number_fits = fits.1; sum = checksum before; sum_fits = checksum_fits before; is = refl; holds = written_holds (echo is_reply ident number body) }, refl)
written_is (unreachable code quoted) can fits =
    let before = word_sum (icmp_with 0 (unreachable code quoted)) in
    (record { sum = checksum before; sum_fits = checksum_fits before; unused = four 0; unused_size = refl; is = refl; holds = written_holds (unreachable code quoted) }, (refl, refl))
written_is (other kind code) can fits =
    let before = word_sum (icmp_with 0 (other kind code)) in
    (record { kind_is = can; sum = checksum before; sum_fits = checksum_fits before; rest = four 0; rest_size = lit≤ tt; is = refl; holds = written_holds (other kind code) }, (refl, refl))

-- octets whose front is written so are a message
pub front_is : (icmp : Icmp) (n : ℕ) (now rest : List ℕ) → CanWrite icmp → Fits icmp → length (icmp_octets icmp) ≡ n → now ≡ icmp_octets icmp ++ rest →
    (g : IsIcmp (take n now) icmp) × IsPlain (take n now) icmp g
front_is icmp n now rest can fits long is =
    subst (λ (o : List ℕ). (g : IsIcmp o icmp) × IsPlain o icmp g) (sym (ap (take n) is ∙ take_at (icmp_octets icmp) rest n long)) (written_is icmp can fits)

-- a head with the sum of its words and of the rest, and that rest, are what is written
pub encoded : (p : Parts) (icmp : Icmp) (words sum : ℕ) (head now rest : List ℕ) → ((s : ℕ) → head_with s p ++ p.body.now ≡ icmp_with s icmp) → words ≡ word_sum (head_with 0 p)
    → sum ≡ checksum (words + word_sum p.body.now) → head ≡ head_with sum p → now ≡ head ++ p.body.now ++ rest → now ≡ icmp_octets icmp ++ rest
encoded p icmp words sum head now rest octets words_are sum_is head_is is =
    let all : word_sum (head_with 0 p ++ p.body.now) ≡ words + word_sum p.body.now = omega (arith, words_are) in
    let same : sum ≡ checksum (word_sum (icmp_with 0 icmp)) = sum_is ∙ ap checksum (sym all) ∙ ap (λ (o : List ℕ). checksum (word_sum o)) (octets 0) in
    is ∙ ap (λ (h : List ℕ). h ++ p.body.now ++ rest) head_is ∙ ap (λ (o : List ℕ). o ++ rest) (octets sum) ∙ ap (λ s. icmp_with s icmp ++ rest) same

-- Tests, taken apart and put together.
use Rattle.std.proofs.Common.{◌≡◌, ℕ, ◌==◌, ◌&&◌, ◌||◌, not, Bool, true, false, List, [], ◌∷◌, ◌++◌, filter, bytes_eq, if◌then◌else◌, refl, sym, ◌∙◌, ap, arith}
use Rattle.std.proofs.lemmas.Bool.Decides.{nat_tests}
use Rattle.spec_trace.specs.Sockets.{is_among}

pub first_of : (a b : Bool) → (a && b) ≡ true → a ≡ true
first_of true b is = refl
first_of false b is = cc

pub second_of : (a b : Bool) → (a && b) ≡ true → b ≡ true
second_of true true is = refl
second_of true false is = cc
second_of false b is = cc

pub and_both : (a b : Bool) → a ≡ true → b ≡ true → (a && b) ≡ true
and_both true true one two = refl
and_both true false one two = cc
and_both false b one two = cc

pub or_first : (a b : Bool) → a ≡ true → (a || b) ≡ true
or_first true b is = refl
or_first false b is = cc

pub or_second : (a b : Bool) → b ≡ true → (a || b) ≡ true
or_second true b is = refl
or_second false b is = is

pub or_false : (b : Bool) → (b || false) ≡ b
or_false true = refl
or_false false = refl

pub and_false : (b : Bool) → (b && false) ≡ false
and_false true = refl
and_false false = refl

pub and_true : (b : Bool) → (b && true) ≡ b
and_true true = refl
and_true false = refl

pub same : (n : ℕ) → (n == n) ≡ true
same n = grind (arith, nat_tests)

pub turned : (a b : ℕ) (t : Bool) → (a == b) ≡ t → (b == a) ≡ t
turned a b true is = grind (arith, nat_tests, is)
turned a b false is = grind (arith, nat_tests, is)

pub equal : (a b : ℕ) → (a == b) ≡ true → a ≡ b
equal a b is = grind (arith, nat_tests, is)

pub equal_octets : (xs ys : List ℕ) → bytes_eq xs ys ≡ true → xs ≡ ys
equal_octets [] [] is = refl
equal_octets [] (y ∷ ys) is = cc
equal_octets (x ∷ xs) [] is = cc
equal_octets (x ∷ xs) (y ∷ ys) is =
    let head : x ≡ y = equal x y (first_of (x == y) (bytes_eq xs ys) is) in
    let rest : xs ≡ ys = equal_octets xs ys (second_of (x == y) (bytes_eq xs ys) is) in
    cc

-- ---- members of a list

pub or_swap : (a b : Bool) → (a || b) ≡ (b || a)
or_swap true true = refl
or_swap true false = refl
or_swap false true = refl
or_swap false false = refl

pub or_assoc : (a b c : Bool) → (a || (b || c)) ≡ ((a || b) || c)
or_assoc true b c = refl
or_assoc false b c = refl

pub among_last : (n m : ℕ) (ns : List ℕ) → is_among n (ns ++ (m ∷ [])) ≡ (is_among n ns || (n == m))
among_last n m [] = or_false (n == m)
among_last n m (x ∷ ns) = ap (λ b. (n == x) || b) (among_last n m ns) ∙ or_assoc (n == x) (is_among n ns) (n == m)

pub drops : (a b c : Bool) → (b ≡ true → a ≡ true) → (not a && c) ≡ (not a && (b || c))
drops true b c h = refl
drops false true c h = let never = h refl in cc
drops false false c h = refl

pub keeps : (a b c : Bool) → (b ≡ true → a ≡ false) → (b || (not a && c)) ≡ (not a && (b || c))
keeps true true c h = let never = h refl in cc
keeps true false c h = refl
keeps false b c h = refl

pub among_without : (n m : ℕ) (ns : List ℕ) → is_among n (filter (λ s. not (s == m)) ns) ≡ (not (n == m) && is_among n ns)
among_without n m [] = sym (and_false (not (n == m)))
among_without n m (x ∷ ns) = by_test (x == m) refl (among_without n m ns)
  where
    by_test : (t : Bool) → (x == m) ≡ t → is_among n (filter (λ s. not (s == m)) ns) ≡ (not (n == m) && is_among n ns)
        → is_among n (if not t then x ∷ filter (λ s. not (s == m)) ns else filter (λ s. not (s == m)) ns) ≡ (not (n == m) && ((n == x) || is_among n ns))
    by_test true is rest = rest ∙ drops (n == m) (n == x) (is_among n ns) (λ same. grind (arith, nat_tests, same, is))
    by_test false is rest = ap (λ b. (n == x) || b) rest ∙ keeps (n == m) (n == x) (is_among n ns) (λ same. grind (arith, nat_tests, same, is))

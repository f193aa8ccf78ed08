-- What refutes an act: tests and lists that differ.
use Rattle.std.proofs.Common.{refl, ◌≡◌, ℕ, List, [], ◌∷◌, ◌++◌, Some, arith, true, false, not, IsTrue, pos, nat_eq}
use Rattle.std.proofs.lemmas.Bool.Decides.{nat_tests}
use Rattle.std.proofs.lemmas.Int.{ints}
use Rattle.spec_flow.specs.Lawful.{IsPrefixOf}
use Rattle.spec_flow.specs.Computed.{begins_with}

-- a list that isn't begun by another has it as no prefix
pub prefix_begins : (xs ys : List ℕ) → IsPrefixOf xs ys → IsTrue (begins_with xs ys)
prefix_begins [] ys p = refl
prefix_begins (x ∷ xs) [] p = absurd cc
prefix_begins (x ∷ xs) (y ∷ ys) p =
    let head : x ≡ y = cc in
    let tail : xs ++ p.0 ≡ ys = cc in
    let same : nat_eq x y ≡ true = grind (arith, nat_tests) in
    rw same (prefix_begins xs ys (p.0, tail))

pub never : {A : Type 0} → false ≡ true → A
never is = absurd cc

pub never_false : {A : Type 0} → true ≡ false → A
never_false is = absurd cc

pub apart : (m n : ℕ) → IsTrue (not (nat_eq m n)) → m ≡ n → ⊥
apart m n not_same is = absurd (grind (arith, nat_tests))

pub pos_same : (m n : ℕ) → pos m ≡ pos n → m ≡ n
pos_same m n is = omega (arith, ints)

pub some_same : (m n : ℕ) → Some m ≡ Some n → m ≡ n
some_same m n is = cc

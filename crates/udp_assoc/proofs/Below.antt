-- The numbers of all sockets are under that of the next one.
use Rattle.std.proofs.Common.{◌≡◌, ℕ, ◌+◌, ◌<◌, not, Bool, true, false, cond, All, List, [], ◌∷◌, ◌++◌, arith}
use Rattle.std.proofs.lemmas.List.Elements.{All-cons, All-nil, All-head, All-tail}
use Rattle.std.proofs.lemmas.List.Sorted.{All-permutation}
use Rattle.rules_udp.specs.Associations.{is_numbered, numbers, without, moved_last}
use Rattle.rules_udp.specs.declared.Association.{Association}
use Rattle.udp_assoc.proofs.Numbering.{moved_numbers}

abbrev pub AreBelow : ℕ → List Association → Type 0
AreBelow bound list = All (λ n. n < bound) (numbers list)

pub below_without : (bound socket : ℕ) (list : List Association) → AreBelow bound list → AreBelow bound (without socket list)
below_without bound socket [] below = below
below_without bound socket (a ∷ list) below = by (is_numbered socket a) (below_without bound socket list (All-tail (λ (n : ℕ). n < bound) a.number (numbers list) below))
  where
    by : (b : Bool) → AreBelow bound (without socket list) → AreBelow bound (cond (not b) (a ∷ without socket list) (without socket list))
    by true rest = rest
    by false rest = All-cons (λ (n : ℕ). n < bound) a.number (numbers (without socket list)) (All-head (λ (n : ℕ). n < bound) a.number (numbers list) below) rest

pub below_last : (bound : ℕ) (list : List Association) (a : Association) → AreBelow bound list → a.number ≡ bound → AreBelow (bound + 1) (list ++ (a ∷ []))
below_last bound [] a below is = All-cons (λ (n : ℕ). n < bound + 1) a.number [] (omega (arith, is)) (All-nil (λ (n : ℕ). n < bound + 1))
below_last bound (x ∷ list) a below is =
    let here = All-head (λ (n : ℕ). n < bound) x.number (numbers list) below in
    All-cons (λ (n : ℕ). n < bound + 1) x.number (numbers (list ++ (a ∷ []))) (omega (arith, here)) (below_last bound list a (All-tail (λ (n : ℕ). n < bound) x.number (numbers list) below) is)

pub below_up : (bound : ℕ) (list : List Association) → AreBelow bound list → AreBelow (bound + 1) list
below_up bound [] below = All-nil (λ (n : ℕ). n < bound + 1)
below_up bound (x ∷ list) below =
    let here = All-head (λ (n : ℕ). n < bound) x.number (numbers list) below in
    All-cons (λ (n : ℕ). n < bound + 1) x.number (numbers list) (omega (arith, here)) (below_up bound list (All-tail (λ (n : ℕ). n < bound) x.number (numbers list) below))

pub below_moved : (bound socket : ℕ) (change : Association → Association) → ((a : Association) → (change a).number ≡ a.number) → (list : List Association) → AreBelow bound list →
    AreBelow bound (moved_last change socket list)
below_moved bound socket change keeps list below = All-permutation (λ (n : ℕ). n < bound) (numbers list) (numbers (moved_last change socket list)) (moved_numbers change keeps socket list) below

-- The first of the areas to be dropped, area by area.
use Rattle.std.proofs.Common.{◌≡◌, ◌+◌, ◌<◌, ◌≤◌, List, ℕ, [], ◌∷◌, zero, suc, Option, None, Some, refl, ap, ◌∙◌, arith, subst}
use Rattle.std.specs.Prelude.{slice_get}
use Rattle.ipv4_head.specs.Sets.{PartSet}
use Rattle.ipv4_reasm.specs.Answers.{IsFirstDue, IsLeastDue}
use Rattle.ipv4_reasm.specs.Areas.{Gathered, StandFor, StandsFor}
use Rattle.ipv4_reasm.proofs.Standing.{stand_get}

-- of the first n areas this is the least moment
pub record LeastBelow (held : List Gathered) (n at : ℕ) : Type 0 where
  pub one : (i : ℕ) × ((g : Gathered) × ((slice_get held i ≡ Some g) × (at ≡ g.since + 60000)))
  pub least : (i : ℕ) (g : Gathered) → i < n → slice_get held i ≡ Some g → at ≤ g.since + 60000

abbrev pub IsFound : List Gathered → ℕ → Option ℕ → Type 0
IsFound held n None = n ≡ 0
IsFound held n (Some at) = LeastBelow held n at

-- the area of a set
stand_back : (held : List Gathered) (sets : List PartSet) (i : ℕ) (s : PartSet) → StandFor held sets → slice_get sets i ≡ Some s → (g : Gathered) × ((slice_get held i ≡ Some g) × StandsFor g s)
stand_back [] [] i s stand at = cc
stand_back [] (t ∷ sets) i s stand at = absurd stand
stand_back (h ∷ held) [] i s stand at = cc
stand_back (h ∷ held) (t ∷ sets) zero s stand at = (h, (refl, let e : t ≡ s = cc in subst (λ x. StandsFor h x) e stand.0))
stand_back (h ∷ held) (t ∷ sets) (suc i) s stand at = stand_back held sets i s stand.1 at

-- the least moment of the areas is that of the sets
pub due_of_sets : (held : List Gathered) (sets : List PartSet) (at : ℕ) → StandFor held sets → IsLeastDue held at → IsFirstDue sets at
due_of_sets held sets at stand due =
    let one = due.one in
    let s = stand_get held sets one.0 one.1.0 stand one.1.1.0 in
    record {
      one = (one.0, (s.0, (s.1.0, one.1.1.1 ∙ ap (λ n. n + 60000) s.1.1.since)));
      least = λ i t is.
          let g = stand_back held sets i t stand is in
          let l = due.least i g.0 g.1.0 in
          let since = g.1.1.since in
          omega arith;
    }

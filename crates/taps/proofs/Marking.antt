-- A mark tells where a World began, and where its book did.
use base.Stored.{Gv, gnil, gnum, gcons}
use Rattle.std.proofs.Common.{◌≡◌, ℕ, List, [], ◌∷◌, ◌++◌, refl, sym, ◌∙◌, ap, arith, append_assoc}
use Rattle.world_face.specs.Tells.{Telling}
use Rattle.taps.specs.Recording.{marked, numbers_of, telling_code}

first : List ℕ → ℕ
first [] = 0
first (x ∷ xs) = x

behind : List ℕ → List ℕ
behind [] = []
behind (x ∷ xs) = xs

-- no numbers begin others
pub read_back : (a b : Gv) (s r : List ℕ) → numbers_of a ++ s ≡ numbers_of b ++ r → (a ≡ b) × (s ≡ r)
unfolding numbers_of first behind
read_back gnil gnil s r is = (refl, ap behind is)
read_back gnil (gnum m) s r is = absurd (omega (arith, ap first is))
read_back gnil (gcons c d) s r is = absurd (omega (arith, ap first is))
read_back (gnum n) gnil s r is = absurd (omega (arith, ap first is))
read_back (gnum n) (gnum m) s r is = (ap gnum (ap first (ap behind is)), ap behind (ap behind is))
read_back (gnum n) (gcons c d) s r is = absurd (omega (arith, ap first is))
read_back (gcons a b) gnil s r is = absurd (omega (arith, ap first is))
read_back (gcons a b) (gnum m) s r is = absurd (omega (arith, ap first is))
read_back (gcons a b) (gcons c d) s r is =
    let fronts = read_back a c (numbers_of b ++ s) (numbers_of d ++ r) (sym (append_assoc (numbers_of a) (numbers_of b) s) ∙ ap behind is ∙ append_assoc (numbers_of c) (numbers_of d) r) in
    let backs = read_back b d s r fronts.1 in
    (ap (λ x. gcons x b) fronts.0 ∙ ap (gcons c) backs.0, backs.1)

pub marked_once : (a b : Telling) (s r : List ℕ) → marked a s ≡ marked b r → (a ≡ b) × (s ≡ r)
unfolding marked
marked_once a b s r is = let back = read_back (telling_code.code a) (telling_code.code b) s r is in (telling_code.inj a b back.0, back.1)

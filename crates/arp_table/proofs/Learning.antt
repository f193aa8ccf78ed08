-- What a new pair makes of the list of pairs.
use Rattle.std.proofs.Common.{◌≡◌, Bool, cond, List, [], ◌∷◌, filter, ap, ◌∙◌}
use Rattle.std.specs.List.Retain.{RetainsInTurn}

-- a test that changes nothing, as long as I holds of it, leaves what passes it
pub retained : {S X : Type 0} (R : S → X → Bool → S → X → Type 0) (I : S → Type 0) (test : X → Bool)
    → ((s : S) (x : X) (b : Bool) (t : S) (y : X) → I s → R s x b t y → (b ≡ test x) × (y ≡ x) × I t)
    → (s : S) (xs ys : List X) → I s → RetainsInTurn R s xs ys → ys ≡ filter test xs
retained R I test says s [] ys holds left = left
retained R I test says s (x ∷ xs) ys holds left =
    let b = left.0 in let t = left.1 in let y = left.2 in let zs = left.4 in
    let same = says s x b t y holds left.3 in
    left.6
    ∙ ap (λ c. cond c (y ∷ zs) zs) same.0
    ∙ ap (λ z. cond (test x) (z ∷ zs) zs) same.1
    ∙ ap (λ rest. cond (test x) (x ∷ rest) rest) (retained R I test says t xs zs same.2 left.5)

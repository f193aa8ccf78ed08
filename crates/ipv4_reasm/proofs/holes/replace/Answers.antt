use Rattle.std.proofs.Common.{◌≡◌, ◌+◌, ◌<◌, ◌++◌, List, ℕ, zero, suc, [], ◌∷◌, Option, length, take, drop, set, refl, sym, ap, ◌∙◌, arith, add-one}
use Rattle.ipv4_head.specs.declared.holes.Hole.{Hole}
use Rattle.ipv4_reasm.specs.Holes.{listed}
use Rattle.ipv4_reasm.proofs.holes.replace.Goals as goal

set_at : (row : List Hole) (i : ℕ) (h : Hole) → i < length row → set row i h ≡ take i row ++ (h ∷ drop (suc i) row)
set_at [] i h within = absurd (omega arith)
set_at (x ∷ row) zero h within = refl
set_at (x ∷ row) (suc i) h within = ap (λ (l : List Hole). x ∷ l) (set_at row i h (omega arith))

set_is : (row : List Hole) (i : ℕ) (h : Hole) → i < length row → set row i h ≡ take i row ++ (h ∷ drop (i + 1) row)
set_is row i h within = set_at row i h within ∙ ap (λ n. take i row ++ (h ∷ drop n row)) (sym (add-one i))

pub returns-in-Some-None-clause-items : goal.returns-in-Some-None-clause-items
returns-in-Some-None-clause-items c =
    let row = c.args.row.now.items in
    let i = c.args.i in
    set_is row i c.in-Some-None.front c.requires.place
    ∙ ap (λ (o : Option Hole). take i row ++ (listed o ++ drop (i + 1) row)) (sym c.in-Some-None.is-0)
    ∙ ap (λ (o : Option Hole). take i row ++ (listed c.args.before ++ (listed o ++ drop (i + 1) row))) (sym c.in-Some-None.is-1)

pub returns-in-None-Some-clause-items : goal.returns-in-None-Some-clause-items
returns-in-None-Some-clause-items c =
    let row = c.args.row.now.items in
    let i = c.args.i in
    set_is row i c.in-None-Some.back c.requires.place
    ∙ ap (λ (o : Option Hole). take i row ++ (listed o ++ drop (i + 1) row)) (sym c.in-None-Some.is-1)
    ∙ ap (λ (o : Option Hole). take i row ++ (listed o ++ (listed c.args.behind ++ drop (i + 1) row))) (sym c.in-None-Some.is-0)

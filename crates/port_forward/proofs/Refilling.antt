-- Entries with distinct keys, put one after the other: none is there before it is put.
use Rattle.std.proofs.Common.{◌≡◌, ℕ, suc, ◌<◌, take, drop, length, get_or, sym, subst, false, cond, List, [], ◌∷◌, ◌++◌, Some, None, refl, ◌∙◌, ap}
use Rattle.std.proofs.Math.Seq.{drop-cons}
use Rattle.std.proofs.lemmas.List.{take-append-drop}
use Rattle.std.proofs.lemmas.Map.Keys.{IsDistinct-head, IsDistinct-tail}
use Rattle.std.specs.Cmp.{IsEquivalence, and_equiv, bool_eq_equiv, nat_eq_equiv, on_equiv}
use Rattle.std.specs.List.{AllByRecursion, IsDistinct}
use Rattle.std.specs.Map.{keys_of, lookup}
use Rattle.port_forward.specs.Entries.{same_port}
use Rattle.port_forward.specs.declared.ports.Lead.{Lead}
use Rattle.port_forward.specs.declared.ports.Port.{Port}

pub same_laws : IsEquivalence same_port
same_laws = and_equiv (on_equiv (λ (p : Port). p.datagrams) bool_eq_equiv) (and_equiv (on_equiv (λ (p : Port). p.address) nat_eq_equiv) (on_equiv (λ (p : Port). p.port) nat_eq_equiv))

amid : (P : Port → Type 0) (xs : List (Port × Lead)) (e : Port × Lead) (ys : List (Port × Lead)) → AllByRecursion P (keys_of (xs ++ (e ∷ ys))) → P e.0
amid P [] e ys all = all.0
amid P (x ∷ xs) e ys all = amid P xs e ys all.1

pub absent : (xs : List (Port × Lead)) (e : Port × Lead) (ys : List (Port × Lead)) → IsDistinct same_port (keys_of (xs ++ (e ∷ ys))) → lookup (same_port e.0) xs ≡ None
absent [] e ys distinct = refl
absent (x ∷ xs) e ys distinct =
    let apart = same_laws.symm e.0 x.0 ∙ amid (λ y. same_port x.0 y ≡ false) xs e ys (IsDistinct-head same_port x.0 (keys_of (xs ++ (e ∷ ys))) distinct) in
    ap (λ b. cond b (Some x.1) (lookup (same_port e.0) xs)) apart ∙ absent xs e ys (IsDistinct-tail same_port x.0 (keys_of (xs ++ (e ∷ ys))) distinct)

-- the one at a place isn't among those before it
pub absent_at : (kept : List (Port × Lead)) (place : ℕ) (d : Port × Lead) → IsDistinct same_port (keys_of kept) → place < length kept → (before : List (Port × Lead)) → before ≡ take place kept
    → lookup (same_port (get_or kept place d).0) before ≡ None
absent_at kept place d distinct within before is =
    let e = get_or kept place d in
    let whole : kept ≡ take place kept ++ (e ∷ drop (suc place) kept) = sym (take-append-drop place kept) ∙ ap (λ (l : List (Port × Lead)). take place kept ++ l) (drop-cons kept place d within) in
    ap (lookup (same_port e.0)) is ∙ absent (take place kept) e (drop (suc place) kept) (subst (λ (l : List (Port × Lead)). IsDistinct same_port (keys_of l)) whole distinct)

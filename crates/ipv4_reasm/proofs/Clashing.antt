-- The holes between parts: a part clashes with none of them where it lies in a hole, and what is left lies between all.
use Rattle.std.proofs.Common.{◌≡◌, ◌+◌, ◌*◌, ◌<◌, ◌≤◌, ◌&&◌, ◌||◌, not, List, ℕ, Bool, true, false, cond, zero, suc, inl, inr, [], ◌∷◌, ◌++◌, length, ltb, leb, Option, None, Some, refl}
use Rattle.std.proofs.Common.{ap, sym, ◌∙◌, arith, subst, ◌⊎◌}
use Rattle.std.specs.List.{AllPairs, Contains, list_any}
use Rattle.std.proofs.Math.Bool.{or-false}
use Rattle.std.proofs.lemmas.Bool.{cases_lt, ltb-true}
use Rattle.std.proofs.lemmas.List.Elements.{Contains-append_left, Contains-push}
use Rattle.std.proofs.lemmas.List.Folds.{list_any-append}
use Rattle.std.proofs.lemmas.Option.{cond_some}
use Rattle.ipv4_head.specs.Sets.{Part, end_of, do_share, do_clash, ends_past}
use Rattle.ipv4_head.specs.declared.holes.Hole.{Hole}
use Rattle.ipv4_reasm.specs.Areas.{AreHoles, Fits, Gathered, Gathers, IsHole, IsTold, does_clash, has_unit}
use Rattle.ipv4_head.specs.Holes.{hole, is_in, left_before, left_behind, left_from, lies_in, unit_end}
use Rattle.ipv4_reasm.specs.Holes.{Rise, filled, has_hole, is_open, listed}
use Rattle.ipv4_reasm.proofs.Gathering.{both, clash_before, clash_one, clash_past, clash_share, in_some, none_in, not_false, not_true, of_all, one_of_four, same_truth, share_by_unit}
use Rattle.ipv4_reasm.proofs.Gathering.{some_in, unit_by_share}
use Rattle.ipv4_reasm.proofs.Holing.{Goes, Lies, by_end, filled_open, hole_from, in_if, in_then, lies_before, lies_endless, lies_then, or_is, or_left, or_right, unit_before, unit_behind, unit_there}

-- a unit of one part more
any_push : (u : ℕ) (parts : List Part) (p : Part) → list_any (has_unit u) (parts ++ p ∷ []) ≡ (list_any (has_unit u) parts || has_unit u p)
any_push u parts p = list_any-append (has_unit u) parts (p ∷ []) ∙ ap (λ b. list_any (has_unit u) parts || b) (or-false (has_unit u p))

neither : (a b : Bool) → a ≡ false → b ≡ false → (a || b) ≡ false
neither true b h k = cc
neither false b h k = k

still : (u : ℕ) (parts : List Part) (p : Part) → list_any (has_unit u) parts ≡ true → list_any (has_unit u) (parts ++ p ∷ []) ≡ true
still u parts p h = any_push u parts p ∙ or_left (list_any (has_unit u) parts) (has_unit u p) h

new_unit : (u : ℕ) (parts : List Part) (p : Part) → has_unit u p ≡ true → list_any (has_unit u) (parts ++ p ∷ []) ≡ true
new_unit u parts p h = any_push u parts p ∙ or_right (list_any (has_unit u) parts) (has_unit u p) h

-- a hole that the part doesn't touch
untouched : (h : Hole) (parts : List Part) (p : Part) → IsHole h parts → ((u : ℕ) → is_in u h ≡ true → has_unit u p ≡ false) → (h.to ≡ None → p.more ≡ true) → IsHole h (parts ++ p ∷ [])
untouched h parts p was apart more = record {
  missing = λ u is. any_push u parts p ∙ neither (list_any (has_unit u) parts) (has_unit u p) (was.missing u is) (apart u is);
  endless = λ none. of_all (λ q. q.more ≡ true) parts p (was.endless none) (more none);
  till = λ t e. still t parts p (was.till t e);
}

-- holes behind the part
behind_it : (low : ℕ) (holes : List Hole) (parts : List Part) (p : Part) → unit_end p ≤ low → p.more ≡ true → Rise low holes → AreHoles holes parts → AreHoles holes (parts ++ p ∷ [])
behind_it low [] parts p past more rise are = tt
behind_it low (h ∷ holes) parts p past more rise are = (
  untouched h parts p are.0 (λ u is. let at = (in_then u h is).0 in let from = rise.0 in unit_behind p u (omega arith)) (λ none. more),
  by_end h.to (λ none. subst (λ (l : List Hole). AreHoles l (parts ++ p ∷ [])) (sym (rise.2 none)) tt) (λ t e.
      let next = rise.3 t e in
      let less = next.0 in
      let from = rise.0 in
      behind_it (t + 1) holes parts p (omega arith) more next.1 are.1),
)

-- what is left of the hole in which the part lies
before_it : (h : Hole) (parts : List Part) (p : Part) (k : Hole) → 0 < length p.body → IsHole h parts → Lies p h → left_before p h ≡ Some k → IsHole k (parts ++ p ∷ [])
before_it h parts p k some was lies is =
    let e = cond_some (ltb h.from p.place) (hole h.from (Some p.place)) k is in
    subst (λ (x : Hole). IsHole x (parts ++ p ∷ [])) e.1 (record {
      missing = λ u is.
          let at = in_then u (hole h.from (Some p.place)) is in
          let low = at.0 in
          let less = at.1 p.place refl in
          any_push u parts p ∙ neither (list_any (has_unit u) parts) (has_unit u p) (was.missing u (in_if u h low (λ t e. let l = (lies.till t e).1 in omega arith))) (unit_before p u less);
      endless = λ none. cc;
      till = λ t e. let same : p.place ≡ t = cc in subst (λ n. list_any (has_unit n) (parts ++ p ∷ []) ≡ true) same (new_unit p.place parts p (unit_there p p.place (omega arith) (omega arith)));
    })

left_is : (end : ℕ) (to : Option ℕ) (k : Hole) → left_from end to ≡ Some k → hole end to ≡ k
left_is end None k is = cc
left_is end (Some t) k is = (cond_some (ltb end t) (hole end (Some t)) k is).1

after_it : (h : Hole) (parts : List Part) (p : Part) (k : Hole) → IsHole h parts → Lies p h → left_behind p h ≡ Some k → IsHole k (parts ++ p ∷ [])
after_it h parts p k was lies is = by_more p.more refl is
  where
    left : p.more ≡ true → IsHole (hole (unit_end p) h.to) (parts ++ p ∷ [])
    left more = record {
      missing = λ u is.
          let at = in_then u (hole (unit_end p) h.to) is in
          let past = at.0 in
          let from = lies.from in
          any_push u parts p ∙ neither (list_any (has_unit u) parts) (has_unit u p) (was.missing u (in_if u h (omega arith) at.1)) (unit_behind p u past);
      endless = λ none. of_all (λ q. q.more ≡ true) parts p (was.endless none) more;
      till = λ t e. still t parts p (was.till t e);
    }

    by_more : (m : Bool) → p.more ≡ m → cond m (left_from (unit_end p) h.to) None ≡ Some k → IsHole k (parts ++ p ∷ [])
    by_more true more is = subst (λ (x : Hole). IsHole x (parts ++ p ∷ [])) (left_is (unit_end p) h.to k is) (left more)
    by_more false more is = cc

are_with : (o : Option Hole) (holes : List Hole) (parts : List Part) → ((k : Hole) → o ≡ Some k → IsHole k parts) → AreHoles holes parts → AreHoles (listed o ++ holes) parts
are_with None holes parts is are = are
are_with (Some k) holes parts is are = (is k refl, are)

pub holes_kept : (low : ℕ) (holes : List Hole) (parts : List Part) (p : Part) → 0 < length p.body → Rise low holes → AreHoles holes parts → has_hole p holes ≡ true → AreHoles
    (filled p holes) (parts ++ p ∷ [])
holes_kept low [] parts p some rise are has = tt
holes_kept low (h ∷ holes) parts p some rise are has = by_test (lies_in p h) refl (or_is (lies_in p h) (has_hole p holes) has) (λ n r l. holes_kept n holes parts p some r are.1 l)
  where
    rest : Lies p h → AreHoles holes (parts ++ p ∷ [])
    rest lies = by_end h.to (λ none. subst (λ (l : List Hole). AreHoles l (parts ++ p ∷ [])) (sym (rise.2 none)) tt) (λ t e. let l = lies.till t e in let end = l.1 in behind_it
        (t + 1) holes parts p (omega arith) l.0 (rise.3 t e).1 are.1)

    here : Lies p h → AreHoles (listed (left_before p h) ++ (listed (left_behind p h) ++ holes)) (parts ++ p ∷ [])
    here lies =
        are_with (left_before p h) (listed (left_behind p h) ++ holes) (parts ++ p ∷ []) (λ k is. before_it h parts p k some are.0 lies is)
        (are_with (left_behind p h) holes (parts ++ p ∷ []) (λ k is. after_it h parts p k are.0 lies is) (rest lies))

    later : has_hole p holes ≡ true → ((n : ℕ) → Rise n holes → has_hole p holes ≡ true → AreHoles (filled p holes) (parts ++ p ∷ [])) → IsHole h (parts ++ p ∷ []) × AreHoles
        (filled p holes) (parts ++ p ∷ [])
    later l next = by_end h.to (λ none. cc (subst (λ (x : List Hole). has_hole p x ≡ true) (rise.2 none) l)) (λ t e.
        let r = rise.3 t e in
        let at = hole_from (t + 1) p holes r.1 l in (
          untouched h parts p are.0 (λ u is. let less = (in_then u h is).1 t e in unit_before p u (omega arith)) (λ none. cc (sym none ∙ e)),
          next (t + 1) r.1 l,
        ))

    by_test : (b : Bool) → lies_in p h ≡ b → (lies_in p h ≡ true) ⊎ (has_hole p holes ≡ true) → ((n : ℕ) → Rise n holes → has_hole p holes ≡ true → AreHoles (filled p holes) (parts ++ p ∷ []))
        → AreHoles (cond b (listed (left_before p h) ++ (listed (left_behind p h) ++ holes)) (h ∷ filled p holes)) (parts ++ p ∷ [])
    by_test true e either next = here (lies_then p h e)
    by_test false e (inl lies) next = cc (sym lies ∙ e)
    by_test false e (inr l) next = later l next

-- each unit is told of
pub told_kept : (u : ℕ) (holes : List Hole) (parts : List Part) (p : Part) → IsTold u holes parts → IsTold u (filled p holes) (parts ++ p ∷ [])
told_kept u holes parts p (inl came) = inl (still u parts p came)
told_kept u holes parts p (inr (inl free)) = by_goes (filled_open u p holes free)
  where
    by_goes : (is_open u (filled p holes) ≡ true) ⊎ Goes u p → IsTold u (filled p holes) (parts ++ p ∷ [])
    by_goes (inl free) = inr (inl free)
    by_goes (inr (inl came)) = inl (new_unit u parts p came)
    by_goes (inr (inr last)) = inr (inr (p, (Contains-push parts p, last.0, last.1)))
told_kept u holes parts p (inr (inr q)) = inr (inr (q.0, (Contains-append_left parts (p ∷ []) q.0 q.1.0, q.1.1, q.1.2)))

-- none ends past the last one
pub ends_within : (parts : List Part) (q r : Part) → AllPairs (λ a b. do_clash a b ≡ false) parts → Contains parts q → q.more ≡ false → Contains parts r → end_of r ≤ end_of q
ends_within parts q r apart c last d =
    elim (cases_lt (end_of q) (end_of r)) [
      | inl past ↦ absurd (let same = clash_one parts r q apart d c (clash_past r q last past) in let ends = ap end_of same in omega arith)
      | inr within ↦ within
    ]

-- the hole in which a part lies
lies_there : (p : Part) (holes : List Hole) (parts : List Part) → AreHoles holes parts → has_hole p holes ≡ true → (h : Hole) × (Lies p h × IsHole h parts)
lies_there p [] parts are has = cc
lies_there p (h ∷ holes) parts are has = elim (or_is (lies_in p h) (has_hole p holes) has) [ inl here ↦ (h, (lies_then p h here, are.0)) | inr later ↦ lies_there p holes parts are.1 later ]

end_of_unit : (q : Part) (u : ℕ) → has_unit u q ≡ true → 8 * u < end_of q
end_of_unit q u h = ltb-true (8 * u) (end_of q) (both (leb q.place u) (ltb (8 * u) (end_of q)) h).1

-- a part that lies in a hole clashes with none
shares_none : (g : Gathered) (parts : List Part) (p q : Part) (h : Hole) → Gathers g parts → Fits p → Lies p h → IsHole h parts → Contains parts q → do_share p q ≡ true → ⊥
shares_none g parts p q h holds fits lies is c share =
    let u = unit_by_share p q fits (holds.fits q c) share in
    let low = u.1.0 in
    let high = u.1.1 in
    let from = lies.from in
    cc (sym (is.missing u.0 (in_if u.0 h (omega arith) (λ t e. let l = (lies.till t e).1 in omega arith))) ∙ in_some (has_unit u.0) parts q c u.1.2)

past_none : (g : Gathered) (parts : List Part) (p q : Part) (h : Hole) → Gathers g parts → Lies p h → IsHole h parts → Contains parts q → q.more ≡ false → end_of q < end_of p → ⊥
past_none g parts p q h holds lies is c last past =
    by_end h.to (λ none. cc (sym (is.endless none q c) ∙ last)) (λ t e.
    let r = some_in (has_unit t) parts (is.till t e) in
    let less = end_of_unit r.0 t r.1.1 in
    let within = ends_within parts q r.0 holds.apart c last r.1.0 in
    let l = (lies.till t e).1 in
    absurd (omega arith))

before_none : (g : Gathered) (parts : List Part) (p q : Part) (h : Hole) → Gathers g parts → Lies p h → IsHole h parts → Contains parts q → p.more ≡ false → end_of p < end_of q → ⊥
before_none g parts p q h holds lies is c last before =
    by_end h.to (λ none.
    let fits = holds.fits q c in
    let n = fits.even (is.endless none q c) in
    let size = n.1 in
    let some = fits.carries in
    let from = lies.from in
    elim (cases_lt (q.place + n.0) (h.from + 1)) [
      | inl low ↦ absurd (omega arith)
      | inr high ↦
          let positive : 1 ≤ n.0 = omega arith in
          let u = q.place + n.0 in
          absurd (last_unit n.0 positive size none high)
    ]) (λ t e. cc (sym (lies.till t e).0 ∙ last))
  where
    last_unit : (n : ℕ) → 1 ≤ n → length q.body ≡ 8 * n → h.to ≡ None → h.from + 1 ≤ q.place + n → ⊥
    last_unit zero positive size none high = omega arith
    last_unit (suc n) positive size none high =
        cc (sym (is.missing (q.place + n) (in_if (q.place + n) h (omega arith) (λ t e. absurd (cc (sym none ∙ e))))) ∙ in_some (has_unit (q.place + n)) parts q c
        (unit_there q (q.place + n) (omega arith) (omega arith)))

clear : (g : Gathered) (parts : List Part) (p : Part) → Gathers g parts → Fits p → has_hole p g.holes ≡ true → list_any (do_clash p) parts ≡ false
clear g parts p holds fits has =
    let at = lies_there p g.holes parts holds.holes has in
    let h = at.0 in
    let lies = at.1.0 in
    let is = at.1.1 in
    same_truth (list_any (do_clash p) parts) false
    (λ any.
    let found = some_in (do_clash p) parts any in
    let q = found.0 in
    let c = found.1.0 in
    one_of_four (do_share p q) (not p.more && not q.more) (ends_past p q) (ends_past q p) found.1.1
    (λ share. absurd (shares_none g parts p q h holds fits lies is c share))
    (λ lasts.
    let b = both (not p.more) (not q.more) lasts in
    by_end h.to (λ none. cc (sym (is.endless none q c) ∙ not_false q.more b.1)) (λ t e. cc (sym (lies.till t e).0 ∙ not_false p.more b.0)))
    (λ ends.
    let b = both (not q.more) (ltb (end_of q) (end_of p)) ends in
    absurd (past_none g parts p q h holds lies is c (not_false q.more b.0) (ltb-true (end_of q) (end_of p) b.1)))
    (λ ends.
    let b = both (not p.more) (ltb (end_of p) (end_of q)) ends in
    absurd (before_none g parts p q h holds lies is c (not_false p.more b.0) (ltb-true (end_of p) (end_of q) b.1))))
    (λ h. cc)

-- a part that clashes with none lies in the hole of its first unit
lies_here : (parts : List Part) (p : Part) (h : Hole) → list_any (do_clash p) parts ≡ false → IsHole h parts → is_in p.place h ≡ true → lies_in p h ≡ true
lies_here parts p h none is at =
    let there = in_then p.place h at in
    by_end h.to (λ e. lies_endless p h there.0 e) (λ t e.
    let r = some_in (has_unit t) parts (is.till t e) in
    let less = there.1 t e in
    elim (cases_lt t (unit_end p)) [
      | inl within ↦ absurd (none_in p parts r.0 none r.1.0 (clash_share p r.0 (share_by_unit p r.0 t (omega arith) within r.1.1)))
      | inr past ↦ by_more p.more refl there.0 t e past r.0 r.1.0 (end_of_unit r.0 t r.1.1)
    ])
  where
    by_more : (m : Bool) → p.more ≡ m → h.from ≤ p.place → (t : ℕ) → h.to ≡ Some t → unit_end p ≤ t → (r : Part) → Contains parts r → 8 * t < end_of r → lies_in p h ≡ true
    by_more true more low t e past r c ends = lies_before p h t low e more past
    by_more false more low t e past r c ends = absurd (none_in p parts r none c (clash_before p r (not_true p.more more) (omega arith)))

open_then : (parts : List Part) (p : Part) (holes : List Hole) → list_any (do_clash p) parts ≡ false → AreHoles holes parts → is_open p.place holes ≡ true → has_hole p holes ≡ true
open_then parts p [] none are is = cc
open_then parts p (h ∷ holes) none are is =
    elim (or_is (is_in p.place h) (is_open p.place holes) is) [
      | inl here ↦ or_left (lies_in p h) (has_hole p holes) (lies_here parts p h none are.0 here)
      | inr later ↦ or_right (lies_in p h) (has_hole p holes) (open_then parts p holes none are.1 later)
    ]

pub hole_then : (g : Gathered) (parts : List Part) (p : Part) → Gathers g parts → Fits p → list_any (do_clash p) parts ≡ false → has_hole p g.holes ≡ true
hole_then g parts p holds fits none = by_told (holds.told p.place)
  where
    by_told : IsTold p.place g.holes parts → has_hole p g.holes ≡ true
    by_told (inl came) =
        let r = some_in (has_unit p.place) parts came in
        let some = fits.carries in
        absurd (none_in p parts r.0 none r.1.0 (clash_share p r.0 (share_by_unit p r.0 p.place (omega arith) (omega arith) r.1.1)))
    by_told (inr (inl free)) = open_then parts p g.holes none holds.holes free
    by_told (inr (inr q)) =
        let some = fits.carries in
        let past = q.1.2 in
        absurd (none_in p parts q.0 none q.1.0 (clash_past p q.0 q.1.1 (omega arith)))

-- the test of a part against an area is the test against its parts
pub clash_same : (g : Gathered) (parts : List Part) (p : Part) → Gathers g parts → Fits p → does_clash g p ≡ list_any (do_clash p) parts
clash_same g parts p holds fits = other (has_hole p g.holes) (list_any (do_clash p) parts) (clear g parts p holds fits) (hole_then g parts p holds fits)
  where
    other : (a b : Bool) → (a ≡ true → b ≡ false) → (b ≡ false → a ≡ true) → not a ≡ b
    other true b h k = sym (h refl)
    other false true h k = refl
    other false false h k = cc (k refl)

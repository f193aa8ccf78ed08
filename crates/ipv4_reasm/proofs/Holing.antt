-- Holes in rising order, and what is left of them once a part is there.
use Rattle.std.proofs.Common.{◌≡◌, ◌+◌, ◌*◌, ◌<◌, ◌≤◌, ◌||◌, not, List, ℕ, Bool, true, false, cond, zero, suc, inl, inr, [], ◌∷◌, ◌++◌, length, take, drop, get_or, ltb, leb, Option, None}
use Rattle.std.proofs.Common.{Some, refl, ap, sym, ◌∙◌, arith, subst, ◌⊎◌}
use Rattle.std.specs.Prelude.{is_some}
use Rattle.std.specs.List.{position, position_or_len}
use Rattle.std.specs.List.Sorted.{IsNonDecreasingBy, IsPartitionPoint}
use Rattle.std.proofs.lemmas.List.Sums.{position_or_len_is}
use Rattle.std.proofs.lemmas.Bool.{cases_lt, ltb-true, lt-ltb, le-ltb, leb-true, leb-false, le-leb}
use Rattle.ipv4_head.specs.Sets.{Part, end_of}
use Rattle.ipv4_head.specs.declared.holes.Hole.{Hole}
use Rattle.ipv4_reasm.specs.Areas.{has_unit}
use Rattle.ipv4_head.specs.Holes.{hole, is_below, is_endless, is_in, is_up_to, left_before, left_behind, left_from, lies_in, unit_end}
use Rattle.ipv4_reasm.specs.Holes.{Rise, filled, has_hole, is_open, listed}
use Rattle.ipv4_reasm.proofs.Gathering.{and_is, both, same_truth}

pub or_is : (a b : Bool) → (a || b) ≡ true → (a ≡ true) ⊎ (b ≡ true)
or_is true b h = inl refl
or_is false b h = inr h

pub or_left : (a b : Bool) → a ≡ true → (a || b) ≡ true
or_left true b h = refl
or_left false b h = cc

pub or_right : (a b : Bool) → b ≡ true → (a || b) ≡ true
or_right true b h = refl
or_right false b h = h

-- a hole is endless or has an end
pub by_end : {R : Type 0} (to : Option ℕ) → (to ≡ None → R) → ((t : ℕ) → to ≡ Some t → R) → R
by_end None f g = f refl
by_end (Some t) f g = g t refl

pub below_then : (u : ℕ) (to : Option ℕ) (t : ℕ) → to ≡ Some t → is_below u to ≡ true → u < t
below_then u to t is h = ltb-true u t (subst (λ (o : Option ℕ). is_below u o ≡ true) is h)

pub below_if : (u : ℕ) (to : Option ℕ) → ((t : ℕ) → to ≡ Some t → u < t) → is_below u to ≡ true
below_if u None h = refl
below_if u (Some t) h = lt-ltb u t (h t refl)

pub in_if : (u : ℕ) (h : Hole) → h.from ≤ u → ((t : ℕ) → h.to ≡ Some t → u < t) → is_in u h ≡ true
in_if u h low high = and_is (leb h.from u) (is_below u h.to) (le-leb h.from u low) (below_if u h.to high)

pub in_then : (u : ℕ) (h : Hole) → is_in u h ≡ true → (h.from ≤ u) × ((t : ℕ) → h.to ≡ Some t → u < t)
in_then u h is = let b = both (leb h.from u) (is_below u h.to) is in (leb-true h.from u b.0, λ t e. below_then u h.to t e b.1)

-- the units of a part
pub unit_before : (p : Part) (u : ℕ) → u < p.place → has_unit u p ≡ false
unit_before p u less = same_truth (has_unit u p) false (λ h. let b = both (leb p.place u) (ltb (8 * u) (end_of p)) h in let low = leb-true p.place u b.0 in absurd (omega arith)) (λ h. cc)

pub unit_behind : (p : Part) (u : ℕ) → unit_end p ≤ u → has_unit u p ≡ false
unit_behind p u low = same_truth (has_unit u p) false (λ h. let b = both (leb p.place u) (ltb (8 * u) (end_of p)) h in let less = ltb-true (8 * u) (end_of p) b.1 in absurd (omega arith)) (λ h. cc)

pub unit_there : (p : Part) (u : ℕ) → p.place ≤ u → u < unit_end p → has_unit u p ≡ true
unit_there p u low high = and_is (leb p.place u) (ltb (8 * u) (end_of p)) (le-leb p.place u low) (lt-ltb (8 * u) (end_of p) (omega arith))

-- a part that lies in a hole
pub record Lies (p : Part) (h : Hole) : Type 0 where
  pub from : h.from ≤ p.place
  pub till : (t : ℕ) → h.to ≡ Some t → (p.more ≡ true) × (unit_end p ≤ t)

pub lies_then : (p : Part) (h : Hole) → lies_in p h ≡ true → Lies p h
lies_then p h is =
    let b = both (leb h.from p.place) (cond p.more (is_up_to (unit_end p) h.to) (is_endless h.to)) is in
    record { from = leb-true h.from p.place b.0; till = λ t e. by_more p.more refl t e b.1 }
  where
    by_more : (m : Bool) → p.more ≡ m → (t : ℕ) → h.to ≡ Some t → cond m (is_up_to (unit_end p) h.to) (is_endless h.to) ≡ true → (p.more ≡ true) × (unit_end p ≤ t)
    by_more true more t e is = (more, leb-true (unit_end p) t (subst (λ (o : Option ℕ). is_up_to (unit_end p) o ≡ true) e is))
    by_more false more t e is = cc (subst (λ (o : Option ℕ). is_endless o ≡ true) e is)

pub lies_endless : (p : Part) (h : Hole) → h.from ≤ p.place → h.to ≡ None → lies_in p h ≡ true
lies_endless p h low e =
    and_is (leb h.from p.place) (cond p.more (is_up_to (unit_end p) h.to) (is_endless h.to)) (le-leb h.from p.place low)
    (subst (λ (o : Option ℕ). cond p.more (is_up_to (unit_end p) o) (is_endless o) ≡ true) (sym e) (by_more p.more))
  where
    by_more : (m : Bool) → cond m true true ≡ true
    by_more true = refl
    by_more false = refl

pub lies_before : (p : Part) (h : Hole) (t : ℕ) → h.from ≤ p.place → h.to ≡ Some t → p.more ≡ true → unit_end p ≤ t → lies_in p h ≡ true
lies_before p h t low e more high =
    and_is (leb h.from p.place) (cond p.more (is_up_to (unit_end p) h.to) (is_endless h.to)) (le-leb h.from p.place low)
    (subst (λ b. cond b (is_up_to (unit_end p) h.to) (is_endless h.to) ≡ true) (sym more) (subst (λ (o : Option ℕ). is_up_to (unit_end p) o ≡ true) (sym e) (le-leb (unit_end p) t high)))

-- there are at most 4,096
few_behind : (low : ℕ) (h : Hole) (holes : List Hole) → Rise low (h ∷ holes) → 2 * length holes + low ≤ 8190
few_behind low h [] rise = let from = rise.0 in let small = rise.1 in omega arith
few_behind low h (k ∷ holes) rise =
    by_end h.to (λ none. cc (rise.2 none)) (λ t e.
    let next = rise.3 t e in
    let less = next.0 in
    let from = rise.0 in
    let rest = few_behind (t + 1) k holes next.1 in
    omega arith)

pub few_holes : (holes : List Hole) → Rise 0 holes → length holes ≤ 4096
few_holes [] rise = omega arith
few_holes (h ∷ holes) rise = let few = few_behind 0 h holes rise in omega arith

weaker : (a b : ℕ) (holes : List Hole) → b ≤ a → Rise a holes → Rise b holes
weaker a b [] low rise = tt
weaker a b (h ∷ holes) low rise = let from = rise.0 in (omega arith, rise.1, rise.2, rise.3)

-- a part that lies in one of rising holes isn't before them
pub hole_from : (low : ℕ) (p : Part) (holes : List Hole) → Rise low holes → has_hole p holes ≡ true → low ≤ p.place
hole_from low p [] rise is = cc
hole_from low p (h ∷ holes) rise is =
    let from = rise.0 in
    elim (or_is (lies_in p h) (has_hole p holes) is) [
      | inl here ↦ let at = (lies_then p h here).from in omega arith
      | inr later ↦ by_end h.to (λ none. cc (subst (λ (l : List Hole). has_hole p l ≡ true) (rise.2 none) later)) (λ t e.
          let next = rise.3 t e in
          let less = next.0 in
          let at = hole_from (t + 1) p holes next.1 later in
          omega arith)
    ]

-- what is left rises
behind_rise : (low end : ℕ) (more : Bool) (to : Option ℕ) (holes : List Hole) → low ≤ end → end ≤ 8190 → (to ≡ None → holes ≡ []) →
    ((t : ℕ) → to ≡ Some t → (more ≡ true) × (end ≤ t) × Rise (t + 1) holes)
    → Rise low (listed (cond more (left_from end to) None) ++ holes)
behind_rise low end true None holes from small none some = (from, small, none, λ t e. cc)
behind_rise low end false None holes from small none some = subst (Rise low) (sym (none refl)) tt
behind_rise low end false (Some t) holes from small none some = cc (some t refl).0
behind_rise low end true (Some t) holes from small none some = by_test (ltb end t) refl
  where
    by_test : (b : Bool) → ltb end t ≡ b → Rise low (listed (cond b (Some (hole end (Some t))) None) ++ holes)
    by_test true e = (from, small, λ n. cc, λ s is. let same : t ≡ s = cc in subst (λ n. (end < n) × Rise (n + 1) holes) same (ltb-true end t e, (some t refl).2))
    by_test false e = let h = (some t refl).1 in weaker (t + 1) low holes (omega arith) (some t refl).2

left_rise : (low : ℕ) (p : Part) (h : Hole) (holes : List Hole) → 0 < length p.body → unit_end p ≤ 8190 → Rise low (h ∷ holes) → Lies p h → Rise low
    (listed (left_before p h) ++ (listed (left_behind p h) ++ holes))
left_rise low p h holes some small rise lies = by_test (ltb h.from p.place) refl
  where
    behind : (n : ℕ) → n ≤ unit_end p → Rise n (listed (left_behind p h) ++ holes)
    behind n low = behind_rise n (unit_end p) p.more h.to holes low small rise.2 (λ t e. ((lies.till t e).0, (lies.till t e).1, (rise.3 t e).1))

    by_test : (b : Bool) → ltb h.from p.place ≡ b → Rise low (listed (cond b (Some (hole h.from (Some p.place))) None) ++ (listed (left_behind p h) ++ holes))
    by_test true e = (
      rise.0,
      rise.1,
      λ n. cc,
      λ s is. let same : p.place ≡ s = cc in subst (λ n. (h.from < n) × Rise (n + 1) (listed (left_behind p h) ++ holes)) same
          (ltb-true h.from p.place e, behind (p.place + 1) (omega arith)),
    )
    by_test false e = behind low (let from = rise.0 in let at = lies.from in omega arith)

pub fill_rise : (low : ℕ) (p : Part) (holes : List Hole) → 0 < length p.body → unit_end p ≤ 8190 → Rise low holes → Rise low (filled p holes)
fill_rise low p [] some small rise = tt
fill_rise low p (h ∷ holes) some small rise = by_test (lies_in p h) refl (λ n r. fill_rise n p holes some small r)
  where
    by_test : (b : Bool) → lies_in p h ≡ b → ((n : ℕ) → Rise n holes → Rise n (filled p holes)) → Rise low (cond b (listed (left_before p h) ++ (listed (left_behind p h) ++ holes))
        (h ∷ filled p holes))
    by_test true is rest = left_rise low p h holes some small rise (lies_then p h is)
    by_test false is rest = (rise.0, rise.1, λ none. ap (filled p) (rise.2 none), λ t e. ((rise.3 t e).0, rest (t + 1) (rise.3 t e).1))

-- the hole in which a part lies is replaced by what is left of it
pub filled_at : (p : Part) (holes : List Hole) (n : ℕ) (d : Hole) → position_or_len (lies_in p) holes ≡ n → n < length holes
    → filled p holes ≡ take n holes ++ (listed (left_before p (get_or holes n d)) ++ (listed (left_behind p (get_or holes n d)) ++ drop (suc n) holes))
filled_at p [] n d is within = absurd (omega arith)
filled_at p (h ∷ holes) zero d is within = by_test (lies_in p h) is
  where
    by_test : (b : Bool) → cond (not b) (1 + position_or_len (lies_in p) holes) 0 ≡ 0 → cond b (listed (left_before p h) ++ (listed (left_behind p h) ++ holes))
        (h ∷ filled p holes) ≡ listed (left_before p h) ++ (listed (left_behind p h) ++ holes)
    by_test true e = refl
    by_test false e = absurd (omega arith)
filled_at p (h ∷ holes) (suc n) d is within = by_test (lies_in p h) is (λ e. filled_at p holes n d e (omega arith))
  where
    rest : List Hole
    rest = take n holes ++ (listed (left_before p (get_or holes n d)) ++ (listed (left_behind p (get_or holes n d)) ++ drop (suc n) holes))

    by_test : (b : Bool) → cond (not b) (1 + position_or_len (lies_in p) holes) 0 ≡ suc n → (position_or_len (lies_in p) holes ≡ n → filled p holes ≡ rest)
        → cond b (listed (left_before p h) ++ (listed (left_behind p h) ++ holes)) (h ∷ filled p holes) ≡ h ∷ rest
    by_test true e next = absurd (omega arith)
    by_test false e next = ap (λ (l : List Hole). h ∷ l) (next (omega arith))

pub has_place : (p : Part) (holes : List Hole) → has_hole p holes ≡ true → position_or_len (lies_in p) holes < length holes
has_place p [] is = cc
has_place p (h ∷ holes) is = by_test (lies_in p h) is (λ e. has_place p holes e)
  where
    by_test : (b : Bool) → (b || has_hole p holes) ≡ true → (has_hole p holes ≡ true → position_or_len (lies_in p) holes < length holes) → cond (not b)
        (1 + position_or_len (lies_in p) holes) 0 < suc (length holes)
    by_test true e next = omega arith
    by_test false e next = let n = next e in omega arith

-- a unit in a hole stays in one, or is the part's, or is behind the last part
in_listed : (u : ℕ) (o : Option Hole) (k : Hole) (holes : List Hole) → o ≡ Some k → is_in u k ≡ true → is_open u (listed o ++ holes) ≡ true
in_listed u o k holes e is = subst (λ (x : Option Hole). is_open u (listed x ++ holes) ≡ true) (sym e) (or_left (is_in u k) (is_open u holes) is)

in_rest : (u : ℕ) (o : Option Hole) (holes : List Hole) → is_open u holes ≡ true → is_open u (listed o ++ holes) ≡ true
in_rest u None holes is = is
in_rest u (Some k) holes is = or_right (is_in u k) (is_open u holes) is

pub left_from_is : (end : ℕ) (to : Option ℕ) → ((t : ℕ) → to ≡ Some t → end < t) → left_from end to ≡ Some (hole end to)
left_from_is end None h = refl
left_from_is end (Some t) h = ap (λ b. cond b (Some (hole end (Some t))) None) (lt-ltb end t (h t refl))

abbrev pub Goes : ℕ → Part → Type 0
Goes u p = (has_unit u p ≡ true) ⊎ ((p.more ≡ false) × (end_of p ≤ 8 * u))

left_open : (u : ℕ) (p : Part) (h : Hole) (holes : List Hole) → Lies p h → is_in u h ≡ true → (is_open u (listed (left_before p h) ++ (listed (left_behind p h) ++ holes)) ≡ true) ⊎ Goes u p
left_open u p h holes lies is =
    let at = in_then u h is in
    let low = at.0 in
    elim (cases_lt u p.place) [
      | inl less ↦
          inl (in_listed u (left_before p h) (hole h.from (Some p.place)) (listed (left_behind p h) ++ holes)
          (ap (λ b. cond b (Some (hole h.from (Some p.place))) None) (lt-ltb h.from p.place (omega arith)))
          (in_if u (hole h.from (Some p.place)) low (λ t e. let same : p.place ≡ t = cc in subst (λ n. u < n) same less)))
      | inr from ↦ elim (cases_lt u (unit_end p)) [
        | inl less ↦ inr (inl (unit_there p u from less))
        | inr past ↦ by_more p.more refl past at.1
      ]
    ]
  where
    by_more : (m : Bool) → p.more ≡ m → unit_end p ≤ u → ((t : ℕ) → h.to ≡ Some t → u < t) → (is_open u (listed (left_before p h) ++ (listed (left_behind p h) ++ holes)) ≡ true) ⊎ Goes u p
    by_more true more past high =
        inl (in_rest u (left_before p h) (listed (left_behind p h) ++ holes)
        (in_listed u (left_behind p h) (hole (unit_end p) h.to) holes
        (ap (λ b. cond b (left_from (unit_end p) h.to) None) more ∙ left_from_is (unit_end p) h.to (λ t e. let less = high t e in omega arith))
        (in_if u (hole (unit_end p) h.to) past high)))
    by_more false more past high = inr (inr (more, omega arith))

pub filled_open : (u : ℕ) (p : Part) (holes : List Hole) → is_open u holes ≡ true → (is_open u (filled p holes) ≡ true) ⊎ Goes u p
filled_open u p [] is = cc
filled_open u p (h ∷ holes) is = by_test (lies_in p h) refl (or_is (is_in u h) (is_open u holes) is) (λ e. filled_open u p holes e)
  where
    by_test : (b : Bool) → lies_in p h ≡ b → (is_in u h ≡ true) ⊎ (is_open u holes ≡ true) → (is_open u holes ≡ true → (is_open u (filled p holes) ≡ true) ⊎ Goes u p)
        → (is_open u (cond b (listed (left_before p h) ++ (listed (left_behind p h) ++ holes)) (h ∷ filled p holes)) ≡ true) ⊎ Goes u p
    by_test true e (inl here) next = left_open u p h holes (lies_then p h e) here
    by_test true e (inr later) next = inl (in_rest u (left_before p h) (listed (left_behind p h) ++ holes) (in_rest u (left_behind p h) holes later))
    by_test false e (inl here) next = inl (or_left (is_in u h) (is_open u (filled p holes)) here)
    by_test false e (inr later) next = elim (next later) [ inl free ↦ inl (or_right (is_in u h) (is_open u (filled p holes)) free) | inr goes ↦ inr goes ]

-- a hole begins, ends and is followed by the next
low_from : (low : ℕ) (holes : List Hole) (j : ℕ) (d : Hole) → Rise low holes → j < length holes → low ≤ (get_or holes j d).from
low_from low [] j d rise within = absurd (omega arith)
low_from low (h ∷ holes) zero d rise within = rise.0
low_from low (h ∷ holes) (suc j) d rise within =
    by_end h.to (λ none. absurd (let size = ap length (rise.2 none) in omega arith)) (λ t e.
    let next = rise.3 t e in
    let less = next.0 in
    let from = rise.0 in
    let rest = low_from (t + 1) holes j d next.1 (omega arith) in
    omega arith)

ends_first : (low : ℕ) (holes : List Hole) (i j : ℕ) (d : Hole) → Rise low holes → i < j → j < length holes → (t : ℕ) ×
    (((get_or holes i d).to ≡ Some t) × ((get_or holes i d).from < t) × (t < (get_or holes j d).from))
ends_first low [] i j d rise less within = absurd (omega arith)
ends_first low (h ∷ holes) i zero d rise less within = absurd (omega arith)
ends_first low (h ∷ holes) zero (suc j) d rise less within =
    by_end h.to (λ none. absurd (let size = ap length (rise.2 none) in omega arith)) (λ t e.
    let next = rise.3 t e in
    let from = low_from (t + 1) holes j d next.1 (omega arith) in
    (t, (e, next.0, omega arith)))
ends_first low (h ∷ holes) (suc i) (suc j) d rise less within =
    by_end h.to (λ none. absurd (let size = ap length (rise.2 none) in omega arith)) (λ t e.
    ends_first (t + 1) holes i j d (rise.3 t e).1 (omega arith) (omega arith))

pub none_falls : (holes : List Hole) → Rise 0 holes → IsNonDecreasingBy (λ (h : Hole). h.from) holes
none_falls holes rise = λ i j d low within.
    elim (cases_lt i j) [
      | inl less ↦ let t = ends_first 0 holes i j d rise less within in let from = t.1.1 in let next = t.1.2 in omega arith
      | inr other ↦ let same : i ≡ j = omega arith in subst (λ n. (get_or holes i d).from ≤ (get_or holes n d).from) same (omega arith)
    ]

-- a part doesn't lie in a hole behind its first unit, nor in one before another that isn't
not_behind : (p : Part) (h : Hole) → p.place < h.from → lies_in p h ≡ false
not_behind p h less = same_truth (lies_in p h) false (λ is. let from = (lies_then p h is).from in absurd (omega arith)) (λ is. cc)

not_before : (p : Part) (holes : List Hole) (i j : ℕ) (d : Hole) → Rise 0 holes → i < j → j < length holes → (get_or holes j d).from ≤ p.place → lies_in p (get_or holes i d) ≡ false
not_before p holes i j d rise less within from =
    let t = ends_first 0 holes i j d rise less within in
    same_truth (lies_in p (get_or holes i d)) false (λ is. let end = ((lies_then p (get_or holes i d) is).till t.0 t.1.0).1 in let next = t.1.2 in absurd (omega arith)) (λ is. cc)

abbrev pub Begun : List Hole → ℕ → ℕ → Type 0
Begun holes place n = IsPartitionPoint (λ (h : Hole). leb h.from place ≡ true) (λ (h : Hole). leb h.from place ≡ false) holes n

place_is : (p : Part) (holes : List Hole) (n : ℕ) → position_or_len (lies_in p) holes ≡ n → n < length holes → position (lies_in p) holes ≡ Some n
place_is p holes n is within = ap (λ m. cond (ltb m (length holes)) (Some m) None) is ∙ ap (λ b. cond b (Some n) None) (lt-ltb n (length holes) within)

no_place : (p : Part) (holes : List Hole) → position_or_len (lies_in p) holes ≡ length holes → position (lies_in p) holes ≡ None
no_place p holes is = ap (λ m. cond (ltb m (length holes)) (Some m) None) is ∙ ap (λ b. cond b (Some (length holes)) None) (le-ltb (length holes) (length holes) (omega arith))

pub none_begun : (p : Part) (holes : List Hole) (d : Hole) → Begun holes p.place 0 → position (lies_in p) holes ≡ None
none_begun p holes d point = no_place p holes (position_or_len_is (lies_in p) holes (length holes) d (omega arith)
    (λ k less. not_behind p (get_or holes k d) (leb-false (get_or holes k d).from p.place (point.1 k d (omega arith) less))) (λ h. absurd (omega arith)))

pub last_begun : (p : Part) (holes : List Hole) (i : ℕ) (d : Hole) → Rise 0 holes → i < length holes → Begun holes p.place (i + 1) → position (lies_in p) holes ≡ cond
    (lies_in p (get_or holes i d)) (Some i) None
last_begun p holes i d rise within point = by_test (lies_in p (get_or holes i d)) refl
  where
    from : (get_or holes i d).from ≤ p.place
    from = leb-true (get_or holes i d).from p.place (point.0 i d (omega arith) (omega arith))

    before : (k : ℕ) → k < i → lies_in p (get_or holes k d) ≡ false
    before k less = not_before p holes k i d rise less within from

    by_test : (b : Bool) → lies_in p (get_or holes i d) ≡ b → position (lies_in p) holes ≡ cond b (Some i) None
    by_test true e = place_is p holes i (position_or_len_is (lies_in p) holes i d (omega arith) before (λ h. e)) within
    by_test false e = no_place p holes (position_or_len_is (lies_in p) holes (length holes) d (omega arith) (none_lies e) (λ h. absurd (omega arith)))
      where
        none_lies : lies_in p (get_or holes i d) ≡ false → (k : ℕ) → k < length holes → lies_in p (get_or holes k d) ≡ false
        none_lies e k less =
            elim (cases_lt k i) [
              | inl low ↦ before k low
              | inr high ↦ elim (cases_lt i k) [
                | inl past ↦ not_behind p (get_or holes k d) (leb-false (get_or holes k d).from p.place (point.1 k d (omega arith) less))
                | inr other ↦ let same : i ≡ k = omega arith in subst (λ n. lies_in p (get_or holes n d) ≡ false) same e
              ]
            ]

-- a part lies in one of some holes where there is a place
pub found_is : (p : Part) (holes : List Hole) → is_some (position (lies_in p) holes) ≡ has_hole p holes
found_is p holes = by_test (has_hole p holes) refl
  where
    by_test : (b : Bool) → has_hole p holes ≡ b → is_some (position (lies_in p) holes) ≡ b
    by_test true e = ap is_some (place_is p holes (position_or_len (lies_in p) holes) refl (has_place p holes e))
    by_test false e = ap is_some (no_place p holes (none_there holes e))
      where
        none_there : (l : List Hole) → has_hole p l ≡ false → position_or_len (lies_in p) l ≡ length l
        none_there [] e = refl
        none_there (h ∷ l) e = by_first (lies_in p h) e (λ f. none_there l f)
          where
            by_first : (b : Bool) → (b || has_hole p l) ≡ false → (has_hole p l ≡ false → position_or_len (lies_in p) l ≡ length l) → cond (not b)
                (1 + position_or_len (lies_in p) l) 0 ≡ suc (length l)
            by_first true e next = cc
            by_first false e next = let n = next e in omega arith

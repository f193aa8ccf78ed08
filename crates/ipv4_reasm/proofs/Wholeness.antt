-- When the parts in an area are a whole datagram.
use Rattle.std.proofs.Common.{◌≡◌, ◌+◌, ◌*◌, ◌/◌, ◌<◌, ◌≤◌, ◌&&◌, not, List, ℕ, Bool, true, false, zero, suc, inl, inr, [], ◌∷◌, length, take, drop, eqb, ltb, leb, refl, ap, sym, ◌∙◌}
use Rattle.std.proofs.Common.{arith, subst, append-nil, eqb-true}
use Rattle.std.specs.List.{AllPairs, Contains, list_all, list_any, range_with_len}
use Rattle.std.proofs.lemmas.Bool.{cases_lt, cases_eq, ltb-true, lt-ltb, leb-true, le-leb}
use Rattle.std.proofs.lemmas.List.{length-take-le}
use Rattle.ipv4_head.specs.Sets.{IsJoined, Joins, Part, PartSet, start_of, end_of, do_clash, has_octet, is_whole, whole_head}
use Rattle.ipv4_head.specs.declared.holes.Hole.{Hole}
use Rattle.ipv4_reasm.specs.Areas.{AreHoles, Gathered, Gathers, IsHole, IsTold, StandsFor, has_unit, is_full, joined_in}
use Rattle.ipv4_reasm.specs.Holes.{Rise, is_open}
use Rattle.ipv4_reasm.proofs.Clashing.{ends_within}
use Rattle.ipv4_reasm.proofs.Gathering.{and_is, both, clash_last, clash_one, in_some, not_false, not_true, same_truth, some_in}
use Rattle.ipv4_reasm.proofs.Holing.{by_end, in_if}
use Rattle.ipv4_reasm.proofs.Keeping.{part_before}

-- a test of all numbers from a on
pub all_range : (test : ℕ → Bool) (a n : ℕ) → ((k : ℕ) → a ≤ k → k < a + n → test k ≡ true) → list_all test (range_with_len a n) ≡ true
all_range test a zero h = refl
all_range test a (suc n) h = and_is (test a) (list_all test (range_with_len (a + 1) n)) (h a (omega arith) (omega arith)) (all_range test (a + 1) n (λ k low high. h k (omega arith) (omega arith)))

in_range : (test : ℕ → Bool) (a n k : ℕ) → list_all test (range_with_len a n) ≡ true → a ≤ k → k < a + n → test k ≡ true
in_range test a zero k h low high = absurd (omega arith)
in_range test a (suc n) k h low high =
    let b = both (test a) (list_all test (range_with_len (a + 1) n)) h in
    elim (cases_eq a k) [ inl e ↦ subst (λ i. test i ≡ true) e b.0 | inr other ↦ in_range test (a + 1) n k b.1 (omega arith) (omega arith) ]

-- the last part gives the end
top_is : (g : Gathered) (parts : List Part) (q : Part) → Gathers g parts → Contains parts q → q.more ≡ false → g.top ≡ end_of q
top_is g parts q holds c last =
    let below = holds.below q c in
    elim (cases_lt 0 g.top) [
      | inl some ↦ let r = holds.top some in let top = r.1.1 in let within = ends_within parts q r.0 holds.apart c last r.1.0 in omega arith
      | inr none ↦ omega arith
    ]

octet_of_unit : (g : Gathered) (parts : List Part) (q r : Part) (k : ℕ) → Gathers g parts → Contains parts q → q.more ≡ false → Contains parts r → k < end_of q → has_unit
    (k / 8) r ≡ true → has_octet k r ≡ true
octet_of_unit g parts q r k holds c last d small h =
    let b = both (leb r.place (k / 8)) (ltb (8 * (k / 8)) (end_of r)) h in
    let low = leb-true r.place (k / 8) b.0 in
    let less = ltb-true (8 * (k / 8)) (end_of r) b.1 in
    let within : k < end_of r = by_more r.more refl less in
    and_is (leb (start_of r) k) (ltb k (end_of r)) (le-leb (start_of r) k (omega arith)) (lt-ltb k (end_of r) within)
  where
    by_more : (b : Bool) → r.more ≡ b → 8 * (k / 8) < end_of r → k < end_of r
    by_more true more less = let n = (holds.fits r d).even more in let size = n.1 in omega arith
    by_more false more less = let same = ap end_of (clash_one parts r q holds.apart d c (clash_last r q (not_true r.more more) last)) in omega arith

-- where no hole is left there is a last part
last_there : (g : Gathered) (parts : List Part) → Gathers g parts → g.holes ≡ [] → (q : Part) × (Contains parts q × (q.more ≡ false))
last_there g parts holds none = by_told (holds.told 8190)
  where
    by_told : IsTold 8190 g.holes parts → (q : Part) × (Contains parts q × (q.more ≡ false))
    by_told (inl came) =
        let r = some_in (has_unit 8190) parts came in
        let b = both (leb r.0.place 8190) (ltb (8 * 8190) (end_of r.0)) r.1.1 in
        let less = ltb-true (8 * 8190) (end_of r.0) b.1 in
        let end = (holds.fits r.0 r.1.0).end in
        absurd (omega arith)
    by_told (inr (inl free)) = cc (subst (λ (l : List Hole). is_open 8190 l ≡ true) none free)
    by_told (inr (inr q)) = (q.0, (q.1.0, q.1.1))

-- and each octet before its end
octet_there : (g : Gathered) (parts : List Part) (q : Part) (k : ℕ) → Gathers g parts → g.holes ≡ [] → Contains parts q → q.more ≡ false → k < end_of q → list_any (has_octet k) parts ≡ true
octet_there g parts q k holds none c last small = by_told (holds.told (k / 8))
  where
    by_told : IsTold (k / 8) g.holes parts → list_any (has_octet k) parts ≡ true
    by_told (inl came) = let r = some_in (has_unit (k / 8)) parts came in in_some (has_octet k) parts r.0 r.1.0 (octet_of_unit g parts q r.0 k holds c last r.1.0 small r.1.1)
    by_told (inr (inl free)) = cc (subst (λ (l : List Hole). is_open (k / 8) l ≡ true) none free)
    by_told (inr (inr r)) =
        let same = ap end_of (clash_one parts r.0 q holds.apart r.1.0 c (clash_last r.0 q (not_true r.0.more r.1.1) last)) in
        let past = r.1.2 in
        absurd (omega arith)

none_left : (holes : List Hole) → eqb (length holes) 0 ≡ true → holes ≡ []
none_left [] h = refl
none_left (x ∷ holes) h = absurd (let e = eqb-true (suc (length holes)) 0 h in omega arith)

full_there : (g : Gathered) (parts : List Part) → Gathers g parts → is_full g ≡ true → is_whole parts ≡ true
full_there g parts holds h =
    let none = none_left g.holes h in
    let q = last_there g parts holds none in
    in_some (λ last. not last.more && list_all (λ k. list_any (has_octet k) parts) (range_with_len 0 (end_of last))) parts q.0 q.1.0
    (and_is (not q.0.more) (list_all (λ k. list_any (has_octet k) parts) (range_with_len 0 (end_of q.0))) (not_true q.0.more q.1.1)
    (all_range (λ k. list_any (has_octet k) parts) 0 (end_of q.0) (λ k low high. octet_there g parts q.0 k holds none q.1.0 q.1.1 (omega arith))))

-- a whole datagram has a last part, and each octet before its end
pub whole_has : (parts : List Part) → is_whole parts ≡ true → (q : Part) ×
    (Contains parts q × (q.more ≡ false) × ((k : ℕ) → k < end_of q → (r : Part) × (Contains parts r × (start_of r ≤ k) × (k < end_of r))))
whole_has parts h =
    let q = some_in (λ last. not last.more && list_all (λ k. list_any (has_octet k) parts) (range_with_len 0 (end_of last))) parts h in
    let b = both (not q.0.more) (list_all (λ k. list_any (has_octet k) parts) (range_with_len 0 (end_of q.0))) q.1.1 in (
      q.0,
      (
        q.1.0,
        not_false q.0.more b.0,
        λ k small.
            let r = some_in (has_octet k) parts (in_range (λ i. list_any (has_octet i) parts) 0 (end_of q.0) k b.1 (omega arith) (omega arith)) in
            let c = both (leb (start_of r.0) k) (ltb k (end_of r.0)) r.1.1 in
            (r.0, (r.1.0, leb-true (start_of r.0) k c.0, ltb-true k (end_of r.0) c.1)),
      ),
    )

-- a whole datagram has no hole
no_hole : (parts : List Part) (low : ℕ) (h : Hole) (holes : List Hole) → AllPairs (λ a b. do_clash a b ≡ false) parts → is_whole parts ≡ true → Rise low (h ∷ holes) → IsHole h parts → ⊥
no_hole parts low h holes apart whole rise is =
    let w = whole_has parts whole in
    by_end h.to (λ none. cc (sym (is.endless none w.0 w.1.0) ∙ w.1.1)) (λ t e.
    let some = (rise.3 t e).0 in
    let r = some_in (has_unit t) parts (is.till t e) in
    let b = both (leb r.0.place t) (ltb (8 * t) (end_of r.0)) r.1.1 in
    let less = ltb-true (8 * t) (end_of r.0) b.1 in
    let within = ends_within parts w.0 r.0 apart w.1.0 w.1.1 r.1.0 in
    let s = w.1.2 (8 * h.from) (omega arith) in
    let low = s.1.1 in
    cc (sym (is.missing h.from (in_if h.from h (omega arith) (λ n f. let same : t ≡ n = cc in subst (λ m. h.from < m) same some)))
    ∙ in_some (has_unit h.from) parts s.0 s.1.0 (and_is (leb s.0.place h.from) (ltb (8 * h.from) (end_of s.0)) (le-leb s.0.place h.from (omega arith)) (lt-ltb (8 * h.from) (end_of s.0) s.1.2))))

full_back : (g : Gathered) (parts : List Part) → Gathers g parts → is_whole parts ≡ true → is_full g ≡ true
full_back g parts holds h = by_holes g.holes holds.rise holds.holes
  where
    by_holes : (holes : List Hole) → Rise 0 holes → AreHoles holes parts → eqb (length holes) 0 ≡ true
    by_holes [] rise are = refl
    by_holes (x ∷ holes) rise are = absurd (no_hole parts 0 x holes holds.apart h rise are.0)

pub full_same : (g : Gathered) (parts : List Part) → Gathers g parts → is_full g ≡ is_whole parts
full_same g parts holds = same_truth (is_full g) (is_whole parts) (full_there g parts holds) (full_back g parts holds)

-- what lies in the area of a whole datagram is what its parts join to
pub joins_in : (g : Gathered) (parts : List Part) → Gathers g parts → is_whole parts ≡ true → Joins parts (take g.top g.octets)
joins_in g parts holds h =
    let w = whole_has parts h in
    let top = top_is g parts w.0 holds w.1.0 w.1.1 in
    let end = (holds.fits w.0 w.1.0).end in
    let room = holds.room in
    let fits : g.top ≤ length g.octets = omega arith in
    let long = length-take-le g.top g.octets fits in
    record {
      apart = holds.apart;
      last = (w.0, (w.1.0, w.1.1, omega arith));
      stands = λ p c.
          let within = holds.below p c in
          ap (λ (l : List ℕ). take (length p.body) (drop (start_of p) l)) (sym (append-nil (take g.top g.octets)))
          ∙ part_before g.octets [] (start_of p) (length p.body) g.top within fits
          ∙ holds.octets p c;
      whole = λ k small. w.1.2 k (omega arith);
    }

pub is_joined : (g : Gathered) (s : PartSet) → StandsFor g s → is_whole s.parts ≡ true → IsJoined s (joined_in g) g.life
is_joined g s stands h =
    let holds = stands.parts in
    let w = whole_has s.parts h in
    let some = (holds.fits w.0 w.1.0).carries in
    let r = w.1.2 0 (omega arith) in
    let low = r.1.1 in
    let at_start : r.0.place ≡ 0 = omega arith in
    let first = holds.first r.0 r.1.0 at_start in
    let top = top_is g s.parts w.0 holds w.1.0 w.1.1 in
    let end = (holds.fits w.0 w.1.0).end in
    let room = holds.room in
    let long = length-take-le g.top g.octets (omega arith) in
    record {
      body = joins_in g s.parts holds h;
      first = (r.0, (r.1.0, at_start, stands.joined h ∙ ap (λ (l : List ℕ). whole_head l g.top) first.0 ∙ ap (whole_head r.0.head) (sym long), first.1));
      more = refl;
      place = refl;
      from = ap (λ k. k.from) stands.key;
      to = ap (λ k. k.to) stands.key;
      proto = ap (λ k. k.proto) stands.key;
      ident = ap (λ k. k.ident) stands.key;
    }

-- What an area says of the parts that are in it.
use Rattle.std.proofs.Common.{◌≡◌, ◌+◌, ◌*◌, ◌<◌, ◌≤◌, ◌&&◌, ◌||◌, not, List, ℕ, Bool, true, false, inl, inr, [], ◌∷◌, ◌++◌, length, get_or, ltb, leb, Some, refl, ap, sym, ◌∙◌, arith, subst}
use Rattle.std.specs.List.{AllPairs, Contains, list_any}
use Rattle.std.proofs.lemmas.Bool.{cases_lt, cases_eq, ltb-true, lt-ltb, leb-true, le-leb}
use Rattle.std.proofs.lemmas.List.Elements.{Contains-push_cases}
use Rattle.std.proofs.lemmas.List.Folds.{Any-from_list_any, list_any-from_Any}
use Rattle.std.proofs.lemmas.Option.{same_Some, slice_get-get_or}
use Rattle.ipv4_head.specs.Sets.{Part, start_of, end_of, do_share, do_clash, ends_past}
use Rattle.ipv4_reasm.specs.Areas.{Fits, has_unit}
use Rattle.ipv4_head.specs.Holes.{units_of}

-- tests
pub both : (a b : Bool) → (a && b) ≡ true → (a ≡ true) × (b ≡ true)
both true b h = (refl, h)
both false b h = cc

pub and_is : (a b : Bool) → a ≡ true → b ≡ true → (a && b) ≡ true
and_is true b h k = k
and_is false b h k = cc

pub not_false : (a : Bool) → not a ≡ true → a ≡ false
not_false true h = cc
not_false false h = refl

pub not_true : (a : Bool) → a ≡ false → not a ≡ true
not_true true h = cc
not_true false h = refl

pub same_truth : (a b : Bool) → (a ≡ true → b ≡ true) → (b ≡ true → a ≡ true) → a ≡ b
same_truth true true h k = refl
same_truth true false h k = sym (h refl)
same_truth false true h k = k refl
same_truth false false h k = refl

pub one_of_four : {R : Type 0} (s m e f : Bool) → (s || m || e || f) ≡ true → (s ≡ true → R) → (m ≡ true → R) → (e ≡ true → R) → (f ≡ true → R) → R
one_of_four true m e f h a b c d = a refl
one_of_four false true e f h a b c d = b refl
one_of_four false false true f h a b c d = c refl
one_of_four false false false f h a b c d = d h

first_of_four : (s m e f : Bool) → s ≡ true → (s || m || e || f) ≡ true
first_of_four true m e f h = refl
first_of_four false m e f h = cc

pub second_of_four : (s m e f : Bool) → m ≡ true → (s || m || e || f) ≡ true
second_of_four true m e f h = refl
second_of_four false true e f h = refl
second_of_four false false e f h = cc

pub third_of_four : (s m e f : Bool) → e ≡ true → (s || m || e || f) ≡ true
third_of_four true m e f h = refl
third_of_four false true e f h = refl
third_of_four false false true f h = refl
third_of_four false false false f h = cc

pub fourth_of_four : (s m e f : Bool) → f ≡ true → (s || m || e || f) ≡ true
fourth_of_four true m e f h = refl
fourth_of_four false true e f h = refl
fourth_of_four false false true f h = refl
fourth_of_four false false false f h = h

-- one of a list that passes
pub some_in : (test : Part → Bool) (parts : List Part) → list_any test parts ≡ true → (q : Part) × (Contains parts q × (test q ≡ true))
some_in test parts h = let a = Any-from_list_any test parts h in (a.1, ((a.0, a.2, a.3), a.4))

pub in_some : (test : Part → Bool) (parts : List Part) (q : Part) → Contains parts q → test q ≡ true → list_any test parts ≡ true
in_some test parts q c h = list_any-from_Any test parts (c.0, q, c.1, c.2, h)

-- parts that share a unit share an octet, and the other way round
pub share_by_unit : (p q : Part) (u : ℕ) → p.place ≤ u → u < p.place + units_of (length p.body) → has_unit u q ≡ true → do_share p q ≡ true
share_by_unit p q u low high has =
    let h = both (leb q.place u) (ltb (8 * u) (end_of q)) has in
    let from = leb-true q.place u h.0 in
    let till = ltb-true (8 * u) (end_of q) h.1 in
    and_is (ltb (start_of p) (end_of q)) (ltb (start_of q) (end_of p)) (lt-ltb (start_of p) (end_of q) (omega arith)) (lt-ltb (start_of q) (end_of p) (omega arith))

pub unit_by_share : (p q : Part) → Fits p → Fits q → do_share p q ≡ true → (u : ℕ) × ((p.place ≤ u) × (u < p.place + units_of (length p.body)) × (has_unit u q ≡ true))
unit_by_share p q fits as_well share =
    let h = both (ltb (start_of p) (end_of q)) (ltb (start_of q) (end_of p)) share in
    let a = ltb-true (start_of p) (end_of q) h.0 in
    let b = ltb-true (start_of q) (end_of p) h.1 in
    let some = fits.carries in
    let any = as_well.carries in
    elim (cases_lt q.place p.place) [
      | inl less ↦ (p.place, (omega arith, omega arith, and_is (leb q.place p.place) (ltb (8 * p.place) (end_of q)) (le-leb q.place p.place (omega arith)) (lt-ltb (8 * p.place) (end_of q) a)))
      | inr more ↦ (q.place, (more, omega arith, and_is (leb q.place q.place) (ltb (8 * q.place) (end_of q)) (le-leb q.place q.place (omega arith)) (lt-ltb (8 * q.place) (end_of q) (omega arith))))
    ]

-- a part clashes with one that shares an octet, that is the last as well, or of which one ends past the end of the other
pub clash_share : (p q : Part) → do_share p q ≡ true → do_clash p q ≡ true
clash_share p q h = first_of_four (do_share p q) (not p.more && not q.more) (ends_past p q) (ends_past q p) h

pub clash_last : (p q : Part) → not p.more ≡ true → q.more ≡ false → do_clash p q ≡ true
clash_last p q h k = second_of_four (do_share p q) (not p.more && not q.more) (ends_past p q) (ends_past q p) (and_is (not p.more) (not q.more) h (not_true q.more k))

pub clash_past : (p q : Part) → q.more ≡ false → end_of q < end_of p → do_clash p q ≡ true
clash_past p q h k = third_of_four (do_share p q) (not p.more && not q.more) (ends_past p q) (ends_past q p) (and_is (not q.more) (ltb (end_of q) (end_of p)) (not_true q.more h)
    (lt-ltb (end_of q) (end_of p) k))

pub clash_before : (p q : Part) → not p.more ≡ true → end_of p < end_of q → do_clash p q ≡ true
clash_before p q h k = fourth_of_four (do_share p q) (not p.more && not q.more) (ends_past p q) (ends_past q p) (and_is (not p.more) (ltb (end_of p) (end_of q)) h (lt-ltb (end_of p) (end_of q) k))

-- parts of which a new one clashes with none
pub none_in : (p : Part) (parts : List Part) (q : Part) → list_any (do_clash p) parts ≡ false → Contains parts q → do_clash p q ≡ true → ⊥
none_in p parts q none c h = cc (sym (in_some (do_clash p) parts q c h) ∙ none)

pub clash_flip : (p q : Part) → do_clash q p ≡ true → do_clash p q ≡ true
clash_flip p q h =
    one_of_four (do_share q p) (not q.more && not p.more) (ends_past q p) (ends_past p q) h
    (λ share. let b = both (ltb (start_of q) (end_of p)) (ltb (start_of p) (end_of q)) share in clash_share p q (and_is (ltb (start_of p) (end_of q)) (ltb (start_of q) (end_of p)) b.1 b.0))
    (λ lasts. let b = both (not q.more) (not p.more) lasts in second_of_four (do_share p q) (not p.more && not q.more) (ends_past p q) (ends_past q p) (and_is (not p.more) (not q.more) b.1 b.0))
    (λ ends. fourth_of_four (do_share p q) (not p.more && not q.more) (ends_past p q) (ends_past q p) ends)
    (λ ends. third_of_four (do_share p q) (not p.more && not q.more) (ends_past p q) (ends_past q p) ends)

-- what holds of the old parts and of the new one holds of all
pub of_all : (P : Part → Type 0) (parts : List Part) (p : Part) → ((q : Part) → Contains parts q → P q) → P p → (q : Part) → Contains (parts ++ p ∷ []) q → P q
of_all P parts p old new q c = elim (Contains-push_cases parts p q c) [ inl before ↦ old q before | inr e ↦ subst P e new ]

-- two of the parts that clash are one
read_with : (parts : List Part) (q d : Part) (c : Contains parts q) → get_or parts c.0 d ≡ q
read_with parts q d c = same_Some (get_or parts c.0 d) q (sym (slice_get-get_or parts c.0 d c.1) ∙ slice_get-get_or parts c.0 q c.1 ∙ ap Some c.2)

pub clash_one : (parts : List Part) (q r : Part) → AllPairs (λ a b. do_clash a b ≡ false) parts → Contains parts q → Contains parts r → do_clash q r ≡ true → q ≡ r
clash_one parts q r apart c e clash =
    let at_q = read_with parts q q c in
    let at_r = read_with parts r q e in
    elim (cases_lt c.0 e.0) [
      | inl less ↦ cc (sym clash ∙ ap (λ x. do_clash x r) (sym at_q) ∙ ap (λ x. do_clash (get_or parts c.0 q) x) (sym at_r) ∙ apart c.0 e.0 q less e.1)
      | inr more ↦ elim (cases_eq c.0 e.0) [
        | inl same ↦ sym at_q ∙ ap (λ i. get_or parts i q) same ∙ at_r
        | inr other ↦ cc (sym (clash_flip r q clash) ∙ ap (λ x. do_clash x q) (sym at_r) ∙ ap (λ x. do_clash (get_or parts e.0 q) x) (sym at_q) ∙ apart e.0 c.0 q (omega arith) c.1)
      ]
    ]

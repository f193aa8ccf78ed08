-- The parts into which a datagram was cut, as they come one by one.
use Rattle.std.proofs.Common.{◌≡◌, ◌+◌, ◌*◌, ◌%◌, ◌<◌, ◌≤◌, ◌&&◌, ◌||◌, not, List, ℕ, Bool, true, false, cond, zero, suc, inl, inr, [], ◌∷◌, ◌++◌, length, get_or, ltb, eqb, refl, ap, sym}
use Rattle.std.proofs.Common.{◌∙◌, arith, subst, append_assoc, eq-eqb, eqb-true, ◌⊎◌}
use Rattle.std.specs.List.{AllPairs, Contains, list_any}
use Rattle.std.proofs.lemmas.Bool.{lt-ltb, le-ltb}
use Rattle.std.proofs.lemmas.List.Elements.{Contains-append_left}
use Rattle.ipv4_head.specs.Sets.{Clashes, Joined, Part, Waits, start_of, end_of, do_clash, is_uneven, is_whole, outcome_among}
use Rattle.ipv4_head.specs.Cuts.{AreCuts, room_in, units_in}
use Rattle.ipv4_reasm.proofs.Answering.{outcome_is}
use Rattle.ipv4_reasm.proofs.Fragments.{Cut, cut_told, joined, next_start, units_fit}
use Rattle.ipv4_reasm.proofs.Gathering.{and_is, clash_flip, clash_last, clash_one, clash_share, not_true, same_truth, some_in}
use Rattle.ipv4_reasm.proofs.Joining.{whole_of}
use Rattle.ipv4_reasm.proofs.Wholeness.{whole_has}

-- one at the front and one behind it
front_read : (before rest : List Part) (i : ℕ) (d : Part) → i < length before → get_or (before ++ rest) i d ≡ get_or before i d
front_read [] rest i d h = absurd (omega arith)
front_read (b ∷ before) rest zero d h = refl
front_read (b ∷ before) rest (suc i) d h = front_read before rest i d (omega arith)

at_read : (before : List Part) (p : Part) (rest : List Part) (d : Part) → get_or (before ++ p ∷ rest) (length before) d ≡ p
at_read [] p rest d = refl
at_read (b ∷ before) p rest d = at_read before p rest d

at_within : (before : List Part) (p : Part) (rest : List Part) → length before < length (before ++ p ∷ rest)
at_within [] p rest = omega arith
at_within (b ∷ before) p rest = let h = at_within before p rest in omega arith

apart_front : (before : List Part) (p : Part) (rest : List Part) (q : Part) → AllPairs (λ a b. do_clash a b ≡ false) (before ++ p ∷ rest) → Contains before q → do_clash q p ≡ false
apart_front before p rest q apart c =
    ap (λ x. do_clash x p) (sym (front_read before (p ∷ rest) c.0 q c.1 ∙ c.2)) ∙ ap (λ x. do_clash (get_or (before ++ p ∷ rest) c.0 q) x) (sym (at_read before p rest q))
    ∙ apart c.0 (length before) q c.1 (at_within before p rest)

no_clash_before : (before : List Part) (p : Part) (rest : List Part) → AllPairs (λ a b. do_clash a b ≡ false) (before ++ p ∷ rest) → list_any (do_clash p) before ≡ false
no_clash_before before p rest apart =
    same_truth (list_any (do_clash p) before) false
    (λ h. let q = some_in (do_clash p) before h in cc (sym (clash_flip q.0 p q.1.1) ∙ apart_front before p rest q.0 apart q.1.0))
    (λ h. cc)

-- a part of a datagram that carries something carries something, in whole units where more follow
carries : (mtu : ℕ) (body : List ℕ) (k : ℕ) (p : Part) → 28 ≤ mtu → 0 < length body → Cut mtu body k p → (0 < length p.body) × (end_of p ≤ length body)
carries mtu body k p fits some cut =
    let place = cut.place in
    let u = units_fit mtu fits in
    elim cut.ends [
      | inl before ↦ let end = before.end in let follow = before.follow in (omega arith, omega arith)
      | inr last ↦ (starts_before k cut.after place last.end, let end = last.end in omega arith)
    ]
  where
    starts_before : (n : ℕ) → ((j : ℕ) → n ≡ suc j → room_in mtu + 8 * (j * units_in mtu) < length body) → p.place ≡ n * units_in mtu → end_of p ≡ length body → 0 < length p.body
    starts_before zero after place end = omega arith
    starts_before (suc j) after place end = let f = after j refl in let n = next_start mtu j in let u = (units_fit mtu fits).1 in omega arith

even_cut : (mtu : ℕ) (body : List ℕ) (k : ℕ) (p : Part) → 28 ≤ mtu → 0 < length body → Cut mtu body k p → is_uneven p ≡ false
even_cut mtu body k p fits some cut =
    let any = (carries mtu body k p fits some cut).0 in
    let none : eqb (length p.body) 0 ≡ false = same_truth (eqb (length p.body) 0) false (λ h. absurd (let e = eqb-true (length p.body) 0 h in omega arith)) (λ h. cc) in
    elim cut.ends [
      | inl before ↦
          let end = before.end in
          let place = cut.place in
          let even : length p.body % 8 ≡ 0 = omega arith in
          by_tests (eqb (length p.body) 0) p.more (eqb (length p.body % 8) 0) none (inr (eq-eqb (length p.body % 8) 0 even))
      | inr last ↦ by_tests (eqb (length p.body) 0) p.more (eqb (length p.body % 8) 0) none (inl last.more)
    ]
  where
    by_tests : (a m e : Bool) → a ≡ false → (m ≡ false) ⊎ (e ≡ true) → (a || (m && not e)) ≡ false
    by_tests true m e h k = cc
    by_tests false false e h k = refl
    by_tests false true true h k = refl
    by_tests false true false h (inl k) = cc
    by_tests false true false h (inr k) = cc

-- a part that comes after others is none that is refused
fits_in : (mtu : ℕ) (whole : Part) (before : List Part) (p : Part) (rest : List Part) → 28 ≤ mtu → 0 < length whole.body → length whole.body ≤ 65515 → AreCuts mtu whole (before ++ p ∷ rest)
    → outcome_among p before ≡ cond (is_whole (before ++ p ∷ [])) Joined Waits
fits_in mtu whole before p rest fits some short cuts =
    let k = cuts.only p (length before, at_within before p rest, at_read before p rest p) in
    let cut = cut_told mtu whole k.0 p fits k.1 in
    let end = (carries mtu whole.body k.0 p fits some cut).1 in
    let apart = (joined mtu whole (before ++ p ∷ rest) fits cuts).apart in
    outcome_is p before (even_cut mtu whole.body k.0 p fits some cut) (le-ltb 65515 (end_of p) (omega arith))
    ∙ ap (λ b. cond b Clashes (cond (is_whole (before ++ p ∷ [])) Joined Waits)) (no_clash_before before p rest apart)

-- the last one makes the datagram whole
pub last_joins : (mtu : ℕ) (whole : Part) (before : List Part) (p : Part) → 28 ≤ mtu → 0 < length whole.body → length whole.body ≤ 65515 → AreCuts mtu whole (before ++ p ∷ []) →
    outcome_among p before ≡ Joined
last_joins mtu whole before p fits some short cuts =
    fits_in mtu whole before p [] fits some short cuts
    ∙ ap (λ b. cond b Joined Waits) (whole_of (before ++ p ∷ []) whole.body (joined mtu whole (before ++ p ∷ []) fits cuts))

-- and one before another is kept
pub others_wait : (mtu : ℕ) (whole : Part) (before : List Part) (p q : Part) (after : List Part) → 28 ≤ mtu → 0 < length whole.body → length whole.body ≤ 65515 → AreCuts mtu whole
    ((before ++ p ∷ []) ++ q ∷ after) → outcome_among p before ≡ Waits
others_wait mtu whole before p q after fits some short cuts =
    fits_in mtu whole before p (q ∷ after) fits some short (subst (AreCuts mtu whole) (append_assoc before (p ∷ []) (q ∷ after)) cuts)
    ∙ ap (λ b. cond b Joined Waits) (same_truth (is_whole (before ++ p ∷ [])) false (λ h. absurd (missing h)) (λ h. cc))
  where
    missing : is_whole (before ++ p ∷ []) ≡ true → ⊥
    missing h =
        let front = before ++ p ∷ [] in
        let all = front ++ q ∷ after in
        let j = joined mtu whole all fits cuts in
        let w = whole_has front h in
        let w_in = Contains-append_left front (q ∷ after) w.0 w.1.0 in
        let q_in : Contains all q = (length front, at_within front q after, at_read front q after q) in
        let same = clash_one all w.0 j.last.0 j.apart w_in j.last.1.0 (clash_last w.0 j.last.0 (not_true w.0.more w.1.1) j.last.1.1) in
        let end = ap end_of same in
        let whole_end = j.last.1.2 in
        let k = cuts.only q q_in in
        let q_cut = cut_told mtu whole k.0 q fits k.1 in
        let q_carries = carries mtu whole.body k.0 q fits some q_cut in
        let any = q_carries.0 in
        let within = q_carries.1 in
        let r = w.1.2 (start_of q) (omega arith) in
        let low = r.1.1 in
        let high = r.1.2 in
        let clash = clash_share r.0 q (and_is (ltb (start_of r.0) (end_of q)) (ltb (start_of q) (end_of r.0)) (lt-ltb (start_of r.0) (end_of q) (omega arith))
        (lt-ltb (start_of q) (end_of r.0) high)) in
        cc (sym clash ∙ apart_front front q after r.0 j.apart r.1.0)

-- A part that is put into an area is one more of its parts.
use Rattle.std.proofs.Common.{◌≡◌, ◌+◌, ◌-◌, ◌≤◌, max, List, ℕ, Bool, true, false, cond, zero, suc, inl, inr, [], ◌∷◌, ◌++◌, length, take, drop, get_or, ltb, eqb, refl, ap, sym, ◌∙◌}
use Rattle.std.proofs.Common.{arith, append_assoc, zero-add, length-append, length-drop, eq-eqb, eqb-true, ◌⊎◌}
use Rattle.std.specs.List.{Contains, list_any}
use Rattle.std.proofs.lemmas.Bool.{cases_lt, lt-ltb}
use Rattle.std.proofs.lemmas.List.{drop-drop, length-take-le, take_at}
use Rattle.std.proofs.lemmas.List.Elements.{Contains-append_left, Contains-get_or, Contains-push}
use Rattle.std.proofs.lemmas.List.Quantifiers.{all_pairs_push}
use Rattle.net_octets.specs.Octets.{part}
use Rattle.ipv4_head.specs.Sets.{Part, start_of, end_of, do_share, do_clash}
use Rattle.ipv4_reasm.specs.Areas.{Fits, Gathered, Gathers, with_head, with_kept, with_octets}
use Rattle.ipv4_reasm.proofs.Clashing.{hole_then, holes_kept, told_kept}
use Rattle.ipv4_reasm.proofs.Gathering.{and_is, clash_flip, clash_share, none_in, of_all, same_truth}
use Rattle.ipv4_reasm.proofs.Holing.{fill_rise}

-- octets before those that are put in, those that are, and those behind
pub part_before : (xs ys : List ℕ) (s n b : ℕ) → s + n ≤ b → b ≤ length xs → take n (drop s (take b xs ++ ys)) ≡ take n (drop s xs)
part_before [] ys s zero b low high = refl
part_before [] ys s (suc n) b low high = absurd (omega arith)
part_before (x ∷ xs) ys zero zero b low high = refl
part_before (x ∷ xs) ys zero (suc n) zero low high = absurd (omega arith)
part_before (x ∷ xs) ys zero (suc n) (suc b) low high = ap (λ (l : List ℕ). x ∷ l) (part_before xs ys 0 n b (omega arith) (omega arith))
part_before (x ∷ xs) ys (suc s) n zero low high = absurd (omega arith)
part_before (x ∷ xs) ys (suc s) n (suc b) low high = part_before xs ys s n b (omega arith) (omega arith)

drop_past : (xs ys : List ℕ) (k : ℕ) → drop (length xs + k) (xs ++ ys) ≡ drop k ys
drop_past [] ys k = ap (λ n. drop n ys) (zero-add k)
drop_past (x ∷ xs) ys k = let e : length {A = ℕ} (x ∷ xs) + k ≡ suc (length xs + k) = omega arith in ap (λ n. drop n (x ∷ xs ++ ys)) e ∙ drop_past xs ys k

part_behind : (xs front : List ℕ) (s e : ℕ) → length front ≡ e → e ≤ s → drop s (front ++ drop e xs) ≡ drop s xs
part_behind xs front s e long low =
    let split : s ≡ length front + (s - e) = omega arith in
    ap (λ n. drop n (front ++ drop e xs)) split ∙ drop_past front (drop e xs) (s - e) ∙ drop-drop (s - e) e xs ∙ ap (λ n. drop n xs) (let r : e + (s - e) ≡ s = omega arith in r)

front_long : (xs ys : List ℕ) (b : ℕ) → b ≤ length xs → length (take b xs ++ ys) ≡ b + length ys
front_long xs ys b fits = length-append (take b xs) ys ∙ ap (λ n. n + length ys) (length-take-le b xs fits)

part_itself : (xs ys rest : List ℕ) (b : ℕ) → b ≤ length xs → take (length ys) (drop b (take b xs ++ ys ++ rest)) ≡ ys
part_itself xs ys rest b fits =
    let e : b ≡ length (take b xs) + 0 = let l = length-take-le b xs fits in omega arith in
    ap (λ (l : List ℕ). take (length ys) (drop b l)) (append_assoc (take b xs) ys rest)
    ∙ ap (λ n. take (length ys) (drop n (take b xs ++ (ys ++ rest)))) e
    ∙ ap (take (length ys)) (drop_past (take b xs) (ys ++ rest) 0)
    ∙ take_at ys rest (length ys) refl

apart_from : (p q : Part) → (do_share p q ≡ true → ⊥) → (end_of q ≤ start_of p) ⊎ (end_of p ≤ start_of q)
apart_from p q h =
    elim (cases_lt (start_of p) (end_of q)) [
      | inl a ↦ elim (cases_lt (start_of q) (end_of p)) [
        | inl b ↦ absurd (h (and_is (ltb (start_of p) (end_of q)) (ltb (start_of q) (end_of p)) (lt-ltb (start_of p) (end_of q) a)
            (lt-ltb (start_of q) (end_of p) b)))
        | inr b ↦ inr b
      ]
      | inr a ↦ inl a
    ]

octets_kept : (g : Gathered) (parts : List Part) (p : Part) → Gathers g parts → Fits p → list_any (do_clash p) parts ≡ false
    → (q : Part) → Contains (parts ++ p ∷ []) q → part (with_octets g p).octets (start_of q) (length q.body) ≡ q.body
octets_kept g parts p holds fits none =
    let size = holds.room in
    let end = fits.end in
    of_all (λ q. part (with_octets g p).octets (start_of q) (length q.body) ≡ q.body) parts p
    (λ q c.
    elim (apart_from p q (λ share. none_in p parts q none c (clash_share p q share))) [
      | inl before ↦
          ap (λ (l : List ℕ). take (length q.body) (drop (start_of q) l)) (append_assoc (take (start_of p) g.octets) p.body (drop (end_of p) g.octets))
          ∙ part_before g.octets (p.body ++ drop (end_of p) g.octets) (start_of q) (length q.body) (start_of p) before (omega arith)
          ∙ holds.octets q c
      | inr behind ↦
          ap (take (length q.body)) (part_behind g.octets (take (start_of p) g.octets ++ p.body) (start_of q) (end_of p) (front_long g.octets p.body (start_of p) (omega arith)) behind)
          ∙ holds.octets q c
    ])
    (part_itself g.octets p.body (drop (end_of p) g.octets) (start_of p) (omega arith))

room_kept : (g : Gathered) (parts : List Part) (p : Part) → Gathers g parts → Fits p → length (with_octets g p).octets ≡ 65535
room_kept g parts p holds fits =
    let size = holds.room in
    let end = fits.end in
    let front = front_long g.octets p.body (start_of p) (omega arith) in
    let rest = length-drop (end_of p) g.octets in
    length-append (take (start_of p) g.octets ++ p.body) (drop (end_of p) g.octets) ∙ omega arith

top_kept : (g : Gathered) (parts : List Part) (p : Part) → Gathers g parts → Fits p → (q : Part) × (Contains (parts ++ p ∷ []) q × (end_of q ≡ max g.top (end_of p)))
top_kept g parts p holds fits =
    let some = fits.carries in
    elim (cases_lt (end_of p) g.top) [
      | inl less ↦ let q = holds.top (omega arith) in let at = q.1.1 in (q.0, (Contains-append_left parts (p ∷ []) q.0 q.1.0, omega arith))
      | inr more ↦ (p, (Contains-push parts p, omega arith))
    ]

-- no two parts are at the start
first_alone : (parts : List Part) (p q : Part) → list_any (do_clash p) parts ≡ false → Fits p → Fits q → Contains parts q → p.place ≡ 0 → q.place ≡ 0 → ⊥
first_alone parts p q none fits as_well c at_start too =
    let some = fits.carries in
    let any = as_well.carries in
    none_in p parts q none c (clash_share p q (and_is (ltb (start_of p) (end_of q)) (ltb (start_of q) (end_of p)) (lt-ltb (start_of p) (end_of q) (omega arith))
    (lt-ltb (start_of q) (end_of p) (omega arith))))

pub kept_gathers : (g : Gathered) (parts : List Part) (p : Part) → Gathers g parts → Fits p → list_any (do_clash p) parts ≡ false → Gathers (with_kept g p) (parts ++ p ∷ [])
kept_gathers g parts p holds fits none = by_start (eqb p.place 0) refl
  where
    with_first : (life : ℕ) (head : List ℕ) → ((q : Part) → Contains (parts ++ p ∷ []) q → q.place ≡ 0 → (head ≡ q.head) × (life ≡ q.life)) → Gathers
        (record (with_octets g p) { life = life; head = head }) (parts ++ p ∷ [])
    with_first life head first = record {
      room = room_kept g parts p holds fits;
      octets = octets_kept g parts p holds fits none;
      rise = fill_rise 0 p g.holes fits.carries (let end = fits.end in omega arith) holds.rise;
      holes = holes_kept 0 g.holes parts p fits.carries holds.rise holds.holes (hole_then g parts p holds fits none);
      told = λ u. told_kept u g.holes parts p (holds.told u);
      below = of_all (λ q. end_of q ≤ max g.top (end_of p)) parts p (λ q c. let b = holds.below q c in omega arith) (omega arith);
      top = λ _. top_kept g parts p holds fits;
      first = first;
      fits = of_all Fits parts p holds.fits fits;
      apart = all_pairs_push (λ a b. do_clash a b ≡ false) parts p holds.apart (λ k d small. same_truth (do_clash (get_or parts k d) p) false
          (λ h. absurd (none_in p parts (get_or parts k d) none (Contains-get_or parts k d small) (clash_flip p (get_or parts k d) h))) (λ h. cc));
    }

    by_start : (b : Bool) → eqb p.place 0 ≡ b → Gathers (cond b (with_head (with_octets g p) p) (with_octets g p)) (parts ++ p ∷ [])
    by_start true e = with_first p.life p.head (of_all (λ q. q.place ≡ 0 → (p.head ≡ q.head) × (p.life ≡ q.life)) parts p
        (λ q c at_start. absurd (first_alone parts p q none fits (holds.fits q c) c (eqb-true p.place 0 e) at_start)) (λ _. (refl, refl)))
    by_start false e = with_first g.life g.head (of_all (λ q. q.place ≡ 0 → (g.head ≡ q.head) × (g.life ≡ q.life)) parts p holds.first (λ at_start. absurd (cc (sym (eq-eqb p.place 0 at_start) ∙ e))))

-- The parts into which a datagram is cut join to it.
use Rattle.std.proofs.Common.{◌≡◌, ◌≢◌, ℕ, ◌+◌, ◌-◌, ◌*◌, ◌<◌, ◌≤◌, ◌⊎◌, ◌&&◌, ◌||◌, not, Bool, true, false, cond, zero, suc, inl, inr, List, length, take, drop, Some, None, refl, sym, ap}
use Rattle.std.proofs.Common.{◌∙◌, subst, arith, get_or, ltb}
use Rattle.std.proofs.Math.Nat.{mul-le-mul_right}
use Rattle.std.proofs.Math.Seq.{take-length}
use Rattle.std.proofs.lemmas.Bool.{cases_lt, ltb-true, ltb-false, lt-ltb, le-ltb}
use Rattle.std.proofs.lemmas.List.{length-take-le, length-drop}
use Rattle.std.proofs.lemmas.List.Elements.{Contains-get_or}
use Rattle.std.proofs.lemmas.Option.{cond_some}
use Rattle.net_octets.specs.Octets.{part}
use Rattle.ipv4_head.specs.Sets.{Part, Joins, start_of, end_of, do_clash}
use Rattle.ipv4_head.specs.Cuts.{AreCuts, room_in, units_in, cut_start, is_before_last, is_cut, cut_body, cut_of}

-- the k-th part, where there is one
abbrev cut_at : ℕ → Part → ℕ → Part
cut_at mtu whole k = record whole { place = k * units_in mtu; more = is_before_last mtu (length whole.body) k; body = cut_body mtu whole.body k }

-- a part before the last one carries whole units, and octets follow
pub record Before (mtu size k : ℕ) (p : Part) : Type 0 where
  pub more : p.more ≡ true
  pub end : end_of p ≡ 8 * (k * units_in mtu) + 8 * units_in mtu
  pub follow : room_in mtu + 8 * (k * units_in mtu) < size

-- the last one carries what is left
pub record Last (mtu size k : ℕ) (p : Part) : Type 0 where
  pub more : p.more ≡ false
  pub end : end_of p ≡ size
  pub fits : size ≤ room_in mtu + 8 * (k * units_in mtu)

-- what a part is, by its number
pub record Cut (mtu : ℕ) (body : List ℕ) (k : ℕ) (p : Part) : Type 0 where
  pub place : p.place ≡ k * units_in mtu
  pub within : start_of p ≤ length body
  pub after : (j : ℕ) → k ≡ suc j → room_in mtu + 8 * (j * units_in mtu) < length body
  pub ends : Before mtu (length body) k p ⊎ Last mtu (length body) k p
  pub stands : part body (start_of p) (length p.body) ≡ p.body

-- at least a unit fits
pub units_fit : (mtu : ℕ) → 28 ≤ mtu → (1 ≤ units_in mtu) × (8 * units_in mtu ≤ room_in mtu)
units_fit mtu fits = (omega arith, omega arith)

pub next_start : (mtu j : ℕ) → 8 * (suc j * units_in mtu) ≡ 8 * (j * units_in mtu) + 8 * units_in mtu
next_start mtu j = omega arith

forerunner : (mtu size k j : ℕ) → is_cut mtu size k ≡ true → k ≡ suc j → room_in mtu + 8 * (j * units_in mtu) < size
forerunner mtu size k j is e =
    let before : is_before_last mtu size j ≡ true = subst (λ n. is_cut mtu size n ≡ true) e is in
    let less = ltb-true (room_in mtu) (size - cut_start mtu j) before in
    omega arith

starts_within : (mtu size k : ℕ) → 28 ≤ mtu → is_cut mtu size k ≡ true → 8 * (k * units_in mtu) ≤ size
starts_within mtu size zero fits is = omega arith
starts_within mtu size (suc j) fits is = let f = forerunner mtu size (suc j) j is refl in let u = units_fit mtu fits in let n = next_start mtu j in omega arith

taken : (xs : List ℕ) (n : ℕ) → n ≤ length xs → take (length (take n xs)) xs ≡ take n xs
taken xs n h = ap (λ k. take k xs) (length-take-le n xs h)

cut_is : (mtu : ℕ) (whole : Part) (k : ℕ) → 28 ≤ mtu → is_cut mtu (length whole.body) k ≡ true → Cut mtu whole.body k (cut_at mtu whole k)
cut_is mtu whole k fits is =
    let start = 8 * (k * units_in mtu) in
    let rest = drop start whole.body in
    let long = length-drop start whole.body in
    let u = units_fit mtu fits in
    let within = starts_within mtu (length whole.body) k fits is in
    record {
      place = refl;
      within = within;
      after = λ j e. forerunner mtu (length whole.body) k j is e;
      ends = by_end mtu whole k within u.1 (is_before_last mtu (length whole.body) k) refl;
      stands = by_body mtu whole k within u.1 (is_before_last mtu (length whole.body) k) refl;
    }
  where
    by_end : (mtu : ℕ) (whole : Part) (k : ℕ) → 8 * (k * units_in mtu) ≤ length whole.body → 8 * units_in mtu ≤ room_in mtu → (b : Bool) → is_before_last mtu (length whole.body) k ≡ b
        → Before mtu (length whole.body) k (cut_at mtu whole k) ⊎ Last mtu (length whole.body) k (cut_at mtu whole k)
    by_end mtu whole k within fits true e =
        let start = 8 * (k * units_in mtu) in
        let rest = drop start whole.body in
        let long = length-drop start whole.body in
        let less = ltb-true (room_in mtu) (length whole.body - start) e in
        let size = length-take-le (8 * units_in mtu) rest (omega arith) in
        inl (record {
          more = e;
          end = ap (λ b. start + length (cond b (take (8 * units_in mtu) rest) rest)) e ∙ ap (λ n. start + n) size;
          follow = omega arith;
        })
    by_end mtu whole k within fits false e =
        let start = 8 * (k * units_in mtu) in
        let rest = drop start whole.body in
        let long = length-drop start whole.body in
        let left = ltb-false (room_in mtu) (length whole.body - start) e in
        inr (record {
          more = e;
          end = ap (λ b. start + length (cond b (take (8 * units_in mtu) rest) rest)) e ∙ omega arith;
          fits = omega arith;
        })

    by_body : (mtu : ℕ) (whole : Part) (k : ℕ) → 8 * (k * units_in mtu) ≤ length whole.body → 8 * units_in mtu ≤ room_in mtu → (b : Bool) → is_before_last mtu (length whole.body) k ≡ b
        → part whole.body (8 * (k * units_in mtu)) (length (cut_body mtu whole.body k)) ≡ cut_body mtu whole.body k
    by_body mtu whole k within fits true e =
        let start = 8 * (k * units_in mtu) in
        let rest = drop start whole.body in
        let long = length-drop start whole.body in
        let less = ltb-true (room_in mtu) (length whole.body - start) e in
        rw e (taken rest (8 * units_in mtu) (omega arith))
    by_body mtu whole k within fits false e =
        rw e (take-length (drop (8 * (k * units_in mtu)) whole.body))

-- a part that is among those of a datagram, with its number
pub cut_told : (mtu : ℕ) (whole : Part) (k : ℕ) (p : Part) → 28 ≤ mtu → cut_of mtu whole k ≡ Some p → Cut mtu whole.body k p
cut_told mtu whole k p fits is =
    let told = cond_some (is_cut mtu (length whole.body) k) (cut_at mtu whole k) p is in
    subst (λ (q : Part). Cut mtu whole.body k q) told.1 (cut_is mtu whole k fits told.0)

-- of two parts the earlier is before the last, and ends where the later begins or before
later_starts : (mtu : ℕ) (body : List ℕ) (a b : ℕ) (p q : Part) → Cut mtu body a p → Cut mtu body b q → a < b → (p.more ≡ true) × (end_of p ≤ start_of q) × (end_of p ≤ length body)
later_starts mtu body a zero p q one other less = absurd (omega arith)
later_starts mtu body a (suc j) p q one other less =
    let up = mul-le-mul_right {m = a} {n = j} (units_in mtu) (omega arith) in
    let fore = other.after j refl in
    let next = next_start mtu j in
    let place = other.place in
    elim one.ends [
      | inl before ↦ (before.more, let end = before.end in omega arith, let end = before.end in let follow = before.follow in let u : 8 * units_in mtu ≤ room_in mtu = omega arith in omega arith)
      | inr last ↦ absurd (let f = last.fits in omega arith)
    ]

-- no two clash
none_by : (s q l m : Bool) → (q ≡ false → l ≡ false) → ((s && false) || (false && not q) || (not q && l) || (false && m)) ≡ false
none_by true true l m h = refl
none_by true false l m h = ap (λ b. b || false) (h refl)
none_by false true l m h = refl
none_by false false l m h = ap (λ b. b || false) (h refl)

none_by_other : (s q l m : Bool) → (q ≡ false → l ≡ false) → ((false && s) || (not q && false) || (false && m) || (not q && l)) ≡ false
none_by_other s true l m h = refl
none_by_other s false l m h = h refl

free_of_later : (p q : Part) (size : ℕ) → p.more ≡ true → end_of p ≤ start_of q → end_of p ≤ size → (q.more ≡ false → end_of q ≡ size) → (do_clash p q ≡ false) × (do_clash q p ≡ false)
free_of_later p q size more apart within end = (
  rw (more, le-ltb (start_of q) (end_of p) apart) (none_by (ltb (start_of p) (end_of q)) q.more (ltb (end_of q) (end_of p)) (ltb (end_of p) (end_of q))
      (λ e. le-ltb (end_of q) (end_of p) (let is = end e in omega arith))),
  rw (more, le-ltb (start_of q) (end_of p) apart) (none_by_other (ltb (start_of p) (end_of q)) q.more (ltb (end_of q) (end_of p)) (ltb (end_of p) (end_of q))
      (λ e. le-ltb (end_of q) (end_of p) (let is = end e in omega arith))),
)

ends_with : (mtu : ℕ) (body : List ℕ) (k : ℕ) (p : Part) → Cut mtu body k p → p.more ≡ false → end_of p ≡ length body
ends_with mtu body k p cut e = elim cut.ends [ inl before ↦ cc (sym before.more ∙ e) | inr last ↦ last.end ]

no_clash : (mtu : ℕ) (body : List ℕ) (a b : ℕ) (p q : Part) → Cut mtu body a p → Cut mtu body b q → a ≢ b → do_clash p q ≡ false
no_clash mtu body a b p q one other apart =
    elim (cases_lt a b) [
      | inl less ↦ let l = later_starts mtu body a b p q one other less in (free_of_later p q (length body) l.0 l.1 l.2 (ends_with mtu body b q other)).0
      | inr more ↦ let l = later_starts mtu body b a q p other one (omega arith) in (free_of_later q p (length body) l.0 l.1 l.2 (ends_with mtu body a p one)).1
    ]

-- there is a last part, from any part on
last_after : (fuel mtu size k : ℕ) → 28 ≤ mtu → is_cut mtu size k ≡ true → size ≤ room_in mtu + 8 * (k * units_in mtu) + fuel → (j : ℕ) ×
    ((is_cut mtu size j ≡ true) × (is_before_last mtu size j ≡ false))
last_after zero mtu size k fits is left = (k, (is, le-ltb (room_in mtu) (size - cut_start mtu k) (omega arith)))
last_after (suc fuel) mtu size k fits is left =
    elim (cases_lt (room_in mtu) (size - cut_start mtu k)) [
      | inl less ↦ let u = units_fit mtu fits in let n = next_start mtu k in last_after fuel mtu size (suc k) fits (lt-ltb (room_in mtu) (size - cut_start mtu k) less) (omega arith)
      | inr more ↦ (k, (is, le-ltb (room_in mtu) (size - cut_start mtu k) more))
    ]

-- each octet is in a part
octet_after : (fuel mtu : ℕ) (whole : Part) (k o : ℕ) → 28 ≤ mtu → is_cut mtu (length whole.body) k ≡ true → start_of (cut_at mtu whole k) ≤ o → o < length whole.body → o < 8 *
    (k * units_in mtu) + fuel
    → (j : ℕ) × ((is_cut mtu (length whole.body) j ≡ true) × (start_of (cut_at mtu whole j) ≤ o) × (o < end_of (cut_at mtu whole j)))
octet_after zero mtu whole k o fits is from within left = absurd (omega arith)
octet_after (suc fuel) mtu whole k o fits is from within left =
    let cut = cut_is mtu whole k fits is in
    elim cut.ends [
      | inl before ↦ elim (cases_lt o (end_of (cut_at mtu whole k))) [
        | inl in_it ↦ (k, (is, from, in_it))
        | inr past ↦
            let u = units_fit mtu fits in
            let n = next_start mtu k in
            let end = before.end in
            octet_after fuel mtu whole (suc k) o fits before.more (omega arith) within (omega arith)
      ]
      | inr last ↦ (k, (is, from, let end = last.end in omega arith))
    ]

cut_is_there : (mtu : ℕ) (whole : Part) (k : ℕ) → is_cut mtu (length whole.body) k ≡ true → cut_of mtu whole k ≡ Some (cut_at mtu whole k)
cut_is_there mtu whole k is = ap (λ b. cond b (Some (cut_at mtu whole k)) None) is

pub joined : (mtu : ℕ) (whole : Part) (parts : List Part) → 28 ≤ mtu → AreCuts mtu whole parts → Joins parts whole.body
joined mtu whole parts fits cuts =
    let last = last_after (length whole.body) mtu (length whole.body) 0 fits refl (omega arith) in
    record {
      apart = λ i j d less within.
          let p = get_or parts i d in
          let q = get_or parts j d in
          let a = cuts.only p (Contains-get_or parts i d (omega arith)) in
          let b = cuts.only q (Contains-get_or parts j d within) in
          let one = cut_told mtu whole a.0 p fits a.1 in
          let other = cut_told mtu whole b.0 q fits b.1 in
          no_clash mtu whole.body a.0 b.0 p q one other (λ e. cuts.once i j d less within (one.place ∙ ap (λ n. n * units_in mtu) e ∙ sym other.place));
      last = (
        cut_at mtu whole last.0,
        (
          cuts.each last.0 (cut_at mtu whole last.0) (cut_is_there mtu whole last.0 last.1.0),
          last.1.1,
          ends_with mtu whole.body last.0 (cut_at mtu whole last.0) (cut_is mtu whole last.0 fits last.1.0) last.1.1,
        ),
      );
      stands = λ p in_parts. let a = cuts.only p in_parts in (cut_told mtu whole a.0 p fits a.1).stands;
      whole = λ o within.
          let at = octet_after (suc o) mtu whole 0 o fits refl (omega arith) within (omega arith) in
          (cut_at mtu whole at.0, (cuts.each at.0 (cut_at mtu whole at.0) (cut_is_there mtu whole at.0 at.1.0), at.1.1, at.1.2));
    }

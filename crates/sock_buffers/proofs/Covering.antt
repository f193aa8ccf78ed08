-- Ranges of places, past some and with one more.
use Rattle.std.proofs.Common.{◌≡◌, ℕ, ◌+◌, ◌-◌, ◌<◌, ◌≤◌, Bool, true, false, ◌&&◌, ◌||◌, nat_lt, nat_le, nat_eq, List, [], ◌∷◌, min, max, if◌then◌else◌, arith, refl, sym, ap, ◌∙◌}
use Rattle.std.proofs.lemmas.Bool.Decides.{nat_tests}
use Rattle.sock_buffers.specs.Kept.{AreApart, covers, first_covered, has_place, hull, past, range, span, with_range}
use Rattle.sock_buffers.specs.declared.ranges.KeptRange.{KeptRange}

passed : (count place start end : ℕ) → nat_le end count ≡ true → (nat_le start (count + place) && nat_lt (count + place) end) ≡ false
passed count place start end is = grind (arith, nat_tests)

shifted : (count place start end : ℕ) → (nat_le (start - count) place && nat_lt place (end - count)) ≡ (nat_le start (count + place) && nat_lt (count + place) end)
shifted count place start end = grind (arith, nat_tests)

pub covers-past : (count : ℕ) (rs : List KeptRange) (place : ℕ) → covers (past count rs) place ≡ covers rs (count + place)
covers-past count [] place = refl
covers-past count (r ∷ rs) place = by_test (covers-past count rs place) (nat_le r.end count) refl
  where
    by_test : covers (past count rs) place ≡ covers rs (count + place) → (b : Bool) → nat_le r.end count ≡ b → covers (if b then past count rs else range (r.start - count)
        (r.end - count) ∷ past count rs) place ≡ covers (r ∷ rs) (count + place)
    by_test rest true is = rest ∙ ap (λ (t : Bool). t || covers rs (count + place)) (sym (passed count place r.start r.end is))
    by_test rest false is = (λ i. shifted count place r.start r.end i || rest i)

pub span-past : (count : ℕ) (rs : List KeptRange) → span (past count rs) ≡ span rs - count
span-past count [] = omega arith
span-past count (r ∷ rs) = by_test (span-past count rs) (nat_le r.end count) refl
  where
    by_test : span (past count rs) ≡ span rs - count → (b : Bool) → nat_le r.end count ≡ b → span (if b then past count rs else range (r.start - count) (r.end - count)
        ∷ past count rs) ≡ max r.end (span rs) - count
    by_test rest true is = let less : r.end ≤ count = grind (arith, nat_tests) in omega arith
    by_test rest false is = omega arith

pub apart_less : (from low : ℕ) (rs : List KeptRange) → low ≤ from → AreApart from rs → AreApart low rs
apart_less from low [] less apart = tt
apart_less from low (r ∷ rs) less apart = (omega (arith, apart.0), apart.1, apart.2)

pub apart_past : (count from : ℕ) (rs : List KeptRange) → AreApart from rs → AreApart (from - count) (past count rs)
apart_past count from [] apart = tt
apart_past count from (r ∷ rs) apart = by_test (apart_past count (r.end + 1) rs apart.2) (nat_le r.end count) refl
  where
    by_test : AreApart (r.end + 1 - count) (past count rs) → (b : Bool) → nat_le r.end count ≡ b → AreApart (from - count) (if b then past count rs else range (r.start - count)
        (r.end - count) ∷ past count rs)
    by_test rest true is = apart_less (r.end + 1 - count) (from - count) (past count rs) (omega (arith, apart.0, apart.1)) rest
    by_test rest false is =
        let more : count < r.end = grind (arith, nat_tests) in
        (omega (arith, apart.0), omega (arith, apart.1), apart_less (r.end + 1 - count) (r.end - count + 1) (past count rs) (omega arith) rest)

-- no place past all of them is covered, nor one before all of them
has_not : (place start end : ℕ) → end ≤ place → (nat_le start place && nat_lt place end) ≡ false
has_not place start end beyond = grind (arith, nat_tests)

has_not_yet : (place start end : ℕ) → place < start → (nat_le start place && nat_lt place end) ≡ false
has_not_yet place start end before = grind (arith, nat_tests)

pub covers_none_past : (rs : List KeptRange) (place : ℕ) → span rs ≤ place → covers rs place ≡ false
covers_none_past [] place beyond = refl
covers_none_past (r ∷ rs) place beyond =
    (λ i. has_not place r.start r.end (omega arith) i || covers_none_past rs place (omega arith) i)

pub covers_none_before : (from : ℕ) (rs : List KeptRange) (place : ℕ) → AreApart from rs → place < from → covers rs place ≡ false
covers_none_before from [] place apart before = refl
covers_none_before from (r ∷ rs) place apart before =
    (λ i. has_not_yet place r.start r.end (omega (arith, apart.0)) i || covers_none_before (r.end + 1) rs place apart.2 (omega (arith, apart.0, apart.1)) i)

-- the first places are covered as far as they are counted, and the next isn't
has : (place end : ℕ) → place < end → (nat_le 0 place && nat_lt place end) ≡ true
has place end within = grind (arith, nat_tests)

pub first_are_covered : (rs : List KeptRange) (place : ℕ) → place < first_covered rs → covers rs place ≡ true
first_are_covered [] place within = absurd (omega arith)
first_are_covered (r ∷ rs) place within = grind (arith, nat_tests)

pub next_not_covered : (rs : List KeptRange) → AreApart 0 rs → covers rs (first_covered rs) ≡ false
next_not_covered [] apart = refl
next_not_covered (r ∷ rs) apart = by_test (nat_eq r.start 0) refl
  where
    by_test : (b : Bool) → nat_eq r.start 0 ≡ b → covers (r ∷ rs) (if b then r.end else 0) ≡ false
    by_test true is =
        (λ i. has_not r.end r.start r.end (omega arith) i || covers_none_before (r.end + 1) rs r.end apart.2 (omega arith) i)
    by_test false is =
        (λ i. has_not_yet 0 r.start r.end (grind (arith, nat_tests)) i || covers_none_before (r.end + 1) rs 0 apart.2 (omega arith) i)

pub first_within : (rs : List KeptRange) → first_covered rs ≤ span rs
first_within [] = omega arith
first_within (r ∷ rs) = grind (arith, nat_tests)

-- one more
in_hull : (place a b c d : ℕ) → nat_lt d a ≡ false → nat_lt b c ≡ false
    → (nat_le (min a c) place && nat_lt place (max b d)) ≡ ((nat_le a place && nat_lt place b) || (nat_le c place && nat_lt place d))
in_hull place a b c d one two = grind (arith, nat_tests)

or_last : (a b c : Bool) → (a || (b || c)) ≡ ((b || c) || a)
or_last true true c = refl
or_last true false true = refl
or_last true false false = refl
or_last false true c = refl
or_last false false true = refl
or_last false false false = refl

or_group : (a b c : Bool) → (a || (b || c)) ≡ ((a || b) || c)
or_group true b c = refl
or_group false b c = refl

or_swap : (a b c : Bool) → (a || (b || c)) ≡ ((b || a) || c)
or_swap true true c = refl
or_swap true false c = refl
or_swap false true c = refl
or_swap false false c = refl

pub covers-with_range : (rs : List KeptRange) (new : KeptRange) (place : ℕ) → covers (with_range rs new) place ≡ (covers rs place || has_place place new)
covers-with_range [] new place = or_none (has_place place new)
  where
    or_none : (a : Bool) → (a || false) ≡ a
    or_none true = refl
    or_none false = refl
covers-with_range (r ∷ rs) new place = by_tests (λ n. covers-with_range rs n place) (nat_lt new.end r.start) (nat_lt r.end new.start) refl refl
  where
    by_tests : ((n : KeptRange) → covers (with_range rs n) place ≡ (covers rs place || has_place place n)) → (b c : Bool) → nat_lt new.end r.start ≡ b → nat_lt r.end new.start ≡ c
        → covers (if b then new ∷ r ∷ rs else (if c then r ∷ with_range rs new else with_range rs (hull r new))) place ≡ ((has_place place r || covers rs place) || has_place place new)
    by_tests rest true c one two = or_last (has_place place new) (has_place place r) (covers rs place)
    by_tests rest false true one two = ap (λ (t : Bool). has_place place r || t) (rest new) ∙ or_group (has_place place r) (covers rs place) (has_place place new)
    by_tests rest false false one two =
        rest (hull r new)
        ∙ ap (λ (t : Bool). covers rs place || t) (in_hull place r.start r.end new.start new.end one two)
        ∙ or_swap (covers rs place) (has_place place r) (has_place place new)

pub span-with_range : (rs : List KeptRange) (new : KeptRange) → span (with_range rs new) ≡ max new.end (span rs)
span-with_range [] new = refl
span-with_range (r ∷ rs) new = by_tests (λ n. span-with_range rs n) (nat_lt new.end r.start) (nat_lt r.end new.start)
  where
    by_tests : ((n : KeptRange) → span (with_range rs n) ≡ max n.end (span rs)) → (b c : Bool) → span
        (if b then new ∷ r ∷ rs else (if c then r ∷ with_range rs new else with_range rs (hull r new))) ≡ max new.end (max r.end (span rs))
    by_tests rest true c = refl
    by_tests rest false true = let more = rest new in omega arith
    by_tests rest false false = let more = rest (hull r new) in omega arith

pub apart_with : (from : ℕ) (rs : List KeptRange) (new : KeptRange) → AreApart from rs → from ≤ new.start → new.start < new.end → AreApart from (with_range rs new)
apart_with from [] new apart low some = (low, some, tt)
apart_with from (r ∷ rs) new apart low some =
    by_tests (λ f n a l. apart_with f rs n a l) (nat_lt new.end r.start) (nat_lt r.end new.start) refl refl
  where
    by_tests : ((f : ℕ) (n : KeptRange) → AreApart f rs → f ≤ n.start → n.start < n.end → AreApart f (with_range rs n)) → (b c : Bool) → nat_lt new.end r.start ≡ b → nat_lt r.end new.start ≡ c
        → AreApart from (if b then new ∷ r ∷ rs else (if c then r ∷ with_range rs new else with_range rs (hull r new)))
    by_tests rest true c one two = (low, some, (grind (arith, nat_tests), apart.1, apart.2))
    by_tests rest false true one two = (apart.0, apart.1, rest (r.end + 1) new apart.2 (grind (arith, nat_tests)) some)
    by_tests rest false false one two =
        rest from (hull r new) (apart_less (r.end + 1) from rs (omega (arith, apart.0, apart.1)) apart.2) (omega (arith, apart.0)) (omega arith)

-- nothing is past all of them, and all is past none
pub past_all : (count : ℕ) (rs : List KeptRange) → span rs ≤ count → past count rs ≡ []
past_all count [] beyond = refl
past_all count (r ∷ rs) beyond =
    let over : nat_le r.end count ≡ true = grind (arith, nat_tests) in rw over (past_all count rs (omega arith))

pub past_none : (from : ℕ) (rs : List KeptRange) → AreApart from rs → past 0 rs ≡ rs
past_none from [] apart = refl
past_none from (r ∷ rs) apart =
    let some = apart.1 in
    let over : nat_le r.end 0 ≡ false = grind (arith, nat_tests) in
    let start : r.start - 0 ≡ r.start = omega arith in
    let end : r.end - 0 ≡ r.end = omega arith in
    rw over (λ i. range (start i) (end i) ∷ past_none (r.end + 1) rs apart.2 i)

-- The kept octets, place by place.
use Rattle.std.proofs.Common.{◌≡◌, ℕ, suc, zero, ◌+◌, ◌-◌, ◌<◌, ◌≤◌, Bool, true, false, ◌&&◌, ◌||◌, not, nat_lt, nat_le, nat_eq, List, [], ◌∷◌, ◌++◌, length, take, drop, take-add, Option}
use Rattle.std.proofs.Common.{None, Some, min, max, if◌then◌else◌, IsSome, ◌↔◌, subst, rules, arith, refl, sym, ap, ◌∙◌, set, drop-drop, length-drop, length-take, length-append, add-one}
use Rattle.std.specs.List.{slice_get}
use Rattle.std.proofs.lemmas.Bool.Decides.{nat_tests}
use Rattle.std.proofs.lemmas.Option.{slice_get_past}
use Rattle.std.proofs.lemmas.List.{take_all, drop-take}
use Rattle.circular_buffer.proofs.Places.{slice_get-drop, slice_get-take, slice_get-append_left, slice_get-append_right, slice_get-set_same, slice_get-set_other, slice_get-some}
use Rattle.sock_buffers.specs.Kept.{Octets, covers, first_covered, first_octets, kept_or, masked, octet_at, octets_with, past, span, uncovered, with_range, written_at, AreApart, range}
use Rattle.sock_buffers.specs.declared.ranges.KeptRange.{KeptRange}
use Rattle.sock_buffers.specs.Upward.{Upward, after_join, after_keep, after_take, fitting, keeps_none, range_of, upward, within}
use Rattle.sock_buffers.proofs.Covering.{past_all, past_none, covers-past, covers-with_range, covers_none_past, first_are_covered, first_within, next_not_covered}

-- two lists with the same octets
pub same_octets : (os ps : Octets) → length os ≡ length ps → ((place : ℕ) → octet_at os place ≡ octet_at ps place) → os ≡ ps
same_octets [] [] long each = refl
same_octets [] (p ∷ ps) long each = absurd (omega arith)
same_octets (o ∷ os) [] long each = absurd (omega arith)
same_octets (o ∷ os) (p ∷ ps) long each = (λ i. each 0 i ∷ same_octets os ps (omega arith) (λ place. each (suc place)) i)

pub same_items : (xs ys : List ℕ) → length xs ≡ length ys → ((place : ℕ) → slice_get xs place ≡ slice_get ys place) → xs ≡ ys
same_items [] [] long each = refl
same_items [] (y ∷ ys) long each = absurd (omega arith)
same_items (x ∷ xs) [] long each = absurd (omega arith)
same_items (x ∷ xs) (y ∷ ys) long each =
    let first : ◌≡◌ {A = Option ℕ} (Some x) (Some y) = each 0 in
    let same : x ≡ y = cc in
    (λ i. same i ∷ same_items xs ys (omega arith) (λ place. each (suc place)) i)

pub octet_at-masked : (rs : List KeptRange) (from : ℕ) (xs : List ℕ) (place : ℕ) → octet_at (masked rs from xs) place ≡ (if covers rs (from + place) then slice_get xs place else None)
octet_at-masked rs from [] place = none (covers rs (from + place))
  where
    none : (b : Bool) → ◌≡◌ {A = Option ℕ} None (if b then None else None)
    none true = refl
    none false = refl
octet_at-masked rs from (x ∷ xs) zero = let at : from + 0 ≡ from = omega arith in rw at refl
octet_at-masked rs from (x ∷ xs) (suc place) = let at : from + suc place ≡ suc from + place = omega arith in rw at (octet_at-masked rs (suc from) xs place)

pub length-masked : (rs : List KeptRange) (from : ℕ) (xs : List ℕ) → length (masked rs from xs) ≡ length xs
length-masked rs from [] = refl
length-masked rs from (x ∷ xs) = let more = length-masked rs (suc from) xs in omega arith

pub octet_at-drop : (n : ℕ) (os : Octets) (place : ℕ) → octet_at (drop n os) place ≡ octet_at os (n + place)
octet_at-drop zero os place = let none : 0 + place ≡ place = omega arith in rw none refl
octet_at-drop (suc n) [] place = refl
octet_at-drop (suc n) (o ∷ os) place = let one : suc n + place ≡ suc (n + place) = omega arith in rw one (octet_at-drop n os place)

-- the first octets are those of the list, where all are covered
pub first_octets-masked : (rs : List KeptRange) (from : ℕ) (xs : List ℕ) (n : ℕ) → n ≤ length xs → ((place : ℕ) → place < n → covers rs (from + place) ≡ true)
    → first_octets (masked rs from xs) n ≡ take n xs
first_octets-masked rs from xs zero long all = refl
first_octets-masked rs from [] (suc n) long all = refl
first_octets-masked rs from (x ∷ xs) (suc n) long all =
    let at : from + 0 ≡ from = omega arith in
    let here : covers rs from ≡ true = rw at at (all 0 (omega arith)) in
    let rest = first_octets-masked rs (suc from) xs n (omega arith) (λ place less. let one : from + suc place ≡ suc from + place = omega arith in rw one at (all (suc place) (omega arith))) in
    rw here (ap (λ (l : List ℕ). x ∷ l) rest)

-- what comes where nothing was kept
abbrev pub kept_else : Option ℕ → Option ℕ → Option ℕ
kept_else None o = o
kept_else (Some x) o = Some x

-- the octet at a place among octets from a place on
abbrev pub more_at : ℕ → List ℕ → ℕ → Option ℕ
more_at zero octets place = slice_get octets place
more_at (suc from) octets zero = None
more_at (suc from) octets (suc place) = more_at from octets place

pub more_from : (from : ℕ) (octets : List ℕ) (j : ℕ) → more_at from octets (from + j) ≡ slice_get octets j
more_from zero octets j = let none : 0 + j ≡ j = omega arith in rw none refl
more_from (suc from) octets j = let one : suc from + j ≡ suc (from + j) = omega arith in rw one (more_from from octets j)

pub more_before : (from : ℕ) (octets : List ℕ) (place : ℕ) → place < from → more_at from octets place ≡ None
more_before zero octets place before = absurd (omega arith)
more_before (suc from) octets zero before = refl
more_before (suc from) octets (suc place) before = more_before from octets place (omega arith)

else_none : (o : Option ℕ) → o ≡ kept_else o None
else_none None = refl
else_none (Some x) = refl

else_some : (o : Option ℕ) (x : ℕ) → kept_or o x ≡ kept_else o (Some x)
else_some None x = refl
else_some (Some y) x = refl

pub octet_at-octets_with : (kept : Octets) (from : ℕ) (octets : List ℕ) (place : ℕ)
    → octet_at (octets_with kept from octets) place ≡ kept_else (octet_at kept place) (more_at from octets place)
octet_at-octets_with kept zero [] place = else_none (octet_at kept place)
octet_at-octets_with [] zero (x ∷ xs) zero = refl
octet_at-octets_with [] zero (x ∷ xs) (suc place) = octet_at-octets_with [] zero xs place
octet_at-octets_with (o ∷ os) zero (x ∷ xs) zero = else_some o x
octet_at-octets_with (o ∷ os) zero (x ∷ xs) (suc place) = octet_at-octets_with os zero xs place
octet_at-octets_with [] (suc from) octets zero = refl
octet_at-octets_with [] (suc from) octets (suc place) = octet_at-octets_with [] from octets place
octet_at-octets_with (o ∷ os) (suc from) octets zero = else_none o
octet_at-octets_with (o ∷ os) (suc from) octets (suc place) = octet_at-octets_with os from octets place

pub length-octets_with : (kept : Octets) (from : ℕ) (octets : List ℕ) → 0 < length octets → length (octets_with kept from octets) ≡ max (from + length octets) (length kept)
length-octets_with kept zero [] some = absurd (omega arith)
length-octets_with [] zero (x ∷ []) some = omega arith
length-octets_with [] zero (x ∷ y ∷ xs) some = let more = length-octets_with [] zero (y ∷ xs) (omega arith) in omega arith
length-octets_with (o ∷ os) zero (x ∷ []) some = omega arith
length-octets_with (o ∷ os) zero (x ∷ y ∷ xs) some = let more = length-octets_with os zero (y ∷ xs) (omega arith) in omega arith
length-octets_with [] (suc from) octets some = let more = length-octets_with [] from octets some in omega arith
length-octets_with (o ∷ os) (suc from) octets some = let more = length-octets_with os from octets some in omega arith

-- a place past the written ones, and one that is written now
next_same : (place from at : ℕ) → (place ≡ from + at → ⊥) → nat_lt place (from + (at + 1)) ≡ nat_lt place (from + at)
next_same place from at other = grind (arith, nat_tests)

pub written_other : (rs : List KeptRange) (held ahead at : ℕ) (octets old : List ℕ) (place : ℕ) → (place ≡ held + ahead + at → ⊥)
    → written_at rs held ahead (at + 1) octets old place ≡ written_at rs held ahead at octets old place
written_other rs held ahead at octets old place other =
    ap (λ (t : Bool). if nat_le (held + ahead) place && t && not (covers rs (place - held)) then slice_get octets (place - (held + ahead)) else slice_get old place)
    (next_same place (held + ahead) at other)

pub written_here : (rs : List KeptRange) (held ahead at n : ℕ) (octets old : List ℕ) → at < n → covers rs (ahead + at) ≡ false
    → written_at rs held ahead n octets old (held + ahead + at) ≡ slice_get octets at
written_here rs held ahead at n octets old less free =
    let low : nat_le (held + ahead) (held + ahead + at) ≡ true = grind (arith, nat_tests) in
    let high : nat_lt (held + ahead + at) (held + ahead + n) ≡ true = grind (arith, nat_tests) in
    let place : held + ahead + at - held ≡ ahead + at = omega arith in
    let index : held + ahead + at - (held + ahead) ≡ at = omega arith in
    rw (low, high, place, free, index) refl

pub written_not : (rs : List KeptRange) (held ahead n : ℕ) (octets old : List ℕ) (place : ℕ) → covers rs (place - held) ≡ true
    → written_at rs held ahead n octets old place ≡ slice_get old place
written_not rs held ahead n octets old place full = rw full (no (nat_le (held + ahead) place && nat_lt place (held + ahead + n)))
  where
    no : (b : Bool) → (if b && false then slice_get octets (place - (held + ahead)) else slice_get old place) ≡ slice_get old place
    no true = refl
    no false = refl

pub written_before : (rs : List KeptRange) (held ahead n : ℕ) (octets old : List ℕ) (place : ℕ) → place < held + ahead
    → written_at rs held ahead n octets old place ≡ slice_get old place
written_before rs held ahead n octets old place before =
    let low : nat_le (held + ahead) place ≡ false = grind (arith, nat_tests) in rw low refl

pub written_after : (rs : List KeptRange) (held ahead n : ℕ) (octets old : List ℕ) (place : ℕ) → held + ahead + n ≤ place
    → written_at rs held ahead n octets old place ≡ slice_get old place
written_after rs held ahead n octets old place after =
    let high : nat_lt place (held + ahead + n) ≡ false = grind (arith, nat_tests) in
    rw high (no (nat_le (held + ahead) place))
  where
    no : (b : Bool) → (if b && false && not (covers rs (place - held)) then slice_get octets (place - (held + ahead)) else slice_get old place) ≡ slice_get old place
    no true = refl
    no false = refl

-- one octet more is written, or passed over
pub step_set : (rs : List KeptRange) (held ahead at x : ℕ) (octets old items after : List ℕ) → held + ahead + at < length items
    → covers rs (ahead + at) ≡ false → slice_get octets at ≡ Some x → after ≡ set items (held + ahead + at) x
    → ((place : ℕ) → slice_get items place ≡ written_at rs held ahead at octets old place)
    → (place : ℕ) → slice_get after place ≡ written_at rs held ahead (at + 1) octets old place
step_set rs held ahead at x octets old items after within free there is each place = by_test (nat_eq place (held + ahead + at)) refl
  where
    by_test : (b : Bool) → nat_eq place (held + ahead + at) ≡ b → slice_get after place ≡ written_at rs held ahead (at + 1) octets old place
    by_test true same =
        let here : place ≡ held + ahead + at = grind (arith, nat_tests) in
        ap (λ (l : List ℕ). slice_get l place) is ∙ ap (λ n. slice_get (set items (held + ahead + at) x) n) here
        ∙ slice_get-set_same items (held + ahead + at) x within ∙ sym there
        ∙ sym (written_here rs held ahead at (at + 1) octets old (omega arith) free)
        ∙ ap (λ n. written_at rs held ahead (at + 1) octets old n) (sym here)
    by_test false other =
        let elsewhere : place ≡ held + ahead + at → ⊥ = grind (arith, nat_tests) in
        ap (λ (l : List ℕ). slice_get l place) is ∙ slice_get-set_other items (held + ahead + at) place x elsewhere
        ∙ each place ∙ sym (written_other rs held ahead at octets old place elsewhere)

pub step_kept : (rs : List KeptRange) (held ahead at : ℕ) (octets old items : List ℕ) → covers rs (ahead + at) ≡ true
    → ((place : ℕ) → slice_get items place ≡ written_at rs held ahead at octets old place)
    → (place : ℕ) → slice_get items place ≡ written_at rs held ahead (at + 1) octets old place
step_kept rs held ahead at octets old items full each place = by_test (nat_eq place (held + ahead + at)) refl
  where
    by_test : (b : Bool) → nat_eq place (held + ahead + at) ≡ b → slice_get items place ≡ written_at rs held ahead (at + 1) octets old place
    by_test true same =
        let here : place ≡ held + ahead + at = grind (arith, nat_tests) in
        let offset : place - held ≡ ahead + at = omega arith in
        let kept : covers rs (place - held) ≡ true = ap (covers rs) offset ∙ full in
        each place ∙ written_not rs held ahead at octets old place kept ∙ sym (written_not rs held ahead (at + 1) octets old place kept)
    by_test false other =
        let elsewhere : place ≡ held + ahead + at → ⊥ = grind (arith, nat_tests) in
        each place ∙ sym (written_other rs held ahead at octets old place elsewhere)

-- before any was
pub none_written : (rs : List KeptRange) (held ahead : ℕ) (octets old : List ℕ) (place : ℕ) → slice_get old place ≡ written_at rs held ahead 0 octets old place
none_written rs held ahead octets old place = by_test (nat_lt place (held + ahead)) refl
  where
    by_test : (b : Bool) → nat_lt place (held + ahead) ≡ b → slice_get old place ≡ written_at rs held ahead 0 octets old place
    by_test true before = sym (written_before rs held ahead 0 octets old place (grind (arith, nat_tests)))
    by_test false after = sym (written_after rs held ahead 0 octets old place (grind (arith, nat_tests)))

pub one_more_counted : (rs : List KeptRange) (from n : ℕ) → uncovered rs from (n + 1) ≡ uncovered rs from n + (if covers rs (from + n) then 0 else 1)
one_more_counted rs from n = rw add-one refl

-- what is kept past more held octets
pub kept_past : (rs : List KeptRange) (held n : ℕ) (items after : List ℕ) → length after - (held + n) ≡ length items - held - n
    → ((place : ℕ) → held + n ≤ place → slice_get after place ≡ slice_get items place)
    → masked (past n rs) 0 (drop (held + n) after) ≡ drop n (masked rs 0 (drop held items))
kept_past rs held n items after long each = same_octets _ _
    (length-masked (past n rs) 0 (drop (held + n) after) ∙ length-drop (held + n) after ∙ long
    ∙ sym (length-drop n (masked rs 0 (drop held items)) ∙ ap (λ k. k - n) (length-masked rs 0 (drop held items) ∙ length-drop held items)))
    (λ place.
    octet_at-masked (past n rs) 0 (drop (held + n) after) place
    ∙ (λ i. if at (zero_more place i) place i then item place i else None)
    ∙ sym (octet_at-masked rs 0 (drop held items) (n + place))
    ∙ sym (octet_at-drop n (masked rs 0 (drop held items)) place))
  where
    zero_more : (place : ℕ) → 0 + place ≡ place
    zero_more place = omega arith

    at : ℕ → (place : ℕ) → covers (past n rs) (0 + place) ≡ covers rs (0 + (n + place))
    at k place = let a : 0 + place ≡ place = omega arith in let b : 0 + (n + place) ≡ n + place = omega arith in rw (a, b) (covers-past n rs place)

    item : (place : ℕ) → slice_get (drop (held + n) after) place ≡ slice_get (drop held items) (n + place)
    item place =
        slice_get-drop (held + n) after place (held + n + place) refl ∙ each (held + n + place) (omega arith)
        ∙ sym (slice_get-drop held items (n + place) (held + n + place) (omega arith))

-- a ring as a contract sees it
abbrev pub seen : (held written size : ℕ) → List KeptRange → List ℕ → Upward
seen held written size ranges items = upward (take held items) written size ranges (masked ranges 0 (drop held items))

pub joins : (rs : List KeptRange) (held written size : ℕ) (items : List ℕ) → length items ≡ held + span rs → AreApart 0 rs
    → seen (held + first_covered rs) written size (past (first_covered rs) rs) items ≡ after_join (seen held written size rs items)
joins rs held written size items long apart =
    let n = first_covered rs in
    let within = first_within rs in
    let more : take (held + n) items ≡ take held items ++ first_octets (masked rs 0 (drop held items)) n =
    take-add held n items ∙ ap (λ (l : List ℕ). take held items ++ l)
    (sym (first_octets-masked rs 0 (drop held items) n (omega (arith, length-drop held items)) (λ place less. let none : 0 + place ≡ place = omega arith in rw none
    (first_are_covered rs place less)))) in
    let rest = kept_past rs held n items items (omega arith) (λ place _. refl) in
    (λ i. upward (more i) written size (past n rs) (rest i))

-- no octet is kept at the next place
pub joined_next : (rs : List KeptRange) (xs : List ℕ) → AreApart 0 rs → octet_at (masked (past (first_covered rs) rs) 0 xs) 0 ≡ None
joined_next rs xs apart =
    let n = first_covered rs in
    let none : covers (past n rs) (0 + 0) ≡ false = covers-past n rs 0 ∙ ap (covers rs) (omega arith) ∙ next_not_covered rs apart in
    octet_at-masked (past n rs) 0 xs 0 ∙ ap (λ (b : Bool). if b then slice_get xs 0 else None) none

-- where none comes next all stays
pub joins_none : (rs : List KeptRange) (held written size : ℕ) (items : List ℕ) → length items ≡ held + span rs → AreApart 0 rs → first_covered rs ≡ 0
    → seen held written size rs items ≡ after_join (seen held written size rs items)
joins_none rs held written size items long apart none =
    let same : held + first_covered rs ≡ held = omega arith in
    let whole : past (first_covered rs) rs ≡ rs = ap (λ n. past n rs) none ∙ past_none 0 rs apart in
    (λ i. seen (sym same i) written size (sym whole i) items) ∙ joins rs held written size items long apart

none_left : (os : Octets) → length os ≡ 0 → os ≡ []
none_left [] none = refl
none_left (o ∷ os) none = absurd (omega arith)

-- octets that come next, where no kept one is past them
pub takes_all : (rs : List KeptRange) (held written size count : ℕ) (items octets : List ℕ) → length items ≡ held + span rs → count ≡ min (length octets) (size - held)
    → length items ≤ held + count
    → seen (held + count) written size [] (take held items ++ take count octets) ≡ after_take (seen held written size rs items) octets
takes_all rs held written size count items octets long count_is beyond =
    let front : length (take held items) ≡ held = omega (arith, length-take held items) in
    let fit : fitting (seen held written size rs items) octets ≡ take count octets = ap (λ k. take (min (length octets) (size - k)) octets) front ∙ ap (λ k. take k octets) (sym count_is) in
    let size_of : length (take count octets) ≡ count = omega (arith, length-take count octets) in
    let counted : length (fitting (seen held written size rs items) octets) ≡ count = ap length fit ∙ size_of in
    let whole : length (take held items ++ take count octets) ≡ held + count = length-append (take held items) (take count octets) ∙ omega arith in
    let held_is : take (held + count) (take held items ++ take count octets) ≡ take held items ++ fitting (seen held written size rs items) octets =
    take_all (held + count) (take held items ++ take count octets) (omega arith) ∙ ap (λ (l : List ℕ). take held items ++ l) (sym fit) in
    let ranges_are : [] ≡ past (length (fitting (seen held written size rs items) octets)) rs = sym (past_all (length (fitting (seen held written size rs items) octets)) rs (omega arith)) in
    let one : masked [] 0 (drop (held + count) (take held items ++ take count octets)) ≡ [] =
    none_left _ (length-masked [] 0 (drop (held + count) (take held items ++ take count octets)) ∙ length-drop (held + count) (take held items ++ take count octets) ∙ omega arith) in
    let two : drop (length (fitting (seen held written size rs items) octets)) (masked rs 0 (drop held items)) ≡ [] =
    none_left _ (length-drop (length (fitting (seen held written size rs items) octets)) (masked rs 0 (drop held items)) ∙ omega
    (arith, length-masked rs 0 (drop held items), length-drop held items)) in
    (λ i. upward (held_is i) written size (ranges_are i) ((one ∙ sym two) i))

-- the octets written over the first places past the held ones
pub over_front : (held count : ℕ) (octets items after : List ℕ) → held + count ≤ length items → count ≤ length octets → length after ≡ length items
    → ((place : ℕ) → slice_get after place ≡ written_at [] held 0 (length (take count octets)) (take count octets) items place)
    → take (held + count) after ≡ take held items ++ take count octets
over_front held count octets items after within long same each =
    let size_of : length (take count octets) ≡ count = omega (arith, length-take count octets) in
    let front : length (take held items) ≡ held = omega (arith, length-take held items) in
    same_items _ _
    (length-take (held + count) after ∙ omega (arith, length-append (take held items) (take count octets)))
    (λ place. by_test place size_of front (nat_lt place (held + count)) (nat_lt place held) refl refl)
  where
    by_test : (place : ℕ) → length (take count octets) ≡ count → length (take held items) ≡ held → (b c : Bool) → nat_lt place (held + count) ≡ b → nat_lt place held ≡ c
        → slice_get (take (held + count) after) place ≡ slice_get (take held items ++ take count octets) place
    by_test place size_of front false c out is =
        slice_get_past (take (held + count) after) place (let beyond : held + count ≤ place = grind (arith, nat_tests) in omega (arith, length-take (held + count) after))
        ∙ sym (slice_get_past (take held items ++ take count octets) place (let beyond : held + count ≤ place = grind (arith, nat_tests) in omega
        (arith, length-append (take held items) (take count octets))))
    by_test place size_of front true true in_ is =
        let low : place < held = grind (arith, nat_tests) in
        slice_get-take (held + count) after place (omega arith) ∙ each place ∙ written_before [] held 0 (length (take count octets)) (take count octets) items place (omega arith)
        ∙ sym (slice_get-append_left (take held items) (take count octets) place (omega arith) ∙ slice_get-take held items place low)
    by_test place size_of front true false in_ is =
        let high : held ≤ place = grind (arith, nat_tests) in
        let below : place < held + count = grind (arith, nat_tests) in
        let at : held + 0 + (place - held) ≡ place = omega arith in
        slice_get-take (held + count) after place below ∙ each place
        ∙ ap (λ n. written_at [] held 0 (length (take count octets)) (take count octets) items n) (sym at)
        ∙ written_here [] held 0 (place - held) (length (take count octets)) (take count octets) items (omega arith) refl
        ∙ sym (slice_get-append_right (take held items) (take count octets) place (place - held) (omega arith))

-- octets that come next, where kept ones lie past them
pub takes_over : (rs : List KeptRange) (held written size count : ℕ) (items after octets : List ℕ) → length items ≡ held + span rs → count ≡ min (length octets) (size - held)
    → held + count ≤ length items → length after ≡ length items
    → ((place : ℕ) → slice_get after place ≡ written_at [] held 0 (length (take count octets)) (take count octets) items place)
    → seen (held + count) written size (past count rs) after ≡ after_take (seen held written size rs items) octets
takes_over rs held written size count items after octets long count_is below same each =
    let front : length (take held items) ≡ held = omega (arith, length-take held items) in
    let fit : fitting (seen held written size rs items) octets ≡ take count octets = ap (λ k. take (min (length octets) (size - k)) octets) front ∙ ap (λ k. take k octets) (sym count_is) in
    let size_of : length (take count octets) ≡ count = omega (arith, length-take count octets) in
    let counted : length (fitting (seen held written size rs items) octets) ≡ count = ap length fit ∙ size_of in
    let held_is = over_front held count octets items after below (omega arith) same each ∙ ap (λ (l : List ℕ). take held items ++ l) (sym fit) in
    let kept_is = kept_past rs held count items after (omega arith)
    (λ place beyond. each place ∙ written_after [] held 0 (length (take count octets)) (take count octets) items place (omega arith)) in
    (λ i. upward (held_is i) written size (past (sym counted i) rs) ((kept_is ∙ ap (λ k. drop k (masked rs 0 (drop held items))) (sym counted)) i))

-- octets that are kept
kept_at : (rs : List KeptRange) (held ahead count : ℕ) (items reached after octets : List ℕ) → length items ≡ held + span rs
    → ((place : ℕ) → place < length items → slice_get reached place ≡ slice_get items place)
    → ((place : ℕ) → slice_get after place ≡ written_at rs held ahead (length (take count octets)) (take count octets) reached place)
    → length (take count octets) ≡ count → (place : ℕ)
    → (if covers (with_range rs (range ahead (ahead + count))) place then slice_get after (held + place) else None)
    ≡ kept_else (if covers rs place then slice_get items (held + place) else None) (more_at ahead (take count octets) place)
kept_at rs held ahead count items reached after octets long front each size_of place =
    ap (λ (b : Bool). if b then slice_get after (held + place) else None) (covers-with_range rs (range ahead (ahead + count)) place)
    ∙ by_tests (covers rs place) (nat_le ahead place) (nat_lt place (ahead + count)) refl refl refl
  where
    shown : (o : Option ℕ) (x : ℕ) (m : Option ℕ) → o ≡ Some x → o ≡ kept_else o m
    shown None x m is = cc
    shown (Some y) x m is = refl

    by_tests : (b c d : Bool) → covers rs place ≡ b → nat_le ahead place ≡ c → nat_lt place (ahead + count) ≡ d
        → (if b || (c && d) then slice_get after (held + place) else None) ≡ kept_else (if b then slice_get items (held + place) else None) (more_at ahead (take count octets) place)
    by_tests true c d full low high =
        let in_span : place < span rs = by_span (nat_lt place (span rs)) refl in
        let offset : held + place - held ≡ place = omega arith in
        let there = slice_get-some items (held + place) (omega arith) in
        each (held + place) ∙ written_not rs held ahead (length (take count octets)) (take count octets) reached (held + place) (ap (covers rs) offset ∙ full)
        ∙ front (held + place) (omega arith) ∙ shown (slice_get items (held + place)) there.0 (more_at ahead (take count octets) place) there.1
      where
        by_span : (b : Bool) → nat_lt place (span rs) ≡ b → place < span rs
        by_span true is = grind (arith, nat_tests)
        by_span false is = let no = covers_none_past rs place (grind (arith, nat_tests)) in absurd (cc (full, no))
    by_tests false true true free low high =
        let least : ahead ≤ place = grind (arith, nat_tests) in
        let most : place < ahead + count = grind (arith, nat_tests) in
        let at : held + ahead + (place - ahead) ≡ held + place = omega arith in
        let offset : ahead + (place - ahead) ≡ place = omega arith in
        each (held + place) ∙ ap (λ n. written_at rs held ahead (length (take count octets)) (take count octets) reached n) (sym at)
        ∙ written_here rs held ahead (place - ahead) (length (take count octets)) (take count octets) reached (omega arith) (ap (covers rs) offset ∙ free)
        ∙ sym (ap (λ n. more_at ahead (take count octets) n) (sym offset) ∙ more_from ahead (take count octets) (place - ahead))
    by_tests false true false free low high =
        let least : ahead ≤ place = grind (arith, nat_tests) in
        let beyond : ahead + count ≤ place = grind (arith, nat_tests) in
        let offset : ahead + (place - ahead) ≡ place = omega arith in
        sym (ap (λ n. more_at ahead (take count octets) n) (sym offset) ∙ more_from ahead (take count octets) (place - ahead)
        ∙ slice_get_past (take count octets) (place - ahead) (omega arith))
    by_tests false false d free low high = sym (more_before ahead (take count octets) place (grind (arith, nat_tests)))

pub keeps : (rs : List KeptRange) (held written size ahead count : ℕ) (items reached after octets : List ℕ) → length items ≡ held + span rs
    → count ≡ min (length octets) (size - held - ahead) → 0 < count
    → take (length items) reached ≡ items → length reached ≡ max (held + (ahead + count)) (length items) → length after ≡ length reached
    → ((place : ℕ) → slice_get after place ≡ written_at rs held ahead (length (take count octets)) (take count octets) reached place)
    → (32 < length (with_range rs (range ahead (ahead + count))) → ⊥)
    → seen held written size (with_range rs (range ahead (ahead + count))) after ≡ after_keep (seen held written size rs items) ahead octets
keeps rs held written size ahead count items reached after octets long count_is some front_is reach same each few =
    let u = seen held written size rs items in
    let front : length (take held items) ≡ held = omega (arith, length-take held items) in
    let fit : within u ahead octets ≡ take count octets = ap (λ k. take (min (length octets) (size - k - ahead)) octets) front ∙ ap (λ k. take k octets) (sym count_is) in
    let size_of : length (take count octets) ≡ count = omega (arith, length-take count octets) in
    let counted : length (within u ahead octets) ≡ count = ap length fit ∙ size_of in
    let range_is : range_of u ahead octets ≡ range ahead (ahead + count) = ap (λ k. range ahead (ahead + k)) counted in
    let first : nat_eq (length (within u ahead octets)) 0 ≡ false = grind (arith, nat_tests) in
    let ranges_few : nat_lt 32 (length (with_range rs (range_of u ahead octets))) ≡ false = ap (λ r. nat_lt 32 (length (with_range rs r))) range_is ∙ not_more
    (length (with_range rs (range ahead (ahead + count)))) few in
    let kept_some : keeps_none u ahead octets ≡ false = (λ i. first i || ranges_few i) in
    let unchanged : (place : ℕ) → place < length items → slice_get reached place ≡ slice_get items place =
    λ place less. sym (slice_get-take (length items) reached place less) ∙ ap (λ (l : List ℕ). slice_get l place) front_is in
    let held_is : take held after ≡ take held items = same_items _ _ (length-take held after ∙ omega (arith, length-take held items))
    (λ place. held_at place unchanged (nat_lt place held) refl) in
    let kept_is : masked (with_range rs (range ahead (ahead + count))) 0 (drop held after) ≡ octets_with (masked rs 0 (drop held items)) ahead (take count octets) =
    same_octets _ _
    (length-masked (with_range rs (range ahead (ahead + count))) 0 (drop held after) ∙ length-drop held after
    ∙ omega (arith, length-octets_with (masked rs 0 (drop held items)) ahead (take count octets) (omega arith), length-masked rs 0 (drop held items), length-drop held items))
    (λ place. octet_at-masked (with_range rs (range ahead (ahead + count))) 0 (drop held after) place
    ∙ placed (with_range rs (range ahead (ahead + count))) after place
    ∙ kept_at rs held ahead count items reached after octets long unchanged each size_of place
    ∙ sym (octet_at-octets_with (masked rs 0 (drop held items)) ahead (take count octets) place
    ∙ ap (λ o. kept_else o (more_at ahead (take count octets) place)) (octet_at-masked rs 0 (drop held items) place ∙ placed rs items place))) in
    (λ i. upward (held_is i) written size (with_range rs (sym range_is i)) ((kept_is ∙ ap (octets_with (masked rs 0 (drop held items)) ahead) (sym fit)) i))
    ∙ ap (λ (b : Bool). if b then u else record u { ranges = with_range u.ranges (range_of u ahead octets); kept = octets_with u.kept ahead (within u ahead octets) }) (sym kept_some)
  where
    not_more : (n : ℕ) → (32 < n → ⊥) → nat_lt 32 n ≡ false
    not_more n few = grind (arith, nat_tests)

    placed : (rs : List KeptRange) (xs : List ℕ) (place : ℕ) → (if covers rs (0 + place) then slice_get (drop held xs) place else None) ≡
        (if covers rs place then slice_get xs (held + place) else None)
    placed rs xs place = let none : 0 + place ≡ place = omega arith in rw none (ap (λ o. if covers rs place then o else None) (slice_get-drop held xs place (held + place) refl))

    held_at : (place : ℕ) → ((place : ℕ) → place < length items → slice_get reached place ≡ slice_get items place) → (b : Bool) → nat_lt place held ≡ b → slice_get
        (take held after) place ≡ slice_get (take held items) place
    held_at place unchanged true is =
        let low : place < held = grind (arith, nat_tests) in
        slice_get-take held after place low ∙ each place ∙ written_before rs held ahead (length (take count octets)) (take count octets) reached place (omega arith)
        ∙ unchanged place (omega arith) ∙ sym (slice_get-take held items place low)
    held_at place unchanged false is =
        let high : held ≤ place = grind (arith, nat_tests) in
        slice_get_past (take held after) place (omega (arith, length-take held after)) ∙ sym (slice_get_past (take held items) place (omega (arith, length-take held items)))

-- what is kept stands at covered places
pub kept_iff : (rs : List KeptRange) (held : ℕ) (items : List ℕ) → length items ≡ held + span rs → (place : ℕ)
    → IsSome (octet_at (masked rs 0 (drop held items)) place) ↔ (covers rs place ≡ true)
kept_iff rs held items long place =
    let is : octet_at (masked rs 0 (drop held items)) place ≡ (if covers rs place then slice_get (drop held items) place else None) =
    octet_at-masked rs 0 (drop held items) place ∙ (let none : 0 + place ≡ place = omega arith in rw none refl) in
    subst (λ o. IsSome o ↔ (covers rs place ≡ true)) (sym is) (by_test (covers rs place) refl)
  where
    some : (o : Option ℕ) (x : ℕ) → o ≡ Some x → IsSome o
    some None x is = cc
    some (Some y) x is = search rules

    within_span : (b : Bool) → covers rs place ≡ true → nat_lt place (span rs) ≡ b → place < span rs
    within_span true full is = grind (arith, nat_tests)
    within_span false full is = let no = covers_none_past rs place (grind (arith, nat_tests)) in absurd (cc (full, no))

    by_test : (b : Bool) → covers rs place ≡ b → IsSome (if b then slice_get (drop held items) place else None) ↔ (b ≡ true)
    by_test true full =
        let less = within_span (nat_lt place (span rs)) full refl in
        let there = slice_get-some (drop held items) place (omega (arith, length-drop held items)) in
        ((λ _. refl), (λ _. some (slice_get (drop held items) place) there.0 there.1))
    by_test false free = ((λ s. s), (λ e. e))

-- the host socket took the first ones
pub gives_up : (rs : List KeptRange) (held written size n : ℕ) (items : List ℕ) → n ≤ held → held ≤ length items
    → seen (held - n) (written + n) size rs (drop (length items - (length items - n)) items) ≡ record (seen held written size rs items) { held = drop n (take held items); written = written + n }
gives_up rs held written size n items few fits =
    let all : length items - (length items - n) ≡ n = omega arith in
    let rest : held - n + n ≡ held = omega arith in
    let held_is : take (held - n) (drop n items) ≡ drop n (take held items) = sym (drop-take n (held - n) items) ∙ ap (λ k. drop n (take k items)) (omega arith) in
    let kept_is : drop (held - n) (drop n items) ≡ drop held items = drop-drop (held - n) n items ∙ ap (λ k. drop k items) (omega arith) in
    ap (λ k. seen (held - n) (written + n) size rs (drop k items)) all
    ∙ (λ i. upward (held_is i) (written + n) size rs (masked rs 0 (kept_is i)))

pub next_none : (rs : List KeptRange) (xs : List ℕ) → AreApart 0 rs → first_covered rs ≡ 0 → octet_at (masked rs 0 xs) 0 ≡ None
next_none rs xs apart none =
    let free : covers rs (0 + 0) ≡ false = ap (covers rs) (sym none) ∙ next_not_covered rs apart in
    octet_at-masked rs 0 xs 0 ∙ ap (λ (b : Bool). if b then slice_get xs 0 else None) free

-- Numbers that rise, and how often each stands in a list.
use Rattle.std.proofs.Common.{◌≡◌, ℕ, zero, suc, ◌+◌, ◌<◌, ◌≤◌, ◌==◌, not, nat_lt, Bool, cond, true, false, List, [], ◌∷◌, ◌++◌, length, get_or, refl, sym, ◌∙◌, ap, subst, arith}
use Rattle.std.proofs.lemmas.Bool.Decides.{nat_tests}
use Rattle.std.specs.List.{insert, remove, All}
use Rattle.std.specs.List.Sorted.{IsPermutation, IsNonDecreasing}
use Rattle.std.proofs.lemmas.List.{get_or_default}
use Rattle.std.proofs.lemmas.List.Elements.{All-head, All-tail}
use Rattle.std.proofs.lemmas.List.Sorted.{IsPermutation-refl, IsPermutation-cons, IsPermutation-remove, IsPermutation-sym, IsPermutation-trans, length_permutation}
use Rattle.idle_sockets.specs.Numbers.{one, times, gone, AreAbove, Rise}

pub same : (n : ℕ) → (n == n) ≡ true
same n = grind (arith, nat_tests)

pub equal : (a b : ℕ) → (a == b) ≡ true → a ≡ b
equal a b is = grind (arith, nat_tests, is)

pub is_equal : (a b : ℕ) → a ≡ b → (a == b) ≡ true
is_equal a b is = grind (arith, nat_tests, is)

pub is_other : (a b : ℕ) → (a ≡ b → ⊥) → (a == b) ≡ false
is_other a b other = grind (arith, nat_tests, other)

pub others : (a b : ℕ) → (a == b) ≡ false → a ≡ b → ⊥
others a b is = grind (arith, nat_tests, is)

pub times-append : (n : ℕ) (xs ys : List ℕ) → times n (xs ++ ys) ≡ times n xs + times n ys
times-append n [] ys = omega arith
times-append n (x ∷ xs) ys = omega (arith, times-append n xs ys)

-- one that stands nowhere
pub gone_none : (x : ℕ) (xs : List ℕ) → times x xs ≡ 0 → gone x xs ≡ xs
gone_none x [] none = refl
gone_none x (m ∷ xs) none = by (m == x) none (λ rest. gone_none x xs rest)
  where
    by : (b : Bool) → one b + times x xs ≡ 0 → (times x xs ≡ 0 → gone x xs ≡ xs) → cond (not b) (m ∷ gone x xs) (gone x xs) ≡ m ∷ xs
    by true is rest = absurd (omega (arith, is))
    by false is rest = ap (λ l. m ∷ l) (rest (omega (arith, is)))

pub times_gone : (x : ℕ) (xs : List ℕ) → times x (gone x xs) ≡ 0
times_gone x [] = refl
times_gone x (m ∷ xs) = by (m == x) refl (times_gone x xs)
  where
    by : (b : Bool) → (m == x) ≡ b → times x (gone x xs) ≡ 0 → times x (cond (not b) (m ∷ gone x xs) (gone x xs)) ≡ 0
    by true is rest = rest
    by false is rest = let apart = ap one is in omega (arith, apart, rest)

pub times_gone_other : (n x : ℕ) (xs : List ℕ) → (n ≡ x → ⊥) → times n (gone x xs) ≡ times n xs
times_gone_other n x [] other = refl
times_gone_other n x (m ∷ xs) other = by (m == x) refl (times_gone_other n x xs other)
  where
    by : (b : Bool) → (m == x) ≡ b → times n (gone x xs) ≡ times n xs → times n (cond (not b) (m ∷ gone x xs) (gone x xs)) ≡ one (m == n) + times n xs
    by true is rest =
        let here : m ≡ x = equal m x is in
        let apart : (m == n) ≡ false = is_other m n (λ it. other (sym it ∙ here)) in
        let counted = ap one apart in
        omega (arith, counted, rest)
    by false is rest = ap (λ t. one (m == n) + t) rest

-- what stands at a place is in the list
pub placed : (x : ℕ) (xs : List ℕ) (q : ℕ) → q < length xs → get_or xs q 0 ≡ x → 0 < times x xs
placed x [] q few is = absurd (omega (arith, few))
placed x (m ∷ xs) zero few is = let here = ap one (is_equal m x is) in omega (arith, here)
placed x (m ∷ xs) (suc q) few is = let rest = placed x xs q (omega (arith, few)) is in omega (arith, rest)

pub nowhere : (x : ℕ) (xs : List ℕ) → ((k : ℕ) → k < length xs → get_or xs k 0 ≡ x → ⊥) → times x xs ≡ 0
nowhere x [] never = refl
nowhere x (m ∷ xs) never =
    let here = ap one (is_other m x (never 0 (omega arith))) in
    let rest = nowhere x xs (λ k few is. never (suc k) (omega (arith, few)) is) in
    omega (arith, here, rest)

-- the one at a place is taken out
pub remove_gone : (x : ℕ) (xs : List ℕ) (q : ℕ) → q < length xs → get_or xs q 0 ≡ x → times x xs ≤ 1 → remove xs q ≡ gone x xs
remove_gone x [] q few is once = absurd (omega (arith, few))
remove_gone x (m ∷ xs) zero few is once =
    let here = is_equal m x is in
    let counted = ap one here in
    let none : times x xs ≡ 0 = omega (arith, once, counted) in
    sym (ap (λ b. cond (not b) (m ∷ gone x xs) (gone x xs)) here ∙ gone_none x xs none)
remove_gone x (m ∷ xs) (suc q) few is once = by (m == x) refl (λ rest. remove_gone x xs q (omega (arith, few)) is rest)
  where
    by : (b : Bool) → (m == x) ≡ b → (times x xs ≤ 1 → remove xs q ≡ gone x xs) → m ∷ remove xs q ≡ cond (not b) (m ∷ gone x xs) (gone x xs)
    by true here rest =
        let counted = ap one here in
        let later = placed x xs q (omega (arith, few)) is in
        absurd (omega (arith, once, counted, later))
    by false here rest = ap (λ l. m ∷ l) (rest (omega (arith, once)))

-- numbers that rise stand once
above_none : (n : ℕ) (ns : List ℕ) → AreAbove n ns → times n ns ≡ 0
above_none n [] above = refl
above_none n (m ∷ ns) above =
    let here = ap one (is_other m n (λ it. omega (arith, it, above.0))) in
    let rest = above_none n ns above.1 in
    omega (arith, here, rest)

above_all : (n : ℕ) (ns : List ℕ) (j : ℕ) → AreAbove n ns → j < length ns → n < get_or ns j 0
above_all n [] j above few = absurd (omega (arith, few))
above_all n (m ∷ ns) zero above few = above.0
above_all n (m ∷ ns) (suc j) above few = above_all n ns j above.1 (omega (arith, few))

more_above : (a n : ℕ) (ns : List ℕ) → a < n → AreAbove n ns → AreAbove a ns
more_above a n [] less above = tt
more_above a n (m ∷ ns) less above = (omega (arith, less, above.0), more_above a n ns less above.1)

pub once : (n : ℕ) (ns : List ℕ) → Rise ns → times n ns ≤ 1
once n [] rise = omega arith
once n (m ∷ ns) rise = by (m == n) refl (once n ns rise.1)
  where
    by : (b : Bool) → (m == n) ≡ b → times n ns ≤ 1 → one b + times n ns ≤ 1
    by true is rest =
        let none = subst (λ k. times k ns ≡ 0) (equal m n is) (above_none m ns rise.0) in
        omega (arith, none)
    by false is rest = omega (arith, rest)

pub rising_to : (ns : List ℕ) (i j : ℕ) → Rise ns → i ≤ j → j < length ns → get_or ns i 0 ≤ get_or ns j 0
rising_to [] i j rise up few = absurd (omega (arith, few))
rising_to (m ∷ ns) zero zero rise up few = omega arith
rising_to (m ∷ ns) zero (suc j) rise up few = let less = above_all m ns j rise.0 (omega (arith, few)) in omega (arith, less)
rising_to (m ∷ ns) (suc i) zero rise up few = absurd (omega (arith, up))
rising_to (m ∷ ns) (suc i) (suc j) rise up few = rising_to ns i j rise.1 (omega (arith, up)) (omega (arith, few))

pub never_falls : (ns : List ℕ) → Rise ns → IsNonDecreasing ns
never_falls ns rise i j d up few =
    let least = get_or_default ns i d 0 (omega (arith, up, few)) in
    let most = get_or_default ns j d 0 few in
    let le = rising_to ns i j rise up few in
    omega (arith, least, most, le)

above_gone : (n x : ℕ) (ns : List ℕ) → AreAbove n ns → AreAbove n (gone x ns)
above_gone n x [] above = tt
above_gone n x (m ∷ ns) above = by (m == x) (above_gone n x ns above.1)
  where
    by : (b : Bool) → AreAbove n (gone x ns) → AreAbove n (cond (not b) (m ∷ gone x ns) (gone x ns))
    by true rest = rest
    by false rest = (above.0, rest)

pub rise_gone : (x : ℕ) (ns : List ℕ) → Rise ns → Rise (gone x ns)
rise_gone x [] rise = tt
rise_gone x (m ∷ ns) rise = by (m == x) (rise_gone x ns rise.1)
  where
    by : (b : Bool) → Rise (gone x ns) → Rise (cond (not b) (m ∷ gone x ns) (gone x ns))
    by true rest = rest
    by false rest = (above_gone m x ns rise.0, rest)

above_last : (n m : ℕ) (ns : List ℕ) → AreAbove n ns → n < m → AreAbove n (ns ++ (m ∷ []))
above_last n m [] above less = (less, tt)
above_last n m (k ∷ ns) above less = (above.0, above_last n m ns above.1 less)

pub rise_last : (m : ℕ) (ns : List ℕ) → Rise ns → All (λ n. n < m) ns → Rise (ns ++ (m ∷ []))
rise_last m [] rise less = (tt, tt)
rise_last m (n ∷ ns) rise less = (above_last n m ns rise.0 (All-head (λ (k : ℕ). k < m) n ns less), rise_last m ns rise.1 (All-tail (λ (k : ℕ). k < m) n ns less))

pub none_yet : (m : ℕ) (ns : List ℕ) → All (λ n. n < m) ns → times m ns ≡ 0
none_yet m [] less = refl
none_yet m (n ∷ ns) less =
    let here = ap one (is_other n m (λ it. omega (arith, it, All-head (λ (k : ℕ). k < m) n ns less))) in
    let rest = none_yet m ns (All-tail (λ (k : ℕ). k < m) n ns less) in
    omega (arith, here, rest)

-- lists in which each number stands as often are the same in another order
pub where_it_is : (x : ℕ) (ys : List ℕ) → 0 < times x ys → (q : ℕ) × (q < length ys) × (get_or ys q x ≡ x)
where_it_is x [] is = absurd (omega (arith, is))
where_it_is x (y ∷ ys) is = by (y == x) refl is (λ rest. where_it_is x ys rest)
  where
    by : (b : Bool) → (y == x) ≡ b → 0 < one b + times x ys → (0 < times x ys → (q : ℕ) × (q < length ys) × (get_or ys q x ≡ x)) → (q : ℕ) × (q < length (y ∷ ys)) × (get_or (y ∷ ys) q x ≡ x)
    by true here is more = (0, omega arith, equal y x here)
    by false here is more = let later = more (omega (arith, is)) in (suc later.0, omega (arith, later.1), later.2)

times_remove : (n : ℕ) (ys : List ℕ) (q x : ℕ) → q < length ys → get_or ys q x ≡ x → one (x == n) + times n (remove ys q) ≡ times n ys
times_remove n [] q x few is = absurd (omega (arith, few))
times_remove n (y ∷ ys) zero x few is = ap (λ k. one (k == n) + times n ys) (sym is)
times_remove n (y ∷ ys) (suc q) x few is = let rest = times_remove n ys q x (omega (arith, few)) is in omega (arith, rest)

none_left : (ys : List ℕ) → ((n : ℕ) → times n ys ≡ 0) → [] ≡ ys
none_left [] none = refl
none_left (y ∷ ys) none = let here = ap one (same y) in absurd (omega (arith, none y, here))

pub as_often : (xs ys : List ℕ) → ((n : ℕ) → times n xs ≡ times n ys) → IsPermutation xs ys
as_often [] ys equally = subst (λ (l : List ℕ). IsPermutation [] l) (none_left ys (λ n. sym (equally n))) (IsPermutation-refl [])
as_often (x ∷ xs) ys equally =
    let here = ap one (same x) in
    let at = where_it_is x ys (omega (arith, equally x, here)) in
    let q = at.0 in
    let rest = as_often xs (remove ys q) (λ n. let parts = times_remove n ys q x at.1 at.2 in omega (arith, parts, equally n)) in
    IsPermutation-trans (x ∷ xs) (x ∷ remove ys q) ys (IsPermutation-cons x xs (remove ys q) rest)
    (IsPermutation-sym ys (x ∷ remove ys q) (IsPermutation-remove ys q x at.1 (sym at.2)))

pub as_long : (xs ys : List ℕ) → ((n : ℕ) → times n xs ≡ times n ys) → length xs ≡ length ys
as_long xs ys equally = sym (length_permutation xs ys (as_often xs ys equally))

-- numbers that rise differ at different places
pub rising_above : (ns : List ℕ) (i j : ℕ) → Rise ns → i < j → j < length ns → get_or ns i 0 < get_or ns j 0
rising_above [] i j rise up few = absurd (omega (arith, few))
rising_above (m ∷ ns) i zero rise up few = absurd (omega (arith, up))
rising_above (m ∷ ns) zero (suc j) rise up few = above_all m ns j rise.0 (omega (arith, few))
rising_above (m ∷ ns) (suc i) (suc j) rise up few = rising_above ns i j rise.1 (omega (arith, up)) (omega (arith, few))

pub same_place : (ns : List ℕ) (i j : ℕ) → Rise ns → i < length ns → j < length ns → get_or ns i 0 ≡ get_or ns j 0 → i ≡ j
same_place ns i j rise one_in other_in is = by (nat_lt i j) (nat_lt j i) refl refl
  where
    by : (a b : Bool) → nat_lt i j ≡ a → nat_lt j i ≡ b → i ≡ j
    by true b less more = let apart = rising_above ns i j rise (grind (arith, nat_tests, less)) other_in in absurd (omega (arith, apart, is))
    by false true less more = let apart = rising_above ns j i rise (grind (arith, nat_tests, more)) one_in in absurd (omega (arith, apart, is))
    by false false less more = grind (arith, nat_tests, less, more)

-- one more between those below it and those above it
all_above : (n : ℕ) (ns : List ℕ) → ((i : ℕ) → i < length ns → n < get_or ns i 0) → AreAbove n ns
all_above n [] above = tt
all_above n (m ∷ ns) above = (above 0 (omega arith), all_above n ns (λ i few. above (suc i) (omega (arith, few))))

above_insert : (n k : ℕ) (ns : List ℕ) (p : ℕ) → AreAbove n ns → n < k → AreAbove n (insert ns p k)
above_insert n k [] zero above less = (less, tt)
above_insert n k [] (suc p) above less = (less, tt)
above_insert n k (m ∷ ns) zero above less = (less, above)
above_insert n k (m ∷ ns) (suc p) above less = (above.0, above_insert n k ns p above.1 less)

pub rise_insert : (ns : List ℕ) (p k : ℕ) → p ≤ length ns → Rise ns → ((i : ℕ) → i < p → get_or ns i 0 < k) → ((i : ℕ) → p ≤ i → i < length ns → k < get_or ns i 0) → Rise (insert ns p k)
rise_insert [] zero k le rise below above = (tt, tt)
rise_insert [] (suc p) k le rise below above = absurd (omega (arith, le))
rise_insert (m ∷ ns) zero k le rise below above = (all_above k (m ∷ ns) (λ i few. above i (omega arith) few), rise)
rise_insert (m ∷ ns) (suc p) k le rise below above = (
  above_insert m k ns p rise.0 (below 0 (omega arith)),
  rise_insert ns p k (omega (arith, le)) rise.1 (λ i less. below (suc i) (omega (arith, less)))
      (λ i up few. above (suc i) (omega (arith, up)) (omega (arith, few))),
)

pub times-insert : (n x : ℕ) (xs : List ℕ) (p : ℕ) → times n (insert xs p x) ≡ one (x == n) + times n xs
times-insert n x [] zero = refl
times-insert n x [] (suc p) = refl
times-insert n x (m ∷ xs) zero = refl
times-insert n x (m ∷ xs) (suc p) = let rest = times-insert n x xs p in omega (arith, rest)

-- what is neither below a place nor from it on stands nowhere
pub not_found : (n : ℕ) (ns : List ℕ) (i : ℕ) → ((k : ℕ) → k < i → get_or ns k 0 < n) → ((k : ℕ) → i ≤ k → k < length ns → n < get_or ns k 0) → times n ns ≡ 0
not_found n ns i below above = nowhere n ns (λ k few is. by k few is (nat_lt k i) refl)
  where
    by : (k : ℕ) → k < length ns → get_or ns k 0 ≡ n → (b : Bool) → nat_lt k i ≡ b → ⊥
    by k few is true less = let under = below k (grind (arith, nat_tests, less)) in omega (arith, under, is)
    by k few is false less = let over = above k (grind (arith, nat_tests, less)) few in omega (arith, over, is)

-- one more at the end, one less
pub times_last : (n m : ℕ) (xs : List ℕ) → times n (xs ++ (m ∷ [])) ≡ times n xs + one (m == n)
times_last n m xs = let both = times-append n xs (m ∷ []) in omega (arith, both)

pub gone_alike : (x : ℕ) (xs ys : List ℕ) → ((n : ℕ) → times n xs ≡ times n ys) → (n : ℕ) → times n (gone x xs) ≡ times n (gone x ys)
gone_alike x xs ys alike n = by (n == x) refl
  where
    by : (b : Bool) → (n == x) ≡ b → times n (gone x xs) ≡ times n (gone x ys)
    by true is = let here = equal n x is in subst (λ m. times m (gone x xs) ≡ times m (gone x ys)) (sym here) (times_gone x xs ∙ sym (times_gone x ys))
    by false is = let other = others n x is in times_gone_other n x xs other ∙ alike n ∙ sym (times_gone_other n x ys other)

-- one that stands once is the same list after it is taken out and put last
pub moved_alike : (x : ℕ) (xs : List ℕ) → times x xs ≡ 1 → (n : ℕ) → times n (gone x xs ++ (x ∷ [])) ≡ times n xs
moved_alike x xs one_time n = times_last n x (gone x xs) ∙ by (n == x) refl
  where
    by : (b : Bool) → (n == x) ≡ b → times n (gone x xs) + one (x == n) ≡ times n xs
    by true is =
        let here = equal n x is in
        let counted = ap one (is_equal x n (sym here)) in
        let none = ap (λ m. times m (gone x xs)) here ∙ times_gone x xs in
        let whole = ap (λ m. times m xs) here ∙ one_time in
        omega (arith, counted, none, whole)
    by false is =
        let other = others n x is in
        let counted = ap one (is_other x n (λ it. other (sym it))) in
        let rest = times_gone_other n x xs other in
        omega (arith, counted, rest)

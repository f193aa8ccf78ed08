-- Two rows of numbers that rise, as one.
use Rattle.std.proofs.Common.{◌≡◌, ℕ, zero, suc, ◌+◌, ◌<◌, ◌≤◌, ◌++◌, Bool, true, false, List, [], ◌∷◌, length, drop, take, get_or, nat_lt, if◌then◌else◌, IsPermutation, refl, sym, ◌∙◌}
use Rattle.std.proofs.Common.{ap, append_assoc, subst, arith}
use Rattle.std.specs.List.Sorted.{IsNonDecreasing}
use Rattle.std.proofs.lemmas.Bool.Decides.{nat_tests}
use Rattle.std.proofs.lemmas.List.Sorted.{IsPermutation-append, IsPermutation-cons, IsPermutation-middle, IsPermutation-refl, IsPermutation-trans, length_permutation}
use Rattle.slirp_core.specs.Pumps.{into, merged}
use Rattle.slirp_core.specs.Sockets.{AllAbove, IsRising}

-- ---- it has the numbers of both

into_all : (n : ℕ) (rest : List ℕ → List ℕ) (ns : List ℕ) → ((ms : List ℕ) → IsPermutation (ns ++ ms) (rest ms)) → (ms : List ℕ) → IsPermutation (n ∷ (ns ++ ms)) (into n rest ms)
into_all n rest ns all [] = IsPermutation-cons n (ns ++ []) (rest []) (all [])
into_all n rest ns all (m ∷ ms) = by (nat_lt n m) (into_all n rest ns all ms)
  where
    by : (b : Bool) → IsPermutation (n ∷ (ns ++ ms)) (into n rest ms) → IsPermutation (n ∷ (ns ++ m ∷ ms)) (if b then n ∷ rest (m ∷ ms) else m ∷ into n rest ms)
    by true later = IsPermutation-cons n (ns ++ m ∷ ms) (rest (m ∷ ms)) (all (m ∷ ms))
    by false later = IsPermutation-trans (n ∷ (ns ++ m ∷ ms)) (m ∷ (n ∷ (ns ++ ms))) (m ∷ into n rest ms) (IsPermutation-middle (n ∷ ns) m ms)
        (IsPermutation-cons m (n ∷ (ns ++ ms)) (into n rest ms) later)

merged_both : (ns ms : List ℕ) → IsPermutation (ns ++ ms) (merged ns ms)
merged_both [] ms = IsPermutation-refl ms
merged_both (n ∷ ns) ms = into_all n (merged ns) ns (λ more. merged_both ns more) ms

pub merged_all : (xs ys some others : List ℕ) → IsPermutation xs some → IsPermutation ys others → IsPermutation (xs ++ ys) (merged some others)
merged_all xs ys some others one two = IsPermutation-trans (xs ++ ys) (some ++ others) (merged some others) (IsPermutation-append xs some ys others one two) (merged_both some others)

-- and so of three
pub merged_three : (given xs ys some others : List ℕ) → IsPermutation xs some → IsPermutation ys others → IsPermutation (given ++ (xs ++ ys)) (merged (merged given some) others)
merged_three given xs ys some others one two =
    subst (λ l. IsPermutation l (merged (merged given some) others)) (append_assoc given xs ys)
    (merged_all (given ++ xs) ys (merged given some) others (merged_all given xs given some (IsPermutation-refl given) one) two)

-- ---- and rises as they do

abbrev pub AtLeast : ℕ → List ℕ → Type 0
AtLeast low [] = Unit {0}
AtLeast low (n ∷ ns) = (low ≤ n) × AtLeast low ns

abbrev pub Climbs : List ℕ → Type 0
Climbs [] = Unit {0}
Climbs (n ∷ ns) = AtLeast n ns × Climbs ns

at_least : (low : ℕ) (ns : List ℕ) → ((k d : ℕ) → k < length ns → low ≤ get_or ns k d) → AtLeast low ns
at_least low [] each = tt
at_least low (n ∷ ns) each = (each 0 0 (omega arith), at_least low ns (λ k d few. each (suc k) d (omega (arith, few))))

least_at : (low : ℕ) (ns : List ℕ) → AtLeast low ns → (k d : ℕ) → k < length ns → low ≤ get_or ns k d
least_at low [] least k d few = absurd (omega (arith, few))
least_at low (n ∷ ns) least zero d few = least.0
least_at low (n ∷ ns) least (suc k) d few = least_at low ns least.1 k d (omega (arith, few))

pub climbs : (ns : List ℕ) → IsNonDecreasing ns → Climbs ns
climbs [] rise = tt
climbs (n ∷ ns) rise = (at_least n ns (λ k d few. rise 0 (suc k) d (omega arith) (omega (arith, few))), climbs ns (λ i j d up few. rise (suc i) (suc j) d (omega (arith, up)) (omega (arith, few))))

never_falls : (ns : List ℕ) → Climbs ns → IsNonDecreasing ns
never_falls [] up i j d less few = absurd (omega (arith, few))
never_falls (n ∷ ns) up zero zero d less few = omega arith
never_falls (n ∷ ns) up zero (suc j) d less few = least_at n ns up.0 j d (omega (arith, few))
never_falls (n ∷ ns) up (suc i) zero d less few = absurd (omega (arith, less))
never_falls (n ∷ ns) up (suc i) (suc j) d less few = never_falls ns up.1 i j d (omega (arith, less)) (omega (arith, few))

lower : (low n : ℕ) (ns : List ℕ) → low ≤ n → AtLeast n ns → AtLeast low ns
lower low n [] less least = tt
lower low n (m ∷ ns) less least = (omega (arith, less, least.0), lower low n ns less least.1)

least_into : (low n : ℕ) (rest : List ℕ → List ℕ) → low ≤ n → ((ms : List ℕ) → AtLeast low ms → AtLeast low (rest ms)) → (ms : List ℕ) → AtLeast low ms → AtLeast low (into n rest ms)
least_into low n rest less all [] least = (less, all [] tt)
least_into low n rest less all (m ∷ ms) least = by (nat_lt n m) (least_into low n rest less all ms least.1)
  where
    by : (b : Bool) → AtLeast low (into n rest ms) → AtLeast low (if b then n ∷ rest (m ∷ ms) else m ∷ into n rest ms)
    by true later = (less, all (m ∷ ms) least)
    by false later = (least.0, later)

least_merged : (low : ℕ) (ns ms : List ℕ) → AtLeast low ns → AtLeast low ms → AtLeast low (merged ns ms)
least_merged low [] ms one two = two
least_merged low (n ∷ ns) ms one two = least_into low n (merged ns) one.0 (λ more least. least_merged low ns more one.1 least) ms two

less_is : (n m : ℕ) → nat_lt n m ≡ true → n ≤ m
less_is n m is = grind (arith, nat_tests, is)

not_less : (n m : ℕ) → nat_lt n m ≡ false → m ≤ n
not_less n m is = grind (arith, nat_tests, is)

climbs_into : (n : ℕ) (ns : List ℕ) → AtLeast n ns → ((ms : List ℕ) → Climbs ms → Climbs (merged ns ms)) → (ms : List ℕ) → Climbs ms → Climbs (into n (merged ns) ms)
climbs_into n ns least all [] up = (least_merged n ns [] least tt, all [] tt)
climbs_into n ns least all (m ∷ ms) up = by (nat_lt n m) refl (climbs_into n ns least all ms up.1)
  where
    by : (b : Bool) → nat_lt n m ≡ b → Climbs (into n (merged ns) ms) → Climbs (if b then n ∷ merged ns (m ∷ ms) else m ∷ into n (merged ns) ms)
    by true is later = (least_merged n ns (m ∷ ms) least (less_is n m is, lower n m ms (less_is n m is) up.0), all (m ∷ ms) up)
    by false is later = (least_into m n (merged ns) (not_less n m is) (λ more above. least_merged m ns more (lower m n ns (not_less n m is) least) above) ms up.0, later)

climbs_merged : (ns ms : List ℕ) → Climbs ns → Climbs ms → Climbs (merged ns ms)
climbs_merged [] ms one two = two
climbs_merged (n ∷ ns) ms one two = climbs_into n ns one.0 (λ more up. climbs_merged ns more one.1 up) ms two

-- numbers that rise under a bound don't fall
pub rising_climbs : (bound : ℕ) (ns : List ℕ) → IsRising bound ns → IsNonDecreasing ns
rising_climbs bound ns rising = never_falls ns (climb bound ns rising)
  where
    over : (n : ℕ) (ns : List ℕ) → AllAbove n ns → AtLeast n ns
    over n [] up = tt
    over n (m ∷ ns) up = let less = up.0 in (omega (arith, less), over n ns up.1)

    climb : (bound : ℕ) (ns : List ℕ) → IsRising bound ns → Climbs ns
    climb bound [] rising = tt
    climb bound (n ∷ ns) rising = (over n ns rising.1, climb bound ns rising.2)

pub merged_rises : (some others : List ℕ) → IsNonDecreasing some → IsNonDecreasing others → IsNonDecreasing (merged some others)
merged_rises some others one two = never_falls (merged some others) (climbs_merged some others (climbs some one) (climbs others two))

-- ---- one after the other

-- the next of the row comes before a number that isn't less
pub comes_behind : (n : ℕ) (rest : List ℕ → List ℕ) (row : List ℕ) (k d : ℕ) → k < length row → get_or row k d ≤ n → get_or row k d ∷ into n rest (drop (k + 1) row) ≡ into n rest (drop k row)
comes_behind n rest [] k d few less = absurd (omega (arith, few))
comes_behind n rest (m ∷ row) zero d few less = ap (λ b. if b then n ∷ rest (m ∷ row) else m ∷ into n rest row) (sym (isnt_less n m less))
  where
    isnt_less : (n m : ℕ) → m ≤ n → nat_lt n m ≡ false
    isnt_less n m less = grind (arith, nat_tests, less)
comes_behind n rest (m ∷ row) (suc k) d few less =
    let next : suc (k + 1) ≡ suc k + 1 = omega arith in
    subst (λ j. get_or row k d ∷ into n rest (drop j (m ∷ row)) ≡ into n rest (drop k row)) next (comes_behind n rest row k d (omega (arith, few)) less)

-- it is as long as both
pub length_merged : (some others : List ℕ) → length (merged some others) ≡ length some + length others
length_merged some others = length_permutation (some ++ others) (merged some others) (merged_both some others) ∙ simple some others
  where
    simple : (some others : List ℕ) → length (some ++ others) ≡ length some + length others
    simple [] others = omega arith
    simple (n ∷ some) others = let more = simple some others in omega (arith, more)

-- behind the row the number is the next
none_left : (row : List ℕ) (k : ℕ) → length row ≤ k → drop k row ≡ []
none_left [] zero all = refl
none_left [] (suc k) all = refl
none_left (m ∷ row) zero all = absurd (omega (arith, all))
none_left (m ∷ row) (suc k) all = none_left row k (omega (arith, all))

pub comes_last : (n : ℕ) (rest : List ℕ → List ℕ) (row : List ℕ) (k j m : ℕ) → length row ≤ k → length row ≤ j → n ∷ rest (take m (drop j row)) ≡ into n rest (drop k row)
comes_last n rest row k j m all most =
    ap (λ (l : List ℕ). n ∷ rest l) (ap (take m) (none_left row j most) ∙ nothing m) ∙ sym (ap (into n rest) (none_left row k all))
  where
    nothing : (m : ℕ) → take {A = ℕ} m [] ≡ []
    nothing zero = refl
    nothing (suc m) = refl

-- the next of the first row and those behind it
pub comes_next : (some left : List ℕ) (k d : ℕ) → k < length some → into (get_or some k d) (merged (drop (k + 1) some)) left ≡ merged (drop k some) left
comes_next [] left k d few = absurd (omega (arith, few))
comes_next (n ∷ some) left zero d few = refl
comes_next (n ∷ some) left (suc k) d few =
    let next : suc (k + 1) ≡ suc k + 1 = omega arith in
    subst (λ j. into (get_or some k d) (merged (drop j (n ∷ some))) left ≡ merged (drop k some) left) next (comes_next some left k d (omega (arith, few)))

pub all_came : (some left : List ℕ) (k : ℕ) → length some ≤ k → left ≡ merged (drop k some) left
all_came some left k all = ap (λ (l : List ℕ). merged l left) (sym (none_left some k all))

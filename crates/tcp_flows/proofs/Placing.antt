-- Wants by rising number, with others for one of the numbers.
use Rattle.std.proofs.Common.{refl, ◌≡◌, ℕ, zero, suc, ◌+◌, ◌<◌, ◌≤◌, ◌==◌, nat_lt, Bool, true, false, List, [], ◌∷◌, ◌++◌, length, set, get_or, Some, None, Option, Result, Ok, Err, is_ok}
use Rattle.std.proofs.Common.{slice_get, ◌⊎◌, inl, inr, ap, sym, ◌∙◌, subst, arith, if◌then◌else◌}
use Rattle.std.specs.Prelude.{Contains, IsOk}
use Rattle.std.specs.List.{insert, remove}
use Rattle.std.specs.List.Sorted.{IsNonDecreasingBy}
use Rattle.std.proofs.lemmas.Bool.Decides.{nat_tests}
use Rattle.std.proofs.lemmas.List.{append-nil}
use Rattle.std.proofs.lemmas.List.Edits.{length-insert}
use Rattle.std.proofs.lemmas.List.Elements.{Contains-append_cases, Contains-append_left, Contains-append_right}
use Rattle.std.proofs.lemmas.Option.{same_Some}
use Rattle.poll_list.specs.declared.Want.{Want}
use Rattle.tcp_flows.specs.Places.{IsPlaceOf, has_at, has_number}
use Rattle.poll_list.specs.declared.Who.TheVariants.{Tcp}
use Rattle.rules_flow.specs.Choices.{same_ways}
use Rattle.tcp_flows.specs.Standing.{AreOrdered, AreOver, is_any, listed, number_in, placed, wants_after, with_wants}
use Rattle.rules_flow.specs.declared.Waits.{Waits}

-- ---- tests of two numbers

below : (a b : ℕ) → a < b → nat_lt a b ≡ true
below a b less = grind (arith, nat_tests, less)

not_below : (a b : ℕ) → b ≤ a → nat_lt a b ≡ false
not_below a b most = grind (arith, nat_tests, most)

is_below : (a b : ℕ) → nat_lt a b ≡ true → a < b
is_below a b is = grind (arith, nat_tests, is)

is_not_below : (a b : ℕ) → nat_lt a b ≡ false → b ≤ a
is_not_below a b is = grind (arith, nat_tests, is)

-- ---- the first want is below the number, has it, or is above it

abbrev as_placed : ℕ → (these : List Want) → Want → List Want → (is_below is_above : Bool) → List Want
as_placed n these w wants is_below is_above = placed is_below is_above these (with_wants n these wants) w wants

pub behind : (n : ℕ) (these : List Want) (w : Want) (wants : List Want) → number_in w < n → with_wants n these (w ∷ wants) ≡ w ∷ with_wants n these wants
behind n these w wants less = ap (λ b. as_placed n these w wants b (nat_lt n (number_in w))) (below (number_in w) n less)

pub in_place : (n : ℕ) (these : List Want) (w : Want) (wants : List Want) → number_in w ≡ n → with_wants n these (w ∷ wants) ≡ these ++ wants
in_place n these w wants is =
    ap (λ b. as_placed n these w wants b (nat_lt n (number_in w))) (not_below (number_in w) n (omega (arith, is)))
    ∙ ap (λ b. as_placed n these w wants false b) (not_below n (number_in w) (omega (arith, is)))

pub in_front : (n : ℕ) (these : List Want) (w : Want) (wants : List Want) → n < number_in w → with_wants n these (w ∷ wants) ≡ these ++ w ∷ wants
in_front n these w wants less =
    ap (λ b. as_placed n these w wants b (nat_lt n (number_in w))) (not_below (number_in w) n (omega (arith, less)))
    ∙ ap (λ b. as_placed n these w wants false b) (below n (number_in w) less)

-- of two numbers
pub data Compared (a n : ℕ) : Type 0 where
  Lower : a < n → Compared a n
  Same : a ≡ n → Compared a n
  Higher : n < a → Compared a n

pub compared : (a n : ℕ) → Compared a n
compared a n = by (nat_lt a n) (nat_lt n a) refl refl
  where
    equal : n ≤ a → a ≤ n → a ≡ n
    equal up down = omega (arith, up, down)

    by : (b c : Bool) → nat_lt a n ≡ b → nat_lt n a ≡ c → Compared a n
    by true c is also = Lower (is_below a n is)
    by false true is also = Higher (is_below n a also)
    by false false is also = Same (equal (is_not_below a n is) (is_not_below n a also))

-- ---- numbers above one

pub over_there : (n : ℕ) (wants : List Want) (i : ℕ) (w : Want) → AreOver n wants → slice_get wants i ≡ Some w → n < number_in w
over_there n [] i w over here = absurd cc
over_there n (x ∷ wants) zero w over here = subst (λ (y : Want). n < number_in y) (same_Some x w here) over.0
over_there n (x ∷ wants) (suc i) w over here = over_there n wants i w over.1 here

pub over_less : (m n : ℕ) (wants : List Want) → m ≤ n → AreOver n wants → AreOver m wants
over_less m n [] most over = tt
over_less m n (w ∷ wants) most over = (let less = over.0 in omega (arith, most, less), over_less m n wants most over.1)

pub over_append : (n : ℕ) (xs ys : List Want) → AreOver n xs → AreOver n ys → AreOver n (xs ++ ys)
over_append n [] ys one other = other
over_append n (x ∷ xs) ys one other = (one.0, over_append n xs ys one.1 other)

-- the numbers never fall
over_at : (n : ℕ) (wants : List Want) (i : ℕ) (d : Want) → AreOver n wants → i < length wants → n < number_in (get_or wants i d)
over_at n [] i d over few = absurd (omega (arith, few))
over_at n (w ∷ wants) zero d over few = over.0
over_at n (w ∷ wants) (suc i) d over few = over_at n wants i d over.1 (omega (arith, few))

pub never_fall : (wants : List Want) → AreOrdered wants → IsNonDecreasingBy (λ (w : Want). number_in w) wants
never_fall [] order i j d up few = absurd (omega (arith, few))
never_fall (w ∷ wants) order zero zero d up few = omega arith
never_fall (w ∷ wants) order zero (suc j) d up few = let less = over_at (number_in w) wants j d order.0 (omega (arith, few)) in omega (arith, less)
never_fall (w ∷ wants) order (suc i) zero d up few = absurd (omega (arith, up))
never_fall (w ∷ wants) order (suc i) (suc j) d up few = never_fall wants order.1 i j d (omega (arith, up)) (omega (arith, few))

-- ---- what stands at a place

-- one stands for the number: it is replaced
pub replaced : (n : ℕ) (wants : List Want) (i : ℕ) (w x : Want) → AreOrdered wants → slice_get wants i ≡ Some w → number_in w ≡ n → set wants i x ≡ with_wants n (x ∷ []) wants
replaced n [] i w x order here is = absurd cc
replaced n (y ∷ wants) zero w x order here is = sym (in_place n (x ∷ []) y wants (ap number_in (same_Some y w here) ∙ is))
replaced n (y ∷ wants) (suc i) w x order here is =
    let less = over_there (number_in y) wants i w order.0 here in
    ap (λ (l : List Want). y ∷ l) (replaced n wants i w x order.1 here is) ∙ sym (behind n (x ∷ []) y wants (omega (arith, less, is)))

-- or taken out
pub taken_out : (n : ℕ) (wants : List Want) (i : ℕ) (w : Want) → AreOrdered wants → slice_get wants i ≡ Some w → number_in w ≡ n → remove wants i ≡ with_wants n [] wants
taken_out n [] i w order here is = absurd cc
taken_out n (y ∷ wants) zero w order here is = sym (in_place n [] y wants (ap number_in (same_Some y w here) ∙ is))
taken_out n (y ∷ wants) (suc i) w order here is =
    let less = over_there (number_in y) wants i w order.0 here in
    ap (λ (l : List Want). y ∷ l) (taken_out n wants i w order.1 here is) ∙ sym (behind n [] y wants (omega (arith, less, is)))

-- none stands for it: one is put in its place
pub put_in : (n : ℕ) (wants : List Want) (i : ℕ) (x : Want) → i ≤ length wants → IsPlaceOf n wants i → has_at i n wants ≡ false → insert wants i x ≡ with_wants n (x ∷ []) wants
put_in n [] zero x fits place none = refl
put_in n [] (suc i) x fits place none = absurd (omega (arith, fits))
put_in n (y ∷ wants) zero x fits place none = sym (in_front n (x ∷ []) y wants (higher (number_in y) (is_not_below (number_in y) n (place.1 0 y (omega arith) (omega arith))) none))
  where
    higher : (a : ℕ) → n ≤ a → (a == n) ≡ false → n < a
    higher a most other = grind (arith, nat_tests, most, other)
put_in n (y ∷ wants) (suc i) x fits place none =
    ap (λ (l : List Want). y ∷ l)
    (put_in n wants i x (omega (arith, fits)) (
      λ k d from less. place.0 (suc k) d (omega arith) (omega (arith, less)),
      λ k d from few. place.1 (suc k) d (omega (arith, from))
          (omega (arith, few)),
    ) none)
    ∙ sym (behind n (x ∷ []) y wants (is_below (number_in y) n (place.0 0 y (omega arith) (omega arith))))

-- or nothing is
pub left_so : (n : ℕ) (wants : List Want) (i : ℕ) → i ≤ length wants → IsPlaceOf n wants i → has_at i n wants ≡ false → wants ≡ with_wants n [] wants
left_so n [] zero fits place none = refl
left_so n [] (suc i) fits place none = absurd (omega (arith, fits))
left_so n (y ∷ wants) zero fits place none = sym (in_front n [] y wants (higher (number_in y) (is_not_below (number_in y) n (place.1 0 y (omega arith) (omega arith))) none))
  where
    higher : (a : ℕ) → n ≤ a → (a == n) ≡ false → n < a
    higher a most other = grind (arith, nat_tests, most, other)
left_so n (y ∷ wants) (suc i) fits place none =
    ap (λ (l : List Want). y ∷ l)
    (left_so n wants i (omega (arith, fits)) (
      λ k d from less. place.0 (suc k) d (omega arith) (omega (arith, less)),
      λ k d from few. place.1 (suc k) d (omega (arith, from))
          (omega (arith, few)),
    ) none)
    ∙ sym (behind n [] y wants (is_below (number_in y) n (place.0 0 y (omega arith) (omega arith))))

-- ---- the numbers rise then too

-- these stand for a number
abbrev pub AreFor : ℕ → List Want → Type 0
AreFor n [] = Unit {0}
AreFor n (x ∷ []) = number_in x ≡ n
AreFor n (x ∷ y ∷ these) = ⊥

over_these : (m n : ℕ) (these : List Want) → m < n → AreFor n these → AreOver m these
over_these m n [] less are = tt
over_these m n (x ∷ []) less are = (omega (arith, less, are), tt)
over_these m n (x ∷ y ∷ these) less are = absurd are

over_then : (m n : ℕ) (these wants : List Want) → m < n → AreFor n these → AreOver m wants → AreOver m (with_wants n these wants)
over_then m n these [] less are over = over_these m n these less are
over_then m n these (w ∷ wants) less are over = elim (compared (number_in w) n) [
  | Lower is ↦ subst (AreOver m) (sym (behind n these w wants is)) (over.0, over_then m n these wants less are over.1)
  | Same is ↦ subst (AreOver m) (sym (in_place n these w wants is)) (over_append m these wants (over_these m n these less are) over.1)
  | Higher is ↦ subst (AreOver m) (sym (in_front n these w wants is)) (over_append m these (w ∷ wants) (over_these m n these less are) over)
]

order_before : (n : ℕ) (these wants : List Want) → AreFor n these → AreOver n wants → AreOrdered wants → AreOrdered (these ++ wants)
order_before n [] wants are over order = order
order_before n (x ∷ []) wants are over order = (subst (λ m. AreOver m wants) (sym are) over, order)
order_before n (x ∷ y ∷ these) wants are over order = absurd are

pub order_then : (n : ℕ) (these wants : List Want) → AreFor n these → AreOrdered wants → AreOrdered (with_wants n these wants)
order_then n these [] are order = subst AreOrdered (append-nil these) (order_before n these [] are tt tt)
order_then n these (w ∷ wants) are order = elim (compared (number_in w) n) [
  | Lower is ↦ subst AreOrdered (sym (behind n these w wants is)) (over_then (number_in w) n these wants is are order.0, order_then n these wants are order.1)
  | Same is ↦ subst AreOrdered (sym (in_place n these w wants is)) (order_before n these wants are (subst (λ m. AreOver m wants) is order.0) order.1)
  | Higher is ↦ subst AreOrdered (sym (in_front n these w wants is)) (order_before n these (w ∷ wants) are (is, over_less n (number_in w) wants (less n (number_in w) is) order.0) order)
]
  where
    less : (a b : ℕ) → a < b → a ≤ b
    less a b is = omega (arith, is)

-- ---- which there are then

pub first_has : (x : Want) (xs : List Want) → Contains (x ∷ xs) x
first_has x xs = (0, omega arith, refl)

pub rest_has : (x : Want) (xs : List Want) (y : Want) → Contains xs y → Contains (x ∷ xs) y
rest_has x xs y has = Contains-append_right (x ∷ []) xs y has

pub none_has : (w : Want) → Contains [] w → ⊥
none_has w has = let less = has.1 in omega (arith, less)

pub only_one : (x w : Want) → Contains (x ∷ []) w → w ≡ x
only_one x w (zero, few, is) = sym is
only_one x w (suc k, few, is) = absurd (omega (arith, few))

pub has_cases : (x : Want) (xs : List Want) (w : Want) → Contains (x ∷ xs) w → (w ≡ x) ⊎ Contains xs w
has_cases x xs w has = elim (Contains-append_cases (x ∷ []) xs w has) [ inl one ↦ inl (only_one x w one) | inr more ↦ inr more ]

over_has : (n : ℕ) (wants : List Want) (w : Want) → AreOver n wants → Contains wants w → n < number_in w
over_has n [] w over has = absurd (none_has w has)
over_has n (x ∷ wants) w over has = elim (has_cases x wants w has) [ inl one ↦ subst (λ (y : Want). n < number_in y) (sym one) over.0 | inr more ↦ over_has n wants w over.1 more ]

-- these are
pub has_these : (n : ℕ) (these wants : List Want) (x : Want) → Contains these x → Contains (with_wants n these wants) x
has_these n these [] x has = has
has_these n these (w ∷ wants) x has = elim (compared (number_in w) n) [
  | Lower is ↦ subst (λ l. Contains l x) (sym (behind n these w wants is)) (rest_has w (with_wants n these wants) x (has_these n these wants x has))
  | Same is ↦ subst (λ l. Contains l x) (sym (in_place n these w wants is)) (Contains-append_left these wants x has)
  | Higher is ↦ subst (λ l. Contains l x) (sym (in_front n these w wants is)) (Contains-append_left these (w ∷ wants) x has)
]

-- and each with another number stays
pub has_yet : (n : ℕ) (these wants : List Want) (x : Want) → (number_in x ≡ n → ⊥) → Contains wants x → Contains (with_wants n these wants) x
has_yet n these [] x other has = absurd (none_has x has)
has_yet n these (w ∷ wants) x other has = elim (compared (number_in w) n) [
  | Lower is ↦ subst (λ l. Contains l x) (sym (behind n these w wants is)) (lower (λ more. has_yet n these wants x other more) (has_cases w wants x has))
  | Same is ↦ subst (λ l. Contains l x) (sym (in_place n these w wants is)) (same is (has_cases w wants x has))
  | Higher is ↦ subst (λ l. Contains l x) (sym (in_front n these w wants is)) (Contains-append_right these (w ∷ wants) x has)
]
  where
    lower : (Contains wants x → Contains (with_wants n these wants) x) → (x ≡ w) ⊎ Contains wants x → Contains (w ∷ with_wants n these wants) x
    lower rest either = elim either [
      | inl one ↦ subst (Contains (w ∷ with_wants n these wants)) (sym one) (first_has w (with_wants n these wants))
      | inr more ↦ rest_has w
          (with_wants n these wants) x (rest more)
    ]

    same : number_in w ≡ n → (x ≡ w) ⊎ Contains wants x → Contains (these ++ wants) x
    same is either = elim either [ inl one ↦ absurd (other (ap number_in one ∙ is)) | inr more ↦ Contains-append_right these wants x more ]

-- and there is no other
pub has_only : (n : ℕ) (these wants : List Want) (x : Want) → AreOrdered wants → Contains (with_wants n these wants) x → Contains these x ⊎ (Contains wants x × (number_in x ≡ n → ⊥))
has_only n these [] x order has = inl has
has_only n these (w ∷ wants) x order has = elim (compared (number_in w) n) [
  | Lower is ↦ lower is (λ more. has_only n these wants x order.1 more) (has_cases w (with_wants n these wants) x (subst (λ l. Contains l x) (behind n these w wants is) has))
  | Same is ↦ same is (Contains-append_cases these wants x (subst (λ l. Contains l x) (in_place n these w wants is) has))
  | Higher is ↦ higher is (Contains-append_cases these (w ∷ wants) x (subst (λ l. Contains l x) (in_front n these w wants is) has))
]
  where
    apart : (a : ℕ) → a < n → a ≡ n → ⊥
    apart a less is = omega (arith, less, is)

    apart_over : (a : ℕ) → n < a → a ≡ n → ⊥
    apart_over a less is = omega (arith, less, is)

    lower : number_in w < n → (Contains (with_wants n these wants) x → Contains these x ⊎ (Contains wants x × (number_in x ≡ n → ⊥))) → (x ≡ w) ⊎ Contains
        (with_wants n these wants) x → Contains these x ⊎ (Contains (w ∷ wants) x × (number_in x ≡ n → ⊥))
    lower is rest either = elim either [
      | inl one ↦ inr (subst (Contains (w ∷ wants)) (sym one) (first_has w wants), apart (number_in x) (subst (λ (y : Want). number_in y < n) (sym one) is))
      | inr more ↦ elim (rest more) [ inl here ↦ inl here | inr there ↦ inr (rest_has w wants x there.0, there.1) ]
    ]

    same : number_in w ≡ n → Contains these x ⊎ Contains wants x → Contains these x ⊎ (Contains (w ∷ wants) x × (number_in x ≡ n → ⊥))
    same is either = elim either [
      | inl here ↦ inl here
      | inr more ↦ inr (rest_has w wants x more, apart_over (number_in x) (subst (λ m. m < number_in x) is (over_has (number_in w) wants x order.0 more)))
    ]

    higher : n < number_in w → Contains these x ⊎ Contains (w ∷ wants) x → Contains these x ⊎ (Contains (w ∷ wants) x × (number_in x ≡ n → ⊥))
    higher is either = elim either [
      | inl here ↦ inl here
      | inr more ↦ inr (more, apart_over (number_in x) (over_has n (w ∷ wants) x (is, over_less n (number_in w) wants (less n (number_in w) is) order.0) more))
    ]
      where
        less : (a b : ℕ) → a < b → a ≤ b
        less a b is = omega (arith, is)

-- ---- how many there are then

long_append : (xs ys : List Want) → length (xs ++ ys) ≡ length xs + length ys
long_append [] ys = none (length ys)
  where
    none : (n : ℕ) → n ≡ 0 + n
    none n = omega arith
long_append (x ∷ xs) ys = more (length (xs ++ ys)) (length xs) (length ys) (long_append xs ys)
  where
    more : (a b c : ℕ) → a ≡ b + c → suc a ≡ suc b + c
    more a b c is = omega (arith, is)

-- where one stood for the number
pub long_one : (n : ℕ) (these wants : List Want) (w : Want) → AreOrdered wants → Contains wants w → number_in w ≡ n → length (with_wants n these wants) + 1 ≡ length wants + length these
long_one n these [] w order has is = absurd (none_has w has)
long_one n these (x ∷ wants) w order has is = elim (compared (number_in x) n) [
  | Lower less ↦ ap (λ (l : List Want). length l + 1) (behind n these x wants less) ∙ lower less (λ more. long_one n these wants w order.1 more is) (has_cases x wants w has)
  | Same same ↦ ap (λ (l : List Want). length l + 1) (in_place n these x wants same) ∙ here (length (these ++ wants)) (length these) (length wants) (long_append these wants)
  | Higher more ↦ absurd (never more (has_cases x wants w has))
]
  where
    here : (a b c : ℕ) → a ≡ b + c → a + 1 ≡ suc c + b
    here a b c long = omega (arith, long)

    then_is : (a b c : ℕ) → a + 1 ≡ b + c → suc a + 1 ≡ suc b + c
    then_is a b c long = omega (arith, long)

    apart : (a : ℕ) → a < n → a ≡ n → ⊥
    apart a less same = omega (arith, less, same)

    lower : number_in x < n → (Contains wants w → length (with_wants n these wants) + 1 ≡ length wants + length these) → (w ≡ x) ⊎ Contains wants w → length
        (x ∷ with_wants n these wants) + 1 ≡ length (x ∷ wants) + length these
    lower less rest either = elim either [
      | inl one ↦ absurd (apart (number_in x) less (sym (ap number_in one) ∙ is))
      | inr more ↦ then_is (length (with_wants n these wants)) (length wants) (length these) (rest more)
    ]

    far : (a : ℕ) → n < a → a ≡ n → ⊥
    far a less same = omega (arith, less, same)

    further : (a b : ℕ) → n < a → a < b → b ≡ n → ⊥
    further a b less more same = omega (arith, less, more, same)

    never : n < number_in x → (w ≡ x) ⊎ Contains wants w → ⊥
    never less either = elim either [
      | inl one ↦ far (number_in x) less (sym (ap number_in one) ∙ is)
      | inr more ↦ further (number_in x) (number_in w) less (over_has (number_in x) wants w order.0 more) is
    ]

-- and where none did
pub long_none : (n : ℕ) (these wants : List Want) → ((w : Want) → Contains wants w → number_in w ≡ n → ⊥) → length (with_wants n these wants) ≡ length wants + length these
long_none n these [] none = same (length these)
  where
    same : (n : ℕ) → n ≡ 0 + n
    same n = omega arith
long_none n these (x ∷ wants) none = elim (compared (number_in x) n) [
  | Lower less ↦ ap length (behind n these x wants less) ∙ then_is (length (with_wants n these wants)) (length wants) (length these)
      (long_none n these wants (λ w has. none w (rest_has x wants w has)))
  | Same same ↦ absurd (none x (first_has x wants) same)
  | Higher more ↦ ap length (in_front n these x wants more) ∙ long_append these (x ∷ wants) ∙ turned (length these) (length (x ∷ wants))
]
  where
    then_is : (a b c : ℕ) → a ≡ b + c → suc a ≡ suc b + c
    then_is a b c long = omega (arith, long)

    turned : (a b : ℕ) → a + b ≡ b + a
    turned a b = omega arith

-- ---- what a test of a place says

pub stands : (place n : ℕ) (wants : List Want) → has_at place n wants ≡ true → (w : Want) × (slice_get wants place ≡ Some w) × (number_in w ≡ n)
stands place n wants is = by (slice_get wants place) refl is
  where
    equal : (a : ℕ) → (a == n) ≡ true → a ≡ n
    equal a same = grind (arith, nat_tests, same)

    by : (o : Option Want) → slice_get wants place ≡ o → has_number n o ≡ true → (w : Want) × (slice_get wants place ≡ Some w) × (number_in w ≡ n)
    by None here same = cc
    by (Some w) here same = (w, here, equal (number_in w) same)

-- ---- the want of a socket

pub listed_some : (n : ℕ) (w : Waits) → is_any w ≡ true → listed n w ≡ record { of = Tcp n; read = w.read; write = w.write } ∷ []
listed_some n w is = ap (λ (b : Bool). if b then record { of = Tcp n; read = w.read; write = w.write } ∷ [] else []) is

pub listed_none : (n : ℕ) (w : Waits) → is_any w ≡ false → listed n w ≡ []
listed_none n w is = ap (λ (b : Bool). if b then record { of = Tcp n; read = w.read; write = w.write } ∷ [] else []) is

pub listed_for : (n : ℕ) (w : Waits) → AreFor n (listed n w)
listed_for n w = by (is_any w) refl
  where
    by : (b : Bool) → is_any w ≡ b → AreFor n (listed n w)
    by true is = subst (AreFor n) (sym (listed_some n w is)) refl
    by false is = subst (AreFor n) (sym (listed_none n w is)) tt

-- ---- the wants then

pub after_same : (was : Waits) (n : ℕ) (is : Waits) (wants : List Want) → same_ways was is ≡ true → wants_after was n is wants ≡ wants
after_same was n is wants same = ap (λ (b : Bool). if b then wants else with_wants n (listed n is) wants) same

pub after_other : (was : Waits) (n : ℕ) (is : Waits) (wants : List Want) → same_ways was is ≡ false → wants_after was n is wants ≡ with_wants n (listed n is) wants
after_other was n is wants other = ap (λ (b : Bool). if b then wants else with_wants n (listed n is) wants) other

-- ---- a want is put in where there is room

pub put_ok : {T E : Type 0} (r : Result T E) (now done was : List Want) → IsOk r → now ≡ (if is_ok r then done else was) → now ≡ done
put_ok (Ok x) now done was ok is = is
put_ok (Err e) now done was ok is = absurd cc

pub long_insert : (wants : List Want) (i : ℕ) (x : Want) → i ≤ length wants → length (insert wants i x) ≡ length wants + 1
long_insert wants i x fits = length-insert wants i x fits

-- what is waited for on a socket
abbrev pub want_of : ℕ → Waits → Want
want_of n waits = record { of = Tcp n; read = waits.read; write = waits.write }

-- a want is put in: what the list is then, and that there is room for it
pub record Put (n place room : ℕ) (waits : Waits) (wants : List Want) : Type 0 where
  pub is : insert wants place (want_of n waits) ≡ with_wants n (listed n waits) wants
  pub fits : length wants < room

pub put_so : (n place room : ℕ) (waits : Waits) (wants seen : List Want) → seen ≡ wants → IsPlaceOf n seen place → place ≤ length seen → has_at place n wants ≡ false → is_any waits ≡ true
    → length (with_wants n (listed n waits) wants) ≤ room → Put n place room waits wants
put_so n place room waits wants seen same stood bound none any enough =
    let x = want_of n waits in
    let within = subst (λ (l : List Want). place ≤ length l) same bound in
    let is = put_in n wants place x within (subst (λ (l : List Want). IsPlaceOf n l place) same stood) none ∙ ap (λ (l : List Want). with_wants n l wants) (sym (listed_some n waits any)) in
    let long : length (with_wants n (listed n waits) wants) ≡ length wants + 1 = sym (ap (λ (l : List Want). length l) is) ∙ long_insert wants place x within in
    record { is = is; fits = omega (arith, long, enough) }

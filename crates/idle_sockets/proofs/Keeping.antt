-- What changes of the rows make of the list.
use Rattle.std.proofs.Common.{◌≡◌, ℕ, zero, suc, ◌+◌, ◌<◌, ◌≤◌, ◌==◌, ◌&&◌, ◌||◌, not, nat_le, Bool, cond, true, false, All, List, [], ◌∷◌, ◌++◌, length, get_or, set, slice_get, find, option_map, min}
use Rattle.std.proofs.Common.{Option, Some, None, refl, sym, ◌∙◌, ap, arith}
use Rattle.std.proofs.lemmas.Bool.Decides.{nat_tests}
use Rattle.std.specs.List.{remove, list_any}
use Rattle.std.proofs.lemmas.List.Elements.{All-cons, All-nil, All-head, All-tail}
use Rattle.idle_sockets.specs.Sockets.{is_numbered, is_over, moved_last, number_of, numbered, numbers}
use Rattle.idle_sockets.specs.Closing.{IsLeast, without}
use Rattle.idle_sockets.specs.Numbers.{one, times, gone, AreAbove, Rise}
use Rattle.idle_sockets.specs.Rows.{row, in_order, AreSince, AreRows}
use Rattle.idle_sockets.specs.declared.IdleSocket.{IdleSocket}
use Rattle.idle_sockets.proofs.Ordering.{same, equal, is_equal, is_other, gone_none, as_long, once}

-- a row has its number
pub row_number : (n : ℕ) (rows : List IdleSocket) → (row n rows).number ≡ n
row_number n [] = refl
row_number n (a ∷ rows) = by (is_numbered n a) refl (row_number n rows)
  where
    by : (b : Bool) → (a.number == n) ≡ b → (row n rows).number ≡ n → (cond b a (row n rows)).number ≡ n
    by true is rest = equal a.number n is
    by false is rest = rest

pub numbers_in_order : (rows : List IdleSocket) (order : List ℕ) → numbers (in_order rows order) ≡ order
numbers_in_order rows [] = refl
numbers_in_order rows (n ∷ order) = ap (λ m. m ∷ numbers (in_order rows order)) (row_number n rows) ∙ ap (λ l. n ∷ l) (numbers_in_order rows order)

pub length_in_order : (rows : List IdleSocket) (order : List ℕ) → length (in_order rows order) ≡ length order
length_in_order rows [] = refl
length_in_order rows (n ∷ order) = omega (arith, length_in_order rows order)

pub length_numbers : (rows : List IdleSocket) → length (numbers rows) ≡ length rows
length_numbers [] = refl
length_numbers (a ∷ rows) = omega (arith, length_numbers rows)

-- as many are in the list as there are rows
pub as_many : (rows : List IdleSocket) (rising order : List ℕ) (since : ℕ) → AreRows rows rising order since → (length order ≡ length rows) × (length rising ≡ length rows)
as_many rows rising order since are =
    let long = as_long order rising are.same in
    let numbered_so = ap length are.numbers_are ∙ length_numbers rows in
    (long ∙ numbered_so, numbered_so)

-- the one with a number
pub none_numbered : (x : ℕ) (rows : List IdleSocket) (order : List ℕ) → times x order ≡ 0 → numbered x (in_order rows order) ≡ None
none_numbered x rows [] none = refl
none_numbered x rows (m ∷ order) none = by (m == x) refl none (λ rest. none_numbered x rows order rest)
  where
    by : (b : Bool) → (m == x) ≡ b → one b + times x order ≡ 0 → (times x order ≡ 0 → numbered x (in_order rows order) ≡ None) → numbered x (in_order rows (m ∷ order)) ≡ None
    by true is far more = absurd (omega (arith, far))
    by false is far more =
        ap (λ k. cond (k == x) (Some (row m rows)) (numbered x (in_order rows order))) (row_number m rows)
        ∙ ap (λ b. cond b (Some (row m rows)) (numbered x (in_order rows order))) is ∙ more (omega (arith, far))

pub one_numbered : (x : ℕ) (rows : List IdleSocket) (order : List ℕ) → 0 < times x order → numbered x (in_order rows order) ≡ Some (row x rows)
one_numbered x rows [] some = absurd (omega (arith, some))
one_numbered x rows (m ∷ order) some = by (m == x) refl some (λ rest. one_numbered x rows order rest)
  where
    by : (b : Bool) → (m == x) ≡ b → 0 < one b + times x order → (0 < times x order → numbered x (in_order rows order) ≡ Some (row x rows)) → numbered x (in_order rows (m ∷ order)) ≡ Some (row x rows)
    by true is here more =
        ap (λ k. cond (k == x) (Some (row m rows)) (numbered x (in_order rows order))) (row_number m rows)
        ∙ ap (λ b. cond b (Some (row m rows)) (numbered x (in_order rows order))) is ∙ ap (λ k. Some (row k rows)) (equal m x is)
    by false is here more =
        ap (λ k. cond (k == x) (Some (row m rows)) (numbered x (in_order rows order))) (row_number m rows)
        ∙ ap (λ b. cond b (Some (row m rows)) (numbered x (in_order rows order))) is ∙ more (omega (arith, here))

-- the row at the place of a number
above_numbers : (n : ℕ) (rows : List IdleSocket) (p : ℕ) → AreAbove n (numbers rows) → p < length rows → n < get_or (numbers rows) p 0
above_numbers n [] p above few = absurd (omega (arith, few))
above_numbers n (a ∷ rows) zero above few = above.0
above_numbers n (a ∷ rows) (suc p) above few = above_numbers n rows p above.1 (omega (arith, few))

pub row_at : (rows : List IdleSocket) (p x : ℕ) (d : IdleSocket) → Rise (numbers rows) → p < length rows → get_or (numbers rows) p 0 ≡ x → get_or rows p d ≡ row x rows
row_at [] p x d rise few is = absurd (omega (arith, few))
row_at (a ∷ rows) zero x d rise few is = sym (ap (λ b. cond b a (row x rows)) (is_equal a.number x is))
row_at (a ∷ rows) (suc p) x d rise few is =
    let less = above_numbers a.number rows p rise.0 (omega (arith, few)) in
    row_at rows p x d rise.1 (omega (arith, few)) is ∙ sym (ap (λ b. cond b a (row x rows)) (is_other a.number x (λ it. omega (arith, less, is, it))))

-- one row is changed
pub numbers_set : (rows : List IdleSocket) (p : ℕ) (b d : IdleSocket) → p < length rows → (get_or rows p d).number ≡ b.number → numbers (set rows p b) ≡ numbers rows
numbers_set [] p b d few is = absurd (omega (arith, few))
numbers_set (a ∷ rows) zero b d few is = ap (λ n. n ∷ numbers rows) (sym is)
numbers_set (a ∷ rows) (suc p) b d few is = ap (λ l. a.number ∷ l) (numbers_set rows p b d (omega (arith, few)) is)

pub row_set_other : (rows : List IdleSocket) (p n : ℕ) (b d : IdleSocket) → p < length rows → (get_or rows p d).number ≡ b.number → (b.number ≡ n → ⊥) → row n (set rows p b) ≡ row n rows
row_set_other [] p n b d few is other = absurd (omega (arith, few))
row_set_other (a ∷ rows) zero n b d few is other =
    ap (λ t. cond t b (row n rows)) (is_other b.number n other) ∙ sym (ap (λ t. cond t a (row n rows)) (is_other a.number n (λ it. other (sym is ∙ it))))
row_set_other (a ∷ rows) (suc p) n b d few is other = ap (λ r. cond (is_numbered n a) a r) (row_set_other rows p n b d (omega (arith, few)) is other)

pub since_set : (since now : ℕ) (rows : List IdleSocket) (p : ℕ) (b : IdleSocket) → AreSince since rows → b.used ≡ now → AreSince (min since now) (set rows p b)
since_set since now [] p b are is = tt
since_set since now (a ∷ rows) zero b are is = (omega (arith, is), since_less since (min since now) rows are.1 (omega arith))
  where
    since_less : (s t : ℕ) (rows : List IdleSocket) → AreSince s rows → t ≤ s → AreSince t rows
    since_less s t [] are le = tt
    since_less s t (a ∷ rows) are le = (omega (arith, are.0, le), since_less s t rows are.1 le)
since_set since now (a ∷ rows) (suc p) b are is = (omega (arith, are.0), since_set since now rows p b are.1 is)

-- a row more
pub row_more_other : (rows : List IdleSocket) (a : IdleSocket) (n : ℕ) → (a.number ≡ n → ⊥) → row n (rows ++ (a ∷ [])) ≡ row n rows
row_more_other [] a n other = ap (λ b. cond b a (row n [])) (is_other a.number n other)
row_more_other (x ∷ rows) a n other = ap (λ r. cond (is_numbered n x) x r) (row_more_other rows a n other)

pub row_more : (rows : List IdleSocket) (a : IdleSocket) → times a.number (numbers rows) ≡ 0 → row a.number (rows ++ (a ∷ [])) ≡ a
row_more [] a none = ap (λ b. cond b a (row a.number [])) (same a.number)
row_more (x ∷ rows) a none = by (x.number == a.number) none (λ rest. row_more rows a rest)
  where
    by : (b : Bool) → one b + times a.number (numbers rows) ≡ 0 → (times a.number (numbers rows) ≡ 0 → row a.number (rows ++ (a ∷ [])) ≡ a) → cond b x (row a.number (rows ++ (a ∷ []))) ≡ a
    by true far more = absurd (omega (arith, far))
    by false far more = more (omega (arith, far))

pub since_more : (since : ℕ) (rows : List IdleSocket) (a : IdleSocket) → AreSince since rows → AreSince (min since a.used) (rows ++ (a ∷ []))
since_more since [] a are = (omega arith, tt)
since_more since (x ∷ rows) a are = (omega (arith, are.0), since_more since rows a are.1)

-- a row less
pub numbers_removed : (rows : List IdleSocket) (p : ℕ) → p < length rows → numbers (remove rows p) ≡ remove (numbers rows) p
numbers_removed [] p few = absurd (omega (arith, few))
numbers_removed (a ∷ rows) zero few = refl
numbers_removed (a ∷ rows) (suc p) few = ap (λ l. a.number ∷ l) (numbers_removed rows p (omega (arith, few)))

pub row_removed : (rows : List IdleSocket) (p n : ℕ) → p < length rows → (get_or (numbers rows) p 0 ≡ n → ⊥) → row n (remove rows p) ≡ row n rows
row_removed [] p n few other = absurd (omega (arith, few))
row_removed (a ∷ rows) zero n few other = sym (ap (λ b. cond b a (row n rows)) (is_other a.number n other))
row_removed (a ∷ rows) (suc p) n few other = ap (λ r. cond (is_numbered n a) a r) (row_removed rows p n (omega (arith, few)) other)

pub since_removed : (since : ℕ) (rows : List IdleSocket) (p : ℕ) → p < length rows → AreSince since rows → AreSince since (remove rows p)
since_removed since [] p few are = absurd (omega (arith, few))
since_removed since (a ∷ rows) zero few are = are.1
since_removed since (a ∷ rows) (suc p) few are = (are.0, since_removed since rows p (omega (arith, few)) are.1)

-- rows that are the same where they are asked for
pub same_order : (rows new : List IdleSocket) (order : List ℕ) → ((n : ℕ) → 0 < times n order → row n new ≡ row n rows) → in_order new order ≡ in_order rows order
same_order rows new [] same_rows = refl
same_order rows new (n ∷ order) same_rows =
    let here = ap one (same n) in
    ap (λ a. a ∷ in_order new order) (same_rows n (omega (arith, here))) ∙ ap (λ l. row n rows ∷ l) (same_order rows new order (λ m some. same_rows m (omega (arith, some))))

pub in_order-append : (rows : List IdleSocket) (order : List ℕ) (n : ℕ) → in_order rows (order ++ (n ∷ [])) ≡ in_order rows order ++ (row n rows ∷ [])
in_order-append rows [] n = refl
in_order-append rows (m ∷ order) n = ap (λ l. row m rows ∷ l) (in_order-append rows order n)

pub without_in_order : (x : ℕ) (rows : List IdleSocket) (order : List ℕ) → without number_of x (in_order rows order) ≡ in_order rows (gone x order)
without_in_order x rows [] = refl
without_in_order x rows (m ∷ order) =
    ap (λ k. cond (not (k == x)) (row m rows ∷ without number_of x (in_order rows order)) (without number_of x (in_order rows order))) (row_number m rows) ∙ by (m == x) (without_in_order x rows order)
  where
    by : (b : Bool) → without number_of x (in_order rows order) ≡ in_order rows (gone x order)
        → cond (not b) (row m rows ∷ without number_of x (in_order rows order)) (without number_of x (in_order rows order)) ≡ in_order rows (cond (not b) (m ∷ gone x order) (gone x order))
    by true rest = rest
    by false rest = ap (λ l. row m rows ∷ l) rest

pub moved_in_order : (change : IdleSocket → IdleSocket) (x : ℕ) (rows : List IdleSocket) (order : List ℕ) → times x order ≡ 1
    → moved_last change x (in_order rows order) ≡ in_order rows (gone x order) ++ (change (row x rows) ∷ [])
moved_in_order change x rows [] some = cc
moved_in_order change x rows (m ∷ order) some =
    ap (λ k. cond (k == x) (in_order rows order ++ (change (row m rows) ∷ [])) (row m rows ∷ moved_last change x (in_order rows order))) (row_number m rows)
    ∙ by (m == x) refl some (λ rest. moved_in_order change x rows order rest)
  where
    by : (b : Bool) → (m == x) ≡ b → one b + times x order ≡ 1 → (times x order ≡ 1 → moved_last change x (in_order rows order) ≡ in_order rows (gone x order) ++ (change (row x rows) ∷ []))
        → cond b (in_order rows order ++ (change (row m rows) ∷ [])) (row m rows ∷ moved_last change x (in_order rows order)) ≡ in_order rows
        (cond (not b) (m ∷ gone x order) (gone x order)) ++ (change (row x rows) ∷ [])
    by true is one_of more =
        ap (λ k. in_order rows order ++ (change (row k rows) ∷ [])) (equal m x is)
        ∙ ap (λ l. in_order rows l ++ (change (row x rows) ∷ [])) (sym (gone_none x order (omega (arith, one_of))))
    by false is one_of more = ap (λ l. row m rows ∷ l) (more (omega (arith, one_of)))

pub unmoved : (change : IdleSocket → IdleSocket) (x : ℕ) (rows : List IdleSocket) (order : List ℕ) → times x order ≡ 0 → moved_last change x (in_order rows order) ≡ in_order rows order
unmoved change x rows [] none = refl
unmoved change x rows (m ∷ order) none =
    ap (λ k. cond (k == x) (in_order rows order ++ (change (row m rows) ∷ [])) (row m rows ∷ moved_last change x (in_order rows order))) (row_number m rows)
    ∙ by (m == x) none (λ rest. unmoved change x rows order rest)
  where
    by : (b : Bool) → one b + times x order ≡ 0 → (times x order ≡ 0 → moved_last change x (in_order rows order) ≡ in_order rows order)
        → cond b (in_order rows order ++ (change (row m rows) ∷ [])) (row m rows ∷ moved_last change x (in_order rows order)) ≡ in_order rows (m ∷ order)
    by true far more = absurd (omega (arith, far))
    by false far more = ap (λ l. row m rows ∷ l) (more (omega (arith, far)))

-- what is so of each row is so of each of the list
row_all : (P : IdleSocket → Type 0) (n : ℕ) (rows : List IdleSocket) → 0 < times n (numbers rows) → All P rows → P (row n rows)
row_all P n [] some all = absurd (omega (arith, some))
row_all P n (a ∷ rows) some all = by (a.number == n) some (λ rest. row_all P n rows rest (All-tail P a rows all))
  where
    by : (b : Bool) → 0 < one b + times n (numbers rows) → (0 < times n (numbers rows) → P (row n rows)) → P (cond b a (row n rows))
    by true here more = All-head P a rows all
    by false here more = more (omega (arith, here))

pub all_in_order : (P : IdleSocket → Type 0) (rows : List IdleSocket) (order : List ℕ) → ((n : ℕ) → 0 < times n order → 0 < times n (numbers rows)) → All P rows → All P (in_order rows order)
all_in_order P rows [] among all = All-nil P
all_in_order P rows (n ∷ order) among all =
    let here = ap one (same n) in
    All-cons P (row n rows) (in_order rows order) (row_all P n rows (among n (omega (arith, here))) all)
    (all_in_order P rows order (λ m some. among m (omega (arith, some))) all)

-- and one that passes a test is in the list
row_passes : (test : IdleSocket → Bool) (x : ℕ) (rows : List IdleSocket) → times x (numbers rows) ≤ 1 → list_any (λ a. is_numbered x a && test a) rows ≡ true
    → (0 < times x (numbers rows)) × (test (row x rows) ≡ true)
row_passes test x [] few is = cc
row_passes test x (a ∷ rows) few is = by (a.number == x) (test a) refl few is (λ rest some. row_passes test x rows rest some)
  where
    nowhere_else : (rows : List IdleSocket) → times x (numbers rows) ≡ 0 → list_any (λ a. is_numbered x a && test a) rows ≡ false
    nowhere_else [] none = refl
    nowhere_else (y ∷ rows) none = by_one (y.number == x) none (λ rest. nowhere_else rows rest)
      where
        by_one : (b : Bool) → one b + times x (numbers rows) ≡ 0 → (times x (numbers rows) ≡ 0 → list_any (λ a. is_numbered x a && test a) rows ≡ false)
            → ((b && test y) || list_any (λ a. is_numbered x a && test a) rows) ≡ false
        by_one true far more = absurd (omega (arith, far))
        by_one false far more = more (omega (arith, far))

    by : (b t : Bool) → test a ≡ t → one b + times x (numbers rows) ≤ 1 → ((b && t) || list_any (λ a. is_numbered x a && test a) rows) ≡ true
        → (times x (numbers rows) ≤ 1 → list_any (λ a. is_numbered x a && test a) rows ≡ true → (0 < times x (numbers rows)) × (test (row x rows) ≡ true))
        → (0 < one b + times x (numbers rows)) × (test (cond b a (row x rows)) ≡ true)
    by true true passes few some more = (omega arith, passes)
    by true false passes few some more = let none = nowhere_else rows (omega (arith, few)) in cc
    by false t passes few some more = let later = more (omega (arith, few)) some in (omega (arith, later.0), later.1)

any_in_order : (test : IdleSocket → Bool) (x : ℕ) (rows : List IdleSocket) (order : List ℕ) → 0 < times x order → test (row x rows) ≡ true → list_any
    (λ a. is_numbered x a && test a) (in_order rows order) ≡ true
any_in_order test x rows [] some passes = absurd (omega (arith, some))
any_in_order test x rows (m ∷ order) some passes =
    ap (λ k. ((k == x) && test (row m rows)) || list_any (λ a. is_numbered x a && test a) (in_order rows order)) (row_number m rows)
    ∙ by (m == x) refl some (λ rest. any_in_order test x rows order rest passes)
  where
    or_later : (a b : Bool) → b ≡ true → (a || b) ≡ true
    or_later true b is = refl
    or_later false b is = is

    by : (b : Bool) → (m == x) ≡ b → 0 < one b + times x order → (0 < times x order → list_any (λ a. is_numbered x a && test a) (in_order rows order) ≡ true)
        → ((b && test (row m rows)) || list_any (λ a. is_numbered x a && test a) (in_order rows order)) ≡ true
    by true is here more =
        ap (λ k. test (row k rows) || list_any (λ a. is_numbered x a && test a) (in_order rows order)) (equal m x is)
        ∙ ap (λ b. b || list_any (λ a. is_numbered x a && test a) (in_order rows order)) passes
    by false is here more = or_later (false && test (row m rows)) (list_any (λ a. is_numbered x a && test a) (in_order rows order)) (more (omega (arith, here)))

-- the least of the rows is the least of the list
pub least_in_order : (test : IdleSocket → Bool) (rows : List IdleSocket) (order : List ℕ) (found : Option ℕ) → ((n : ℕ) → times n order ≡ times n (numbers rows)) → Rise (numbers rows)
    → IsLeast number_of test rows found → IsLeast number_of test (in_order rows order) found
least_in_order test rows order None equally rise least = all_in_order (λ a. test a ≡ false) rows order (λ n some. let e = equally n in omega (arith, e, some)) least
least_in_order test rows order (Some x) equally rise least =
    let passes = row_passes test x rows (once x (numbers rows) rise) least.0 in
    let e = equally x in (
      any_in_order test x rows order (omega (arith, e, passes.0)) passes.1,
      all_in_order (λ a. test a ≡ true → x ≤ a.number) rows order (λ n some. let f = equally n in omega (arith, f, some)) least.1,
    )

-- of rows by rising number the first that passes a test has the least number
least_above : (test : IdleSocket → Bool) (n : ℕ) (rows : List IdleSocket) → AreAbove n (numbers rows) → All (λ a. test a ≡ true → n ≤ a.number) rows
least_above test n [] above = All-nil (λ a. test a ≡ true → n ≤ a.number)
least_above test n (a ∷ rows) above = All-cons (λ a. test a ≡ true → n ≤ a.number) a rows (λ is. omega (arith, above.0)) (least_above test n rows above.1)

pub first_is_least : (test : IdleSocket → Bool) (rows : List IdleSocket) → Rise (numbers rows) → IsLeast number_of test rows (option_map number_of (find test rows))
first_is_least test [] rise = All-nil (λ a. test a ≡ false)
first_is_least test (a ∷ rows) rise = by (test a) refl (find test rows) (first_is_least test rows rise.1)
  where
    behind : (n : ℕ) (first : Bool) → list_any (λ x. is_numbered n x && test x) rows ≡ true → (first || list_any (λ x. is_numbered n x && test x) rows) ≡ true
    behind n true is = refl
    behind n false is = is

    by : (t : Bool) → test a ≡ t → (found : Option IdleSocket) → IsLeast number_of test rows (option_map number_of found) →
        IsLeast number_of test (a ∷ rows) (option_map number_of (cond t (Some a) found))
    by true passes found rest = (
      ap (λ b. (b && test a) || list_any (λ x. is_numbered a.number x && test x) rows) (same a.number) ∙ ap (λ b. b || list_any (λ x. is_numbered a.number x && test x) rows) passes,
      All-cons (λ x. test x ≡ true → a.number ≤ x.number) a rows (λ is. omega arith) (least_above test a.number rows rise.0),
    )
    by false fails None rest = All-cons (λ x. test x ≡ false) a rows fails rest
    by false fails (Some s) rest = (
      behind s.number (is_numbered s.number a && test a) rest.0,
      All-cons (λ x. test x ≡ true → s.number ≤ x.number) a rows (λ is. let never : true ≡ false = sym is ∙ fails in cc) rest.1,
    )

-- the first of all
pub first_of_all : (rows : List IdleSocket) → slice_get (numbers rows) 0 ≡ option_map number_of (find (λ a. true) rows)
first_of_all [] = refl
first_of_all (a ∷ rows) = refl

-- none is over where none was used before a moment that isn't
not_over : (life used since now : ℕ) → since ≤ used → now < since + life → nat_le (used + life) now ≡ false
not_over life used since now le early = grind (arith, nat_tests, le, early)

pub none_over : (life since now : ℕ) (rows : List IdleSocket) → AreSince since rows → now < since + life → All (λ a. is_over life now a ≡ false) rows
none_over life since now [] are early = All-nil (λ a. is_over life now a ≡ false)
none_over life since now (a ∷ rows) are early = All-cons (λ a. is_over life now a ≡ false) a rows (not_over life a.used since now are.0 early) (none_over life since now rows are.1 early)

abbrev pub nobody : IdleSocket
nobody = row 0 []

-- the first in the order of use is the first of the list
pub first_numbered : (n : ℕ) (rows : List IdleSocket) (order : List ℕ) → slice_get order 0 ≡ Some n → numbered n (in_order rows order) ≡ slice_get (in_order rows order) 0
first_numbered n rows [] is = cc
first_numbered n rows (m ∷ order) is =
    let this : m ≡ n = cc in
    ap (λ b. cond b (Some (row m rows)) (numbered n (in_order rows order))) (is_equal (row m rows).number n (row_number m rows ∙ this))

pub none_without : (x : ℕ) (rows : List IdleSocket) (order : List ℕ) → times x order ≡ 0 → without number_of x (in_order rows order) ≡ in_order rows order
none_without x rows order none = without_in_order x rows order ∙ ap (in_order rows) (gone_none x order none)

-- What the tests of numbers, lists and the two streams miss: nothing.
use Rattle.std.proofs.Common.{refl, ◌≡◌, ℕ, zero, suc, ◌+◌, ◌^◌, ◌%◌, ◌<◌, ◌≤◌, List, [], ◌∷◌, length, drop, Option, None, Some, slice_get, inl, inr, arith, subst, Bool, true, false, not}
use Rattle.std.proofs.Common.{◌&&◌, ◌||◌, IsTrue, MatchBool, ℤ, pos, nat_le, nat_lt, nat_eq}
use Rattle.std.proofs.lemmas.Bool.Decides.{nat_tests}
use Rattle.std.proofs.lemmas.Option.{slice_get_within}
use Rattle.seq_space.specs.Places.{number_of, steps_up}
use Rattle.spec_flow.specs.Event.{Segment, Story}
use Rattle.spec_flow.specs.Guest.{Up, is_empty, Known, Came, Acked, Wrote, Ended, Brought, HasCome, first_of, front}
use Rattle.spec_flow.specs.Host.{got, sent, our_place}
use Rattle.spec_flow.specs.Flow.{host}
use Rattle.spec_flow.specs.Lawful.{IsPiece}
use Rattle.spec_flow.specs.Computed.{same_bool, is_at, is_number, begins_with, is_octet, brings, brings_all, are_sized, ends_at, has_come, stands_at, sends_read}
use Rattle.spec_flow.proofs.Computing.{both, nat_within}
use Rattle.spec_flow.proofs.Ends.{ends_has}

-- ---- of tests

pub or_left : (a b : Bool) → IsTrue a → IsTrue (a || b)
or_left true b x = refl
or_left false b x = absurd cc

pub or_right : (a b : Bool) → IsTrue b → IsTrue (a || b)
or_right true b y = refl
or_right false b y = y

pub and_true : (a b : Bool) → IsTrue a → IsTrue b → IsTrue (a && b)
and_true true b x y = y
and_true false b x y = absurd cc

pub three_true : (a b c : Bool) → IsTrue a → IsTrue b → IsTrue c → IsTrue (a && b && c)
three_true true true c x y z = z
three_true true false c x y z = absurd cc
three_true false b c x y z = absurd cc

pub four_true : (a b c d : Bool) → IsTrue a → IsTrue b → IsTrue c → IsTrue d → IsTrue (a && b && c && d)
four_true true true true d x y z w = w
four_true true true false d x y z w = absurd cc
four_true true false c d x y z w = absurd cc
four_true false b c d x y z w = absurd cc

pub implied : (a b : Bool) → (IsTrue a → IsTrue b) → IsTrue (not a || b)
implied true b f = f refl
implied false b f = refl

pub not_true : (a : Bool) → a ≡ false → IsTrue (not a)
not_true a is = rw is refl

pub same_nat : (m n : ℕ) → m ≡ n → IsTrue (nat_eq m n)
same_nat m n is = grind (arith, nat_tests)

pub low_nat : (m n : ℕ) → m ≤ n → IsTrue (nat_le m n)
low_nat m n is = grind (arith, nat_tests)

less_nat : (m n : ℕ) → m < n → IsTrue (nat_lt m n)
less_nat m n is = grind (arith, nat_tests)

pub same_bools : (a b : Bool) → a ≡ b → IsTrue (same_bool a b)
same_bools true b is = rw (← is) refl
same_bools false b is = rw (← is) refl

pub same_numbers : (o p : Option ℕ) → o ≡ p → IsTrue (is_number o p)
same_numbers o p is = subst (λ (q : Option ℕ). IsTrue (is_number o q)) is (itself o)
  where
    itself : (o : Option ℕ) → IsTrue (is_number o o)
    itself None = refl
    itself (Some n) = same_nat n n refl

pub empty_holds : (xs : List ℕ) → xs ≡ [] → IsTrue (is_empty xs)
empty_holds xs is = rw is refl

pub at_holds : (z : ℤ) (m : ℕ) → z ≡ pos m → IsTrue (is_at z m)
at_holds z m is = rw is (same_nat m m refl)

-- ---- of lists

-- a list that agrees with another wherever it reaches begins it
begins_holds : (xs ys : List ℕ) → ((k x : ℕ) → slice_get xs k ≡ Some x → slice_get ys k ≡ Some x) → IsTrue (begins_with xs ys)
begins_holds [] ys at = refl
begins_holds (x ∷ xs) [] at = absurd (let here = at 0 x refl in cc)
begins_holds (x ∷ xs) (y ∷ ys) at =
    let here : Some y ≡ Some x = at 0 x refl in
    let same : x ≡ y = cc in
    and_true (nat_eq x y) (begins_with xs ys) (same_nat x y same) (begins_holds xs ys (λ k z is. at (suc k) z is))

get_drop : (n : ℕ) (xs : List ℕ) (i k x : ℕ) → i ≡ n + k → slice_get xs i ≡ Some x → slice_get (drop n xs) k ≡ Some x
get_drop zero xs i k x is e = let same : i ≡ k = omega arith in rw (← same) e
get_drop (suc n) [] i k x is e = absurd cc
get_drop (suc n) (a ∷ xs) zero k x is e = absurd (omega arith)
get_drop (suc n) (a ∷ xs) (suc i) k x is e = get_drop n xs i k x (omega arith) e

-- ---- of the guest's stream

octet_holds : (o : Option ℕ) (x : ℕ) → o ≡ Some x → IsTrue (is_octet o x)
octet_holds o x is = rw is (same_nat x x refl)

steps_are : (f i n j : ℕ) → n < 2 ^ 32 → j < 2 ^ 32 → (n + j) % 2 ^ 32 ≡ number_of f i → steps_up (number_of f i) n ≡ j
steps_are f i n j fits few is = omega (arith, fits, few, is)

brings_holds : (past : List Up) (i x : ℕ) → IsTrue (are_sized past) → Brought past i x → IsTrue (brings past i x)
brings_holds [] i x sized b = absurd b
brings_holds (Came n xs fin heeded ∷ past) i x sized (inl (j, at, is)) =
    let p = both (nat_lt n (2 ^ 32) && nat_le (length xs) (2 ^ 32)) (are_sized past) sized in
    let q = both (nat_lt n (2 ^ 32)) (nat_le (length xs) (2 ^ 32)) p.0 in
    let inside = slice_get_within xs j x at in
    let few = nat_within (length xs) (2 ^ 32) q.1 in
    let same = steps_are (first_of past) i n j (less_of n (2 ^ 32) q.0) (omega (arith, inside, few)) is in
    or_left (nat_lt n (2 ^ 32) && is_octet (slice_get xs (steps_up (number_of (first_of past) i) n)) x) (brings past i x)
    (and_true (nat_lt n (2 ^ 32)) (is_octet (slice_get xs (steps_up (number_of (first_of past) i) n)) x) q.0
    (octet_holds (slice_get xs (steps_up (number_of (first_of past) i) n)) x (rw same at)))
  where
    less_of : (m n : ℕ) → IsTrue (nat_lt m n) → m < n
    less_of m n is = grind (arith, nat_tests)
brings_holds (Came n xs fin heeded ∷ past) i x sized (inr b) =
    let p = both (nat_lt n (2 ^ 32) && nat_le (length xs) (2 ^ 32)) (are_sized past) sized in
    or_right (nat_lt n (2 ^ 32) && is_octet (slice_get xs (steps_up (number_of (first_of past) i) n)) x) (brings past i x) (brings_holds past i x p.1 b)
brings_holds (Known f ∷ past) i x sized b = brings_holds past i x sized b
brings_holds (Acked n ∷ past) i x sized b = brings_holds past i x sized b
brings_holds (Wrote xs n ∷ past) i x sized b = brings_holds past i x sized b
brings_holds (Ended ∷ past) i x sized b = brings_holds past i x sized b

pub all_hold : (past : List Up) (o : ℕ) (xs : List ℕ) → IsTrue (are_sized past) → ((k i x : ℕ) → i ≡ o + k → slice_get xs k ≡ Some x → Brought past i x) → IsTrue (brings_all past o xs)
all_hold past o [] sized at = refl
all_hold past o (x ∷ xs) sized at =
    and_true (brings past o x) (brings_all past (suc o) xs) (brings_holds past o x sized (at 0 o x (omega arith) refl))
    (all_hold past (suc o) xs sized (λ k i y is e. at (suc k) i y (omega arith) e))

pub come_holds : (past : List Up) (n : ℕ) → HasCome past n → IsTrue (has_come past n)
come_holds past n (inl within) = or_left (nat_le n (length (front past))) (ends_at past (length (front past)) && nat_eq n (length (front past) + 1)) (low_nat n (length (front past)) within)
come_holds past n (inr (end, is)) =
    or_right (nat_le n (length (front past))) (ends_at past (length (front past)) && nat_eq n (length (front past) + 1))
    (and_true (ends_at past (length (front past))) (nat_eq n (length (front past) + 1)) (ends_has past (length (front past)) end) (same_nat n (length (front past) + 1) is))

-- ---- of the host's stream

piece_holds : (past : Story) (seg : Segment) → IsPiece past seg → IsTrue (stands_at (our_place (host past) seg.number) past seg.octets)
piece_holds past seg (o, place, low, stands) =
    rw place (and_true (nat_le o (sent (host past))) (begins_with seg.octets (drop o (got (host past)))) (low_nat o (sent (host past)) low)
    (begins_holds seg.octets (drop o (got (host past))) (λ k x at. get_drop o (got (host past)) (o + k) k x refl (stands k x at))))

pub read_holds : (b : Bool) (past : Story) (seg : Segment) → MatchBool b ((seg.octets ≡ []) × (seg.fin ≡ false)) (IsPiece past seg) → IsTrue (sends_read b past seg)
read_holds true past seg (none, no_fin) = and_true (is_empty seg.octets) (not seg.fin) (empty_holds seg.octets none) (not_true seg.fin no_fin)
read_holds false past seg piece = piece_holds past seg piece

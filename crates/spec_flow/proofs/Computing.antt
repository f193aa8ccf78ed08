-- What the tests of numbers, lists and the two streams show.
use Rattle.std.proofs.Common.{refl, ◌≡◌, ℕ, zero, suc, ◌+◌, ◌^◌, ◌%◌, ◌<◌, ◌≤◌, List, [], ◌∷◌, ◌++◌, drop, Option, None, Some, slice_get, ◌⊎◌, inl, inr, arith, ap, subst, Bool, true}
use Rattle.std.proofs.Common.{false, not, ◌&&◌, ◌||◌, IsTrue, MatchBool, ℤ, pos, negsuc, nat_le, nat_lt, nat_eq, sym}
use Rattle.std.proofs.lemmas.Bool.Decides.{nat_tests}
use Rattle.seq_space.specs.Places.{number_of, steps_up}
use Rattle.spec_flow.specs.Event.{Segment, Story}
use Rattle.spec_flow.specs.Guest.{Up, is_empty, Known, Came, Acked, Wrote, Ended, Brought, first_of}
use Rattle.spec_flow.specs.Host.{got, sent, our_place, StandAt}
use Rattle.spec_flow.specs.Flow.{host}
use Rattle.spec_flow.specs.Lawful.{IsPrefixOf, IsPiece}
use Rattle.spec_flow.specs.Computed.{same_bool, is_at, is_number, begins_with, is_octet, brings, brings_all, stands_at, sends_read}
use Rattle.spec_flow.proofs.Lists.{slice_get_front, slice_get_drop}

-- ---- of tests

pub nat_same : (m n : ℕ) → IsTrue (nat_eq m n) → m ≡ n
nat_same m n is = grind (arith, nat_tests)

pub nat_within : (m n : ℕ) → IsTrue (nat_le m n) → m ≤ n
nat_within m n is = grind (arith, nat_tests)

pub both : (a b : Bool) → IsTrue (a && b) → IsTrue a × IsTrue b
both true b is = (refl, is)
both false b is = absurd cc

pub imply : (a b : Bool) → IsTrue (not a || b) → IsTrue a → IsTrue b
imply true b is of = is
imply false b is of = absurd cc

pub either : (a b : Bool) → IsTrue (a || b) → IsTrue a ⊎ IsTrue b
either true b is = inl refl
either false b is = inr is

pub is_false : (a : Bool) → IsTrue (not a) → a ≡ false
is_false true is = absurd cc
is_false false is = refl

pub same_bool_is : (a b : Bool) → IsTrue (same_bool a b) → a ≡ b
same_bool_is true true is = refl
same_bool_is true false is = absurd cc
same_bool_is false true is = absurd cc
same_bool_is false false is = refl

pub empty_is : (xs : List ℕ) → IsTrue (is_empty xs) → xs ≡ []
empty_is [] is = refl
empty_is (x ∷ xs) is = absurd cc

pub at_is : (z : ℤ) (m : ℕ) → IsTrue (is_at z m) → z ≡ pos m
at_is (pos n) m is = ap (λ (k : ℕ). pos k) (nat_same n m is)
at_is (negsuc n) m is = absurd cc

pub number_is : (o p : Option ℕ) → IsTrue (is_number o p) → o ≡ p
number_is None None is = refl
number_is None (Some n) is = absurd cc
number_is (Some m) None is = absurd cc
number_is (Some m) (Some n) is = ap (λ (k : ℕ). Some k) (nat_same m n is)

-- ---- of lists

pub begins_prefix : (xs ys : List ℕ) → IsTrue (begins_with xs ys) → IsPrefixOf xs ys
begins_prefix [] ys is = (ys, refl)
begins_prefix (x ∷ xs) [] is = absurd cc
begins_prefix (x ∷ xs) (y ∷ ys) is =
    let parts = both (nat_eq x y) (begins_with xs ys) is in
    let rest = begins_prefix xs ys parts.1 in
    let same : x ≡ y = nat_same x y parts.0 in
    let after : xs ++ rest.0 ≡ ys = rest.1 in
    (rest.0, cc)

pub stands : (stream : List ℕ) (o : ℕ) (xs : List ℕ) → IsTrue (begins_with xs (drop o stream)) → StandAt stream o xs
stands stream o xs is k x at =
    let p = begins_prefix xs (drop o stream) is in
    slice_get_drop o stream k (o + k) x refl (subst (λ (l : List ℕ). slice_get l k ≡ Some x) p.1 (slice_get_front xs p.0 k x at))

-- ---- of the guest's stream

is_octet_is : (o : Option ℕ) (x : ℕ) → IsTrue (is_octet o x) → o ≡ Some x
is_octet_is None x is = absurd cc
is_octet_is (Some y) x is = ap (λ (k : ℕ). Some k) (nat_same y x is)

steps_back : (f i n : ℕ) → IsTrue (nat_lt n (2 ^ 32)) → (n + steps_up (number_of f i) n) % 2 ^ 32 ≡ number_of f i
steps_back f i n is = let low : n < 2 ^ 32 = grind (arith, nat_tests) in omega arith

brings_brought : (past : List Up) (i x : ℕ) → IsTrue (brings past i x) → Brought past i x
brings_brought [] i x is = absurd cc
brings_brought (Came n xs fin heeded ∷ past) i x is =
    elim (either (nat_lt n (2 ^ 32) && is_octet (slice_get xs (steps_up (number_of (first_of past) i) n)) x) (brings past i x) is) [
      | inl here ↦ let parts = both (nat_lt n (2 ^ 32)) (is_octet (slice_get xs (steps_up (number_of (first_of past) i) n)) x) here in
          inl (steps_up (number_of (first_of past) i) n, is_octet_is (slice_get xs (steps_up (number_of (first_of past) i) n)) x parts.1, steps_back (first_of past) i n parts.0)
      | inr there ↦ inr (brings_brought past i x there)
    ]
brings_brought (Known f ∷ past) i x is = brings_brought past i x is
brings_brought (Acked n ∷ past) i x is = brings_brought past i x is
brings_brought (Wrote xs n ∷ past) i x is = brings_brought past i x is
brings_brought (Ended ∷ past) i x is = brings_brought past i x is

pub all_brought : (past : List Up) (o : ℕ) (xs : List ℕ) → IsTrue (brings_all past o xs) → (k i x : ℕ) → i ≡ o + k → slice_get xs k ≡ Some x → Brought past i x
all_brought past o [] is k i x same at = absurd cc
all_brought past o (y ∷ xs) is zero i x same at =
    let here = brings_brought past o y (both (brings past o y) (brings_all past (suc o) xs) is).0 in
    let there : i ≡ o = omega arith in
    let it : y ≡ x = cc in
    subst (λ (z : ℕ). Brought past i z) it (subst (λ (j : ℕ). Brought past j y) (sym there) here)
all_brought past o (y ∷ xs) is (suc k) i x same at =
    all_brought past (suc o) xs (both (brings past o y) (brings_all past (suc o) xs) is).1 k i x (omega arith) at

pub three_parts : (a b c : Bool) → IsTrue (a && b && c) → IsTrue a × IsTrue b × IsTrue c
three_parts true true true is = (refl, refl, refl)
three_parts true true false is = absurd cc
three_parts true false c is = absurd cc
three_parts false b c is = absurd cc

-- ---- of the host's stream

piece_by : (past : Story) (seg : Segment) (z : ℤ) → our_place (host past) seg.number ≡ z → IsTrue (stands_at z past seg.octets) → IsPiece past seg
piece_by past seg (pos o) same is =
    let parts = both (nat_le o (sent (host past))) (begins_with seg.octets (drop o (got (host past)))) is in
    (o, same, nat_within o (sent (host past)) parts.0, stands (got (host past)) o seg.octets parts.1)
piece_by past seg (negsuc n) same is = absurd cc

pub sends_read_is : (b : Bool) (past : Story) (seg : Segment) → IsTrue (sends_read b past seg) → MatchBool b ((seg.octets ≡ []) × (seg.fin ≡ false)) (IsPiece past seg)
sends_read_is true past seg is = let parts = both (is_empty seg.octets) (not seg.fin) is in (empty_is seg.octets parts.0, is_false seg.fin parts.1)
sends_read_is false past seg is = piece_by past seg (our_place (host past) seg.number) refl is

pub four_parts : (a b c d : Bool) → IsTrue (a && b && c && d) → IsTrue a × IsTrue b × IsTrue c × IsTrue d
four_parts true true true true is = (refl, refl, refl, refl)
four_parts true true true false is = absurd cc
four_parts true true false d is = absurd cc
four_parts true false c d is = absurd cc
four_parts false b c d is = absurd cc

-- What an acknowledgement is, and what is taken of a segment, by numbers alone.
use Rattle.std.proofs.Common.{◌≡◌, ℕ, ◌+◌, ◌^◌, ◌<◌, ◌≤◌, ◌↔◌, Bool, true, false, not, ◌&&◌, ◌||◌, nat_lt, nat_eq, IsTrue, length, pos, ◌-ℤ◌, ◌<ℤ◌, ◌+ℤ◌, ◌⊎◌, inl, inr, refl, sym, ap, ◌∙◌}
use Rattle.std.proofs.Common.{arith, if◌then◌else◌}
use Rattle.std.proofs.lemmas.Int.{ints}
use Rattle.std.proofs.lemmas.Bool.Decides.{nat_tests}
use Rattle.seq_space.specs.Places.{shifted_place}
use Rattle.sock_buffers.specs.Downward.{Downward}
use Rattle.tcp_transmit.specs.Acks.{IsSeenAs, place_acked}
use Rattle.tcp_transmit.specs.Transmission.{Transmission, octets_read}
use Rattle.tcp_transmit.specs.declared.AckSeen.{AckSeen}
use Rattle.tcp_transmit.specs.declared.AckSeen.TheVariants.{Old, Same, Forward, FinToo, TooFar}
use Rattle.tcp_connection.specs.Segments.{seen_at, seen_of}

-- the choices of seen_at, over its tests
old_is : (a b c d : Bool) (m n : ℕ) → a ≡ true → Old ≡ (if a then Old else (if b then TooFar else (if c then Same else (if d then FinToo m else Forward n))))
old_is true b c d m n is = refl
old_is false b c d m n is = cc

far_is : (a b c d : Bool) (m n : ℕ) → a ≡ false → b ≡ true → TooFar ≡ (if a then Old else (if b then TooFar else (if c then Same else (if d then FinToo m else Forward n))))
far_is false true c d m n is far = refl
far_is true b c d m n is far = cc
far_is false false c d m n is far = cc

same_is : (a b c d : Bool) (m n : ℕ) → a ≡ false → b ≡ false → c ≡ true → Same ≡ (if a then Old else (if b then TooFar else (if c then Same else (if d then FinToo m else Forward n))))
same_is false false true d m n is near same = refl
same_is true b c d m n is near same = cc
same_is false true c d m n is near same = cc
same_is false false false d m n is near same = cc

fin_is : (a b c d : Bool) (m n k : ℕ) → a ≡ false → b ≡ false → c ≡ false → d ≡ true → k ≡ m → FinToo k ≡
    (if a then Old else (if b then TooFar else (if c then Same else (if d then FinToo m else Forward n))))
fin_is false false false true m n k is near other last count = ap FinToo count
fin_is true b c d m n k is near other last count = cc
fin_is false true c d m n k is near other last count = cc
fin_is false false true d m n k is near other last count = cc
fin_is false false false false m n k is near other last count = cc

forward_is : (a b c d : Bool) (m n k : ℕ) → a ≡ false → b ≡ false → c ≡ false → d ≡ false → k ≡ n → Forward k ≡
    (if a then Old else (if b then TooFar else (if c then Same else (if d then FinToo m else Forward n))))
forward_is false false false false m n k is near other last count = ap Forward count
forward_is true b c d m n k is near other last count = cc
forward_is false true c d m n k is near other last count = cc
forward_is false false true d m n k is near other last count = cc
forward_is false false false true m n k is near other last count = cc

less_is : (a b : ℕ) → a < b → nat_lt a b ≡ true
less_is a b less = grind (arith, nat_tests)

not_less_is : (a b : ℕ) → b ≤ a → nat_lt a b ≡ false
not_less_is a b least = grind (arith, nat_tests)

equal_is : (a b : ℕ) → a ≡ b → nat_eq a b ≡ true
equal_is a b same = grind (arith, nat_tests)

not_equal_is : (a b : ℕ) → a < b → nat_eq b a ≡ false
not_equal_is a b less = grind (arith, nat_tests)

-- over plain numbers: the place is 2^31 less than p
seen_by : (t : Transmission) (down : Downward) (p : ℕ) (s : AckSeen) → t.acked ≤ t.sent → IsSeenAs t down (pos p -ℤ pos (2 ^ 31)) s → s ≡ seen_at p t.acked t.sent (octets_read down)
seen_by t down p Old order is =
    old_is _ _ _ _ _ _ (less_is p (t.acked + 2 ^ 31) (omega (arith, ints, is)))
seen_by t down p Same order is =
    let at : p ≡ t.acked + 2 ^ 31 = omega (arith, ints, is) in
    same_is _ _ _ _ _ _ (not_less_is p (t.acked + 2 ^ 31) (omega (arith, at))) (not_less_is (t.sent + 2 ^ 31) p (omega (arith, at, order))) (equal_is p (t.acked + 2 ^ 31) at)
seen_by t down p (Forward n) order is =
    let at : p ≡ t.acked + n + 2 ^ 31 = omega (arith, ints, is.1) in
    let some = is.0 in
    let of_stream = is.2 in
    let of_sent = is.3 in
    forward_is _ _ _ _ _ _ n (not_less_is p (t.acked + 2 ^ 31) (omega (arith, at))) (not_less_is (t.sent + 2 ^ 31) p (omega (arith, at, of_sent)))
    (not_equal_is (t.acked + 2 ^ 31) p (omega (arith, at, some)))
    (not_less_is (octets_read down + 2 ^ 31) p (omega (arith, at, of_stream))) (omega (arith, at))
seen_by t down p (FinToo n) order is =
    let at : p ≡ t.sent + 2 ^ 31 = omega (arith, ints, is.0) in
    let all = is.1 in
    let octets = is.2 in
    fin_is _ _ _ _ _ _ n (not_less_is p (t.acked + 2 ^ 31) (omega (arith, at, order))) (not_less_is (t.sent + 2 ^ 31) p (omega (arith, at)))
    (not_equal_is (t.acked + 2 ^ 31) p (omega (arith, at, all)))
    (less_is (octets_read down + 2 ^ 31) p (omega (arith, at, all, octets))) (omega (arith, octets))
seen_by t down p TooFar order is =
    let at : t.sent + 2 ^ 31 < p = omega (arith, ints, is) in
    far_is _ _ _ _ _ _ (not_less_is p (t.acked + 2 ^ 31) (omega (arith, at, order))) (less_is (t.sent + 2 ^ 31) p at)

pub seen_is : (t : Transmission) (down : Downward) (ack : ℕ) (s : AckSeen) → t.acked ≤ t.sent → IsSeenAs t down (place_acked t ack) s → s ≡ seen_of t down ack
seen_is t down ack s order is = seen_by t down (shifted_place ack t.first t.sent) s order is

-- ---- tests

pub same_bool : (a b : Bool) → (IsTrue a → IsTrue b) → (IsTrue b → IsTrue a) → a ≡ b
same_bool true true there back = refl
same_bool false false there back = refl
same_bool true false there back = sym (there refl)
same_bool false true there back = back refl

all_three : (a b c : Bool) → a ≡ true → b ≡ false → c ≡ true → (a && not b && c) ≡ true
all_three true false true first second third = refl
all_three false b c first second third = cc
all_three true true c first second third = cc
all_three true false false first second third = cc

each_of_three : (a b c : Bool) → (a && not b && c) ≡ true → (a ≡ true) × (b ≡ false) × (c ≡ true)
each_of_three true false true is = (refl, refl, refl)
each_of_three true false false is = cc
each_of_three true true c is = cc
each_of_three false b c is = cc

is_equal : (a b : ℕ) → nat_eq a b ≡ true → a ≡ b
is_equal a b is = grind (arith, nat_tests)

is_less : (a b : ℕ) → nat_lt a b ≡ true → a < b
is_less a b is = grind (arith, nat_tests)

-- a FIN is taken exactly where its test holds
pub end_taken : (taken_fin fin ended : Bool) (p length taken : ℕ)
    → (IsTrue taken_fin ↔ (IsTrue fin × (ended ≡ false) × ((pos p -ℤ pos (2 ^ 31)) +ℤ pos length ≡ pos taken)))
    → taken_fin ≡ (fin && not ended && nat_eq (p + length) (taken + 2 ^ 31))
end_taken taken_fin fin ended p length taken is = same_bool taken_fin _
    (λ yes. let parts = is.0 yes in let at = parts.2 in all_three fin ended _ parts.0 parts.1 (equal_is (p + length) (taken + 2 ^ 31) (omega (arith, ints, at))))
    (λ yes. let parts = each_of_three fin ended _ yes in let at = is_equal (p + length) (taken + 2 ^ 31) parts.2 in is.1 (parts.0, parts.1, omega (arith, ints, at)))

some_of_three : (a b c : Bool) → (a ≡ true) ⊎ (b ≡ true) ⊎ (c ≡ true) → (a || b || c) ≡ true
some_of_three true b c is = refl
some_of_three false true c is = refl
some_of_three false false true is = refl
some_of_three false false false (inl is) = is
some_of_three false false false (inr (inl is)) = is
some_of_three false false false (inr (inr is)) = is

one_of_three : (a b c : Bool) → (a || b || c) ≡ true → (a ≡ true) ⊎ (b ≡ true) ⊎ (c ≡ true)
one_of_three true b c is = inl refl
one_of_three false true c is = inr (inl refl)
one_of_three false false true is = inr (inr refl)
one_of_three false false false is = cc

-- an acknowledgement is owed exactly where its test holds
pub to_acknowledge : (owed fin : Bool) (p length places : ℕ)
    → (IsTrue owed ↔ ((0 < length) ⊎ IsTrue fin ⊎ ((pos p -ℤ pos (2 ^ 31)) <ℤ pos places)))
    → owed ≡ (nat_lt 0 length || fin || nat_lt p (places + 2 ^ 31))
to_acknowledge owed fin p length places is = same_bool owed _
    (λ yes. some_of_three _ fin _ (there (is.0 yes)))
    (λ yes. is.1 (back (one_of_three _ fin _ yes)))
  where
    there : (0 < length) ⊎ IsTrue fin ⊎ ((pos p -ℤ pos (2 ^ 31)) <ℤ pos places) → (nat_lt 0 length ≡ true) ⊎ (fin ≡ true) ⊎ (nat_lt p (places + 2 ^ 31) ≡ true)
    there (inl some) = inl (less_is 0 length some)
    there (inr (inl ends)) = inr (inl ends)
    there (inr (inr before)) = inr (inr (less_is p (places + 2 ^ 31) (omega (arith, ints, before))))

    back : (nat_lt 0 length ≡ true) ⊎ (fin ≡ true) ⊎ (nat_lt p (places + 2 ^ 31) ≡ true) → (0 < length) ⊎ IsTrue fin ⊎ ((pos p -ℤ pos (2 ^ 31)) <ℤ pos places)
    back (inl some) = inl (is_less 0 length some)
    back (inr (inl ends)) = inr (inl ends)
    back (inr (inr before)) = let less = is_less p (places + 2 ^ 31) before in inr (inr (omega (arith, ints, less)))

-- ---- choices

pub then_is : {A : Type 0} (b : Bool) (x y : A) → b ≡ true → x ≡ (if b then x else y)
then_is true x y is = refl
then_is false x y is = cc

pub else_is : {A : Type 0} (b : Bool) (x y : A) → b ≡ false → y ≡ (if b then x else y)
else_is false x y is = refl
else_is true x y is = cc

pub not_false : (a b : Bool) → a ≡ not b → a ≡ true → b ≡ false
not_false a true is holds = sym holds ∙ is
not_false a false is holds = refl

-- One open socket after another, by rising number, and how many are left without one.
use Rattle.std.proofs.Common.{refl, ◌≡◌, ℕ, ◌+◌, ◌<◌, ◌≤◌, ◌==◌, nat_lt, Bool, true, false, List, [], ◌∷◌, length, Some, None, ap, sym, ◌∙◌, subst, arith}
use Rattle.std.proofs.lemmas.Bool.Decides.{nat_tests}
use Rattle.tcp_flows.specs.declared.sockets.Numbered.{Numbered}
use Rattle.tcp_flows.specs.Sockets.{AreAbove, Rise, after, slot_of, without}
use Rattle.tcp_flows.proofs.Finding.{differ, equal, first_or, kept_or, next_or, none_above}

-- numbers that pass a test for the same are
pub same_number : (a b : ℕ) → (a == b) ≡ true → a ≡ b
same_number a b is = grind (arith, nat_tests, is)

is_above : (n m : ℕ) → nat_lt n m ≡ true → n < m
is_above n m is = grind (arith, nat_tests, is)

not_above : (n m : ℕ) → nat_lt n m ≡ false → m ≤ n
not_above n m is = grind (arith, nat_tests, is)

-- the first row is found by its number
pub found_first : (r : Numbered) (rows : List Numbered) → slot_of r.number (r ∷ rows) ≡ Some r.slot
found_first r rows = ap (first_or r r.number rows) (equal r.number r.number refl)

-- and another number is found behind it
pub found_behind : (r : Numbered) (rows : List Numbered) (n : ℕ) → (r.number ≡ n → ⊥) → slot_of n (r ∷ rows) ≡ slot_of n rows
found_behind r rows n other = ap (first_or r n rows) (differ r.number n other)

-- where each number is above one, so is one that is found
pub found_above : (n m k : ℕ) (rows : List Numbered) → AreAbove n rows → slot_of m rows ≡ Some k → n < m
found_above n m k [] above found = cc
found_above n m k (r ∷ rows) above found = by (r.number == m) refl (λ rest. found_above n m k rows above.1 rest)
  where
    by : (is : Bool) → (r.number == m) ≡ is → (slot_of m rows ≡ Some k → n < m) → n < m
    by true is behind = subst (λ x. n < x) (same_number r.number m is) above.0
    by false is behind = behind (sym (ap (first_or r m rows) is) ∙ found)

-- without one that is found there is one less
pub one_less : (n k : ℕ) (rows : List Numbered) → Rise rows → slot_of n rows ≡ Some k → length (without n rows) + 1 ≡ length rows
one_less n k [] rise found = cc
one_less n k (r ∷ rows) rise found = by (r.number == n) refl (λ rest. one_less n k rows rise.1 rest)
  where
    left : length rows + 1 ≡ length (r ∷ rows)
    left = omega arith

    more : length (without n rows) + 1 ≡ length rows → length (r ∷ without n rows) + 1 ≡ length (r ∷ rows)
    more is = omega (arith, is)

    by : (is : Bool) → (r.number == n) ≡ is → (slot_of n rows ≡ Some k → length (without n rows) + 1 ≡ length rows) → length (without n (r ∷ rows)) + 1 ≡ length (r ∷ rows)
    by true is behind =
        ap (λ b. length (kept_or r n rows b) + 1) is
        ∙ ap (λ (l : List Numbered). length l + 1) (none_above n rows (subst (λ m. AreAbove m rows) (same_number r.number n is) rise.0)) ∙ left
    by false is behind = ap (λ b. length (kept_or r n rows b) + 1) is ∙ more (behind (sym (ap (first_or r n rows) is) ∙ found))

-- the first socket has its slot, and no number is below its own
pub record IsFirst (rows : List Numbered) (r : Numbered) : Type 0 where
  pub there : slot_of r.number rows ≡ Some r.slot
  pub least : (m k : ℕ) → slot_of m rows ≡ Some k → r.number ≤ m

-- the first of all is that
pub first_there : (rows : List Numbered) (r : Numbered) → Rise rows → after None rows ≡ Some r → IsFirst rows r
first_there [] r rise is = absurd cc
first_there (x ∷ rows) r rise is = subst (IsFirst (x ∷ rows)) (same is) (record { there = found_first x rows; least = least })
  where
    same : Some x ≡ Some r → x ≡ r
    same is = cc

    least : (m k : ℕ) → slot_of m (x ∷ rows) ≡ Some k → x.number ≤ m
    least m k found = by (x.number == m) refl
      where
        up_to : x.number < m → x.number ≤ m
        up_to less = omega (arith, less)

        equal : x.number ≡ m → x.number ≤ m
        equal is = omega (arith, is)

        by : (b : Bool) → (x.number == m) ≡ b → x.number ≤ m
        by true is = equal (same_number x.number m is)
        by false is = up_to (found_above x.number m k rows rise.0 (sym (ap (first_or x m rows) is) ∙ found))

-- where there is no first nothing is found
pub none_first : (rows : List Numbered) → after None rows ≡ None → (m k : ℕ) → slot_of m rows ≡ Some k → ⊥
none_first [] is m k found = cc
none_first (x ∷ rows) is m k found = cc

-- the first socket above a number has its slot, and no number between the two is found
pub record IsNext (n : ℕ) (rows : List Numbered) (r : Numbered) : Type 0 where
  pub there : slot_of r.number rows ≡ Some r.slot
  pub above : n < r.number
  pub least : (m k : ℕ) → slot_of m rows ≡ Some k → n < m → r.number ≤ m

-- what comes after a number is that
pub next_there : (n : ℕ) (rows : List Numbered) (r : Numbered) → Rise rows → after (Some n) rows ≡ Some r → IsNext n rows r
next_there n [] r rise is = absurd cc
next_there n (x ∷ rows) r rise is = by (nat_lt n x.number) refl (λ rest. next_there n rows r rise.1 rest)
  where
    here : nat_lt n x.number ≡ true → x ≡ r → IsNext n (x ∷ rows) r
    here higher same =
        let first = first_there (x ∷ rows) x rise refl in
        subst (IsNext n (x ∷ rows)) same (record { there = first.there; above = is_above n x.number higher; least = λ m k found less. first.least m k found })

    behind : nat_lt n x.number ≡ false → IsNext n rows r → IsNext n (x ∷ rows) r
    behind lower next = record {
      there = found_behind x rows r.number (λ same. apart same (not_above n x.number lower) next.above) ∙ next.there;
      above = next.above;
      least = λ m k found less. next.least m k (sym (found_behind x rows m (λ same. apart same (not_above n x.number lower) less)) ∙ found) less;
    }
      where
        apart : {m : ℕ} → x.number ≡ m → x.number ≤ n → n < m → ⊥
        apart same low high = omega (arith, same, low, high)

    by : (b : Bool) → nat_lt n x.number ≡ b → (after (Some n) rows ≡ Some r → IsNext n rows r) → IsNext n (x ∷ rows) r
    by true higher rest = here higher (same (sym (ap (next_or x n rows) higher) ∙ is))
      where
        same : Some x ≡ Some r → x ≡ r
        same is = cc
    by false lower rest = behind lower (rest (sym (ap (next_or x n rows) lower) ∙ is))

-- where nothing comes after a number none above it is found
pub none_next : (n : ℕ) (rows : List Numbered) → after (Some n) rows ≡ None → (m k : ℕ) → slot_of m rows ≡ Some k → n < m → ⊥
none_next n [] is m k found less = cc
none_next n (x ∷ rows) is m k found less = by (nat_lt n x.number) refl (λ none rest. none_next n rows none m k rest less)
  where
    apart : x.number ≡ m → x.number ≤ n → ⊥
    apart same low = omega (arith, same, low, less)

    by : (b : Bool) → nat_lt n x.number ≡ b → (after (Some n) rows ≡ None → slot_of m rows ≡ Some k → ⊥) → ⊥
    by true higher rest = some_none (sym (ap (next_or x n rows) higher) ∙ is)
      where
        some_none : Some x ≡ None → ⊥
        some_none is = cc
    by false lower rest = rest (sym (ap (next_or x n rows) lower) ∙ is) (sym (found_behind x rows m (λ same. apart same (not_above n x.number lower))) ∙ found)

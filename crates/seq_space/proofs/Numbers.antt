-- Sums of numbers modulo 2^32, as places.
use Rattle.std.proofs.Common.{arith, ◌≡◌, ◌≤◌, ◌^◌, ℕ, ◌+◌, ◌-◌, ◌<◌, ◌/◌, ◌%◌, ℤ, pos, ◌+ℤ◌, ◌-ℤ◌, to_z, w32, inl, inr}
use Rattle.std.proofs.lemmas.Int.{ints}
use Rattle.std.proofs.lemmas.Bool.{cases_lt}
use Rattle.seq_space.specs.Places.{IsAhead, IsPlace, number_of, steps_up, place}

-- the upper half of the numbers, read as signed numbers
to_z_large : (r : ℕ) → 2 ^ 31 ≤ r → r < 2 ^ 32 → to_z w32 r ≡ pos r -ℤ pos (2 ^ 32)
to_z_large r large fits = grind (arith, ints)

-- the difference that wraps, read as a signed number
pub ahead_is : (a b : ℕ) → a < 2 ^ 32 → b < 2 ^ 32 → IsAhead a b (to_z w32 ((a + (2 ^ 32 - b)) % 2 ^ 32))
ahead_is a b a_fits b_fits =
    let r : ℕ = (a + (2 ^ 32 - b)) % 2 ^ 32 in
    let q : ℕ = (a + (2 ^ 32 - b)) / 2 ^ 32 in
    let fits : r < 2 ^ 32 = omega arith in
    elim (cases_lt r (2 ^ 31)) [
      | inl small ↦ record {
        wraps = (pos q -ℤ pos 1, omega (arith, ints));
        low = omega (arith, ints);
        high = omega (arith, ints);
      }
      | inr large ↦
          let is : to_z w32 r ≡ pos r -ℤ pos (2 ^ 32) = to_z_large r large fits in
          record {
            wraps = (pos q, omega (arith, ints));
            low = omega (arith, ints);
            high = omega (arith, ints);
          }
    ]

-- what is ahead of the number at top is at that place
pub place_from_ahead : (number first top : ℕ) (d : ℤ) → IsAhead number (number_of first top) d → IsPlace number first top (pos top +ℤ d)
place_from_ahead number first top d near = record {
  wraps = (near.wraps.0 -ℤ pos ((first + 1 + top) / 2 ^ 32), omega (arith, ints));
  low = omega (arith, ints);
  high = omega (arith, ints);
}

-- no two places are nearest
pub place_only : (number first top : ℕ) (o p : ℤ) → IsPlace number first top o → IsPlace number first top p → o ≡ p
place_only number first top o p here there =
    let k : ℤ = here.wraps.0 in
    let l : ℤ = there.wraps.0 in
    omega (arith, ints, here.wraps.1, there.wraps.1)

-- the function gives it
pub place_is : (number first top : ℕ) → number < 2 ^ 32 → IsPlace number first top (place number first top)
place_is number first top fits = record {
  wraps = (pos ((number + 2 ^ 32 - number_of first top) / 2 ^ 32 + (steps_up number (number_of first top) + 2 ^ 31) / 2 ^ 32) -ℤ pos ((first + 1 + top) / 2 ^ 32 + 1), omega (arith, ints));
  low = omega (arith, ints);
  high = omega (arith, ints);
}

-- no two numbers are ahead the short way round
pub ahead_only : (a b : ℕ) (d e : ℤ) → IsAhead a b d → IsAhead a b e → d ≡ e
ahead_only a b d e here there =
    let k : ℤ = here.wraps.0 in
    let l : ℤ = there.wraps.0 in
    omega (arith, ints, here.wraps.1, there.wraps.1)

-- the number at a place near top stands for that place
pub place_again : (first top o : ℕ) → top ≤ o + 2 ^ 31 → o < top + 2 ^ 31 → IsPlace (number_of first o) first top (pos o)
place_again first top o low high = record {
  wraps = (pos 0 -ℤ pos ((first + 1 + o) / 2 ^ 32), omega (arith, ints));
  low = omega (arith, ints);
  high = omega (arith, ints);
}

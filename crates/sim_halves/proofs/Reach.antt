-- A receiver doesn't take or keep more than the places that segments reach, whatever the guest sends.
use Rattle.std.proofs.Common.{◌≡◌, ℕ, ◌+◌, ◌-◌, ◌%◌, ◌^◌, ◌<◌, ◌≤◌, List, length, max, arith, Some, slice_get, get_or, ℤ, pos, negsuc, ◌+ℤ◌, ◌-ℤ◌, ◌*ℤ◌, ◌≤ℤ◌, ◌<ℤ◌, inl, inr}
use Rattle.std.proofs.lemmas.Int.{ints}
use Rattle.std.proofs.lemmas.Bool.{cases_lt}
use Rattle.std.proofs.lemmas.Option.{slice_get-get_or}
use Rattle.seq_space.specs.Places.{number_of, place}
use Rattle.seq_space.proofs.Numbers.{place_is, place_only}
use Rattle.spec_flow.specs.Guest.{octet_at, from_zero}
use Rattle.spec_flow.proofs.Streams.{octet_at_within}

-- a place by what was taken, that ends past the top, is the place by the top
same_by_top : (n first t top k : ℕ) → n < 2 ^ 32 → t ≤ top → k ≤ 2 ^ 31 → pos top ≤ℤ (place n first t +ℤ pos k) → place n first top ≡ place n first t
same_by_top n first t top k fits low few high =
    let here = place_is n first t fits in
    place_only n first top (place n first top) (place n first t) (place_is n first top fits)
    (record { wraps = here.wraps; low = by_end (place n first t) top k few high; high = by_top (place n first t) t top here.high low })
  where
    by_end : (o : ℤ) (top k : ℕ) → k ≤ 2 ^ 31 → pos top ≤ℤ (o +ℤ pos k) → pos top ≤ℤ (o +ℤ pos (2 ^ 31))
    by_end o top k few high = omega (arith, ints)

    by_top : (o : ℤ) (t top : ℕ) → o <ℤ pos (t + 2 ^ 31) → t ≤ top → o <ℤ pos (top + 2 ^ 31)
    by_top o t top high low = omega (arith, ints)

-- what the segment has for a place lies below its end
pub octet_reaches : (n first t top : ℕ) (xs : List ℕ) (i x : ℕ) → n < 2 ^ 32 → t ≤ top → length xs ≤ 2 ^ 31 → octet_at (place n first t) xs i ≡ Some x
    → i < max top (from_zero (place n first top +ℤ pos (length xs)))
octet_reaches n first t top xs i x fits low few at =
    let inside = (octet_at_within (place n first t) xs i x at).1 in
    elim (cases_lt i top) [
      | inl below ↦ omega (arith, below)
      | inr above ↦
          let same = same_by_top n first t top (length xs) fits low few (past_top (place n first t) (length xs) i top inside above) in
          let end : i < from_zero (place n first top +ℤ pos (length xs)) = rw same (below_end (place n first t +ℤ pos (length xs)) i inside) in
          omega (arith, end)
    ]
  where
    past_top : (o : ℤ) (k i top : ℕ) → pos i <ℤ (o +ℤ pos k) → top ≤ i → pos top ≤ℤ (o +ℤ pos k)
    past_top o k i top inside above = omega (arith, ints)

    below_end : (z : ℤ) (i : ℕ) → pos i <ℤ z → i < from_zero z
    below_end (pos n) i h = omega (arith, ints)
    below_end (negsuc n) i h = absurd (omega (arith, ints))

-- and so do the octets that are taken
pub taken_reaches : (ys : List ℕ) (t top : ℕ) → t ≤ top → ((k x : ℕ) → slice_get ys k ≡ Some x → t + k < top) → t + length ys ≤ top
taken_reaches ys t top low all =
    elim (cases_lt 0 (length ys)) [
      | inl some ↦
          let last : length ys - 1 < length ys = omega (arith, some) in
          let below = all (length ys - 1) (get_or ys (length ys - 1) 0) (slice_get-get_or ys (length ys - 1) 0 last) in
          omega (arith, below, some)
      | inr none ↦ omega (arith, low, none)
    ]

-- a FIN that comes next, after what was acknowledged, does so by the top as well
pub fin_reaches : (n first t top a : ℕ) (k e : ℕ) → n < 2 ^ 32 → t ≤ top → a ≤ e → place n first t +ℤ pos k ≡ pos e → pos a ≤ℤ (place n first top +ℤ pos k)
fin_reaches n first t top a k e fits low acked at =
    let here = place_is n first t fits in
    let there = place_is n first top fits in
    let i = here.wraps.0 in
    let j = there.wraps.0 in
    by (place n first t) (place n first top) here.wraps.0 there.wraps.0 here.wraps.1 there.wraps.1 here.high there.low there.high at
  where
    by : (o p i j : ℤ) → pos n -ℤ pos first -ℤ pos 1 -ℤ o ≡ i *ℤ pos (2 ^ 32) → pos n -ℤ pos first -ℤ pos 1 -ℤ p ≡ j *ℤ pos (2 ^ 32)
        → o <ℤ pos (t + 2 ^ 31) → pos top ≤ℤ (p +ℤ pos (2 ^ 31)) → p <ℤ pos (top + 2 ^ 31) → o +ℤ pos k ≡ pos e → pos a ≤ℤ (p +ℤ pos k)
    by o p i j is js high below above at = omega (arith, ints, is, js, high, below, above, at, acked, low)

-- the number that acknowledges a FIN which comes next
pub fin_number : (n first t k e : ℕ) → n < 2 ^ 32 → place n first t +ℤ pos k ≡ pos e → (n + k + 1) % 2 ^ 32 ≡ number_of first (e + 1)
fin_number n first t k e fits at =
    let here = place_is n first t fits in
    by (place n first t) here.wraps.0 here.wraps.1 at
  where
    by : (o i : ℤ) → pos n -ℤ pos first -ℤ pos 1 -ℤ o ≡ i *ℤ pos (2 ^ 32) → o +ℤ pos k ≡ pos e → (n + k + 1) % 2 ^ 32 ≡ number_of first (e + 1)
    by o i is at = omega (arith, ints, is, at)

-- The octets of a segment that come next, at their places.
use Rattle.std.proofs.Common.{◌≡◌, ℕ, suc, ◌+◌, ◌-◌, ◌%◌, ◌^◌, ◌≤◌, List, drop, Some, slice_get, arith, ℤ, pos, negsuc, ◌+ℤ◌, nat_le, true}
use Rattle.std.proofs.lemmas.Int.{ints}
use Rattle.std.proofs.lemmas.Bool.Decides.{nat_tests}
use Rattle.seq_space.specs.Places.{IsPlace, number_of}
use Rattle.sim_halves.specs.Received.{next_octets}
use Rattle.spec_flow.specs.Guest.{octet_at}
use Rattle.spec_flow.proofs.Lists.{slice_get_drop}

next_octets_pos : (o t k x : ℕ) (xs : List ℕ) → slice_get (next_octets (pos o) xs t) k ≡ Some x → (o ≤ t) × (slice_get (drop (t - o) xs) k ≡ Some x)
next_octets_pos o t k x xs e = grind (arith, nat_tests)

-- what comes next is in the segment, at its place
pub next_octet : (o : ℤ) (xs : List ℕ) (t k x : ℕ) → slice_get (next_octets o xs t) k ≡ Some x
    → (j : ℕ) × (slice_get xs j ≡ Some x) × (pos (t + k) ≡ o +ℤ pos j)
next_octet (pos o) xs t k x e =
    let at = next_octets_pos o t k x xs e in
    (t - o + k, slice_get_drop (t - o) xs k (t - o + k) x (omega arith) at.1, omega (arith, ints))
next_octet (negsuc n) xs t k x e = (t + suc n + k, slice_get_drop (t + suc n) xs k (t + suc n + k) x (omega arith) e, omega (arith, ints))

octet_at_pos_from : (o i j x : ℕ) (xs : List ℕ) → slice_get xs j ≡ Some x → i ≡ o + j → octet_at (pos o) xs i ≡ Some x
octet_at_pos_from o i j x xs at is = let same : i - o ≡ j = omega arith in let below : nat_le o i ≡ true = grind (arith, nat_tests) in rw (below, same) at

pub octet_from : (o : ℤ) (xs : List ℕ) (i j x : ℕ) → slice_get xs j ≡ Some x → pos i ≡ o +ℤ pos j → octet_at o xs i ≡ Some x
octet_from (pos o) xs i j x at is = octet_at_pos_from o i j x xs at (omega (arith, ints))
octet_from (negsuc n) xs i j x at is = let same : i + suc n ≡ j = omega (arith, ints) in rw same at

pub number_from : (n f t i j : ℕ) (o : ℤ) → IsPlace n f t o → pos i ≡ o +ℤ pos j → (n + j) % 2 ^ 32 ≡ number_of f i
number_from n f t i j o place is = let k : ℤ = place.wraps.0 in omega (arith, ints, place.wraps.1)

-- The octets from a place on, at their places.
use Rattle.std.proofs.Common.{◌≡◌, ℕ, suc, zero, ◌+◌, ◌-◌, ◌≤◌, List, [], ◌∷◌, drop, Some, slice_get, refl, arith, ℤ, pos, negsuc, ◌≤ℤ◌, nat_le, true, Bool, false}
use Rattle.std.proofs.lemmas.Int.{ints}
use Rattle.std.proofs.lemmas.Bool.Decides.{nat_tests}
use Rattle.tcp_receive.specs.Received.{StandsAt, octets_from, next_octets, place_in, received}

slice_get-drop : (n : ℕ) (xs : List ℕ) (k : ℕ) → slice_get (drop n xs) k ≡ slice_get xs (n + k)
slice_get-drop zero xs k = let none : 0 + k ≡ k = omega arith in rw none refl
slice_get-drop (suc n) [] k = refl
slice_get-drop (suc n) (a ∷ xs) k = let one : suc n + k ≡ suc (n + k) = omega arith in rw one (slice_get-drop n xs k)

from_within : (o t k x : ℕ) (xs : List ℕ) → slice_get (octets_from (pos o) xs t) k ≡ Some x → (o ≤ t) × (slice_get (drop (t - o) xs) k ≡ Some x)
from_within o t k x xs e = grind (arith, nat_tests)

is_within : (o t : ℕ) → o ≤ t → nat_le o t ≡ true
is_within o t within = grind (arith, nat_tests)

-- what is in the octets from a place on stands there
pub stands : (o : ℤ) (xs : List ℕ) (t k x : ℕ) → slice_get (octets_from o xs t) k ≡ Some x → StandsAt o xs (t + k) x
stands (pos o) xs t k x e =
    let at = from_within o t k x xs e in
    (t - o + k, (rw (slice_get-drop (t - o) xs k) at at.1, omega (arith, ints)))
stands (negsuc n) xs t k x e = (t + suc n + k, (rw (slice_get-drop (t + suc n) xs k) at e, omega (arith, ints)))

-- what stands there is in them
stood : (o : ℤ) (xs : List ℕ) (t k x : ℕ) → o ≤ℤ pos t → StandsAt o xs (t + k) x → slice_get (octets_from o xs t) k ≡ Some x
stood (pos o) xs t k x before there =
    let within : o ≤ t = omega (arith, ints) in
    let is : t - o + k ≡ there.0 = omega (arith, ints, there.1.1) in
    rw (is_within o t within, slice_get-drop (t - o) xs k, is) there.1.0
stood (negsuc n) xs t k x before there =
    let is : t + suc n + k ≡ there.0 = omega (arith, ints, there.1.1) in
    rw (slice_get-drop (t + suc n) xs k, is) there.1.0

pub each_stands : (first taken number : ℕ) (ended : Bool) (octets : List ℕ) (k x : ℕ)
    → slice_get (next_octets (received first taken ended) number octets) k ≡ Some x
    → StandsAt (place_in (received first taken ended) number) octets (taken + k) x
each_stands first taken number true octets k x e = cc
each_stands first taken number false octets k x e = stands (place_in (received first taken false) number) octets taken k x e

pub all_stood : (first taken number : ℕ) (ended : Bool) (octets : List ℕ) (k x : ℕ) → ended ≡ false
    → place_in (received first taken ended) number ≤ℤ pos taken
    → StandsAt (place_in (received first taken ended) number) octets (taken + k) x
    → slice_get (next_octets (received first taken ended) number octets) k ≡ Some x
all_stood first taken number true octets k x on before there = cc
all_stood first taken number false octets k x on before there = stood (place_in (received first taken false) number) octets taken k x before there

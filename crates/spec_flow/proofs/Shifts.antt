-- What the shift and the field of a window are.
use Rattle.std.proofs.Common.{refl, ◌≡◌, ℕ, zero, suc, ◌+◌, ◌*◌, ◌/◌, ◌^◌, ◌<◌, ◌≤◌, min, arith, Bool, true, false, if◌then◌else◌, nat_le, ap, sym, ◌∙◌, pow-suc, div-mul-le_self}
use Rattle.std.proofs.Common.{div-add-mod', mod-lt, mul-le-mul_right, le_trans, le-div_iff_mul-le, ◌%◌, mul_comm}
use native.Mathlib.Nat.{div-div-eq-div-mul, one-le-pow}
use Rattle.std.proofs.lemmas.Bool.Decides.{nat_tests}
use Rattle.spec_flow.specs.Windows.{shift_within, least_shift, told}

-- ---- the shift

half : (room k : ℕ) → room / 2 ^ suc k ≡ room / 2 / 2 ^ k
half room k = ap (λ (n : ℕ). room / n) (pow-suc 2 k ∙ mul_comm (2 ^ k) 2) ∙ sym (div-div-eq-div-mul room 2 (2 ^ k))

one_more : (k : ℕ) → 1 + k ≡ suc k
one_more k = omega arith

within_by : (n room : ℕ) (b : Bool) → nat_le room 65535 ≡ b → room / 2 / 2 ^ shift_within n (room / 2) ≤ 65535 → room / 2 ^ (if b then 0 else 1 + shift_within n (room / 2)) ≤ 65535
within_by n room true is low = let fits : room ≤ 65535 = grind (arith, nat_tests) in omega (arith, fits)
within_by n room false is low = rw (one_more (shift_within n (room / 2)), half room (shift_within n (room / 2))) low

within : (n room : ℕ) → room / 2 ^ n ≤ 65535 → room / 2 ^ shift_within n room ≤ 65535
within zero room low = low
within (suc n) room low = within_by n room (nat_le room 65535) refl (within n (room / 2) (rw (← half room n) low))

least_by : (n room k : ℕ) (b : Bool) → nat_le room 65535 ≡ b → k < (if b then 0 else 1 + shift_within n (room / 2))
    → ((k : ℕ) → k < shift_within n (room / 2) → 65535 < room / 2 / 2 ^ k) → 65535 < room / 2 ^ k
least_by n room k true is low more = absurd (omega arith)
least_by n room zero false is low more = let much : 65535 < room = grind (arith, nat_tests) in omega (arith, much)
least_by n room (suc k) false is low more = rw (half room k) (more k (omega (arith, low)))

least : (n room k : ℕ) → k < shift_within n room → 65535 < room / 2 ^ k
least zero room k low = absurd (omega arith)
least (suc n) room k low = least_by n room k (nat_le room 65535) refl low (least n (room / 2))

-- The shift is the least by which the ring fits a field, for every ring that the settings allow.
pub least_shift_is : (ring : ℕ) → ring ≤ 1048576 → (ring / 2 ^ least_shift ring ≤ 65535) × ((k : ℕ) → k < least_shift ring → 65535 < ring / 2 ^ k)
least_shift_is ring few = (within 14 ring (omega arith), least 14 ring)

-- ---- the field

-- No more is told than there is room.
pub told_within : (shift room : ℕ) → told shift room ≤ room
told_within shift room = le_trans (mul-le-mul_right (2 ^ shift) (least_is (room / 2 ^ shift))) (div-mul-le_self room (2 ^ shift))
  where
    least_is : (q : ℕ) → min 65535 q ≤ q
    least_is q = omega arith

-- And all of it, but for less than one step of the field, where the field is large enough for the ring.
pub told_enough : (shift room ring : ℕ) → room ≤ ring → ring / 2 ^ shift ≤ 65535 → room < told shift room + 2 ^ shift
told_enough shift room ring low fits =
    let p : ℕ = 2 ^ shift in
    let q : ℕ = room / p in
    let few : q ≤ 65535 = le_trans ((le-div_iff_mul-le (one-le-pow shift 2 (omega arith))).1 (le_trans (div-mul-le_self room p) low)) fits in
    let all : min 65535 q ≡ q = omega (arith, few) in
    let rest : room % p < p = mod-lt room (one-le-pow shift 2 (omega arith)) in
    let is : q * p + room % p ≡ room = div-add-mod' room p in
    rw all (omega (arith, is, rest))

-- Without a shift it is the room itself.
pub told_all : (room : ℕ) → room ≤ 65535 → told 0 room ≡ room
told_all room low = omega arith

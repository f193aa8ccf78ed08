-- How many parts a datagram is cut into, and where each stands.
use Rattle.std.proofs.Common.{◌≡◌, ℕ, ◌+◌, ◌-◌, ◌*◌, ◌/◌, ◌<◌, ◌≤◌, Bool, true, false, cond, zero, suc, inl, inr, length, take, drop, nat_lt, refl, sym, ◌∙◌, arith}
use Rattle.std.proofs.Math.Nat.{mul-le-mul_right}
use Rattle.std.proofs.lemmas.Bool.{cases_lt, ltb-true, ltb-false, lt-ltb, le-ltb}
use Rattle.std.proofs.lemmas.List.{length-take-le, length-drop}
use Rattle.ipv4_head.specs.Cuts.{room_in, units_in, cut_start, is_before_last, is_cut, cut_at, cut_count}
use Rattle.ipv4_head.specs.Sets.{Part}

-- two tests that mean the same
same_lt : (a b c d : ℕ) → (a < b → c < d) → (c < d → a < b) → nat_lt a b ≡ nat_lt c d
same_lt a b c d f g = elim (cases_lt a b) [
  | inl less ↦ lt-ltb a b less ∙ sym (lt-ltb c d (f less))
  | inr more ↦ le-ltb a b more ∙ sym (le-ltb c d (elim (cases_lt c d) [ inl less ↦ absurd (omega (arith, g less, more)) | inr other ↦ other ]))
]

-- rounded up
below_up : (x d j : ℕ) → 0 < d → j < (x + (d - 1)) / d → j * d < x
below_up x d j some less =
    let q = (x + (d - 1)) / d in
    let upper : suc j * d ≤ q * d = mul-le-mul_right d (omega (arith, less)) in
    omega (arith, upper)

up_below : (x d j : ℕ) → 0 < d → j * d < x → j < (x + (d - 1)) / d
up_below x d j some less =
    let q = (x + (d - 1)) / d in
    elim (cases_lt j q) [
      | inl is ↦ is
      | inr more ↦ (let upper : q * d ≤ j * d = mul-le-mul_right d more in absurd (omega (arith, upper, less)))
    ]

-- at least a unit fits
pub units_some : (mtu : ℕ) → 28 ≤ mtu → 1 ≤ units_in mtu
units_some mtu fits = omega arith

pub units_fit : (mtu : ℕ) → 8 * units_in mtu ≤ room_in mtu
units_fit mtu = omega arith

counted : (room u size j : ℕ) → 1 ≤ u → nat_lt room (size - 8 * (j * u)) ≡ nat_lt (suc j) (suc ((size - room + (8 * u - 1)) / (8 * u)))
counted room u size j some =
    same_lt room (size - 8 * (j * u)) (suc j) (suc ((size - room + (8 * u - 1)) / (8 * u)))
    (λ less. let e : j < (size - room + (8 * u - 1)) / (8 * u) = up_below (size - room) (8 * u) j (omega arith) (omega (arith, less)) in omega (arith, e))
    (λ less. let e : j * (8 * u) < size - room = below_up (size - room) (8 * u) j (omega arith) (omega (arith, less)) in omega (arith, e))

-- the k-th part is there where the number is under the count
pub is_cut_below : (mtu size k : ℕ) → 28 ≤ mtu → is_cut mtu size k ≡ nat_lt k (cut_count mtu size)
is_cut_below mtu size zero fits = sym (lt-ltb 0 (cut_count mtu size) (omega arith))
is_cut_below mtu size (suc j) fits = counted (room_in mtu) (units_in mtu) size j (units_some mtu fits)

-- a part before the last one has one behind it, and the last one none
pub more_below : (mtu size k : ℕ) → 28 ≤ mtu → is_before_last mtu size k ≡ nat_lt (suc k) (cut_count mtu size)
more_below mtu size k fits = is_cut_below mtu size (suc k) fits

-- where a part stands, in units: within the greatest body, and only the first at its front
pub place_below : (mtu size k : ℕ) → 28 ≤ mtu → size ≤ 65515 → k < cut_count mtu size → 8 * (k * units_in mtu) ≤ 65515
place_below mtu size zero fits short less = omega arith
place_below mtu size (suc j) fits short less =
    let before : is_before_last mtu size j ≡ true = is_cut_below mtu size (suc j) fits ∙ lt-ltb (suc j) (cut_count mtu size) less in
    let follows = ltb-true (room_in mtu) (size - cut_start mtu j) before in
    let fits = units_fit mtu in
    omega (arith, follows, fits)

pub place_some : (mtu k : ℕ) → 28 ≤ mtu → 0 < k → 1 ≤ k * units_in mtu
place_some mtu k fits some = let least : 1 * units_in mtu ≤ k * units_in mtu = mul-le-mul_right (units_in mtu) some in omega (arith, least, units_some mtu fits)

-- a part fits a frame, with its header
pub part_fits : (mtu : ℕ) (whole : Part) (k : ℕ) → 28 ≤ mtu → 20 + length (cut_at mtu whole k).body ≤ mtu
part_fits mtu whole k fits = by (is_before_last mtu (length whole.body) k) refl
  where
    by : (b : Bool) → is_before_last mtu (length whole.body) k ≡ b
        → 20 + length (cond b (take (8 * units_in mtu) (drop (cut_start mtu k) whole.body)) (drop (cut_start mtu k) whole.body)) ≤ mtu
    by true is =
        let less = ltb-true (room_in mtu) (length whole.body - cut_start mtu k) is in
        let long = length-drop (cut_start mtu k) whole.body in
        let size = length-take-le (8 * units_in mtu) (drop (cut_start mtu k) whole.body) (omega (arith, less, long, units_fit mtu)) in
        omega (arith, size, units_fit mtu)
    by false is =
        let more = ltb-false (room_in mtu) (length whole.body - cut_start mtu k) is in
        let long = length-drop (cut_start mtu k) whole.body in
        omega (arith, more, long)

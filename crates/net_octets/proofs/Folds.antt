-- The sum of the wide words folds to that of the 16-bit words.
use Rattle.std.proofs.Common.{◌≡◌, ℕ, zero, suc, ◌+◌, ◌-◌, ◌*◌, ◌%◌, ◌≤◌, List, [], ◌∷◌, refl, arith, ap, ◌∙◌}
use Rattle.std.proofs.Math.Nat.{add-mul-mod_self_left}
use Rattle.net_octets.specs.Octets.{word_sum, with_carries}
use Rattle.net_octets.specs.Quads.{quad_sum}

-- how often 65,535 is in what the words of four are more than those of two
abbrev pub high_sum : List ℕ → ℕ
high_sum (a ∷ b ∷ c ∷ d ∷ rest) = b + 256 * c + 65537 * d + high_sum rest
high_sum (a ∷ b ∷ c ∷ []) = 0
high_sum (a ∷ b ∷ []) = 0
high_sum (a ∷ []) = 0
high_sum [] = 0

pub quad_sum-is : (xs : List ℕ) → quad_sum xs ≡ word_sum xs + 65535 * high_sum xs
quad_sum-is (a ∷ b ∷ c ∷ d ∷ rest) = omega (arith, quad_sum-is rest)
quad_sum-is (a ∷ b ∷ c ∷ []) = omega arith
quad_sum-is (a ∷ b ∷ []) = omega arith
quad_sum-is (a ∷ []) = omega arith
quad_sum-is [] = refl

-- where all octets are 0 it is in it not once
pub high_sum-none : (xs : List ℕ) → word_sum xs ≡ 0 → high_sum xs ≡ 0
high_sum-none (a ∷ b ∷ c ∷ d ∷ rest) none = let more = high_sum-none rest (omega (arith, none)) in omega (arith, none, more)
high_sum-none (a ∷ b ∷ c ∷ []) none = refl
high_sum-none (a ∷ b ∷ []) none = refl
high_sum-none (a ∷ []) none = refl
high_sum-none [] none = refl

pub with_carries-pos : (n : ℕ) → 1 ≤ n → with_carries n ≡ (n - 1) % 65535 + 1
with_carries-pos n le = grind arith

-- adding a multiple of 65535 changes nothing, but where there was nothing to add to
pub with_carries-add : (n k : ℕ) → (n ≡ 0 → k ≡ 0) → with_carries (n + 65535 * k) ≡ with_carries n
with_carries-add zero k none =
    let zero_k = none refl in
    let e : zero + 65535 * k ≡ 0 = omega (arith, zero_k) in
    rw e refl
with_carries-add (suc m) k none =
    let left : with_carries (suc m + 65535 * k) ≡ (suc m + 65535 * k - 1) % 65535 + 1 = with_carries-pos (suc m + 65535 * k) (omega arith) in
    let right : with_carries (suc m) ≡ (suc m - 1) % 65535 + 1 = with_carries-pos (suc m) (omega arith) in
    let same : suc m + 65535 * k - 1 ≡ suc m - 1 + 65535 * k = omega arith in
    let mods : (suc m - 1 + 65535 * k) % 65535 ≡ (suc m - 1) % 65535 = add-mul-mod_self_left (suc m - 1) 65535 k in
    rw left (rw right (rw same (rw mods refl)))

-- the sum by words of four folds to that by words of two, also behind other words
pub with_carries-quad : (start : ℕ) (xs : List ℕ) → with_carries (start + quad_sum xs) ≡ with_carries (start + word_sum xs)
with_carries-quad start xs =
    let same : start + quad_sum xs ≡ start + word_sum xs + 65535 * high_sum xs = omega (arith, quad_sum-is xs) in
    ap with_carries same ∙ with_carries-add (start + word_sum xs) (high_sum xs) (λ none. high_sum-none xs (omega (arith, none)))

-- The sums of two parts add up to that of the whole, where the first has whole words.
use Rattle.std.proofs.Common.{◌≡◌, ℕ, zero, suc, ◌+◌, List, [], ◌∷◌, take, drop, refl, arith}
use Rattle.net_octets.specs.Quads.{quad_sum}

-- the octets of so many words of four
abbrev pub octets_of : ℕ → ℕ
octets_of zero = 0
octets_of (suc words) = suc (suc (suc (suc (octets_of words))))

none_before : (n : ℕ) → 0 + n ≡ n
none_before n = omega arith

pub quad_sum-parts : (words : ℕ) (xs : List ℕ) → quad_sum (take (octets_of words) xs) + quad_sum (drop (octets_of words) xs) ≡ quad_sum xs
quad_sum-parts zero xs = none_before (quad_sum xs)
quad_sum-parts (suc words) (a ∷ b ∷ c ∷ d ∷ rest) = omega (arith, quad_sum-parts words rest)
quad_sum-parts (suc words) (a ∷ b ∷ c ∷ []) = omega arith
quad_sum-parts (suc words) (a ∷ b ∷ []) = omega arith
quad_sum-parts (suc words) (a ∷ []) = omega arith
quad_sum-parts (suc words) [] = refl

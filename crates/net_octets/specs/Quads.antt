-- The sum of octets by words of four.
use Rattle.std.specs.Prelude.{ℕ, ◌+◌, ◌*◌, List, [], ◌∷◌}
use Rattle.net_octets.specs.Octets.{word_sum}

-- The sum of the words of four octets, of which the first octet is the lowest and counts 256, with the last one to three by words of two. Modulo 65,535 it is
-- the sum of the words of two octets (RFC 1071, 2, Byte Order Independence).
abbrev pub quad_sum : List ℕ → ℕ
quad_sum (a ∷ b ∷ c ∷ d ∷ rest) = 256 * (a + 256 * b + 65536 * c + 16777216 * d) + quad_sum rest
quad_sum (a ∷ b ∷ c ∷ []) = word_sum (a ∷ b ∷ c ∷ [])
quad_sum (a ∷ b ∷ []) = word_sum (a ∷ b ∷ [])
quad_sum (a ∷ []) = word_sum (a ∷ [])
quad_sum [] = 0

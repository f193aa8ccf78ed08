-- Lists of moments, one behind another.
use Rattle.std.proofs.Common.{ℕ, List, [], ◌∷◌, ◌++◌, Option, None, Some}
use Rattle.spec_flow.specs.Dutiful.{AreAhead}
use Rattle.spec_flow.specs.Bounds.{IsBy}

pub both_ahead : (now : ℕ) (one other : List ℕ) → AreAhead now one → AreAhead now other → AreAhead now (one ++ other)
both_ahead now [] other is_one is_other = is_other
both_ahead now (m ∷ one) other is_one is_other = (is_one.0, both_ahead now one other is_one.1 is_other)

pub by_both : (due : Option ℕ) (one other : List ℕ) → IsBy due one → IsBy due other → IsBy due (one ++ other)
by_both due [] other is_one is_other = is_other
by_both None (m ∷ one) other is_one is_other = absurd is_one
by_both (Some at) (m ∷ one) other is_one is_other = (is_one.0, by_both (Some at) one other is_one.1 is_other)

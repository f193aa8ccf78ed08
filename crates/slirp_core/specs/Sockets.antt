-- The open sockets, by rising number.
use Rattle.std.specs.Prelude.{ℕ, ◌<◌, List, [], ◌∷◌}

abbrev pub AllAbove : ℕ → List ℕ → Type 0
AllAbove n [] = Unit {0}
AllAbove n (m ∷ ms) = (n < m) × AllAbove n ms

-- each is less than the next one, and the last than the bound
abbrev pub IsRising : ℕ → List ℕ → Type 0
IsRising bound [] = Unit {0}
IsRising bound (n ∷ ns) = (n < bound) × AllAbove n ns × IsRising bound ns

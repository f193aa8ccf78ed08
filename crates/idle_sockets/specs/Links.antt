-- The order of use as links: each number has the one before it and the one behind it.
use Rattle.std.specs.Prelude.{◌≡◌, ℕ, ◌==◌, List, [], ◌∷◌, length, Option, Some, None, if◌then◌else◌, zero, suc}
use Rattle.idle_sockets.specs.Numbers.{Rise, times}
use Rattle.idle_sockets.specs.declared.order.Neighbours.{Neighbours}
use Rattle.idle_sockets.specs.declared.order.Side.{Side}
use Rattle.idle_sockets.specs.declared.order.Side.TheVariants.{Before, Behind}

abbrev pub neighbours : Option ℕ → Option ℕ → Neighbours
neighbours before behind = record { before = before; behind = behind }

-- the neighbours of a number; they stand beside the numbers
abbrev pub neighbours_of : List ℕ → List Neighbours → ℕ → Neighbours
neighbours_of [] links n = neighbours None None
neighbours_of (m ∷ ms) [] n = neighbours None None
neighbours_of (m ∷ ms) (l ∷ ls) n = if m == n then l else neighbours_of ms ls n

abbrev pub first_of : List ℕ → Option ℕ
first_of [] = None
first_of (n ∷ ns) = Some n

-- numbers that stand behind one are linked to each other in this order, the last is the last
abbrev pub Chain : (ℕ → Neighbours) → Option ℕ → List ℕ → Option ℕ → Type 0
Chain of before [] last = last ≡ before
Chain of before (n ∷ ns) last = (of n ≡ neighbours before (first_of ns)) × Chain of (Some n) ns last

-- the numbers that are met from one on, so many at most
abbrev pub walk : ℕ → (ℕ → Neighbours) → Option ℕ → List ℕ
walk zero of at = []
walk (suc most) of None = []
walk (suc most) of (Some n) = n ∷ walk most of (of n).behind

-- another stands on a side of a number, where one is given
abbrev pub on_side : Side → Option ℕ → Neighbours → Neighbours
on_side Before other l = neighbours other l.behind
on_side Behind other l = neighbours l.before other

abbrev pub with_side : Side → Option ℕ → Option ℕ → ℕ → Neighbours → Neighbours
with_side side None other k l = l
with_side side (Some n) other k l = if n == k then on_side side other l else l

abbrev pub with_behind : Option ℕ → Option ℕ → ℕ → Neighbours → Neighbours
with_behind of behind k l = with_side Behind of behind k l

abbrev pub with_before : Option ℕ → Option ℕ → ℕ → Neighbours → Neighbours
with_before of before k l = with_side Before of before k l

-- a number stands behind the last
abbrev pub with_neighbours : ℕ → Option ℕ → ℕ → Neighbours → Neighbours
with_neighbours n last k l = if n == k then neighbours last None else l

-- the one where there is no such number, else the other
abbrev pub unless_none : Option ℕ → Option ℕ → Option ℕ → Option ℕ
unless_none None otherwise some = otherwise
unless_none (Some n) otherwise some = some

-- the numbers rise, and their links stand in this order
pub record AreLinks (numbers : List ℕ) (links : List Neighbours) (first last : Option ℕ) : Type 0 where
  pub order : List ℕ
  pub rise : Rise numbers
  pub beside : length links ≡ length numbers
  pub same : (n : ℕ) → times n order ≡ times n numbers
  pub begins : first ≡ first_of order
  pub chain : Chain (neighbours_of numbers links) None order last

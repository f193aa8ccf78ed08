-- Sockets that were idle for long are closed by rising number.
use Rattle.std.proofs.Common.{◌≡◌, ℕ, ◌+◌, ◌≤◌, ◌==◌, ◌&&◌, ◌||◌, not, Bool, true, false, All, List, [], ◌∷◌, if◌then◌else◌, refl, arith}
use Rattle.std.proofs.lemmas.Bool.Decides.{nat_tests}
use Rattle.std.proofs.lemmas.List.Elements.{All-head, All-tail}
use Rattle.std.specs.List.{list_any}
use Rattle.world_face.specs.Journal.{Entry, Close}
use Rattle.rules_udp.specs.Associations.{is_numbered, is_over, without}
use Rattle.rules_udp.specs.declared.Association.{Association}
use Rattle.tcp_flows.specs.Runs.{ClosesBelow}

-- those whose idle life is over have numbers from this one on
abbrev pub AreFrom : ℕ → ℕ → List Association → Type 0
AreFrom bound now [] = Unit {0}
AreFrom bound now (a ∷ list) = (is_over now a ≡ true → bound ≤ a.number) × AreFrom bound now list

pub from_zero : (now : ℕ) (list : List Association) → AreFrom 0 now list
from_zero now [] = tt
from_zero now (a ∷ list) = (λ over. omega arith, from_zero now list)

pub from_least : (n now : ℕ) (list : List Association) → All (λ a. is_over now a ≡ true → n ≤ a.number) list → AreFrom n now list
from_least n now [] all = tt
from_least n now (a ∷ list) all = (
  All-head (λ (x : Association). is_over now x ≡ true → n ≤ x.number) a list all,
  from_least n now list
      (All-tail (λ (x : Association). is_over now x ≡ true → n ≤ x.number) a list all),
)

pub without_least : (n now : ℕ) (list : List Association) → AreFrom n now list → AreFrom (n + 1) now (without n list)
without_least n now [] from = tt
without_least n now (a ∷ list) from = by (is_numbered n a) refl (without_least n now list from.1)
  where
    by : (b : Bool) → (a.number == n) ≡ b → AreFrom (n + 1) now (without n list) → AreFrom (n + 1) now (if not b then a ∷ without n list else without n list)
    by true is rest = rest
    by false is rest = (λ over. let least = from.0 over in grind (arith, nat_tests, is, least), rest)

pub found_from : (bound n now : ℕ) (list : List Association) → AreFrom bound now list → list_any (λ a. is_numbered n a && is_over now a) list ≡ true → bound ≤ n
found_from bound n now [] from is = cc
found_from bound n now (a ∷ list) from is = by (is_numbered n a) (is_over now a) refl refl is (found_from bound n now list from.1)
  where
    by : (b over : Bool) → (a.number == n) ≡ b → is_over now a ≡ over → ((b && over) || list_any (λ x. is_numbered n x && is_over now x) list) ≡ true
        → (list_any (λ x. is_numbered n x && is_over now x) list ≡ true → bound ≤ n) → bound ≤ n
    by true true b o is more = let least = from.0 o in grind (arith, nat_tests, b, least)
    by true false b o is more = more is
    by false over b o is more = more is

pub below_more : (bound more : ℕ) (made : List Entry) → bound ≤ more → ClosesBelow bound made → ClosesBelow more made
below_more bound more [] le below = tt
below_more bound more (Close n ∷ made) le below = (omega (arith, le, below.0), below_more bound more made le below.1)
below_more bound more (_ ∷ made) le below = absurd below

-- Two books between which one flow alone has changed.
use Rattle.std.specs.Prelude.{◌≡◌, ℕ, ◌+◌, ◌==◌, Bool, true, false, List, [], ◌∷◌, ◌++◌, map, if◌then◌else◌}
use Rattle.world_face.specs.Journal.{Entry}
use Rattle.slirp_settings.specs.Addresses.{Config}
use Rattle.spec_flows.specs.declared.Tuple.{Tuple}
use Rattle.spec_flows.specs.Book.{book}
use Rattle.spec_flows.specs.Flows.{Flow, Book, owner, flow_of, uses, used}
use Rattle.spec_flows.specs.Doings.{Doing, Nothing, Comes, Goes, Calls, Shuts, doing}
use Rattle.spec_flows.specs.Said.{Differ}
use Rattle.spec_flows.specs.Touching.{has_number}

-- it is nothing to flows, or about this one, which it doesn't open
abbrev pub IsOf : ℕ → Book → Doing → Type 0
IsOf number book Nothing = Unit {0}
IsOf number book (Comes on) = has_number number (owner on.tuple book.flows) ≡ true
IsOf number book (Goes on) = has_number number (owner on.tuple book.flows) ≡ true
IsOf number book (Calls socket event) = socket ≡ number
IsOf number book (Shuts socket) = socket ≡ number
IsOf number book _ = ⊥

-- those that were made are all so
abbrev pub AreOf : Config → ℕ → List Entry → List Entry → Type 0
AreOf config number past [] = Unit {0}
AreOf config number past (e ∷ made) = IsOf number (book config (made ++ past)) (doing config (made ++ past) e) × AreOf config number past made

-- the flow is in use after each of them
abbrev pub StaysInUse : Config → ℕ → List Entry → List Entry → Type 0
StaysInUse config number past [] = Unit {0}
StaysInUse config number past (e ∷ made) = (uses (flow_of number (book config (e ∷ made ++ past)).flows) ≡ true) × StaysInUse config number past made

-- what stays of a flow
abbrev pub ids : List Flow → List (ℕ × Tuple)
ids flows = map (λ f. (f.number, f.tuple)) flows

-- one where the tuple is in use
abbrev pub one_if : Bool → ℕ
one_if b = if b then 1 else 0

-- the flows are the same but for the story of this one
pub record Only (number : ℕ) (old new : List Flow) : Type 0 where
  pub same : ids new ≡ ids old
  pub apart : (other : ℕ) → (other == number) ≡ false → flow_of other new ≡ flow_of other old
  pub differ : Differ old → Differ new
  pub used : used new + one_if (uses (flow_of number old)) ≡ used old + one_if (uses (flow_of number new))

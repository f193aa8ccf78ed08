-- A moment that is by, or from, the moments of each part is so by those of each flow of the trace.
use Rattle.std.proofs.Common.{◌≡◌, ℕ, ◌≤◌, Bool, true, false, List, [], ◌∷◌, ◌++◌, Option, Some, None, inl, inr, refl, sym, ap, ◌∙◌, subst, cond, arith}
use Rattle.spec_flow.specs.Event.{Story}
use Rattle.spec_flows.specs.Flows.{Flow, flow_of, is_numbered}
use Rattle.spec_flows.specs.Said.{Differ}
use Rattle.spec_flow.specs.Bounds.{IsBy, IsFrom}
use Rattle.sim_halves.proofs.Moments.{by_both}
use Rattle.spec_run.proofs.Bools.{equal, same}
use Rattle.spec_duties.specs.Times.{of_flows}

-- ---- lists of moments

pub from_first : (due : Option ℕ) (one other : List ℕ) → IsFrom due one → IsFrom due (one ++ other)
from_first None one other is = tt
from_first (Some at) [] other is = absurd is
from_first (Some at) (m ∷ one) other (inl low) = inl low
from_first (Some at) (m ∷ one) other (inr rest) = inr (from_first (Some at) one other rest)

pub from_second : (due : Option ℕ) (one other : List ℕ) → IsFrom due other → IsFrom due (one ++ other)
from_second None one other is = tt
from_second (Some at) [] other is = is
from_second (Some at) (m ∷ one) other is = inr (from_second (Some at) one other is)

-- an earlier moment is by what a later one is by, and a later one from what an earlier one is from
pub by_earlier : (at later : ℕ) (ms : List ℕ) → at ≤ later → IsBy (Some later) ms → IsBy (Some at) ms
by_earlier at later [] low is = tt
by_earlier at later (m ∷ ms) low is = ((let one = is.0 in omega (arith, low, one)), by_earlier at later ms low is.1)

pub by_any : (at : ℕ) (ms : List ℕ) → IsBy None ms → IsBy (Some at) ms
by_any at [] is = tt
by_any at (m ∷ ms) is = absurd is

pub from_later : (at later : ℕ) (ms : List ℕ) → at ≤ later → IsFrom (Some at) ms → IsFrom (Some later) ms
from_later at later [] low is = absurd is
from_later at later (m ∷ ms) low (inl one) = inl (omega (arith, low, one))
from_later at later (m ∷ ms) low (inr rest) = inr (from_later at later ms low rest)

-- ---- over all flows

-- a flow that is behind another has a number of its own
behind : (g : Flow) (flows : List Flow) (n : ℕ) (f : Flow) → flow_of g.number flows ≡ None → flow_of n flows ≡ Some f → flow_of n (g ∷ flows) ≡ Some f
behind g flows n f none found = by (is_numbered n g) refl
  where
    by : (b : Bool) → is_numbered n g ≡ b → cond b (Some g) (flow_of n flows) ≡ Some f
    by true is = absurd (two (sym none ∙ ap (λ m. flow_of m flows) (equal g.number n is) ∙ found))
      where
        two : ◌≡◌ {A = Option Flow} None (Some f) → ⊥
        two bad = absurd cc
    by false is = found

at_front : (g : Flow) (flows : List Flow) → flow_of g.number (g ∷ flows) ≡ Some g
at_front g flows = ap (λ (b : Bool). cond b (Some g) (flow_of g.number flows)) (same g.number)

pub flows_by : (due : Option ℕ) (moments : Story → List ℕ) (flows : List Flow) → Differ flows → ((n : ℕ) (f : Flow) → flow_of n flows ≡ Some f → IsBy due (moments f.story)) →
    IsBy due (of_flows moments flows)
flows_by due moments [] differ each = empty due
  where
    empty : (o : Option ℕ) → IsBy o []
    empty o = tt
flows_by due moments (g ∷ flows) differ each =
    by_both due (moments g.story) (of_flows moments flows) (each g.number g (at_front g flows)) (flows_by due moments flows differ.1 (λ n f found. each n f (behind g flows n f differ.0 found)))

pub flows_from : (due : Option ℕ) (moments : Story → List ℕ) (flows : List Flow) (n : ℕ) (f : Flow) → flow_of n flows ≡ Some f → IsFrom due (moments f.story) → IsFrom due (of_flows moments flows)
flows_from due moments [] n f found is = absurd (none_some found)
  where
    none_some : ◌≡◌ {A = Option Flow} None (Some f) → ⊥
    none_some bad = absurd cc
flows_from due moments (g ∷ flows) n f found is = by (flows_from due moments flows n f) (is_numbered n g) found
  where
    by : (flow_of n flows ≡ Some f → IsFrom due (moments f.story) → IsFrom due (of_flows moments flows)) → (b : Bool) → cond b (Some g) (flow_of n flows) ≡ Some f → IsFrom due
        (moments g.story ++ of_flows moments flows)
    by rest true one = let here : g ≡ f = cc in from_first due (moments g.story) (of_flows moments flows) (subst (λ (h : Flow). IsFrom due (moments h.story)) (sym here) is)
    by rest false one = from_second due (moments g.story) (of_flows moments flows) (rest one is)

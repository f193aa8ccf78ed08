-- The marks of flows and the numbers in the slots, after calls that open no flow, after a flow began, and after both.
use Rattle.std.proofs.Common.{◌≡◌, ℕ, ◌≤◌, ◌⊎◌, inl, inr, slice_get, Some, refl, ◌∙◌, arith}
use Rattle.flow_splice.specs.Splice.{Splice}
use Rattle.sim_flows.specs.Core.{number_of}
use Rattle.tcp_flows.specs.Kept.{Kept}
use Rattle.tcp_flows.specs.Reading.{Stays}
use Rattle.slirp_core.specs.Marks.{KeepsMarks}

pub marks_same : (number : ℕ) (kept : Kept) → KeepsMarks number kept kept
marks_same number kept = record { served = refl; turn = refl; numbers = λ k p at. inl (p, at, refl) }

pub marks_stay : (number : ℕ) (old new : Kept) → new.served ≡ old.served → new.turn ≡ old.turn → Stays old new → KeepsMarks number old new
marks_stay number old new served turn stays = record { served = served; turn = turn; numbers = λ k p at. inl (stays.numbers k p at) }

-- a flow began with this number
pub marks_begun : (number : ℕ) (old new : Kept) → new.served ≡ old.served → new.turn ≡ old.turn
    → ((k : ℕ) (p : Splice) → slice_get new.flows.slots k ≡ Some (Some p) → (number_of p ≡ number) ⊎ ((q : Splice) × (slice_get old.flows.slots k ≡ Some (Some q)) ×
    (number_of p ≡ number_of q))) → KeepsMarks number old new
marks_begun number old new served turn numbers = record { served = served; turn = turn; numbers = λ k p at. by k p (numbers k p at) }
  where
    by : (k : ℕ) (p : Splice) → (number_of p ≡ number) ⊎ ((q : Splice) × (slice_get old.flows.slots k ≡ Some (Some q)) × (number_of p ≡ number_of q))
        → ((q : Splice) × (slice_get old.flows.slots k ≡ Some (Some q)) × (number_of p ≡ number_of q)) ⊎ (number ≤ number_of p)
    by k p (inl is) = inr (omega (arith, is))
    by k p (inr was) = inl was

-- one call after another
pub marks_then : (number later : ℕ) (old mid new : Kept) → number ≤ later → KeepsMarks number old mid → KeepsMarks later mid new → KeepsMarks number old new
marks_then number later old mid new up first second = record { served = second.served ∙ first.served; turn = second.turn ∙ first.turn; numbers = λ k p at. by k p (second.numbers k p at) }
  where
    from : (k : ℕ) (p q : Splice) → number_of p ≡ number_of q → ((r : Splice) × (slice_get old.flows.slots k ≡ Some (Some r)) × (number_of q ≡ number_of r)) ⊎ (number ≤ number_of q)
        → ((r : Splice) × (slice_get old.flows.slots k ≡ Some (Some r)) × (number_of p ≡ number_of r)) ⊎ (number ≤ number_of p)
    from k p q same (inl (r, was, is)) = inl (r, was, same ∙ is)
    from k p q same (inr least) = inr (omega (arith, same, least))

    by : (k : ℕ) (p : Splice) → ((q : Splice) × (slice_get mid.flows.slots k ≡ Some (Some q)) × (number_of p ≡ number_of q)) ⊎ (later ≤ number_of p)
        → ((r : Splice) × (slice_get old.flows.slots k ≡ Some (Some r)) × (number_of p ≡ number_of r)) ⊎ (number ≤ number_of p)
    by k p (inl (q, at, same)) = from k p q same (first.numbers k q at)
    by k p (inr least) = inr (omega (arith, up, least))

-- Flows that time closes at no moment, and a pump.
use Rattle.std.proofs.Common.{refl, ◌≡◌, ℕ, Bool, true, false, List, set, slice_get, Some, Option, inl, inr, sym, ◌∙◌, subst}
use Rattle.sim_flows.proofs.Seats.{differ, same_or_not}
use Rattle.sim_flows.proofs.Tables.{get_set_other, get_set_same}
use Rattle.flow_splice.specs.Splice.{Splice, is_open}
use Rattle.flow_splice.specs.Wants.{HasTime}
use Rattle.tcp_flows.specs.Reading.{IsOpenAt}
use Rattle.tcp_flows.specs.Settled.{HaveTime}

-- one whose socket is closed has time
pub shut_has_time : (p : Splice) (now : ℕ) → is_open p ≡ false → HasTime p now
shut_has_time p now shut = record { connects = λ open_yet. never open_yet; deserted = λ open_yet. never open_yet }
  where
    never : {X : Type 0} → is_open p ≡ true → X
    never open_yet = absurd (let same : true ≡ false = sym open_yet ∙ shut in cc)

-- the flow of a slot was pumped
pub time_next : (now : ℕ) (parts new : List (Option Splice)) (k : ℕ) (p : Splice) → slice_get parts k ≡ Some (Some p)
    → ((x : Option Splice) × (new ≡ set parts k x) × ((q : Splice) → x ≡ Some q → HasTime p now → HasTime q now)) → HaveTime now parts → HaveTime now new
time_next now parts new k p at change have = λ j q is. each j q (subst (λ (l : List (Option Splice)). IsOpenAt l j q) change.1 is)
  where
    had : (b : Bool) → is_open p ≡ b → HasTime p now
    had true open_yet = have k p (record { here = at; open_yet = open_yet })
    had false shut = shut_has_time p now shut

    each : (j : ℕ) (q : Splice) → IsOpenAt (set parts k change.0) j q → HasTime q now
    each j q is = elim (same_or_not j k) [
      | inl at_k ↦ change.2 q (sym (get_set_same parts k (Some p) change.0 (Some q) at (subst (λ i. slice_get (set parts k change.0) i ≡ Some (Some q)) at_k is.here))) (had (is_open p) refl)
      | inr other ↦ have j q (record { here = sym (get_set_other parts k j change.0 (differ j k other)) ∙ is.here; open_yet = is.open_yet })
    ]

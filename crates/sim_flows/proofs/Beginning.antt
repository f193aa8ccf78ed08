-- Before the first flow every slot is free, and no flow is in TIME-WAIT.
use Rattle.std.proofs.Common.{◌≡◌, ℕ, zero, suc, true, false, List, [], ◌∷◌, replicate, slice_get, Option, Some, None, refl, sym, ◌∙◌, ap}
use Rattle.std.specs.Prelude.{filter_map}
use Rattle.std.specs.List.{cons_option}
use Rattle.flow_table.specs.Slots.{all_free}
use Rattle.flow_table.specs.declared.Slot.{Slot}
use Rattle.flow_table.specs.declared.Slot.TheVariants.{Free, InUse, InTimeWait}
use Rattle.spec_flow.specs.Event.{Story}
use Rattle.sim_flows.specs.Seats.{in_use_slots, number_in, number_at, time_waits_at, Seats}
use Rattle.sim_flows.proofs.Opening.{none_some}

free_or_none : {X : Type 0} (n k : ℕ) (x : X) (o : Option X) → slice_get (replicate n x) k ≡ o → o ≡ Some x → slice_get (replicate n x) k ≡ Some x
free_or_none n k x o is same = is ∙ same

same_in : {X : Type 0} (n k : ℕ) (x y : X) → slice_get (replicate n x) k ≡ Some y → y ≡ x
same_in zero k x y is = cc
same_in (suc n) zero x y is = cc
same_in (suc n) (suc k) x y is = same_in n k x y is

none_used : (n : ℕ) → in_use_slots (replicate n Free) ≡ 0
none_used zero = refl
none_used (suc n) = none_used n

-- as many parts as slots, and none of them
there_in : {X : Type 0} {Y : Type 0} (n k : ℕ) (x y : X) (z : Y) → slice_get (replicate n x) k ≡ Some y → slice_get (replicate n z) k ≡ Some z
there_in zero k x y z is = absurd (none_some is)
there_in (suc n) zero x y z is = refl
there_in (suc n) (suc k) x y z is = there_in n k x y z is

module _ {P : Type 0} (number : P → ℕ) (Follows : P → Story → Type 0) (n : ℕ) where
  nobody : (k m : ℕ) → number_at number (replicate n None) k ≡ Some m → ⊥
  nobody k m is = by_part (slice_get (replicate n None) k) refl is
    where
      some_is_none : (p : P) → Some p ≡ None → ⊥
      some_is_none p is = cc

      by_part : (o : Option (Option P)) → slice_get (replicate n None) k ≡ o → number_in number o ≡ Some m → ⊥
      by_part None at is = none_some is
      by_part (Some None) at is = none_some is
      by_part (Some (Some p)) at is = some_is_none p (same_in n k None (Some p) at)

  none_rest : (slots : List Slot) (turns : List ℕ) → filter_map (λ k. time_waits_at (slice_get slots k) (number_at number (replicate n None) k)) turns ≡ []
  none_rest slots [] = refl
  none_rest slots (k ∷ turns) =
      ap (λ o. cons_option o (filter_map (λ k. time_waits_at (slice_get slots k) (number_at number (replicate n None) k)) turns)) (gives (slice_get slots k) (number_at number (replicate n None) k) refl)
      ∙ none_rest slots turns
    where
      by_slot : (s : Option Slot) → time_waits_at s None ≡ None
      by_slot None = refl
      by_slot (Some Free) = refl
      by_slot (Some (InUse t)) = refl
      by_slot (Some (InTimeWait t since)) = refl

      gives : (s : Option Slot) (o : Option ℕ) → number_at number (replicate n None) k ≡ o → time_waits_at s o ≡ None
      gives s None at = by_slot s
      gives s (Some m) at = absurd (nobody k m at)

  pub seats_begin : Seats number Follows (all_free n) (replicate n None) 0 [] []
  seats_begin = record {
    seated = λ k p here. absurd (nobody k (number p) (ap (number_in number) here));
    empty = λ k here. there_in n k None None Free here;
    numbers = λ k j m one two. absurd (nobody k m one);
    owned = λ k m t one is. absurd (nobody k m one);
    found = λ m is. absurd (not_both is);
    order = sym (none_rest (all_free n).slots (all_free n).time_wait_order);
    counted = sym (none_used n);
    differ = tt;
    fresh = λ m past. refl;
  }
    where
      not_both : false ≡ true → ⊥
      not_both is = cc

-- Of the flows in use the one with the least number above the last one, one flow after another.
use Rattle.std.proofs.Common.{◌≡◌, ℕ, ◌<◌, ◌≤◌, nat_lt, Bool, true, false, List, [], ◌∷◌, ◌++◌, length, Option, Some, None, ◌⊎◌}
use Rattle.std.proofs.Common.{inl, inr, if◌then◌else◌, refl, sym, ◌∙◌, ap, subst, arith}
use Rattle.std.proofs.lemmas.Bool.Decides.{nat_tests}
use Rattle.spec_run.proofs.Bools.{and_both, first_of, second_of}
use Rattle.spec_flows.specs.declared.Tuple.{Tuple}
use Rattle.flow_splice.specs.Splice.{Splice, is_in_use}
use Rattle.flow_splice.specs.declared.Place.{Place}
use Rattle.flow_splice.specs.declared.Place.TheVariants.{Empty, InUse, InTimeWait}
use Rattle.sim_flows.specs.Core.{ends_of, number_of}
use Rattle.sim_flows.proofs.Options.{true_false}
use Rattle.tcp_flows.specs.InUse.{IsInUseAt, IsNextPart, IsNextUse, counts, is_above, lesser, use_above}
use Rattle.tcp_flows.specs.Kept.{part_at, part_of}
use Rattle.tcp_flows.specs.Reading.{IsAbove}
use Rattle.tcp_flows.proofs.Later.{is_part, push_cases, push_new, push_old}

-- the test of a number
above_is : (last : Option ℕ) (n : ℕ) → is_above last n ≡ true → IsAbove last n
above_is None n is = tt
above_is (Some last) n is = grind (arith, nat_tests, is)

is_above_by : (last : Option ℕ) (n : ℕ) → IsAbove last n → is_above last n ≡ true
is_above_by None n above = refl
is_above_by (Some last) n above = grind (arith, nat_tests, above)

-- a flow in use is a part
part_used : (p : Splice) → is_in_use p.place ≡ true → part_of p ≡ Some p
part_used p used = by p.place used
  where
    by : (x : Place) → is_in_use x ≡ true → part_at x p ≡ Some p
    by Empty used = absurd (true_false (sym used))
    by InUse used = refl
    by (InTimeWait since) used = absurd (true_false (sym used))

-- ---- one flow more

module _ (last : Option ℕ) (seen : List (Option Splice)) (p : Splice) where
  abbrev more : List (Option Splice)
  more = seen ++ (part_of p ∷ [])

  -- one that is among them is that flow, or was before
  among : (k : ℕ) (q : Splice) → IsInUseAt more k q → IsInUseAt seen k q ⊎ (q ≡ p)
  among k q at = elim (push_cases seen (part_of p) (Some q) k at.here) [ inl old ↦ inl (record { here = old; in_use = at.in_use }) | inr new ↦ inr (is_part p q new) ]

  -- where that flow is one it counts
  counts_it : (k : ℕ) (q : Splice) → IsInUseAt more k q → IsAbove last (number_of q) → q ≡ p → counts last p ≡ true
  counts_it k q at above is =
      and_both (is_in_use p.place) (is_above last (number_of p)) (sym (ap (λ (x : Splice). is_in_use x.place) is) ∙ at.in_use)
      (is_above_by last (number_of p) (subst (λ (x : Splice). IsAbove last (number_of x)) is above))

  at_end : counts last p ≡ true → IsInUseAt more (length seen) p
  at_end is =
      let used = first_of (is_in_use p.place) (is_above last (number_of p)) is in
      record { here = push_new seen (part_of p) ∙ ap Some (part_used p used); in_use = used }

  above_end : counts last p ≡ true → IsAbove last (number_of p)
  above_end is = above_is last (number_of p) (second_of (is_in_use p.place) (is_above last (number_of p)) is)

  still : (k : ℕ) (q : Splice) → IsInUseAt seen k q → IsInUseAt more k q
  still k q at = record { here = push_old seen (part_of p) (Some q) k at.here; in_use = at.in_use }

  -- it doesn't count
  passed_over : (o : Option (ℕ × Tuple)) → counts last p ≡ false → IsNextUse last o seen → IsNextUse last o more
  passed_over None not none = λ k q at above. elim (among k q at) [ inl old ↦ none k q old above | inr new ↦ true_false (sym (counts_it k q at above new) ∙ not) ]
  passed_over (Some a) not is = record {
    slot = is.slot;
    part = is.part;
    at = still is.slot is.part is.at;
    number = is.number;
    between = is.between;
    above = is.above;
    least = λ k q at above. elim (among k q at) [
      | inl old ↦ is.least k q old above
      | inr new ↦ absurd (true_false (sym (counts_it k q at above new) ∙ not))
    ];
  }

  -- its number is the least
  first : counts last p ≡ true → ((k : ℕ) (q : Splice) → IsInUseAt seen k q → IsAbove last (number_of q) → number_of p ≤ number_of q) → IsNextPart last (number_of p) (ends_of p.face) more
  first is below = record {
    slot = length seen;
    part = p;
    at = at_end is;
    number = refl;
    between = refl;
    above = above_end is;
    least = λ k q at above. elim (among k q at) [
      | inl old ↦ below k q old above
      | inr new ↦ let same = ap number_of new in omega (arith, same)
    ];
  }

  -- or it is the number of the one before
  stays : (a : ℕ × Tuple) → a.0 ≤ number_of p → IsNextPart last a.0 a.1 seen → IsNextPart last a.0 a.1 more
  stays a low is = record {
    slot = is.slot;
    part = is.part;
    at = still is.slot is.part is.at;
    number = is.number;
    between = is.between;
    above = is.above;
    least = λ k q at above. elim (among k q at) [
      | inl old ↦ is.least k q old above
      | inr new ↦ let same = ap number_of new in omega (arith, same, low)
    ];
  }

  two : (a : ℕ × Tuple) → counts last p ≡ true → IsNextPart last a.0 a.1 seen
      → IsNextUse last (if nat_lt (number_of p) a.0 then Some (number_of p, ends_of p.face) else Some a) more
  two a is before = by (nat_lt (number_of p) a.0) refl
    where
      by : (b : Bool) → nat_lt (number_of p) a.0 ≡ b → IsNextUse last (if b then Some (number_of p, ends_of p.face) else Some a) more
      by true less =
          let low : number_of p < a.0 = grind (arith, nat_tests, less) in
          first is (λ k q at above. let least = before.least k q at above in omega (arith, low, least))
      by false not = stays a (grind (arith, nat_tests, not)) before

  pub use_more : (o : Option (ℕ × Tuple)) → IsNextUse last o seen → IsNextUse last (lesser o (use_above last p)) more
  use_more o before = by (counts last p) refl o before
    where
      by : (b : Bool) → counts last p ≡ b → (o : Option (ℕ × Tuple)) → IsNextUse last o seen → IsNextUse last (lesser o (if b then Some (number_of p, ends_of p.face) else None)) more
      by true is None none = first is (λ k q at above. absurd (none k q at above))
      by true is (Some a) before = two a is before
      by false not None none = passed_over None not none
      by false not (Some a) before = passed_over (Some a) not before

-- The earliest of the moments after one at which flows are to be looked at, one flow after another.
use Rattle.std.proofs.Common.{◌≡◌, ℕ, zero, suc, ◌+◌, ◌<◌, ◌≤◌, ◌&&◌, not, Bool, true, false, min, nat_le, nat_lt, List, [], ◌∷◌, ◌++◌, get_or, length, map, take, slice_get, Option, Some, None, ◌⊎◌}
use Rattle.std.proofs.Common.{inl, inr, if◌then◌else◌, refl, sym, ◌∙◌, ap, subst, arith}
use Rattle.std.proofs.lemmas.Bool.Decides.{nat_tests}
use Rattle.std.proofs.lemmas.List.{map-append, take_more}
use Rattle.flow_splice.specs.Splice.{Splice, is_in_use}
use Rattle.flow_splice.specs.Wants.{due_of, is_deserted, left_at}
use Rattle.flow_splice.specs.declared.Place.{Place}
use Rattle.flow_splice.specs.declared.Place.TheVariants.{Empty, InUse, InTimeWait}
use Rattle.tcp_flows.specs.Kept.{part_at, part_of}
use Rattle.rules_flow.specs.Choices.{if_after}
use Rattle.tcp_flows.specs.Reading.{IsDueAfter, IsNextAfter, blocked_time_of, earlier, time_at}

-- ---- a list with one more

pub push_cases : {X : Type 0} (xs : List X) (y z : X) (k : ℕ) → slice_get (xs ++ (y ∷ [])) k ≡ Some z → (slice_get xs k ≡ Some z) ⊎ (z ≡ y)
push_cases [] y z zero is = inr cc
push_cases [] y z (suc k) is = absurd cc
push_cases (x ∷ xs) y z zero is = inl is
push_cases (x ∷ xs) y z (suc k) is = push_cases xs y z k is

pub push_old : {X : Type 0} (xs : List X) (y z : X) (k : ℕ) → slice_get xs k ≡ Some z → slice_get (xs ++ (y ∷ [])) k ≡ Some z
push_old [] y z k is = absurd cc
push_old (x ∷ xs) y z zero is = is
push_old (x ∷ xs) y z (suc k) is = push_old xs y z k is

pub push_new : {X : Type 0} (xs : List X) (y : X) → slice_get (xs ++ (y ∷ [])) (length xs) ≡ Some y
push_new [] y = refl
push_new (x ∷ xs) y = push_new xs y

-- ---- a flow's part, where it has a moment

pub is_part : (p q : Splice) → Some q ≡ part_of p → q ≡ p
is_part p q is = by p.place is
  where
    by : (x : Place) → Some q ≡ part_at x p → q ≡ p
    by Empty is = absurd cc
    by InUse is = cc
    by (InTimeWait since) is = cc

has_part : (p : Splice) (at : ℕ) → blocked_time_of p ≡ Some at → part_of p ≡ Some p
has_part p at is = by p.place is
  where
    by : (x : Place) → (if (is_in_use x && not p.shut) && is_deserted p then Some (left_at p) else time_at x (due_of p)) ≡ Some at → part_at x p ≡ Some p
    by Empty is = absurd cc
    by InUse is = refl
    by (InTimeWait since) is = refl

-- a moment after this one, or none
some_after : (now at : ℕ) (o : Option ℕ) → if_after now o ≡ Some at → (o ≡ Some at) × (now < at)
some_after now at None is = absurd cc
some_after now at (Some n) is = by (nat_lt now n) refl is
  where
    by : (b : Bool) → nat_lt now n ≡ b → (if b then Some n else None) ≡ Some at → (Some n ≡ Some at) × (now < at)
    by true later is = let same : n ≡ at = cc in (is, subst (λ (m : ℕ). now < m) same (grind (arith, nat_tests, later)))
    by false later is = absurd cc

none_after : (now at : ℕ) (o : Option ℕ) → if_after now o ≡ None → o ≡ Some at → at ≤ now
none_after now at None none is = absurd cc
none_after now at (Some n) none is = by (nat_lt now n) refl none
  where
    same : n ≡ at
    same = cc

    by : (b : Bool) → nat_lt now n ≡ b → ◌≡◌ {A = Option ℕ} (if b then Some n else None) None → at ≤ now
    by true later is_none = absurd cc
    by false later is_none = subst (λ (m : ℕ). m ≤ now) same (grind (arith, nat_tests, later))

same_moment : (a b : ℕ) (o : Option ℕ) → o ≡ Some a → o ≡ Some b → a ≡ b
same_moment a b o one other = let both : Some a ≡ Some b = sym one ∙ other in cc

-- ---- one flow more

module _ (now : ℕ) (seen : List (Option Splice)) (p : Splice) where
  abbrev more : List (Option Splice)
  more = seen ++ (part_of p ∷ [])

  here : (at : ℕ) → blocked_time_of p ≡ Some at → slice_get more (length seen) ≡ Some (Some p)
  here at is = push_new seen (part_of p) ∙ ap Some (has_part p at is)

  at_place : (k : ℕ) (q : Splice) → slice_get more k ≡ Some (Some q) → (slice_get seen k ≡ Some (Some q)) ⊎ (q ≡ p)
  at_place k q is = elim (push_cases seen (part_of p) (Some q) k is) [ inl old ↦ inl old | inr new ↦ inr (is_part p q new) ]

  nothing : IsNextAfter now seen None → if_after now (blocked_time_of p) ≡ None → IsNextAfter now more None
  nothing none past k q at is time = elim (at_place k q is) [
    | inl old ↦ none k q at old time
    | inr new ↦ none_after now at (blocked_time_of p) past (ap blocked_time_of (sym new) ∙ time)
  ]

  only : (b : ℕ) → IsNextAfter now seen None → (blocked_time_of p ≡ Some b) × (now < b) → IsDueAfter now more b
  only b none its = record {
    some = (length seen, p, here b its.0, its.0);
    after = its.1;
    earliest = λ k q other is time later. elim (at_place k q is) [
      | inl old ↦ let low = none k q other old time in absurd (omega (arith, low, later))
      | inr new ↦ let same = same_moment b other (blocked_time_of p) its.0 (ap blocked_time_of (sym new) ∙ time) in omega (arith, same)
    ];
  }

  still : (a : ℕ) → IsDueAfter now seen a → if_after now (blocked_time_of p) ≡ None → IsDueAfter now more a
  still a is past = record {
    some = (is.some.0, is.some.1, push_old seen (part_of p) (Some is.some.1) is.some.0 is.some.2, is.some.3);
    after = is.after;
    earliest = λ k q other at time later. elim (at_place k q at) [
      | inl old ↦ is.earliest k q other old time later
      | inr new ↦ let low = none_after now other (blocked_time_of p) past (ap blocked_time_of (sym new) ∙ time) in absurd (omega (arith, low, later))
    ];
  }

  least : (a b : ℕ) → IsDueAfter now seen a → (blocked_time_of p ≡ Some b) × (now < b) → IsDueAfter now more (min a b)
  least a b is its = by (nat_le a b) refl
    where
      bound : (k : ℕ) (q : Splice) (other : ℕ) → slice_get more k ≡ Some (Some q) → blocked_time_of q ≡ Some other → now < other → min a b ≤ other
      bound k q other at time later = elim (at_place k q at) [
        | inl old ↦ let low = is.earliest k q other old time later in omega (arith, low)
        | inr new ↦ let same = same_moment b other (blocked_time_of p) its.0 (ap blocked_time_of (sym new) ∙ time) in omega (arith, same)
      ]

      by : (c : Bool) → nat_le a b ≡ c → IsDueAfter now more (min a b)
      by true e =
          let low : a ≤ b = grind (arith, nat_tests, e) in
          let first : min a b ≡ a = omega (arith, low) in
          record {
            some = (is.some.0, is.some.1, push_old seen (part_of p) (Some is.some.1) is.some.0 is.some.2, is.some.3 ∙ ap Some (sym first));
            after = subst (λ (m : ℕ). now < m) (sym first) is.after;
            earliest = bound;
          }
      by false e =
          let high : b < a = grind (arith, nat_tests, e) in
          let first : min a b ≡ b = omega (arith, high) in
          record {
            some = (length seen, p, here b its.0, its.0 ∙ ap Some (sym first));
            after = subst (λ (m : ℕ). now < m) (sym first) its.1;
            earliest = bound;
          }

  pub next_more : (first : Option ℕ) → IsNextAfter now seen first → IsNextAfter now more (earlier first (if_after now (blocked_time_of p)))
  next_more first before = by first (if_after now (blocked_time_of p)) refl before
    where
      by : (f o : Option ℕ) → if_after now (blocked_time_of p) ≡ o → IsNextAfter now seen f → IsNextAfter now more (earlier f o)
      by None None is none = nothing none is
      by None (Some b) is none = only b none (some_after now b (blocked_time_of p) is)
      by (Some a) None is due = still a due is
      by (Some a) (Some b) is due = least a b due (some_after now b (blocked_time_of p) is)

pub parts_more : (parts : List Splice) (i : ℕ) (p : Splice) → i < length parts → p ≡ get_or parts i p → map part_of (take (i + 1) parts) ≡ map part_of (take i parts) ++ (part_of p ∷ [])
parts_more parts i p within at = ap (map part_of) (take_more parts i p within ∙ ap (λ (x : Splice). take i parts ++ (x ∷ [])) (sym at)) ∙ map-append part_of (take i parts) (p ∷ [])

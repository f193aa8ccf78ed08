-- Laws of a guest's stream.
use Rattle.std.proofs.Common.{refl, ◌≡◌, ℕ, suc, ◌+◌, ◌-◌, ◌^◌, ◌<◌, ◌≤◌, List, [], ◌∷◌, length, Option, None, Some, slice_get, ◌⊎◌, inl, inr, arith, ap, ℤ, pos, negsuc, ◌+ℤ◌, ◌≤ℤ◌, ◌<ℤ◌}
use Rattle.std.proofs.Common.{Bool, true, false, if◌then◌else◌, nat_le, get_or, length-append, ◌∙◌}
use Rattle.std.specs.Option.{option_or}
use Rattle.std.proofs.lemmas.Bool.Decides.{nat_tests}
use Rattle.std.proofs.lemmas.Int.{ints}
use Rattle.std.proofs.lemmas.Option.{slice_get_within, slice_get-get_or}
use Rattle.std.proofs.lemmas.Bool.{cases_lt}
use Rattle.spec_flow.specs.Guest.{Up, Came, Acked, Carries, IsNear, Conforming, octet_at, octet_of, front, top, ackd, begins, from_zero}
use Rattle.spec_flow.specs.Lawful.{IsPrefixOf, AtPlaces}
use Rattle.spec_flow.proofs.Lists.{run_prefix, run_reads}

pub octet_at_pos : (o i x : ℕ) (xs : List ℕ) → octet_at (pos o) xs i ≡ Some x → (o ≤ i) × (slice_get xs (i - o) ≡ Some x)
octet_at_pos o i x xs e = grind (arith, nat_tests)

-- the places of a segment's octets lie within it
pub octet_at_within : (o : ℤ) (xs : List ℕ) (i x : ℕ) → octet_at o xs i ≡ Some x → (o ≤ℤ pos i) × (pos i <ℤ (o +ℤ pos (length xs)))
octet_at_within (pos o) xs i x e =
    let at = octet_at_pos o i x xs e in
    let inside = slice_get_within xs (i - o) x at.1 in
    (omega (arith, ints), omega (arith, ints))
octet_at_within (negsuc n) xs i x e =
    let inside = slice_get_within xs (i + suc n) x e in
    (omega (arith, ints), omega (arith, ints))

below_from_zero : (z : ℤ) (i : ℕ) → pos i <ℤ z → i < from_zero z
below_from_zero (pos n) i h = omega (arith, ints)
below_from_zero (negsuc n) i h = absurd (omega (arith, ints))

from_zero_within : (z : ℤ) (m : ℕ) → z ≤ℤ pos m → from_zero z ≤ m
from_zero_within (pos n) m h = omega (arith, ints)
from_zero_within (negsuc n) m h = omega arith

pub length_within : (xs : List ℕ) (n : ℕ) → ((i x : ℕ) → slice_get xs i ≡ Some x → i < n) → length xs ≤ n
length_within xs n below = elim (cases_lt n (length xs)) [
  | inl long ↦ let at = below n (get_or xs n 0) (slice_get-get_or xs n 0 long) in absurd (omega arith)
  | inr short ↦ short
]

-- a guest that was conforming was so before
pub earlier : (e : Up) (past : List Up) → Conforming (e ∷ past) → Conforming past
earlier (Came n xs fin heeded) past h = record {
  octets = λ i x y p q. h.octets i x y (inr p) (inr q);
  ends = λ i j p q. h.ends i j (inr p) (inr q);
  within = λ i j x p q. h.within i j x (inr p) (inr q);
  near = h.near.1;
}
earlier _ past h = record { octets = h.octets; ends = h.ends; within = h.within; near = h.near }

-- what is carried lies below the greatest end
pub carries_below : (past : List Up) (i x : ℕ) → Carries past i x → i < top past
carries_below [] i x c = absurd c
carries_below (Came n xs fin heeded ∷ past) i x (inl (later, at)) = let below = below_from_zero (begins past n +ℤ pos (length xs)) i (octet_at_within (begins past n) xs i x at).1 in omega arith
carries_below (Came n xs fin heeded ∷ past) i x (inr c) = let below = carries_below past i x c in omega arith
carries_below (_ ∷ past) i x c = carries_below past i x c

option_or_some : (o p : Option ℕ) → (y : ℕ) × (p ≡ Some y) → (y : ℕ) × (option_or o p ≡ Some y)
option_or_some None p h = h
option_or_some (Some x) p h = (x, refl)

option_or_cases : (o p : Option ℕ) (x : ℕ) → option_or o p ≡ Some x → (o ≡ Some x) ⊎ (p ≡ Some x)
option_or_cases None p x e = inr e
option_or_cases (Some y) p x e = inl e

nat_le_true : (m n : ℕ) → m ≤ n → nat_le m n ≡ true
nat_le_true m n h = grind (arith, nat_tests)

carried_here : (m i x : ℕ) (o : Option ℕ) → (if nat_le m i then o else None) ≡ Some x → (m ≤ i) × (o ≡ Some x)
carried_here m i x o e = grind (arith, nat_tests)

-- a place that carries an octet has one that `octet_of` finds
pub octet_found : (past : List Up) (i x : ℕ) → Carries past i x → (y : ℕ) × (octet_of past i ≡ Some y)
octet_found [] i x c = absurd c
octet_found (Came n xs fin heeded ∷ past) i x (inl (later, at)) = (x, rw (nat_le_true (ackd past) i later, at) refl)
octet_found (Came n xs fin heeded ∷ past) i x (inr c) = option_or_some (if nat_le (ackd past) i then octet_at (begins past n) xs i else None) (octet_of past i) (octet_found past i x c)
octet_found (_ ∷ past) i x c = octet_found past i x c

-- and what it finds is carried
pub octet_carried : (past : List Up) (i x : ℕ) → octet_of past i ≡ Some x → Carries past i x
octet_carried [] i x e = absurd cc
octet_carried (Came n xs fin heeded ∷ past) i x e =
    elim (option_or_cases (if nat_le (ackd past) i then octet_at (begins past n) xs i else None) (octet_of past i) x e) [
      | inl h ↦ inl (carried_here (ackd past) i x (octet_at (begins past n) xs i) h)
      | inr h ↦ inr (octet_carried past i x h)
    ]
octet_carried (_ ∷ past) i x e = octet_carried past i x e

end_within : (o : ℤ) (n : ℕ) (fin : Bool) (m : ℕ) → (o +ℤ pos (n + (if fin then 1 else 0))) ≤ℤ pos m → (o +ℤ pos n) ≤ℤ pos m
end_within o n true m h = omega (arith, ints)
end_within o n false m h = omega (arith, ints)

pub at_lower : (o : ℤ) (m t : ℕ) → pos m ≤ℤ (o +ℤ pos (2 ^ 31)) → t ≤ m → pos t ≤ℤ (o +ℤ pos (2 ^ 31))
at_lower o m t low below = omega (arith, ints)

pub under_end : (o : ℤ) (n a t : ℕ) → (o +ℤ pos n) ≤ℤ pos (a + 2 ^ 31) → a ≤ t → 0 < n → o <ℤ pos (t + 2 ^ 31)
under_end o n a t end below some = omega (arith, ints)

-- no segment ends far past what was acknowledged
pub near_top : (past : List Up) → IsNear past → top past ≤ ackd past + 2 ^ 31
near_top [] near = omega arith
near_top (Came n xs fin heeded ∷ past) near =
    let below = near_top past near.1 in
    let end : (begins past n +ℤ pos (length xs)) ≤ℤ pos (ackd past + 2 ^ 31) = end_within (begins past n) (length xs) fin (ackd past + 2 ^ 31) near.0 in
    let this = from_zero_within (begins past n +ℤ pos (length xs)) (ackd past + 2 ^ 31) end in
    omega arith
near_top (Acked n ∷ past) near = let below = near_top past near in omega arith
near_top (_ ∷ past) near = near_top past near

-- ---- a list whose octets are carried at their places

module _ (past : List Up) (xs : List ℕ) (carried : AtPlaces (Carries past) xs) where
  pub carried_length : length xs ≤ top past
  carried_length = length_within xs (top past) (λ i x at. carries_below past i x (carried i x at))

  -- begins what the guest sent
  pub carried_prefix : Conforming past → IsPrefixOf xs (front past)
  carried_prefix conforming =
      run_prefix (octet_of past) xs (top past) 0 carried_length
      (λ k j x is at.
      let same : j ≡ k = omega arith in
      let here = carried k x at in
      let found = octet_found past k x here in
      let one : found.0 ≡ x = conforming.octets k found.0 x (octet_carried past k found.0 found.1) here in
      rw same (found.1 ∙ ap (λ (y : ℕ). Some y) one))

  pub carried_seen : Conforming past → length xs ≤ length (front past)
  carried_seen conforming = let p = carried_prefix conforming in omega (arith, ap length p.1, length-append xs p.0)

pub front_carried : (past : List Up) → AtPlaces (Carries past) (front past)
front_carried past i x at = octet_carried past i x (run_reads (octet_of past) (top past) 0 i i x (omega arith) at)

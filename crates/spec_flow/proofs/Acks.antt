-- Laws of what is acknowledged of a guest's stream.
use Rattle.std.proofs.Common.{refl, ◌≡◌, ℕ, ◌+◌, ◌^◌, ◌<◌, ◌≤◌, List, ◌∷◌, length, ◌⊎◌, inl, inr, arith, ℤ, pos, ◌+ℤ◌, ◌≤ℤ◌, Bool, true, false, if◌then◌else◌}
use Rattle.std.proofs.lemmas.Bool.{cases_lt}
use Rattle.seq_space.specs.Places.{IsPlace, place, number_of, steps_up}
use Rattle.seq_space.proofs.Numbers.{place_is, place_only}
use Rattle.spec_flow.specs.Guest.{Up, Came, Acked, Carries, EndsAt, IsNear, Conforming, front, top, ackd, begins, first_of, written}
use Rattle.spec_flow.specs.Guest.{IsAcknowledged}
use Rattle.spec_flow.specs.Lawful.{AtPlaces}
use Rattle.spec_flow.proofs.Streams.{at_lower, carried_length, carried_seen, front_carried, length_within, near_top, under_end}

-- ---- acknowledgements

pub acked_within : (f a t : ℕ) → a ≤ t → a + steps_up (number_of f t) (number_of f a) ≤ t
acked_within f a t below = omega arith

-- what the receiver has may be acknowledged
pub came_all : (past : List Up) (xs : List ℕ) (ended : Bool) (number : ℕ)
    → (Conforming past → AtPlaces (Carries past) xs)
    → (ended ≡ true → Conforming past → EndsAt past (length xs))
    → ackd past ≤ (if ended then length xs + 1 else length xs)
    → number ≡ number_of (first_of past) (if ended then length xs + 1 else length xs)
    → Conforming past
    → (ackd (Acked number ∷ past) ≤ length (front past)) ⊎ (EndsAt past (length (front past)) × (ackd (Acked number ∷ past) ≡ length (front past) + 1))
came_all past xs false number carried ends within is conforming =
    let least = carried_seen past xs (carried conforming) conforming in
    let now = acked_within (first_of past) (ackd past) (length xs) within in
    inl (rw is (omega arith))
came_all past xs true number carried ends within is conforming =
    let least = carried_seen past xs (carried conforming) conforming in
    let now = acked_within (first_of past) (ackd past) (length xs + 1) within in
    let end = ends refl conforming in
    let no_more : length (front past) ≤ length xs = length_within (front past) (length xs) (λ i x at. conforming.within (length xs) i x end (front_carried past i x at)) in
    let same : length xs ≡ length (front past) = omega arith in
    let bound : ackd (Acked number ∷ past) ≤ length xs + 1 = rw is now in
    elim (cases_lt (length (front past)) (ackd (Acked number ∷ past))) [
      | inl more ↦ inr (rw same at end, omega arith)
      | inr few ↦ inl few
    ]

pub acked_exact : (f a t : ℕ) → a ≤ t → t < a + 2 ^ 32 → a + steps_up (number_of f t) (number_of f a) ≡ t
acked_exact f a t below near = omega arith

-- and with what was acknowledged the room that is left is all of it, where what was taken is acknowledged
pub room_left : (past : List Up) (xs : List ℕ) (ended : Bool) (number room ring : ℕ)
    → (Conforming past → AtPlaces (Carries past) xs)
    → (ended ≡ true → Conforming past → EndsAt past (length xs))
    → ackd past ≤ (if ended then length xs + 1 else length xs)
    → number ≡ number_of (first_of past) (if ended then length xs + 1 else length xs)
    → room + length xs ≡ length (written past) + ring
    → Conforming past → (a : ℕ) → IsAcknowledged (Acked number ∷ past) a → room + a ≡ length (written past) + ring
room_left past xs ended number room ring carried ends within is all_room conforming a (inr (end, few)) =
    let long = length_within xs a (λ i x at. conforming.within a i x end (carried conforming i x at)) in
    let last = by_ended ended ends within is in
    omega arith
  where
    by_ended : (ended : Bool)
        → (ended ≡ true → Conforming past → EndsAt past (length xs))
        → ackd past ≤ (if ended then length xs + 1 else length xs)
        → number ≡ number_of (first_of past) (if ended then length xs + 1 else length xs)
        → a ≤ length xs
    by_ended true ends within is = let same = conforming.ends a (length xs) end (ends refl conforming) in omega arith
    by_ended false ends within is =
        let now = acked_within (first_of past) (ackd past) (length xs) within in
        let bound : ackd (Acked number ∷ past) ≤ length xs = rw is now in
        omega arith
room_left past xs true number room ring carried ends within is all_room conforming a (inl (all, least)) =
    let top_far = near_top past conforming.near in
    let long = carried_length past xs (carried conforming) in
    let now = acked_exact (first_of past) (ackd past) (length xs + 1) within (omega arith) in
    let same : ackd (Acked number ∷ past) ≡ length xs + 1 = rw is now in
    let less = least (length xs) (ends refl conforming) in
    absurd (omega arith)
room_left past xs false number room ring carried ends within is all_room conforming a (inl (all, least)) =
    let top_far = near_top past conforming.near in
    let long = carried_length past xs (carried conforming) in
    let now = acked_exact (first_of past) (ackd past) (length xs) within (omega arith) in
    let same : ackd (Acked number ∷ past) ≡ length xs = rw is now in
    omega arith

pub acked_all : (past : List Up) (xs : List ℕ) (ended : Bool) (number : ℕ)
    → (Conforming past → AtPlaces (Carries past) xs)
    → ackd past ≤ (if ended then length xs + 1 else length xs)
    → number ≡ number_of (first_of past) (if ended then length xs + 1 else length xs)
    → Conforming past → ackd (Acked number ∷ past) ≡ (if ended then length xs + 1 else length xs)
acked_all past xs true number carried within is conforming =
    let top_far = near_top past conforming.near in
    let long = carried_length past xs (carried conforming) in
    rw is (acked_exact (first_of past) (ackd past) (length xs + 1) within (omega arith))
acked_all past xs false number carried within is conforming =
    let top_far = near_top past conforming.near in
    let long = carried_length past xs (carried conforming) in
    rw is (acked_exact (first_of past) (ackd past) (length xs) within (omega arith))

-- ---- the place of a segment, by what was taken

-- A receiver places a segment by how much it has taken. That is the place, for a segment of a conforming guest that isn't empty.
pub same_place : (past : List Up) (n : ℕ) (xs : List ℕ) (fin heeded : Bool) (t : ℕ) → n < 2 ^ 32
    → IsNear (Came n xs fin heeded ∷ past) → t ≤ top past → ackd past ≤ t → 0 < length xs + (if fin then 1 else 0)
    → begins past n ≡ place n (first_of past) t
same_place past n xs fin heeded t fits near low high some =
    let here = place_is n (first_of past) (top past) fits in
    let o : ℤ = begins past n in
    let end : (o +ℤ pos (length xs + (if fin then 1 else 0))) ≤ℤ pos (ackd past + 2 ^ 31) = near.0 in
    let there : IsPlace n (first_of past) t o = record {
      wraps = here.wraps;
      low = at_lower o (top past) t here.low low;
      high = under_end o (length xs + (if fin then 1 else 0)) (ackd past) t end high some;
    } in
    place_only n (first_of past) t o (place n (first_of past) t) there (place_is n (first_of past) t fits)

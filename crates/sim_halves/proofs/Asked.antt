-- What a receiver has taken is all that segments ask to be acknowledged.
use Rattle.std.proofs.Common.{refl, ◌≡◌, ℕ, zero, suc, ◌+◌, ◌-◌, ◌^◌, ◌<◌, ◌≤◌, List, ◌∷◌, length, get_or, min, arith, ℤ, pos, negsuc, ◌+ℤ◌, ◌≤ℤ◌, inl, inr, Bool, true, false, IsTrue}
use Rattle.std.proofs.Common.{if◌then◌else◌, length-drop, nat_le, ap, ◌∙◌, subst}
use Rattle.std.proofs.lemmas.Int.{ints}
use Rattle.std.proofs.lemmas.Bool.{cases_lt}
use Rattle.std.proofs.lemmas.Bool.Decides.{nat_tests}
use Rattle.std.proofs.lemmas.Option.{slice_get-get_or}
use Rattle.seq_space.specs.Places.{place}
use Rattle.sim_halves.specs.Received.{next_octets}
use Rattle.spec_flow.specs.Guest.{Up, Came, Carries, EndsAt, Conforming, Asks, written, begins, first_of, from_zero, ackd}
use Rattle.spec_flow.specs.Lawful.{AtPlaces}
use Rattle.spec_flow.proofs.Streams.{earlier, carried_length}
use Rattle.spec_flow.proofs.Acks.{same_place}
use Rattle.sim_halves.proofs.Segments.{octet_from}

next_length_pos : (o t : ℕ) (xs : List ℕ) → o ≤ t → length (next_octets (pos o) xs t) ≡ length xs - (t - o)
next_length_pos o t xs low = let below : nat_le o t ≡ true = grind (arith, nat_tests) in rw below (length-drop (t - o) xs)

-- the octets that come next go to the segment's end
pub next_length : (o : ℤ) (xs : List ℕ) (t : ℕ) → o ≤ℤ pos t → pos t ≤ℤ (o +ℤ pos (length xs)) → pos (t + length (next_octets o xs t)) ≡ o +ℤ pos (length xs)
next_length (pos o) xs t low high =
    let below : o ≤ t = omega (arith, ints) in
    let long = next_length_pos o t xs below in
    omega (arith, ints)
next_length (negsuc n) xs t low high = let long = length-drop (t + suc n) xs in omega (arith, ints)

asked_open : (ring : ℕ) (z : ℤ) (t l m w h : ℕ) → (pos t ≤ℤ z → pos (t + l) ≡ z) → min l (ring - h) ≤ m → t ≡ w + h → h ≤ ring → min (from_zero z) (w + ring) ≤ t + m
asked_open ring (negsuc n) t l m w h to_end few all within = omega arith
asked_open ring (pos e) t l m w h to_end few all within =
    elim (cases_lt e t) [
      | inl before ↦ omega arith
      | inr after ↦ let end = to_end (omega (arith, ints)) in let same : t + l ≡ e = omega (arith, ints) in omega arith
    ]

asked_fin : (ring : ℕ) (z : ℤ) (t l m w h a : ℕ) (took : Bool) → (pos t ≤ℤ z → pos (t + l) ≡ z) → min l (ring - h) ≤ m → t ≡ w + h → h ≤ ring
    → z ≤ℤ pos (w + ring) → pos a ≡ z +ℤ pos 1 → (pos t ≤ℤ z → pos (t + m) ≤ℤ z) → (z ≡ pos (t + m) → took ≡ true) → a ≤ (if took then t + m + 1 else t + m)
asked_fin ring z t l m w h a took to_end few all within room is no_past ends =
    elim (cases_lt t a) [
      | inl after ↦
          let end = to_end (omega (arith, ints)) in
          let none = no_past (omega (arith, ints)) in
          let same : z ≡ pos (t + m) = omega (arith, ints) in
          rw (ends same) (omega (arith, ints))
      | inr before ↦ at_most took t m a before
    ]
  where
    at_most : (took : Bool) (t m a : ℕ) → a ≤ t → a ≤ (if took then t + m + 1 else t + m)
    at_most true t m a h = omega arith
    at_most false t m a h = omega arith

last_place : (z : ℤ) (t m : ℕ) → pos t ≤ℤ z → ((i : ℕ) → z ≡ pos i → t + m ≤ i) → pos (t + m) ≤ℤ z
last_place (pos e) t m after low = let is = low e refl in omega (arith, ints, is)
last_place (negsuc n) t m after low = absurd (omega (arith, ints))

no_more : (took : Bool) (t m a : ℕ) → a ≤ t + m → a ≤ (if took then t + m + 1 else t + m)
no_more true t m a h = omega arith
no_more false t m a h = omega arith

from_zero_low : (z : ℤ) (t : ℕ) → z ≤ℤ pos t → from_zero z ≤ t
from_zero_low (pos n) t h = omega (arith, ints)
from_zero_low (negsuc n) t h = omega arith

from_zero_is : (z : ℤ) → 0 < from_zero z → z ≡ pos (from_zero z)
from_zero_is (pos n) h = refl
from_zero_is (negsuc n) h = absurd (omega arith)

moved_on : (o p : ℤ) (a t : ℕ) → o ≡ p → o ≤ℤ pos a → a ≤ t → p ≤ℤ pos t
moved_on o p a t same h low = omega (arith, ints)

empty_end : (o : ℤ) (n a t : ℕ) → o ≤ℤ pos a → a ≤ t → n ≡ 0 → (o +ℤ pos n) ≤ℤ pos t
empty_end o n a t h low none = omega (arith, ints)

no_octets : (fin : Bool) (n : ℕ) → n + (if fin then 1 else 0) ≤ 0 → n ≡ 0
no_octets true n h = omega arith
no_octets false n h = omega arith

closed_end : (o : ℤ) (n a t : ℕ) → o ≤ℤ pos a → a ≤ t + 1 → ((i j : ℕ) → pos i ≡ o +ℤ pos j → j < n → a ≤ i → i < t) → from_zero (o +ℤ pos n) ≤ t + 1
closed_end o zero a t h low inside = from_zero_low (o +ℤ pos 0) (t + 1) (omega (arith, ints))
closed_end o (suc n) a t h low inside =
    elim (cases_lt (t + 1) (from_zero (o +ℤ pos (suc n)))) [
      | inl after ↦
          let e : ℕ = from_zero (o +ℤ pos (suc n)) in
          let is : o +ℤ pos (suc n) ≡ pos e = from_zero_is (o +ℤ pos (suc n)) (omega arith) in
          let less = inside (e - 1) n (omega (arith, ints)) (omega arith) (omega arith) in
          absurd (omega arith)
      | inr before ↦ before
    ]

closed_fin : (z : ℤ) (k t a : ℕ) → k ≤ t + 1 → pos a ≡ z +ℤ pos 1 → ((i : ℕ) → z ≡ pos i → k ≤ i → i ≡ t) → a ≤ t + 1
closed_fin (negsuc n) k t a low is ends = omega (arith, ints)
closed_fin (pos e) k t a low is ends =
    elim (cases_lt e k) [
      | inl before ↦ omega (arith, ints)
      | inr after ↦ let same = ends e refl after in omega (arith, ints)
    ]

module _ (ring : ℕ) (past : List Up) (first t h : ℕ) (kept : List ℕ) (n : ℕ) (xs : List ℕ) (fin : Bool) (fits : n < 2 ^ 32) (known : first_of past ≡ first)
    (counted : t ≡ length kept) (all : t ≡ length (written past) + h) (within : h ≤ ring) where
  -- while the end is open
  pub came_asked : (took : Bool) (m : ℕ) → (Conforming past → AtPlaces (Carries past) kept) → ackd past ≤ t
      → min (length (next_octets (place n first t) xs t)) (ring - h) ≤ m
      → (Conforming (Came n xs fin true ∷ past) → (i : ℕ) → EndsAt (Came n xs fin true ∷ past) i → t ≤ i → t + m ≤ i)
      → (IsTrue fin → (place n first t +ℤ pos (length xs)) ≡ pos (t + m) → Conforming (Came n xs fin true ∷ past) → took ≡ true)
      → Conforming (Came n xs fin true ∷ past) → ((a : ℕ) → Asks ring past a → a ≤ t)
      → (a : ℕ) → Asks ring (Came n xs fin true ∷ past) a → a ≤ (if took then t + m + 1 else t + m)
  came_asked took m carried low few no_octet ends conforming old a (inl (heard, b, inl is)) =
      let w : ℕ = length (written past) in
      let long = carried_length past kept (carried (earlier (Came n xs fin true) past conforming)) in
      elim (cases_lt 0 (length xs + (if fin then 1 else 0))) [
        | inl some ↦
            let same : begins past n ≡ place n first t = same_place past n xs fin true t fits conforming.near (omega arith) low some ∙ ap (λ (f : ℕ). place n f t) known in
            let low_place = moved_on (begins past n) (place n first t) (ackd past) t same b low in
            let bound = asked_open ring (place n first t +ℤ pos (length xs)) t (length (next_octets (place n first t) xs t)) m w h
            (λ after. next_length (place n first t) xs t low_place after) few all within in
            let here : a ≡ min (from_zero (place n first t +ℤ pos (length xs))) (w + ring) = is ∙ ap (λ (o : ℤ). min (from_zero (o +ℤ pos (length xs))) (w + ring)) same in
            no_more took t m a (omega arith)
        | inr none ↦
            let e : ℕ = from_zero (begins past n +ℤ pos (length xs)) in
            let bound : e ≤ t = from_zero_low (begins past n +ℤ pos (length xs)) t (empty_end (begins past n) (length xs) (ackd past) t b low (no_octets fin (length xs) none)) in
            no_more took t m a (omega arith)
      ]
  came_asked took m carried low few no_octet ends conforming old a (inl (heard, b, inr (f, room, is))) =
      let long = carried_length past kept (carried (earlier (Came n xs fin true) past conforming)) in
      let some : 0 < length xs + (if fin then 1 else 0) = rw f (omega arith) in
      let same : begins past n ≡ place n first t = same_place past n xs fin true t fits conforming.near (omega arith) low some ∙ ap (λ (g : ℕ). place n g t) known in
      let low_place = moved_on (begins past n) (place n first t) (ackd past) t same b low in
      asked_fin ring (place n first t +ℤ pos (length xs)) t (length (next_octets (place n first t) xs t)) m (length (written past)) h a took
      (λ after. next_length (place n first t) xs t low_place after) few all within
      (subst (λ (o : ℤ). (o +ℤ pos (length xs)) ≤ℤ pos (length (written past) + ring)) same room)
      (is ∙ ap (λ (o : ℤ). o +ℤ pos (length xs) +ℤ pos 1) same)
      (λ after. last_place (place n first t +ℤ pos (length xs)) t m after
      (λ i at. no_octet conforming i (inl (f, ap (λ (o : ℤ). o +ℤ pos (length xs)) same ∙ at, omega (arith, ints, low, at, after))) (omega (arith, ints, at, after))))
      (λ at. ends f at conforming)
  came_asked took m carried low few no_octet ends conforming old a (inr more) = let before = old a more in no_more took t m a (omega arith)

  -- once it was taken
  pub closed_asked : ackd past ≤ t + 1 → EndsAt past t → Conforming (Came n xs fin true ∷ past) → ((a : ℕ) → Asks ring past a → a ≤ t + 1)
      → (a : ℕ) → Asks ring (Came n xs fin true ∷ past) a → a ≤ t + 1
  closed_asked low end conforming old a (inl (heard, b, inl is)) =
      let e : ℕ = from_zero (begins past n +ℤ pos (length xs)) in
      let bound : e ≤ t + 1 = closed_end (begins past n) (length xs) (ackd past) t b low
      (λ i j at inside later.
      let x : ℕ = get_or xs j 0 in
      conforming.within t i x (inr end) (inl (later, octet_from (begins past n) xs i j x (slice_get-get_or xs j 0 inside) at))) in
      omega arith
  closed_asked low end conforming old a (inl (heard, b, inr (f, room, is))) =
      closed_fin (begins past n +ℤ pos (length xs)) (ackd past) t a low is (λ i at later. conforming.ends i t (inl (f, at, later)) (inr end))
  closed_asked low end conforming old a (inr more) = old a more

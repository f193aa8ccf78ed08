-- What the receiver takes of a segment that is heeded.
use Rattle.std.proofs.Common.{refl, ◌≡◌, ℕ, suc, ◌+◌, ◌-◌, ◌^◌, ◌<◌, ◌≤◌, List, [], ◌∷◌, ◌++◌, length, drop, Bool, true, false, not, ◌&&◌, ◌||◌, Option, Some, if◌then◌else◌, IsTrue, ◌↔◌}
use Rattle.std.proofs.Common.{min, nat_eq, nat_le, nat_lt, ℤ, pos, negsuc, ◌+ℤ◌, ◌<ℤ◌, arith, ap, subst, sym, ◌∙◌, inl, inr, ◌⊎◌, append_assoc, append-nil, length-append, length-take}
use Rattle.std.proofs.Common.{slice_get}
use Rattle.std.proofs.lemmas.Bool.Decides.{nat_tests}
use Rattle.std.proofs.lemmas.Int.{ints}
use Rattle.seq_space.specs.Places.{shifted_place}
use Rattle.sock_buffers.specs.Kept.{first_covered, first_octets, octet_at, octets_with, with_range}
use Rattle.sock_buffers.specs.Upward.{Upward, after_join, after_keep, after_take, fitting, keeps_none, range_of, room_of, within}
use Rattle.tcp_receive.specs.Coming.{Comes}
use Rattle.tcp_receive.specs.Received.{Fills, Received, StandsAt, gap, octets_from, place_in, placed, places_taken, up_after}
use Rattle.tcp_connection.specs.Segments.{count_taken, is_end_taken, is_to_acknowledge}
use Rattle.sim_halves.specs.Received.{Has, next_octets}
use Rattle.sim_halves.proofs.Segments.{octet_from}
use Rattle.sim_connection.specs.Seen.{kept_at}

-- ---- what is held after a segment is what was, and more

pub record More (old new : List ℕ) : Type 0 where
  pub octets : List ℕ
  pub is : new ≡ old ++ octets

joined_more : (old : List ℕ) (up : Upward) → More old up.held → More old (after_join up).held
joined_more old up more = record {
  octets = more.octets ++ first_octets up.kept (first_covered up.ranges);
  is = ap (λ (xs : List ℕ). xs ++ first_octets up.kept (first_covered up.ranges)) more.is ∙ append_assoc old more.octets (first_octets up.kept (first_covered up.ranges));
}

kept_more : (up : Upward) (ahead : ℕ) (octets : List ℕ) → More up.held (after_keep up ahead octets).held
kept_more up ahead octets = by (keeps_none up ahead octets)
  where
    by : (b : Bool) → More up.held (if b then up else record up { ranges = with_range up.ranges (range_of up ahead octets); kept = octets_with up.kept ahead (within up ahead octets) }).held
    by true = record { octets = []; is = sym (append-nil up.held) }
    by false = record { octets = []; is = sym (append-nil up.held) }

pub grows : (r : Received) (n : ℕ) (xs : List ℕ) (up : Upward) → More up.held (up_after r n xs up).held
grows r n xs up = by r.ended
  where
    by_gap : (b : Bool) → More up.held (if b then after_keep up (gap (place_in r n) r.taken) xs else after_take up (octets_from (place_in r n) xs r.taken)).held
    by_gap true = kept_more up (gap (place_in r n) r.taken) xs
    by_gap false = record { octets = fitting up (octets_from (place_in r n) xs r.taken); is = refl }

    by : (b : Bool) → More up.held (if b then up else after_join (placed (place_in r n) r.taken xs up)).held
    by true = record { octets = []; is = sym (append-nil up.held) }
    by false = joined_more up.held (placed (place_in r n) r.taken xs up) (by_gap (nat_lt 0 (gap (place_in r n) r.taken)))

-- the size stays
pub sized : (r : Received) (n : ℕ) (xs : List ℕ) (up : Upward) → ((up_after r n xs up).size ≡ up.size) × ((up_after r n xs up).written ≡ up.written)
sized r n xs up = by r.ended
  where
    by_none : (b : Bool) (ahead : ℕ) → ((after_join (if b then up else record up {
      ranges = with_range up.ranges (range_of up ahead xs);
      kept = octets_with up.kept ahead
          (within up ahead xs);
    })).size ≡ up.size)
        × ((after_join (if b then up else record up { ranges = with_range up.ranges (range_of up ahead xs); kept = octets_with up.kept ahead (within up ahead xs) })).written ≡ up.written)
    by_none true ahead = (refl, refl)
    by_none false ahead = (refl, refl)

    by_gap : (b : Bool) → ((after_join (if b then after_keep up (gap (place_in r n) r.taken) xs else after_take up (octets_from (place_in r n) xs r.taken))).size ≡ up.size)
        × ((after_join (if b then after_keep up (gap (place_in r n) r.taken) xs else after_take up (octets_from (place_in r n) xs r.taken))).written ≡ up.written)
    by_gap true = by_none (keeps_none up (gap (place_in r n) r.taken) xs) (gap (place_in r n) r.taken)
    by_gap false = (refl, refl)

    by : (b : Bool) → ((if b then up else after_join (placed (place_in r n) r.taken xs up)).size ≡ up.size) ×
        ((if b then up else after_join (placed (place_in r n) r.taken xs up)).written ≡ up.written)
    by true = (refl, refl)
    by false = by_gap (nat_lt 0 (gap (place_in r n) r.taken))

-- ---- what comes next in a segment

next_same : (o : ℤ) (xs : List ℕ) (taken : ℕ) → next_octets o xs taken ≡ octets_from o xs taken
next_same (pos o) xs taken = refl
next_same (negsuc n) xs taken = refl

-- all of it that fits is taken
all_taken : (r : Received) (n : ℕ) (xs : List ℕ) (up : Upward) → r.ended ≡ false → min (length (next_octets (place_in r n) xs r.taken)) (room_of up) ≤ length (up_after r n xs up).held - length up.held
all_taken r n xs up open_yet =
    let is : up_after r n xs up ≡ after_join (placed (place_in r n) r.taken xs up) = ap (λ (b : Bool). if b then up else after_join (placed (place_in r n) r.taken xs up)) open_yet in
    subst (λ (u : Upward). min (length (next_octets (place_in r n) xs r.taken)) (room_of up) ≤ length u.held - length up.held) (sym is)
    (subst (λ (ys : List ℕ). min (length ys) (room_of up) ≤ length (after_join (placed (place_in r n) r.taken xs up)).held - length up.held) (sym (next_same (place_in r n) xs r.taken))
    (by_gap (nat_lt 0 (gap (place_in r n) r.taken)) refl))
  where
    none_next : (o : ℤ) (taken : ℕ) → 0 < gap o taken → length (octets_from o xs taken) ≡ 0
    none_next (pos o) taken some = let tested : nat_le o taken ≡ false = grind (arith, nat_tests) in ap (λ (b : Bool). length (if b then drop (taken - o) xs else [])) tested
    none_next (negsuc k) taken some = absurd (omega arith)

    by_gap : (b : Bool) → nat_lt 0 (gap (place_in r n) r.taken) ≡ b → min (length (octets_from (place_in r n) xs r.taken)) (room_of up)
        ≤ length (after_join (if b then after_keep up (gap (place_in r n) r.taken) xs else after_take up (octets_from (place_in r n) xs r.taken))).held - length up.held
    by_gap true some = let nothing = none_next (place_in r n) r.taken (grind (arith, nat_tests)) in omega (arith, nothing)
    by_gap false none =
        let ys = octets_from (place_in r n) xs r.taken in
        let u = after_take up ys in
        let long : length (fitting up ys) ≡ min (min (length ys) (room_of up)) (length ys) = length-take (min (length ys) (room_of up)) ys in
        let one : length u.held ≡ length up.held + length (fitting up ys) = length-append up.held (fitting up ys) in
        let two : length (after_join u).held ≡ length u.held + length (first_octets u.kept (first_covered u.ranges)) = length-append u.held (first_octets u.kept (first_covered u.ranges)) in
        omega (arith, long, one, two)

-- ---- where octets come from

after_front : (xs ys : List ℕ) (k x : ℕ) → slice_get ys k ≡ Some x → slice_get (xs ++ ys) (length xs + k) ≡ Some x
after_front [] ys k x is = subst (λ (j : ℕ). slice_get ys j ≡ Some x) (omega arith) is
after_front (a ∷ xs) ys k x is =
    let next : slice_get (a ∷ (xs ++ ys)) (suc (length xs + k)) ≡ Some x = after_front xs ys k x is in
    let same : suc (length xs + k) ≡ length (a ∷ xs) + k = omega arith in
    subst (λ (j : ℕ). slice_get (a ∷ (xs ++ ys)) j ≡ Some x) same next

-- an octet that was kept, or is the segment's, the receiver has
has_of : (kept : ℕ → Option ℕ) (o : ℤ) (xs : List ℕ) (t i x : ℕ) → t ≤ i → (kept i ≡ Some x) ⊎ StandsAt o xs i x → Has kept o xs t i x
has_of kept o xs t i x low (inl is) = inl is
has_of kept o xs t i x low (inr (j, found)) = inr (low, octet_from o xs i j x found.0 found.1)

module _ (r : Received) (n : ℕ) (xs : List ℕ) (up : Upward) (comes : Comes r n xs up (up_after r n xs up)) where
  -- the octets that are taken now
  abbrev pub taken_now : List ℕ
  taken_now = (grows r n xs up).octets

  pub held_now : (up_after r n xs up).held ≡ up.held ++ taken_now
  held_now = (grows r n xs up).is

  pub count_now : length (up_after r n xs up).held ≡ length up.held + length taken_now
  count_now = ap length held_now ∙ length-append up.held taken_now

  pub counted : count_taken r n xs up ≡ length taken_now
  counted = omega (arith, count_now)

  pub brings : (k x : ℕ) → slice_get taken_now k ≡ Some x → Has (kept_at r.taken up.kept) (place_in r n) xs r.taken (r.taken + k) x
  brings k x is =
      let here : slice_get (up_after r n xs up).held (length up.held + k) ≡ Some x = ap (λ (ys : List ℕ). slice_get ys (length up.held + k)) held_now ∙ after_front up.held taken_now k x is in
      has_of (kept_at r.taken up.kept) (place_in r n) xs r.taken (r.taken + k) x (omega arith)
      (subst (λ (j : ℕ). (octet_at up.kept j ≡ Some x) ⊎ StandsAt (place_in r n) xs (r.taken + k) x) (omega arith) (comes.held k x here))

  pub keeps_now : (q : Received) → q.taken ≡ r.taken + length taken_now → Fills q (up_after r n xs up)
      → (i x : ℕ) → kept_at q.taken (up_after r n xs up).kept i ≡ Some x → Has (kept_at r.taken up.kept) (place_in r n) xs r.taken i x
  keeps_now q is fills i x at = by (nat_le q.taken i) refl
    where
      by : (b : Bool) → nat_le q.taken i ≡ b → Has (kept_at r.taken up.kept) (place_in r n) xs r.taken i x
      by false low =
          let nothing : i - q.taken ≡ 0 = grind (arith, nat_tests) in
          let found = sym fills.next ∙ ap (λ (j : ℕ). octet_at (up_after r n xs up).kept j) (sym nothing) ∙ at in absurd cc
      by true low =
          let high : q.taken ≤ i = grind (arith, nat_tests) in
          let offset : length (up_after r n xs up).held - length up.held + (i - q.taken) ≡ i - r.taken = omega (arith, is, count_now, high) in
          let place_at : r.taken + (length (up_after r n xs up).held - length up.held + (i - q.taken)) ≡ i = omega (arith, is, count_now, high) in
          has_of (kept_at r.taken up.kept) (place_in r n) xs r.taken i x (omega (arith, is, high))
          (subst (λ (j : ℕ). (octet_at up.kept (i - r.taken) ≡ Some x) ⊎ StandsAt (place_in r n) xs j x) place_at
          (subst (λ (j : ℕ). (octet_at up.kept j ≡ Some x) ⊎ StandsAt (place_in r n) xs (r.taken + (length (up_after r n xs up).held - length up.held + (i - q.taken))) x) offset
          (comes.kept (i - q.taken) x at)))

  pub takes_all : r.ended ≡ false → min (length (next_octets (place_in r n) xs r.taken)) (room_of up) ≤ length taken_now
  takes_all open_yet = let low = all_taken r n xs up open_yet in omega (arith, low, count_now)

  -- nothing after the end
  pub takes_none : r.ended ≡ true → (taken_now ≡ []) × (up_after r n xs up ≡ up)
  takes_none over =
      let is : up_after r n xs up ≡ up = ap (λ (b : Bool). if b then up else after_join (placed (place_in r n) r.taken xs up)) over in
      let same : length (up_after r n xs up).held ≡ length up.held = ap (λ (u : Upward). length u.held) is in
      (no_items taken_now (omega (arith, same, count_now)), is)
    where
      no_items : (ys : List ℕ) → length ys ≡ 0 → ys ≡ []
      no_items [] none = refl
      no_items (y ∷ ys) none = absurd (omega arith)

-- ---- its end, and what is owed for it

-- the FIN is taken where every octet before it was
pub end_is : (r : Received) (n : ℕ) (xs : List ℕ) (fin : Bool) (t : ℕ)
    → IsTrue (is_end_taken r n xs fin t) ↔ (IsTrue fin × (r.ended ≡ false) × ((place_in r n +ℤ pos (length xs)) ≡ pos t))
end_is r n xs fin t = (λ is. by fin r.ended is, λ is. back fin r.ended is.0 is.1 is.2)
  where
    by : (a b : Bool) → (a && not b && nat_eq (shifted_place n r.first r.taken + length xs) (t + 2 ^ 31)) ≡ true → IsTrue a × (b ≡ false) × ((place_in r n +ℤ pos (length xs)) ≡ pos t)
    by true false is = (refl, refl, grind (arith, ints, nat_tests))
    by true true is = absurd cc
    by false b is = absurd cc

    back : (a b : Bool) → IsTrue a → b ≡ false → (place_in r n +ℤ pos (length xs)) ≡ pos t → (a && not b && nat_eq (shifted_place n r.first r.taken + length xs) (t + 2 ^ 31)) ≡ true
    back true false a_is b_is at = grind (arith, ints, nat_tests)
    back true true a_is b_is at = absurd cc
    back false b a_is b_is at = absurd cc

-- none is owed for an empty segment at the next number or past it
pub none_owed : (r : Received) (n : ℕ) (xs : List ℕ) (fin owed : Bool) → (owed || is_to_acknowledge r n xs fin) ≡ false
    → (owed ≡ false) × (length xs ≡ 0) × (fin ≡ false) × (place_in r n <ℤ pos (places_taken r) → ⊥)
none_owed r n xs fin true is = absurd cc
none_owed r n xs fin false is = by (nat_lt 0 (length xs)) fin (nat_lt (shifted_place n r.first r.taken) (places_taken r + 2 ^ 31)) refl refl is
  where
    by : (a b d : Bool) → nat_lt 0 (length xs) ≡ a → nat_lt (shifted_place n r.first r.taken) (places_taken r + 2 ^ 31) ≡ d → (a || b || d) ≡ false
        → (false ≡ false) × (length xs ≡ 0) × (b ≡ false) × (place_in r n <ℤ pos (places_taken r) → ⊥)
    by true b d a_is d_is is = absurd cc
    by false true d a_is d_is is = absurd cc
    by false false true a_is d_is is = absurd cc
    by false false false a_is d_is is = (refl, grind (arith, nat_tests), refl, λ before. grind (arith, ints, nat_tests))

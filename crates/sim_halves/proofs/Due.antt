-- Where no acknowledgement is owed, none is due.
use Rattle.std.proofs.Common.{refl, ◌≡◌, ℕ, ◌+◌, ◌^◌, ◌<◌, ◌≤◌, List, [], ◌∷◌, length, arith, Bool, true, false, not, ◌&&◌, ◌||◌, if◌then◌else◌, IsTrue, ℤ, pos, ◌+ℤ◌, ◌≤ℤ◌, ◌<ℤ◌, ◌⊎◌, inl, inr, subst}
use Rattle.std.proofs.lemmas.Int.{ints}
use Rattle.seq_space.specs.Places.{place}
use Rattle.seq_space.proofs.Numbers.{place_is, place_only}
use Rattle.spec_flow.specs.Guest.{Up, Known, Came, Acked, Wrote, Ended, AckIsDue, ack_is_due, is_empty, Conforming, begins, top, first_of, ackd}
use Rattle.sim_halves.specs.Received.{Received, places_taken}

-- what is due by the flow's own count is due
due_of : (past : List Up) → ack_is_due past ≡ true → AckIsDue past
due_of [] is = absurd cc
due_of (Came n xs fin heeded ∷ past) is = by heeded (fin || not (is_empty xs)) (ack_is_due past) is (due_of past)
  where
    by : (h s r : Bool) → ((h && s) || r) ≡ true → (r ≡ true → AckIsDue past) → (IsTrue h × (IsTrue s ⊎ (Conforming past × (begins past n <ℤ pos (ackd past))))) ⊎ AckIsDue past
    by true true r is old = inl (refl, inl refl)
    by true false r is old = inr (old is)
    by false s r is old = inr (old is)
due_of (Known f ∷ past) is = due_of past is
due_of (Acked n ∷ past) is = absurd cc
due_of (Wrote xs n ∷ past) is = due_of past is
due_of (Ended ∷ past) is = due_of past is

pub none_due : (past : List Up) → (AckIsDue past → ⊥) → ack_is_due past ≡ false
none_due past none = by (ack_is_due past) (due_of past)
  where
    by : (b : Bool) → (b ≡ true → AckIsDue past) → b ≡ false
    by true f = absurd (none (f refl))
    by false f = refl

empty_is : (xs : List ℕ) (fin : Bool) → length xs ≡ 0 → fin ≡ false → IsTrue (fin || not (is_empty xs)) → ⊥
empty_is [] true none no_fin some = absurd cc
empty_is [] false none no_fin some = absurd cc
empty_is (x ∷ xs) fin none no_fin some = absurd (omega (arith, none))

-- a place before what was acknowledged is one by what was taken too
before_taken : (n first t top a p : ℕ) → n < 2 ^ 32 → t ≤ top → a ≤ p → p ≤ t + 1 → place n first top <ℤ pos a → place n first t <ℤ pos p
before_taken n first t top a p fits low acked few before =
    let here = place_is n first top fits in
    let same : place n first t ≡ place n first top =
    place_only n first t (place n first t) (place n first top) (place_is n first t fits)
    (record { wraps = here.wraps; low = from (place n first top) here.low; high = under (place n first top) before }) in
    rw same (less (place n first top) before)
  where
    from : (o : ℤ) → pos top ≤ℤ (o +ℤ pos (2 ^ 31)) → pos t ≤ℤ (o +ℤ pos (2 ^ 31))
    from o high = omega (arith, ints, high, low)

    under : (o : ℤ) → o <ℤ pos a → o <ℤ pos (t + 2 ^ 31)
    under o is = omega (arith, ints, is, acked, few)

    less : (o : ℤ) → o <ℤ pos a → o <ℤ pos p
    less o is = omega (arith, ints, is, acked)

places_few : (r : Received) → places_taken r ≤ r.taken + 1
places_few r = by r.ended
  where
    by : (b : Bool) → (if b then r.taken + 1 else r.taken) ≤ r.taken + 1
    by true = omega arith
    by false = omega arith

-- a heeded segment: `quiet` is what a receiver knows of it that owes nothing
pub came_due : (past : List Up) (r : Received) (n : ℕ) (xs : List ℕ) (fin heeded : Bool) (owed now_owed : Bool) → n < 2 ^ 32 → first_of past ≡ r.first → r.taken ≤ top past → ackd past ≤ places_taken r
    → (now_owed ≡ false → (owed ≡ false) × (heeded ≡ true → (length xs ≡ 0) × (fin ≡ false) × (place n r.first r.taken <ℤ pos (places_taken r) → ⊥)))
    → (owed ≡ false → AckIsDue past → ⊥) → now_owed ≡ false → AckIsDue (Came n xs fin heeded ∷ past) → ⊥
came_due past r n xs fin heeded owed now_owed fits first low acked quiet old none (inl (heard, inl some)) = let q = (quiet none).1 heard in empty_is xs fin q.0 q.1 some
came_due past r n xs fin heeded owed now_owed fits first low acked quiet old none (inl (heard, inr (conforming, before))) =
    let q = (quiet none).1 heard in
    q.2 (before_taken n r.first r.taken (top past) (ackd past) (places_taken r) fits low acked (places_few r) (subst (λ (f : ℕ). place n f (top past) <ℤ pos (ackd past)) first before))
came_due past r n xs fin heeded owed now_owed fits first low acked quiet old none (inr more) = old (quiet none).0 more

-- a segment with ACK goes out: none is due
pub acked_due : (past : List Up) (n : ℕ) → AckIsDue (Acked n ∷ past) → ⊥
acked_due past n due = due

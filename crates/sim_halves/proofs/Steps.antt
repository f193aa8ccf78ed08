-- Each thing that is done for a flow keeps it with the story.
use Rattle.std.proofs.Common.{refl, ◌≡◌, ℕ, zero, suc, ◌+◌, ◌<◌, ◌≤◌, List, [], ◌∷◌, ◌++◌, length, take, drop, arith, inl, inr, Bool, true, false, ◌||◌, IsTrue, ◌↔◌, append_assoc}
use Rattle.std.proofs.Common.{length-append, take-append-drop, sym, ap, ◌∙◌, length-take, length-drop, None}
use Rattle.std.proofs.lemmas.List.{take-take}
use Rattle.seq_space.specs.Places.{number_of}
use Rattle.sim_halves.specs.Upward.{upward}
use Rattle.sim_halves.specs.Received.{Received, places_taken, IsAckOwed}
use Rattle.spec_flow.specs.Guest.{Up, Asks, HasCome, IsAcknowledged, has_ended, front, Known, Came, Acked, Wrote, Ended, Brought, EndsAt, Conforming, written, ackd}
use Rattle.spec_flow.specs.Lawful.{AtPlaces, IsPrefixOf}
use Rattle.spec_flow.proofs.Lists.{slice_get_front}
use Rattle.spec_flow.proofs.Streams.{earlier, carried_prefix}
use Rattle.spec_flow.proofs.Acks.{came_all, room_left, acked_within, acked_all}
use Rattle.sim_halves.specs.Part.{Part, part}
use Rattle.sim_halves.specs.Follows.{Follows, so_far, IsAnswered}

-- ---- what is done for a flow

-- an acknowledgement of what was taken
pub acked : (ring : ℕ) (p : Part) (past : List Up) (number room : ℕ) → room + length p.up.held ≡ ring → number ≡ number_of p.received.first (places_taken p.received)
    → Follows ring p past → Follows ring (record p { ack_owed = false }) (Acked number ∷ past)
    × (Conforming past → HasCome past (ackd (Acked number ∷ past)))
    × (Conforming past → (a : ℕ) → IsAcknowledged (Acked number ∷ past) a → room + a ≡ length (written past) + ring)
acked ring p past number room whole is f = (
  record {
    first = f.first;
    count = f.count;
    taken = f.taken;
    acknowledged = rw (is, f.first) (acked_within p.received.first (ackd past) (places_taken p.received) f.acknowledged);
    told = f.told;
    brought = f.brought;
    carried = λ conforming. f.carried (earlier (Acked number) past conforming);
    end = λ ended conforming. f.end ended (earlier (Acked number) past conforming);
    kept_brought = f.kept_brought;
    kept_carried = λ conforming. f.kept_carried (earlier (Acked number) past conforming);
    size = f.size;
    within = f.within;
    asked = λ conforming a asks. f.asked (earlier (Acked number) past conforming) a asks;
    settled = λ owed conforming.
        let before = earlier (Acked number) past conforming in
        let all : ackd (Acked number ∷ past) ≡ places_taken p.received = rw f.taken (acked_all past (so_far p past) p.received.ended number f.carried
        (rw (← f.taken) f.acknowledged) (rw (f.first, ← f.taken) is) before) in
        rw all (omega arith);
  },
  came_all past (so_far p past) p.received.ended number f.carried f.end (rw (← f.taken) f.acknowledged) (rw (f.first, ← f.taken) is),
  room_left past (so_far p past) p.received.ended number room ring f.carried f.end (rw (← f.taken) f.acknowledged) (rw (f.first, ← f.taken) is)
      (omega (arith, whole, length-append (written past) p.up.held)),
)

moved : (w held : List ℕ) (k n : ℕ) → n ≤ k → (w ++ take n (take k held)) ++ drop n held ≡ w ++ held
moved w held k n few =
    append_assoc w (take n (take k held)) (drop n held)
    ∙ ap (λ (l : List ℕ). w ++ (l ++ drop n held)) (take-take n k held few)
    ∙ ap (λ (l : List ℕ). w ++ l) (take-append-drop n held)

-- a write of octets that are held
pub wrote : (ring : ℕ) (p : Part) (past : List Up) (k n : ℕ) → n ≤ k → k ≤ length p.up.held
    → Follows ring p past
    → Follows ring (record p { up = upward (drop n p.up.held) (p.up.written + n) p.up.size }) (Wrote (take k p.up.held) n ∷ past)
    × (Conforming past → IsPrefixOf (written past ++ take k p.up.held) (front past)) × AtPlaces (Brought past) (written past ++ take k p.up.held)
wrote ring p past k n few within f =
    let held : List ℕ = p.up.held in
    let same : (written past ++ take n (take k held)) ++ drop n held ≡ written past ++ held = moved (written past) held k n few in
    let whole : (written past ++ take k held) ++ drop k held ≡ written past ++ held = append_assoc (written past) (take k held) (drop k held) ∙ ap
    (λ (l : List ℕ). written past ++ l) (take-append-drop k held) in (
      record {
        first = f.first;
        count = omega (arith, length-append (written past) (take n (take k held)), length-take n (take k held), length-take k held, f.count);
        taken = rw same f.taken;
        acknowledged = f.acknowledged;
        told = f.told;
        brought = rw same f.brought;
        carried = λ conforming. rw same (f.carried (earlier (Wrote (take k held) n) past conforming));
        end = λ ended conforming. rw same (f.end ended (earlier (Wrote (take k held) n) past conforming));
        kept_brought = f.kept_brought;
        kept_carried = λ conforming. f.kept_carried (earlier (Wrote (take k held) n) past conforming);
        size = f.size;
        within = omega (arith, length-drop n held, f.within);
        asked = λ conforming. f.asked (earlier (Wrote (take k held) n) past conforming);
        settled = λ owed conforming. f.settled owed (earlier (Wrote (take k held) n) past conforming);
      },
      λ conforming. carried_prefix past (written past ++ take k held) (λ i x e. f.carried conforming i x (rw (← whole) (slice_get_front (written past ++ take k held) (drop k held) i x e))) conforming,
      λ i x e. f.brought i x (rw (← whole) (slice_get_front (written past ++ take k held) (drop k held) i x e)),
    )

-- the end, once all is written
pub told_the_end : (ring : ℕ) (p : Part) (past : List Up) → p.up.held ≡ [] → p.received.ended ≡ true → p.told_end ≡ false
    → Follows ring p past → Follows ring (record p { told_end = true }) (Ended ∷ past)
    × (has_ended past ≡ false) × (Conforming past → EndsAt past (length (written past)))
told_the_end ring p past empty ended not f =
    let same : length (written past ++ p.up.held) ≡ length (written past) = omega (arith, length-append (written past) p.up.held, ap length empty) in (
      record {
        first = f.first;
        count = f.count;
        taken = f.taken;
        acknowledged = f.acknowledged;
        told = refl;
        brought = f.brought;
        carried = λ conforming. f.carried (earlier Ended past conforming);
        end = λ is conforming. f.end is (earlier Ended past conforming);
        kept_brought = f.kept_brought;
        kept_carried = λ conforming. f.kept_carried (earlier Ended past conforming);
        size = f.size;
        within = f.within;
        asked = λ conforming. f.asked (earlier Ended past conforming);
        settled = λ owed conforming. f.settled owed (earlier Ended past conforming);
      },
      sym f.told ∙ not,
      λ conforming. rw same at (f.end ended conforming),
    )

-- a segment that isn't heeded changes nothing
pub passed : (ring : ℕ) (p : Part) (past : List Up) (n : ℕ) (xs : List ℕ) (fin : Bool) → Follows ring p past → Follows ring p (Came n xs fin false ∷ past)
passed ring p past n xs fin f = record {
  first = f.first;
  count = f.count;
  taken = f.taken;
  acknowledged = f.acknowledged;
  told = f.told;
  brought = λ i x e. inr (f.brought i x e);
  carried = λ conforming i x e. inr (f.carried (earlier (Came n xs fin false) past conforming) i x e);
  end = λ is conforming. inr (f.end is (earlier (Came n xs fin false) past conforming));
  kept_brought = λ i x e. inr (f.kept_brought i x e);
  kept_carried = λ conforming i x e. inr (f.kept_carried (earlier (Came n xs fin false) past conforming) i x e);
  size = f.size;
  within = f.within;
  asked = λ conforming a asks. still ring past n xs fin (places_taken p.received) a (f.asked (earlier (Came n xs fin false) past conforming)) asks;
  settled = λ owed conforming. f.settled owed (earlier (Came n xs fin false) past conforming);
}
  where
    still : (ring : ℕ) (past : List Up) (n : ℕ) (xs : List ℕ) (fin : Bool) (m a : ℕ) → ((a : ℕ) → Asks ring past a → a ≤ m) → Asks ring (Came n xs fin false ∷ past) a → a ≤ m
    still ring past n xs fin m a before (inl (heard, b, is)) = absurd cc
    still ring past n xs fin m a before (inr more) = before a more

-- a flow that is opened
pub opened : (ring number tuple first : ℕ) → Follows ring (part number tuple first 0 false [] 0 ring false false (λ i. None)) (Known first ∷ [])
opened ring number tuple first = record {
  first = refl;
  count = refl;
  taken = refl;
  acknowledged = omega arith;
  told = refl;
  brought = λ i x e. absurd cc;
  carried = λ conforming i x e. absurd cc;
  end = λ is conforming. absurd cc;
  kept_brought = λ i x e. absurd cc;
  kept_carried = λ conforming i x e. absurd cc;
  size = refl;
  within = omega arith;
  asked = λ conforming a asks. absurd asks;
  settled = λ owed conforming. omega arith;
}

-- where no acknowledgement is owed, all that was asked for was acknowledged
pub answered : (ring : ℕ) (p : Part) (past : List Up) → Follows ring p past → p.ack_owed ≡ false → IsAnswered ring past
answered ring p past f none conforming a asks = let have = f.asked conforming a asks in let all = f.settled none conforming in omega arith

empty_length : (n : ℕ) → (0 < n → ⊥) → n ≡ 0
empty_length zero not = refl
empty_length (suc n) not = absurd (not (omega arith))

not_true : (b : Bool) → (b ≡ true → ⊥) → b ≡ false
not_true false not = refl
not_true true not = absurd (not refl)

-- where no acknowledgement is owed, none was, and the segment is empty
pub quiet_from : (owed b : Bool) (r : Received) (n : ℕ) (xs : List ℕ) (fin : Bool) → (IsTrue b ↔ IsAckOwed r n xs fin) → (owed || b) ≡ false
    → (owed ≡ false) × (length xs ≡ 0) × (fin ≡ false)
quiet_from true b r n xs fin iff is = absurd cc
quiet_from false b r n xs fin iff is = (
  refl,
  empty_length (length xs) (λ some. let yes = iff.1 (inl some) in absurd cc),
  not_true fin (λ ends. let yes = iff.1 (inr (inl ends)) in absurd cc),
)

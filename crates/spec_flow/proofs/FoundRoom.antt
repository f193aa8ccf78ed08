-- No more is acknowledged than was written or found room.
use Rattle.std.proofs.Common.{refl, ◌≡◌, ℕ, ◌+◌, ◌≤◌, ◌<◌, List, [], ◌∷◌, length, take, None, Some, is_some, get_or, ◌⊎◌, inl, inr, arith, Bool, true, false, not, ◌&&◌, if◌then◌else◌}
use Rattle.std.proofs.Common.{IsTrue, length-append}
use Rattle.std.proofs.lemmas.Bool.{cases_lt}
use Rattle.std.proofs.lemmas.Option.{slice_get-get_or}
use Rattle.spec_flow.specs.Settings.{Settings}
use Rattle.spec_flow.specs.Event.{Connects, Arrives, Departs, Writes, WriteFails, EndsHost, EndFails, At, Story}
use Rattle.spec_flow.specs.Guest.{Up, Known, Came, Acked, Wrote, Ended, Carries, EndsAt, Conforming, HasCome, IsAcknowledged, front, written, ackd}
use Rattle.spec_flow.specs.Flow.{guest, their_number, acknowledges, push}
use Rattle.spec_flow.specs.Lawful.{IsLawful}
use Rattle.spec_flow.specs.Dutiful.{IsDutiful}
use Rattle.spec_flow.proofs.Streams.{earlier, front_carried}
use Rattle.spec_flow.proofs.GuestLaws.{arrived, acknowledged_came}

-- ---- each place that was acknowledged carries its octet, or is the end

come_each : (past : List Up) (n : ℕ) → HasCome past n → (i : ℕ) → i < n → ((x : ℕ) × Carries past i x) ⊎ EndsAt past i
come_each past n (inl within) i low =
    let at = slice_get-get_or (front past) i 0 (omega (arith, within, low)) in
    inl (get_or (front past) i 0, front_carried past i (get_or (front past) i 0) at)
come_each past n (inr (end, all)) i low =
    elim (cases_lt i (length (front past))) [
      | inl inside ↦ inl (get_or (front past) i 0, front_carried past i (get_or (front past) i 0) (slice_get-get_or (front past) i 0 inside))
      | inr last ↦ let same : length (front past) ≡ i = omega (arith, all, low, last) in inr (rw (← same) end)
    ]

pub acknowledged_each : (s : Settings) (story : Story) → IsLawful s story → Conforming (guest story) → (i : ℕ) → i < ackd (guest story) → ((x : ℕ) × Carries (guest story) i x) ⊎ EndsAt (guest story) i
acknowledged_each s story l conforming = come_each (guest story) (ackd (guest story)) (acknowledged_came s story l conforming)

-- ---- what is acknowledged found room

-- of a conforming guest: no more is acknowledged than was written, and so many octets more
abbrev pub HasRoom : ℕ → List Up → Type 0
HasRoom ring past = Conforming past → (a : ℕ) → IsAcknowledged past a → a ≤ length (written past) + ring

-- a segment that comes acknowledges nothing; its end isn't before what was
came_room : (ring : ℕ) (past : List Up) (n : ℕ) (xs : List ℕ) (fin heeded : Bool) → HasRoom ring past → HasRoom ring (Came n xs fin heeded ∷ past)
came_room ring past n xs fin heeded room conforming a (inl (is, low)) = room (earlier (Came n xs fin heeded) past conforming) a (inl (is, λ i end. low i (inr end)))
came_room ring past n xs fin heeded room conforming a (inr (inr end, low)) = room (earlier (Came n xs fin heeded) past conforming) a (inr (end, low))
came_room ring past n xs fin heeded room conforming a (inr (inl (ends, at, few), low)) =
    room (earlier (Came n xs fin heeded) past conforming) a (inl (omega (arith, few, low), λ i end. let same = conforming.ends a i (inl (ends, at, few)) (inr end) in omega (arith, same)))

known_room : (ring : ℕ) (past : List Up) (f : ℕ) → HasRoom ring past → HasRoom ring (Known f ∷ past)
known_room ring past f room conforming a acked = room (earlier (Known f) past conforming) a acked

wrote_room : (ring : ℕ) (past : List Up) (xs : List ℕ) (n : ℕ) → HasRoom ring past → HasRoom ring (Wrote xs n ∷ past)
wrote_room ring past xs n room conforming a acked =
    let before = room (earlier (Wrote xs n) past conforming) a acked in
    omega (arith, before, length-append (written past) (take n xs))

ended_room : (ring : ℕ) (past : List Up) → HasRoom ring past → HasRoom ring (Ended ∷ past)
ended_room ring past room conforming a acked = room (earlier Ended past conforming) a acked

plain : (ack rst known : Bool) → (ack && not rst && known) ≡ true → IsTrue (not rst)
plain true false k is = refl
plain true true k is = absurd cc
plain false r k is = absurd cc

nothing_has_room : (ring : ℕ) → HasRoom ring []
nothing_has_room ring conforming a (inl (is, low)) = omega (arith, is)
nothing_has_room ring conforming a (inr (end, low)) = absurd end

-- where a segment goes out the room is told
went_room : (ring : ℕ) (past : List Up) (n : ℕ) (b : Bool) → HasRoom ring past
    → (b ≡ true → Conforming past → (a : ℕ) → IsAcknowledged (push (if b then Some (Acked n) else None) past) a → (room : ℕ) × (room + a ≡ length (written past) + ring))
    → HasRoom ring (push (if b then Some (Acked n) else None) past)
went_room ring past n true before now conforming a acked = let told = now refl (earlier (Acked n) past conforming) a acked in omega (arith, told.1)
went_room ring past n false before now conforming a acked = before conforming a acked

found_room : (s : Settings) (story : Story) → IsDutiful s story → HasRoom s.ring (guest story)
found_room s [] d = nothing_has_room s.ring
found_room s (At m (Connects ours syn) ∷ past) d = known_room s.ring (guest past) syn.number (found_room s past d.1)
found_room s (At m (Arrives seg) ∷ past) d =
    arrived (HasRoom s.ring) m past seg (found_room s past d.1) (came_room s.ring (guest past) seg.number seg.octets seg.fin _ (found_room s past d.1))
    (known_room s.ring (guest past) seg.number (found_room s past d.1))
found_room s (At m (Departs seg) ∷ past) d =
    went_room s.ring (guest past) seg.acknowledgement (acknowledges past seg) (found_room s past d.1)
    (λ is conforming a acked. let told = d.0.sends_its_room (plain seg.ack seg.rst (is_some (their_number past)) is) conforming a acked in (told.0, told.1))
found_room s (At m (Writes xs n) ∷ past) d = wrote_room s.ring (guest past) xs n (found_room s past d.1)
found_room s (At m (WriteFails xs) ∷ past) d = wrote_room s.ring (guest past) xs 0 (found_room s past d.1)
found_room s (At m EndsHost ∷ past) d = ended_room s.ring (guest past) (found_room s past d.1)
found_room s (At m EndFails ∷ past) d = ended_room s.ring (guest past) (found_room s past d.1)
found_room s (At m _ ∷ past) d = found_room s past d.1

-- Of a dutiful story: what is acknowledged of a conforming guest was written, or found room in the ring.
pub acknowledged_has_room : (s : Settings) (story : Story) → IsDutiful s story → Conforming (guest story) → (a : ℕ) → IsAcknowledged (guest story) a → a ≤ length (written (guest story)) + s.ring
acknowledged_has_room s story d conforming a acked = found_room s story d conforming a acked

-- The windows that are told, against the room that is left.
use Rattle.std.proofs.Common.{refl, ◌≡◌, ℕ, ◌+◌, ◌-◌, ◌*◌, ◌^◌, ◌<◌, ◌≤◌, List, [], ◌∷◌, length, arith, Option, Some, None, is_some, Bool, true, false, not, ◌&&◌, if◌then◌else◌, inl, inr}
use Rattle.std.proofs.Common.{ap, sym, ◌∙◌, subst, length-append}
use Rattle.seq_space.specs.Places.{number_of}
use Rattle.spec_flow.specs.Settings.{Settings}
use Rattle.spec_flow.specs.Event.{Segment, Event, Departs, At, Story}
use Rattle.spec_flow.specs.Guest.{Up, Acked, Conforming, IsAcknowledged, ackd, written}
use Rattle.spec_flow.specs.Flow.{guest, push, their_number, acknowledges}
use Rattle.spec_flow.specs.Windows.{our_shift, field, told, right_edge, next_edge}
use Rattle.spec_flow.specs.Dutiful.{TellsRoom, ToldRoom}
use Rattle.spec_flow.proofs.Sides.{guest_acked}
use Rattle.spec_flow.proofs.Acks.{acked_all}
use Rattle.sim_halves.specs.Received.{places_taken}
use Rattle.sim_halves.specs.Part.{Part}
use Rattle.sim_halves.specs.Follows.{Follows, so_far}

all_true : (a b c : Bool) → a ≡ true → b ≡ false → c ≡ true → (a && not b && c) ≡ true
all_true a b c x y z = rw (x, y, z) refl

open_places : (b : Bool) (t : ℕ) → b ≡ false → (if b then t + 1 else t) ≡ t
open_places b t is = rw is refl

ended_places : (b : Bool) (t : ℕ) → b ≡ true → (if b then t + 1 else t) ≡ t + 1
ended_places b t is = rw is refl

module _ (s : Settings) (past : Story) (p : Part) (m : ℕ) where
  -- a segment with ACK tells an edge, which is as far past what was taken as its window says
  pub tells_edge : (seg : Segment) → seg.ack ≡ true → seg.rst ≡ false → is_some (their_number past) ≡ true → seg.acknowledgement ≡ number_of p.received.first
      (places_taken p.received) → Follows s.ring p (guest past)
      → Conforming (guest past) → right_edge s (At m (Departs seg) ∷ past) ≡ Some (places_taken p.received + seg.window * 2 ^ our_shift s past seg.syn)
  tells_edge seg ack rst known number f conforming =
      by (acknowledges past seg) (ackd (guest (At m (Departs seg) ∷ past))) (all_true seg.ack seg.rst (is_some (their_number past)) ack rst known)
      (ap ackd (guest_acked m past seg ack rst known) ∙ all)
    where
      all : ackd (Acked seg.acknowledgement ∷ guest past) ≡ places_taken p.received
      all = rw f.taken (acked_all (guest past) (so_far p (guest past)) p.received.ended seg.acknowledgement f.carried (rw (← f.taken) f.acknowledged) (rw (f.first, ← f.taken) number) conforming)

      by : (b : Bool) (a : ℕ) → b ≡ true → a ≡ places_taken p.received → (if b then Some (a + seg.window * 2 ^ our_shift s past seg.syn) else right_edge s past) ≡ Some
          (places_taken p.received + seg.window * 2 ^ our_shift s past seg.syn)
      by b a is at = rw (is, at) refl

  -- a segment without ACK, or a reset, tells none
  pub tells_none : (seg : Segment) → acknowledges past seg ≡ false → right_edge s (At m (Departs seg) ∷ past) ≡ right_edge s past
  tells_none seg not_it = by (acknowledges past seg) not_it
    where
      by : (b : Bool) → b ≡ false → (if b then Some (ackd (guest (At m (Departs seg) ∷ past)) + seg.window * 2 ^ our_shift s past seg.syn) else right_edge s past) ≡ right_edge s past
      by b is = rw is refl

  -- our SYN, before the guest's is known, tells of the whole room, as far as its field goes
  pub syn_tells : (seg : Segment) → guest past ≡ [] → acknowledges past seg ≡ false → seg.syn ≡ true → seg.window ≡ field 0 s.ring → TellsRoom s past m seg
  syn_tells seg none not_it syn window plain conforming a acked =
      (s.ring, room, window ∙ ap (λ (k : ℕ). field k s.ring) (sym (shift seg.syn syn)))
    where
      shift : (b : Bool) → b ≡ true → our_shift s past b ≡ 0
      shift b is = rw is refl

      still : guest (At m (Departs seg) ∷ past) ≡ []
      still = by (acknowledges past seg) not_it ∙ none
        where
          by : (b : Bool) → b ≡ false → push (if b then Some (Acked seg.acknowledgement) else None) (guest past) ≡ guest past
          by b is = rw is refl

      zero_it : (g : List Up) → g ≡ [] → IsAcknowledged g a → a ≡ 0
      zero_it [] is (inl (same, low)) = same
      zero_it [] is (inr (end, low)) = absurd end
      zero_it (u ∷ g) is acked = absurd cc

      room : s.ring + a ≡ length (written (guest past)) + s.ring
      room = let nothing = zero_it (guest (At m (Departs seg) ∷ past)) still acked in let short : length (written (guest past)) ≡ 0 = ap
          (λ (g : List Up). length (written g)) none in omega (arith, nothing, short)

  -- where no acknowledgement is owed, and no update by the flow's own count, the guest was told of the room
  pub told_of : (edge : Option ℕ) → Follows s.ring p (guest past) → p.ack_owed ≡ false → (Conforming (guest past) → right_edge s past ≡ edge)
      → (p.received.ended ≡ false → (e : ℕ) → edge ≡ Some e → p.received.taken + told (our_shift s past false) (s.ring - length p.up.held) < e + 2920)
      → ToldRoom s past
  told_of edge f none same few conforming open_yet no_end e at = by p.received.ended refl
    where
      all : places_taken p.received ≤ ackd (guest past)
      all = f.settled none conforming

      by : (b : Bool) → p.received.ended ≡ b → next_edge s past < e + 2920
      by true over =
          let end = f.end over conforming in
          let least = no_end (length (so_far p (guest past))) end in
          let places = ended_places p.received.ended p.received.taken over in
          absurd (omega (arith, least, all, places, f.taken))
      by false open_end =
          let places = open_places p.received.ended p.received.taken open_end in
          let now : ackd (guest past) ≡ p.received.taken = omega (arith, f.acknowledged, all, places) in
          let left : length (written (guest past)) + s.ring - ackd (guest past) ≡ s.ring - length p.up.held = omega (arith, now, f.taken, length-append (written (guest past)) p.up.held, f.within) in
          let here = few open_end e (sym (same conforming) ∙ at) in
          subst (λ (n : ℕ). n < e + 2920) (ap (λ (a : ℕ). a + told (our_shift s past false) (s.ring - length p.up.held)) (sym now) ∙ ap
          (λ (r : ℕ). ackd (guest past) + told (our_shift s past false) r) (sym left)) here

-- nothing else tells an edge
abbrev pub IsOther : Event → Type 0
IsOther (Departs seg) = ⊥
IsOther _ = Unit {0}

pub same_edge : (s : Settings) (past : Story) (m : ℕ) (e : Event) → IsOther e → right_edge s (At m e ∷ past) ≡ right_edge s past
same_edge s past m (Departs seg) other = absurd other
same_edge s past m e other = refl

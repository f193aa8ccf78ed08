-- What a flow waits for, offers and asks for, by what it keeps.
use Rattle.std.proofs.Common.{refl, ◌≡◌, ℕ, ◌+◌, ◌-◌, ◌<◌, ◌≤◌, List, ◌++◌, length, take, min, arith, ◌⊎◌, inl, inr, Option, None, Some, is_some, Bool, true, false, if◌then◌else◌, nat_lt}
use Rattle.std.proofs.Common.{subst, sym, ap, ◌∙◌, length-append, length-take, length-drop}
use Rattle.std.proofs.lemmas.Bool.{cases_lt}
use Rattle.std.proofs.lemmas.Bool.Decides.{nat_tests}
use Rattle.std.specs.Option.{unwrap_or}
use Rattle.seq_space.specs.Places.{number_of}
use Rattle.spec_flow.specs.Settings.{Settings}
use Rattle.spec_flow.specs.Event.{Story}
use Rattle.spec_flow.specs.Guest.{Up, EndsAt, Conforming, IsAcknowledged, ackd, front, written, has_ended}
use Rattle.spec_flow.specs.Host.{acked, got, got_end, owned}
use Rattle.spec_flow.specs.Flow.{guest, host, their_number, is_closed, is_connecting}
use Rattle.spec_flow.specs.Close.{before}
use Rattle.spec_flow.specs.Lawful.{IsPrefixOf}
use Rattle.spec_flow.specs.Dutiful.{must_wait_to_write, MayWaitToWrite, OffersEnough, MustClose, read_size}
use Rattle.spec_flow.proofs.Streams.{carried_prefix, carried_seen, front_carried, length_within}
use Rattle.spec_flow.proofs.HostLaws.{InOrder, sent_within}
use Rattle.spec_flow.proofs.Laws.{must_parts}
use Rattle.spec_flow.proofs.Answering.{nat_less}
use Rattle.spec_flow.proofs.Sides.{their_first}
use Rattle.sim_halves.specs.Received.{places_taken}
use Rattle.sim_halves.specs.Part.{Part}
use Rattle.sim_halves.specs.Follows.{Follows, so_far}
use Rattle.sim_halves.specs.Sends.{Outward, Keeps}
use Rattle.sim_halves.proofs.SendSteps.{acked_within_sent}

places_few : (b : Bool) (t : ℕ) → (if b then t + 1 else t) ≤ t + 1
places_few true t = omega arith
places_few false t = omega arith

pub open_places : (b : Bool) (t : ℕ) → b ≡ false → (if b then t + 1 else t) ≡ t
open_places b t is = rw is refl

-- ---- the host takes octets

module _ (ring : ℕ) (past : List Up) (p : Part) (f : Follows ring p past) where
  -- so many octets were written and are held
  counted : p.received.taken ≡ length (written past) + length p.up.held
  counted = f.taken ∙ length-append (written past) p.up.held

  -- where more was acknowledged than was written, octets are held, or the end was taken
  held_or_ended : length (written past) < ackd past → (0 < length p.up.held) ⊎ (p.received.ended ≡ true)
  held_or_ended more = by p.received.ended refl (cases_lt 0 (length p.up.held))
    where
      by : (b : Bool) → p.received.ended ≡ b → (0 < length p.up.held) ⊎ (length p.up.held ≤ 0) → (0 < length p.up.held) ⊎ (p.received.ended ≡ true)
      by b is (inl some) = inl some
      by true is (inr none) = inr is
      by false is (inr none) =
          let places = open_places p.received.ended p.received.taken is in
          absurd (omega (arith, f.acknowledged, places, counted, none, more))

  -- what was taken of a conforming guest is in its front
  pub in_front : Conforming past → length (written past) + length p.up.held ≤ length (front past)
  in_front conforming = let seen = carried_seen past (so_far p past) (f.carried conforming) conforming in omega (arith, seen, length-append (written past) p.up.held)

  -- what was written and is held begins what it sent
  pub begins_front : Conforming past → IsPrefixOf (written past ++ p.up.held) (front past)
  begins_front conforming = carried_prefix past (so_far p past) (f.carried conforming) conforming

  -- and where its end was taken, it is the front
  pub front_ended : Conforming past → p.received.ended ≡ true → EndsAt past (length (front past)) × (length (front past) ≡ p.received.taken)
  front_ended conforming ended =
      let end = f.end ended conforming in
      let few = length_within (front past) (length (so_far p past)) (λ i x at. conforming.within (length (so_far p past)) i x end (front_carried past i x at)) in
      let seen = carried_seen past (so_far p past) (f.carried conforming) conforming in
      let same : length (so_far p past) ≡ length (front past) = omega (arith, few, seen) in
      (subst (λ (n : ℕ). EndsAt past n) same end, omega (arith, same, f.taken))

  -- what was acknowledged of a conforming guest is written or held
  pub acknowledged_few : Conforming past → (a : ℕ) → IsAcknowledged past a → a ≤ length (written past) + length p.up.held
  acknowledged_few conforming a acked = by p.received.ended refl acked
    where
      by : (b : Bool) → p.received.ended ≡ b → IsAcknowledged past a → a ≤ length (written past) + length p.up.held
      by true ended (inl (is, low)) = let least = low (length (so_far p past)) (f.end ended conforming) in omega (arith, least, length-append (written past) p.up.held)
      by true ended (inr (end, few)) = let same = conforming.ends a (length (so_far p past)) end (f.end ended conforming) in omega (arith, same, length-append (written past) p.up.held)
      by false open_end (inl (is, low)) = let places = open_places p.received.ended p.received.taken open_end in omega (arith, is, f.acknowledged, places, counted)
      by false open_end (inr (end, few)) = let places = open_places p.received.ended p.received.taken open_end in omega (arith, few, f.acknowledged, places, counted)

  -- where all that came was acknowledged, it is all that was taken
  all_taken : Conforming past
      → ((ackd past ≡ length (front past)) × (EndsAt past (length (front past)) → ⊥)) ⊎ (EndsAt past (length (front past)) × (ackd past ≡ length (front past) + 1))
      → ackd past ≡ places_taken p.received
  all_taken conforming (inl (all, no_end)) = by p.received.ended refl
    where
      by : (b : Bool) → p.received.ended ≡ b → ackd past ≡ places_taken p.received
      by true ended = absurd (no_end (front_ended conforming ended).0)
      by false open_end =
          let places = open_places p.received.ended p.received.taken open_end in
          let seen = in_front conforming in
          omega (arith, all, f.acknowledged, places, counted, seen)
  all_taken conforming (inr (end, all)) =
      let seen = in_front conforming in
      let few = places_few p.received.ended p.received.taken in
      omega (arith, all, f.acknowledged, counted, seen, few)

module _ (s : Settings) (past : Story) (p : Part) (f : Follows s.ring p (guest past)) where
  -- where the host must be waited for, it connects, octets are held, or the end is to be told
  pub must_want : must_wait_to_write past ≡ true → (is_connecting past ≡ true) ⊎ ((0 < length p.up.held) ⊎ ((p.received.ended ≡ true) × (p.told_end ≡ false)))
  must_want is =
      let parts = must_parts (is_closed past) (is_connecting past) (nat_lt (length (written (guest past))) (ackd (guest past))) (has_ended (guest past)) is in
      elim parts.1 [
        | inl connecting ↦ inl connecting
        | inr (more, not_ended) ↦ elim (held_or_ended s.ring (guest past) p f (nat_less (length (written (guest past))) (ackd (guest past)) more)) [
          | inl some ↦ inr (inl some)
          | inr ended ↦ inr (inr (ended, f.told ∙ not_ended))
        ]
      ]

  -- and where one of these is so, it may be
  pub may_want : is_closed past ≡ false → (is_connecting past ≡ true) ⊎ ((0 < length p.up.held) ⊎ ((p.received.ended ≡ true) × (p.told_end ≡ false))) → MayWaitToWrite past
  may_want open_yet (inl connecting) = (open_yet, λ conforming. inl connecting)
  may_want open_yet (inr (inl some)) = (open_yet, λ conforming. let seen = in_front s.ring (guest past) p f conforming in inr (inl (omega (arith, seen, some))))
  may_want open_yet (inr (inr (ended, not_told))) = (open_yet, λ conforming. inr (inr ((front_ended s.ring (guest past) p f conforming ended).0, sym f.told ∙ not_told)))

  -- all that is held, up to what a call takes, is enough to be offered
  pub offers : OffersEnough past (take (min 16384 (length p.up.held)) p.up.held)
  offers =
      let long = length-take (min 16384 (length p.up.held)) p.up.held in
      (omega (arith, long), λ conforming a acked. let few = acknowledged_few s.ring (guest past) p f conforming a acked in omega (arith, long, few))

-- a reset after which the close must come is at the number after all that was taken
pub reset_at_next : (s : Settings) (past : Story) (p : Part) → Follows s.ring p (guest (before past)) → (close : MustClose past) → close.0.number ≡ number_of p.received.first (places_taken p.received)
reset_at_next s past p f (seg, newest, open_yet, conforming, known, number, all) =
    let places = all_taken s.ring (guest (before past)) p f conforming all in
    number ∙ ap (λ (a : ℕ). number_of (unwrap_or (their_number (before past)) 0) a) places ∙ ap (λ (n : ℕ). number_of n (places_taken p.received)) (by (their_number (before past)) refl known)
  where
    by : (o : Option ℕ) → their_number (before past) ≡ o → is_some o ≡ true → unwrap_or o 0 ≡ p.received.first
    by None same is = absurd cc
    by (Some n) same is = sym (their_first (before past) n same) ∙ f.first

-- ---- the host has octets

module _ (s : Settings) (past : Story) (o : Outward) (k : Keeps o (host past)) (order : InOrder (host past)) (open_yet : got_end (host past) ≡ false) where
  -- so many octets of those that were read aren't acknowledged
  read_held : length (got (host past)) ≡ acked (host past) + length o.held
  read_held =
      let low = acked_within_sent (host past) in
      let high = sent_within (host past) order in
      let all : owned (host past) ≡ length (got (host past)) = no_end (got_end (host past)) (length (got (host past))) open_yet in
      let long = ap length k.held ∙ length-drop o.before (got (host past)) in
      omega (arith, low, high, all, long, k.before)
    where
      no_end : (e : Bool) (g : ℕ) → e ≡ false → g + (if e then 1 else 0) ≡ g
      no_end true g is = absurd cc
      no_end false g is = omega arith

  -- the host's octets are waited for where the ring has room, and a read asks for all of it
  pub has_room : nat_lt (length (got (host past))) (acked (host past) + s.ring) ≡ nat_lt (length o.held) s.ring
  has_room = by (length (got (host past))) (acked (host past)) (length o.held) s.ring read_held
    where
      by : (g a h r : ℕ) → g ≡ a + h → nat_lt g (a + r) ≡ nat_lt h r
      by g a h r is = grind (arith, nat_tests)

  pub asks_for_room : read_size s past ≡ min 16384 (s.ring - length o.held)
  asks_for_room = let held = read_held in omega (arith, held)

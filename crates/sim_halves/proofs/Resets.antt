-- The guest's reset at the number that is expected next: a cause of the close, which owes none.
use Rattle.std.proofs.Common.{refl, ◌≡◌, ℕ, ◌+◌, List, [], ◌∷◌, length, arith, Option, Some, None, Bool, true, false, ◌&&◌, ◌||◌, not, if◌then◌else◌, IsTrue, MatchOption, nat_eq, ap, sym}
use Rattle.std.proofs.Common.{◌∙◌, subst, ◌⊎◌, inl, inr, length-append}
use Rattle.std.specs.Option.{option_map_or}
use Rattle.std.proofs.lemmas.Bool.Decides.{nat_tests}
use Rattle.seq_space.specs.Places.{number_of}
use Rattle.spec_flow.specs.Settings.{Settings}
use Rattle.spec_flow.specs.Event.{Segment, Arrives, At, Story}
use Rattle.spec_flow.specs.Guest.{Up, Known, Came, Acked, Wrote, Ended, is_empty, ack_is_due, ackd, first_of, HasCome, Conforming, written}
use Rattle.spec_flow.specs.Flow.{guest, their_number, our_number, next_number}
use Rattle.spec_flow.specs.Close.{IsReset, newest_rst, is_fatal, follows_reset}
use Rattle.spec_flow.specs.Lawful.{HasOwnCause}
use Rattle.spec_flow.proofs.Sides.{their_first}
use Rattle.sim_halves.specs.Received.{Received, received, places_taken}
use Rattle.sim_halves.specs.Part.{Part}
use Rattle.sim_halves.specs.Follows.{Follows}
use Rattle.sim_halves.specs.Ends.{IsCurrent}
use Rattle.sim_halves.proofs.Wanting.{in_front, front_ended, open_places}

-- ---- what was taken came

ended_places : (b : Bool) (t : ℕ) → b ≡ true → (if b then t + 1 else t) ≡ t + 1
ended_places b t is = rw is refl

pub taken_came : (ring : ℕ) (past : List Up) (p : Part) → Follows ring p past → Conforming past → HasCome past (places_taken p.received)
taken_came ring past p f conforming = by p.received.ended refl
  where
    by : (b : Bool) → p.received.ended ≡ b → HasCome past (places_taken p.received)
    by true ended =
        let end = front_ended ring past p f conforming ended in
        let places = ended_places p.received.ended p.received.taken ended in
        inr (end.0, omega (arith, places, end.1))
    by false open_end =
        let seen = in_front ring past p f conforming in
        let places = open_places p.received.ended p.received.taken open_end in
        inl (omega (arith, places, seen, f.taken, counted))
      where
        counted : p.received.taken ≡ length (written past) + length p.up.held
        counted = f.taken ∙ length-append (written past) p.up.held

-- ---- a cause

module _ (s : Settings) (m : ℕ) (past : Story) (seg : Segment) (rst : seg.rst ≡ true) where
  newest : newest_rst (At m (Arrives seg) ∷ past) ≡ Some seg
  newest = rw rst refl

  reset_by : (ended known : Bool) (now : ℕ) → IsReset past seg → HasOwnCause true ended known now (At m (Arrives seg) ∷ past)
  reset_by ended known now is = inr (inr (refl, subst (λ (o : Option Segment). MatchOption o ⊥ (λ g. IsReset past g)) (sym newest) is))

  -- at the number that is expected next
  pub reset_closes : (p : Part) (ended known : Bool) (now : ℕ) → their_number past ≡ Some p.received.first → Follows s.ring p (guest past)
      → seg.number ≡ number_of p.received.first (places_taken p.received) → HasOwnCause true ended known now (At m (Arrives seg) ∷ past)
  reset_closes p ended known now theirs f number =
      reset_by ended known now (rw theirs (λ conforming. (places_taken p.received, f.acknowledged, taken_came s.ring (guest past) p f conforming, number)))

  -- or, before the guest's SYN is known, where it acknowledges ours
  pub reset_turns_away : (ended known : Bool) (now : ℕ) → their_number past ≡ None → seg.ack ≡ true → seg.acknowledgement ≡ next_number (our_number past) →
      HasOwnCause true ended known now (At m (Arrives seg) ∷ past)
  reset_turns_away ended known now unknown ack is = reset_by ended known now (rw (unknown, ack) (same seg.acknowledgement (next_number (our_number past)) is))
    where
      same : (a b : ℕ) → a ≡ b → IsTrue (nat_eq a b)
      same a b is = grind (arith, nat_tests)

  -- ---- and none is owed

  fatal_by : is_fatal past seg ≡ true → follows_reset true (At m (Arrives seg) ∷ past) ≡ true
  fatal_by is = ap (λ (o : Option Segment). option_map_or (is_fatal past) o false) newest ∙ is

  pub reset_is_fatal : (p : Part) (last : ℕ) → their_number past ≡ Some p.received.first → number_of (first_of (guest past)) (ackd (guest past)) ≡ last → IsCurrent (guest past) p.received last
      → seg.number ≡ number_of p.received.first (places_taken p.received) → follows_reset true (At m (Arrives seg) ∷ past) ≡ true
  reset_is_fatal p last theirs at current number = fatal_by (here (their_number past) theirs)
    where
      acked_at : number_of p.received.first (ackd (guest past)) ≡ last
      acked_at = ap (λ (f : ℕ). number_of f (ackd (guest past))) (sym (their_first past p.received.first theirs)) ∙ at

      either : (a b : ℕ) (c : Bool) → IsTrue c ⊎ (a ≡ b) → (nat_eq a b || c) ≡ true
      either a b true what = or_true (nat_eq a b)
        where
          or_true : (x : Bool) → (x || true) ≡ true
          or_true true = refl
          or_true false = refl
      either a b false (inl due) = absurd cc
      either a b false (inr same) = let is : nat_eq a b ≡ true = grind (arith, nat_tests) in rw is refl

      at_next : IsTrue (ack_is_due (guest past)) ⊎ (number_of p.received.first (places_taken p.received) ≡ last) → IsTrue (ack_is_due (guest past)) ⊎
          (seg.number ≡ number_of p.received.first (ackd (guest past)))
      at_next (inl due) = inl due
      at_next (inr same) = inr (number ∙ same ∙ sym acked_at)

      here : (o : Option ℕ) → o ≡ Some p.received.first
          → (elim o [ None ↦ seg.ack && nat_eq seg.acknowledgement (next_number (our_number past)) | Some g ↦ nat_eq seg.number (number_of g (ackd (guest past))) || ack_is_due (guest past) ]) ≡ true
      here o is = rw is (either seg.number (number_of p.received.first (ackd (guest past))) (ack_is_due (guest past)) (at_next current))

  pub turning_away_is_fatal : their_number past ≡ None → seg.ack ≡ true → seg.acknowledgement ≡ next_number (our_number past) → follows_reset true (At m (Arrives seg) ∷ past) ≡ true
  turning_away_is_fatal unknown ack is = fatal_by (here (their_number past) unknown)
    where
      same : (a b : ℕ) → a ≡ b → nat_eq a b ≡ true
      same a b is = grind (arith, nat_tests)

      here : (o : Option ℕ) → o ≡ None
          → (elim o [ None ↦ seg.ack && nat_eq seg.acknowledgement (next_number (our_number past)) | Some g ↦ nat_eq seg.number (number_of g (ackd (guest past))) || ack_is_due (guest past) ]) ≡ true
      here o none = rw (none, ack) (same seg.acknowledgement (next_number (our_number past)) is)

-- ---- that what was taken is acknowledged, or that is due, event by event

pub known_current : (first : ℕ) → IsCurrent (Known first ∷ []) (received first 0 false) (number_of first 0)
known_current first = inr refl

pub acked_current : (past : List Up) (r : Received) (number : ℕ) → number ≡ number_of r.first (places_taken r) → IsCurrent (Acked number ∷ past) r number
acked_current past r number is = inr (sym is)

or_right : (a b : Bool) → IsTrue b → IsTrue (a || b)
or_right true b y = refl
or_right false b y = y

or_left : (a b : Bool) → IsTrue a → IsTrue (a || b)
or_left true b x = refl
or_left false b x = absurd cc

-- a segment of which something was taken has octets or FIN
pub came_current : (past : List Up) (r q : Received) (last n : ℕ) (xs : List ℕ) (fin heeded : Bool) → q.first ≡ r.first
    → (places_taken q ≡ places_taken r) ⊎ IsTrue (heeded && (fin || not (is_empty xs))) → IsCurrent past r last → IsCurrent (Came n xs fin heeded ∷ past) q last
came_current past r q last n xs fin heeded first (inr some) current = inl (or_left (heeded && (fin || not (is_empty xs))) (ack_is_due past) some)
came_current past r q last n xs fin heeded first (inl same) (inl due) = inl (or_right (heeded && (fin || not (is_empty xs))) (ack_is_due past) due)
came_current past r q last n xs fin heeded first (inl same) (inr is) = inr (by q.first (places_taken q) first same ∙ is)
  where
    by : (f t : ℕ) → f ≡ r.first → t ≡ places_taken r → number_of f t ≡ number_of r.first (places_taken r)
    by f t fs ts = rw (fs, ts) refl

pub wrote_current : (past : List Up) (r : Received) (last : ℕ) (xs : List ℕ) (n : ℕ) → IsCurrent past r last → IsCurrent (Wrote xs n ∷ past) r last
wrote_current past r last xs n (inl due) = inl due
wrote_current past r last xs n (inr is) = inr is

pub ended_current : (past : List Up) (r : Received) (last : ℕ) → IsCurrent past r last → IsCurrent (Ended ∷ past) r last
ended_current past r last (inl due) = inl due
ended_current past r last (inr is) = inr is

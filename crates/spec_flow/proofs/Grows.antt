-- What only grows, or once true stays so.
use Rattle.std.proofs.Common.{refl, ◌≡◌, ℕ, ◌≤◌, List, [], ◌∷◌, take, Option, None, Some, inr, arith, Bool, true, false, not, ◌&&◌, ◌||◌, if◌then◌else◌, max, append-nil, ◌∙◌}
use Rattle.std.specs.Option.{option_or}
use Rattle.spec_flow.specs.Event.{Segment, Accepts, Arrives, Departs, Connected, Closes, Beat, At, Story}
use Rattle.spec_flow.specs.Guest.{Up, Came, Wrote, Ended, top, written, has_ended}
use Rattle.spec_flow.specs.Host.{Down, Got, GotEnd, Sent, Confirmed, Gave, got, got_end, sent, acked, answered, is_acceptable, not_past_sent}
use Rattle.spec_flow.specs.Flow.{their_number, is_closed, is_accepted, has_connected, syn_is_out, greets}
use Rattle.spec_flow.specs.Lawful.{IsPrefixOf}
use Rattle.spec_flow.proofs.Sides.{their_number_next}

-- ---- the guest's stream

pub top_grows : (u : Up) (past : List Up) → top past ≤ top (u ∷ past)
top_grows (Came n xs fin heeded) past = omega arith
top_grows _ past = omega arith

pub written_grows : (u : Up) (past : List Up) → IsPrefixOf (written past) (written (u ∷ past))
written_grows (Wrote xs n) past = (take n xs, refl)
written_grows _ past = ([], append-nil (written past))

pub has_ended_stays : (u : Up) (past : List Up) → has_ended past ≡ true → has_ended (u ∷ past) ≡ true
has_ended_stays Ended past is = refl
has_ended_stays _ past is = is

-- ---- the host's stream

pub got_grows : (d : Down) (past : List Down) → IsPrefixOf (got past) (got (d ∷ past))
got_grows (Got xs) past = (xs, refl)
got_grows _ past = ([], append-nil (got past))

pub got_end_stays : (d : Down) (past : List Down) → got_end past ≡ true → got_end (d ∷ past) ≡ true
got_end_stays GotEnd past is = refl
got_end_stays _ past is = is

pub sent_grows : (d : Down) (past : List Down) → sent past ≤ sent (d ∷ past)
sent_grows (Sent n xs fin) past = omega arith
sent_grows _ past = omega arith

if_max : (b : Bool) (a k : ℕ) → a ≤ (if b then max a k else a)
if_max true a k = omega arith
if_max false a k = omega arith

pub acked_grows : (d : Down) (past : List Down) → acked past ≤ acked (d ∷ past)
acked_grows (Confirmed n) past = if_max (not_past_sent past n) (acked past) _
acked_grows _ past = omega arith

or_true : (b : Bool) → (b || true) ≡ true
or_true true = refl
or_true false = refl

pub answered_stays : (d : Down) (past : List Down) → answered past ≡ true → answered (d ∷ past) ≡ true
answered_stays (Confirmed n) past is = rw is (or_true (is_acceptable past n))
answered_stays _ past is = is

pub gave_stays : (d : Down) (past : List Down) (i x : ℕ) → Gave past i x → Gave (d ∷ past) i x
gave_stays (Sent n xs fin) past i x g = inr g
gave_stays _ past i x g = g

-- ---- the flow

pub closed_stays : (b : Beat) (past : Story) → is_closed past ≡ true → is_closed (b ∷ past) ≡ true
closed_stays (At m (Closes directly ended known)) past is = refl
closed_stays (At m _) past is = is

pub accepted_stays : (b : Beat) (past : Story) → is_accepted past ≡ true → is_accepted (b ∷ past) ≡ true
accepted_stays (At m (Accepts ours)) past is = refl
accepted_stays (At m _) past is = is

pub connected_stays : (b : Beat) (past : Story) → has_connected past ≡ true → has_connected (b ∷ past) ≡ true
connected_stays (At m Connected) past is = refl
connected_stays (At m _) past is = is

pub syn_stays_out : (b : Beat) (past : Story) → syn_is_out past ≡ true → syn_is_out (b ∷ past) ≡ true
syn_stays_out (At m (Departs seg)) past is = rw is (or_true (seg.syn && not seg.rst))
syn_stays_out (At m _) past is = is

or_first : (o p : Option ℕ) (f : ℕ) → o ≡ Some f → option_or o p ≡ Some f
or_first None p f is = absurd cc
or_first (Some k) p f is = is

-- The guest's number doesn't change once it is known, in a flow that opens once.
pub their_number_stays : (m : ℕ) (seg : Segment) (past : Story) (f : ℕ) → their_number past ≡ Some f → their_number (At m (Arrives seg) ∷ past) ≡ Some f
their_number_stays m seg past f is = their_number_next m past seg ∙ or_first (their_number past) (if greets past seg then Some seg.number else None) f is

-- A flow that isn't in TIME-WAIT: one that is open, one that owes a reset, and one whose close or whose guest makes no TIME-WAIT.
use Rattle.std.proofs.Common.{refl, ◌≡◌, ℕ, ◌%◌, ◌^◌, ◌+◌, [], ◌∷◌, Bool, true, false, not, ◌&&◌, ◌||◌, Option, None, Some, if◌then◌else◌, arith, ap, sym, ◌∙◌}
use Rattle.seq_space.specs.Places.{number_of}
use Rattle.sock_buffers.specs.Downward.{Downward}
use Rattle.sock_buffers.specs.Upward.{Upward}
use Rattle.tcp_receive.specs.Received.{next_number}
use Rattle.tcp_connection.specs.Connection.{Connection}
use Rattle.spec_flow.specs.Settings.{Settings}
use Rattle.spec_flow.specs.Event.{Arrives, At, Closes, Departs, Segment, Story}
use Rattle.spec_flow.specs.Flow.{is_accepted, is_closed, next_number as number_after, our_number, syn_is_out}
use Rattle.spec_flow.specs.Close.{ends_time_wait, follows_reset, gives_up, must_part, waits_too_long, is_done, is_owed_reset, owes_reset, renewed, renews, in_time_wait_since}
use Rattle.sim_halves.proofs.Resets.{reset_is_fatal, turning_away_is_fatal}
use Rattle.sim_halves.proofs.Rests.{closes_for_good}
use Rattle.sim_connection.specs.Holding.{Holds, is_calls}
use Rattle.sim_connection.specs.Seen.{part_of}

-- ---- a segment arrives

-- it begins no TIME-WAIT
pub arrives_none : (past : Story) (m : ℕ) (seg : Segment) → in_time_wait_since past ≡ None → in_time_wait_since (At m (Arrives seg) ∷ past) ≡ None
arrives_none past m seg none = by (ends_time_wait past seg) (renews seg) (in_time_wait_since past) none
  where
    by : (a b : Bool) (o : Option ℕ) → o ≡ None → (if a then None else renewed b m o) ≡ None
    by true b o is = refl
    by false true o is = rw is refl
    by false false o is = rw is refl

-- or it ends the rest
pub ends_none : (past : Story) (m : ℕ) (seg : Segment) → ends_time_wait past seg ≡ true → in_time_wait_since (At m (Arrives seg) ∷ past) ≡ None
ends_none past m seg is = ap (λ (b : Bool). if b then None else renewed (renews seg) m (in_time_wait_since past)) is

-- ---- a flow that is open, or owes a reset

pub open_none : (past : Story) → is_closed past ≡ false → in_time_wait_since past ≡ None
open_none [] is = refl
open_none (At m (Closes directly ended known) ∷ past) is = absurd cc
open_none (At m (Arrives seg) ∷ past) is = arrives_none past m seg (open_none past is)
open_none (At m _ ∷ past) is = open_none past is

first_of : (a b : Bool) → (a && b) ≡ true → a ≡ true
first_of true b is = refl
first_of false b is = absurd cc

pub owing_none : (past : Story) → owes_reset past ≡ true → in_time_wait_since past ≡ None
owing_none [] is = refl
owing_none (At m (Closes directly ended known) ∷ past) is =
    closes_for_good past m directly ended known
    (by (is_done past) (follows_reset directly past) (must_part m past || (not ended && (gives_up m past || waits_too_long m past))) (not (is_accepted past && not (syn_is_out past))) is)
  where
    by : (a b d e : Bool) → (not a && not b && d && e) ≡ true → (a && not b) ≡ false
    by true b d e is = absurd cc
    by false b d e is = refl
owing_none (At m (Departs seg) ∷ past) is = owing_none past (first_of (owes_reset past) (not (is_owed_reset past seg)) is)
owing_none (At m (Arrives seg) ∷ past) is = arrives_none past m seg (owing_none past is)
owing_none (At m _ ∷ past) is = owing_none past is

-- ---- one that is closed

-- not both ends passed
pub undone_none : (past : Story) (m : ℕ) (directly ended known : Bool) → is_done past ≡ false → in_time_wait_since (At m (Closes directly ended known) ∷ past) ≡ None
undone_none past m directly ended known undone = closes_for_good past m directly ended known (ap (λ (b : Bool). b && not (follows_reset directly past)) undone)

-- the guest reset it
module _ (s : Settings) (c : Connection) (up : Upward) (down : Downward) (past : Story) (now m : ℕ) (known : Bool) (h : Holds s c up down past now) (seg : Segment) (rst : seg.rst ≡ true) where
  abbrev after : Story
  after = At m (Arrives seg) ∷ past

  fatal_none : follows_reset true after ≡ true → in_time_wait_since (At m (Closes true false known) ∷ after) ≡ None
  fatal_none fatal = closes_for_good after m true false known (by (is_done after) (follows_reset true after) fatal)
    where
      by : (a b : Bool) → b ≡ true → (a && not b) ≡ false
      by true b is = ap not is
      by false b is = refl

  -- at the number that is expected next
  pub next_reset_none : is_calls c.stage ≡ false → seg.number ≡ next_number c.received → in_time_wait_since (At m (Closes true false known) ∷ after) ≡ None
  next_reset_none reached number =
      let r = h.receives reached in
      let theirs = h.opened.theirs ∙ ap (λ (b : Bool). if b then None else Some c.received.first) reached in
      fatal_none (reset_is_fatal s m past seg rst (part_of c up) c.acknowledged theirs r.ends.at r.current number)

  -- or, of a guest that is called, where it acknowledges our SYN
  pub called_reset_none : is_calls c.stage ≡ true → seg.ack ≡ true → seg.acknowledgement ≡ number_of c.ours 0 → in_time_wait_since (At m (Closes true false known) ∷ after) ≡ None
  called_reset_none calls ack number =
      fatal_none (turning_away_is_fatal s m past seg rst (h.opened.theirs ∙ ap (λ (b : Bool). if b then None else Some c.received.first) calls) ack after_ours)
    where
      after_ours : seg.acknowledgement ≡ number_after (our_number past)
      after_ours = number ∙ ap (λ (n : ℕ). n % 2 ^ 32) (let more : c.ours + 1 + 0 ≡ c.ours + 1 = omega arith in more) ∙ ap (λ (f : ℕ). number_after f) (sym h.opened.ours)

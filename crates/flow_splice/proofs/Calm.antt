-- A segment of the guest that leaves a flow open isn't a reset that was fatal, unless an acknowledgement is owed.
use Rattle.std.proofs.Common.{refl, ◌≡◌, ℕ, ◌+◌, ◌^◌, ◌%◌, ◌∷◌, Bool, true, false, ◌&&◌, ◌||◌, Option, None, Some, if◌then◌else◌, nat_eq, IsTrue, arith, ap, sym, ◌∙◌, inl, inr, ◌⊎◌}
use Rattle.std.specs.Option.{option_map_or}
use Rattle.std.proofs.lemmas.Bool.Decides.{nat_tests}
use Rattle.seq_space.specs.Places.{number_of}
use Rattle.sock_buffers.specs.Downward.{Downward}
use Rattle.sock_buffers.specs.Upward.{Upward}
use Rattle.tcp_receive.specs.Received.{next_number}
use Rattle.tcp_segment.specs.Tcp.{Tcp}
use Rattle.tcp_connection.specs.Checks.{acknowledges_syn, is_rst, verdict_by, verdict_of}
use Rattle.tcp_connection.specs.Connection.{Connection}
use Rattle.tcp_connection.specs.Segments.{after_segment, conn_by}
use Rattle.tcp_connection.specs.declared.Stage.{Stage}
use Rattle.tcp_connection.specs.declared.Stage.TheVariants as stage
use Rattle.tcp_connection.specs.declared.Verdict.{Verdict}
use Rattle.tcp_connection.specs.declared.Verdict.TheVariants.{Resets}
use Rattle.spec_flow.specs.Settings.{Settings}
use Rattle.spec_flow.specs.Event.{Arrives, At, Segment, Story}
use Rattle.spec_flow.specs.Guest.{ack_is_due, ackd}
use Rattle.spec_flow.specs.Flow.{guest, next_number as number_after, our_number, their_number}
use Rattle.spec_flow.specs.Close.{follows_reset, is_fatal}
use Rattle.spec_flow.proofs.Sides.{their_first}
use Rattle.sim_halves.proofs.Due.{none_due}
use Rattle.sim_halves.proofs.Owing.{not_fatal}
use Rattle.sim_connection.specs.Holding.{Holds, is_calls}

-- a close that comes next doesn't follow a fatal reset, whether it comes directly or not
pub calm_either : (past : Story) (directly : Bool) → follows_reset true past ≡ false → follows_reset directly past ≡ false
calm_either past true calm = calm
calm_either past false calm = refl

-- a segment without RST is no reset
pub plain_calm : (past : Story) (m : ℕ) (seg : Segment) → seg.rst ≡ false → follows_reset true (At m (Arrives seg) ∷ past) ≡ false
plain_calm past m seg rst = ap (λ (b : Bool). option_map_or (is_fatal past) (if b then Some seg else None) false) rst

differs : (a b : ℕ) → (a ≡ b → ⊥) → nat_eq a b ≡ false
differs a b apart = by (nat_eq a b) refl
  where
    by : (e : Bool) → nat_eq a b ≡ e → e ≡ false
    by true is = let same : a ≡ b = grind (arith, nat_tests) in absurd (apart same)
    by false is = refl

module _ (s : Settings) (c : Connection) (up : Upward) (down : Downward) (past : Story) (now m : ℕ) (h : Holds s c up down past now) (seg : Segment) where
  -- One that isn't at the next number isn't fatal where no acknowledgement is owed: all that was taken is acknowledged.
  pub apart_calm : is_calls c.stage ≡ false → (seg.rst ≡ true → seg.number ≡ next_number c.received → ⊥) → c.ack_owed ≡ false → follows_reset true (At m (Arrives seg) ∷ past) ≡ false
  apart_calm reached apart unowed = by seg.rst refl
    where
      theirs : their_number past ≡ Some c.received.first
      theirs = h.opened.theirs ∙ ap (λ (b : Bool). if b then None else Some c.received.first) reached

      due_none : ack_is_due (guest past) ≡ false
      due_none = none_due (guest past) ((h.receives reached).due unowed)

      acked_at : number_of c.received.first (ackd (guest past)) ≡ c.acknowledged
      acked_at = ap (λ (f : ℕ). number_of f (ackd (guest past))) (sym (their_first past c.received.first theirs)) ∙ (h.receives reached).ends.at

      by_current : IsTrue (ack_is_due (guest past)) ⊎ (next_number c.received ≡ c.acknowledged) → next_number c.received ≡ c.acknowledged
      by_current (inl due) = let not_it = sym due ∙ due_none in absurd cc
      by_current (inr same) = same

      by : (b : Bool) → seg.rst ≡ b → follows_reset true (At m (Arrives seg) ∷ past) ≡ false
      by true rst =
          not_fatal past m seg true c.received.first c.acknowledged theirs acked_at
          (differs seg.number c.acknowledged (λ number. apart rst (number ∙ sym (by_current (h.receives reached).current)))) due_none
      by false rst = plain_calm past m seg rst

  -- one that doesn't acknowledge our SYN isn't fatal in a guest that is called
  pub called_calm : is_calls c.stage ≡ true → (seg.rst ≡ true → (seg.ack && nat_eq seg.acknowledgement (number_of c.ours 0)) ≡ false) → follows_reset true (At m (Arrives seg) ∷ past) ≡ false
  called_calm calls other = by seg.rst refl
    where
      after_ours : number_after (our_number past) ≡ number_of c.ours 0
      after_ours = ap (λ (n : ℕ). number_after n) h.opened.ours ∙ ap (λ (n : ℕ). n % 2 ^ 32) (let more : c.ours + 1 ≡ c.ours + 1 + 0 = omega arith in more)

      here : (o : Option ℕ) → o ≡ None → (seg.ack && nat_eq seg.acknowledgement (number_of c.ours 0)) ≡ false
          → (elim o [ None ↦ seg.ack && nat_eq seg.acknowledgement (number_after (our_number past)) | Some g ↦ nat_eq seg.number (number_of g (ackd (guest past))) || ack_is_due (guest past) ]) ≡ false
      here o none is = rw (none, after_ours) is

      by : (b : Bool) → seg.rst ≡ b → follows_reset true (At m (Arrives seg) ∷ past) ≡ false
      by true rst =
          ap (λ (b : Bool). option_map_or (is_fatal past) (if b then Some seg else None) false) rst
          ∙ here (their_number past) (h.opened.theirs ∙ ap (λ (b : Bool). if b then None else Some c.received.first) calls) (other rst)
      by false rst = plain_calm past m seg rst

-- a guest that is called and calls on didn't turn us away
pub waits_unturned : (c : Connection) (up : Upward) (down : Downward) (tcp : Tcp) (now : ℕ) → c.stage ≡ stage.SynSent → after_segment c up down tcp now ≡ c → is_rst tcp ≡ true →
    acknowledges_syn c tcp ≡ false
waits_unturned c up down tcp now at same rst = by (acknowledges_syn c tcp) refl
  where
    by : (b : Bool) → acknowledges_syn c tcp ≡ b → b ≡ false
    by true is =
        let resets : verdict_of c up tcp ≡ Resets = ap (λ (st : Stage). verdict_by st c up tcp) at ∙ rw (rst, is) refl in
        let gone : stage.Closed ≡ stage.SynSent = ap (λ (v : Verdict). (conn_by v c up down tcp now).stage) (sym resets) ∙ ap (λ (x : Connection). x.stage) same ∙ at in
        absurd cc
    by false is = refl

-- The socket is closed.
use Rattle.std.proofs.Common.{refl, ◌≡◌, ℕ, ◌∷◌, Bool, true, false, not, ◌&&◌, None, Some, if◌then◌else◌, nat_eq, arith, ap, subst, sym, ◌∙◌}
use Rattle.std.proofs.lemmas.Bool.Decides.{nat_tests}
use Rattle.tcp_receive.specs.Received.{next_number}
use Rattle.tcp_transmit.specs.Transmission.{is_sent}
use Rattle.tcp_connection.specs.Connection.{Connection, closes_first, has_gone, is_synchronized}
use Rattle.tcp_connection.specs.Hosts.{numbers_sent, over_by, reset, resets}
use Rattle.tcp_connection.specs.Segments.{is_done, settled, settling}
use Rattle.tcp_connection.specs.declared.Change.TheVariants.{Nothing, Finished}
use Rattle.tcp_connection.specs.declared.Stage.{Stage}
use Rattle.tcp_connection.specs.declared.Stage.TheVariants as stage
use Rattle.spec_flow.specs.Settings.{Settings}
use Rattle.spec_flow.specs.Event.{At, Closes, Story}
use Rattle.spec_flow.specs.Host.{answered}
use Rattle.spec_flow.specs.Flow.{host}
use Rattle.spec_flow.specs.Lawful.{HasOwnCause}
use Rattle.spec_flow.specs.Close.{is_done as is_done_by, newest_rst, in_time_wait_since}
use Rattle.sim_halves.proofs.Owing.{no_reset, unanswered_not_done}
use Rattle.sim_halves.proofs.Rests.{closes_to_time_wait}
use Rattle.sim_connection.specs.Holding.{Holds, is_calls, is_live}
use Rattle.sim_connection.specs.Over.{IsOver, IsInTimeWait, is_resets}
use Rattle.sim_connection.specs.Seen.{part_of}
use Rattle.sim_connection.proofs.Causes.{done_cause, done_goes, done_rests, settled_is}
use Rattle.flow_splice.specs.Hosts.{ends}
use Rattle.flow_splice.specs.Follows.{Follows, FollowsAt, IsOpen}
use Rattle.flow_splice.specs.Splice.{Splice, closed, is_in_use, is_open, place_after}
use Rattle.flow_splice.proofs.Restless.{undone_none}

-- a connection that is over and isn't in TIME-WAIT
pub over_follows : (s : Settings) (f : Splice) (past : Story) (now : ℕ) → IsOver s f.conn past now → (f.conn.stage ≡ stage.TimeWait → ⊥) → f.mru ≡ s.mru →
    (is_resets f.conn.stage ≡ true → f.mac ≡ None → ⊥)
    → (is_resets f.conn.stage ≡ false → in_time_wait_since past ≡ None) → Follows s (closed f now) past now
over_follows s f past now over awake mru known restless = by f.conn.stage refl
  where
    by : (st : Stage) → f.conn.stage ≡ st → FollowsAt (place_after st now) true s (closed f now) past now
    by stage.Connecting at = let not_it = sym (ap is_live at) ∙ over.over in absurd cc
    by stage.SynSent at = let not_it = sym (ap is_live at) ∙ over.over in absurd cc
    by stage.SynReceived at = let not_it = sym (ap is_live at) ∙ over.over in absurd cc
    by stage.Synchronized at = let not_it = sym (ap is_live at) ∙ over.over in absurd cc
    by stage.TimeWait at = absurd (awake at)
    by (stage.Resets seq ack) at = record { over = over; owes = ap is_resets at; mru = mru; known = known (ap is_resets at) }
    by stage.Closed at = record { over = over; owes_none = ap is_resets at; rests_none = restless (ap is_resets at) }

-- one that is in TIME-WAIT
pub rest_follows : (s : Settings) (f : Splice) (past : Story) (now : ℕ) → IsInTimeWait s f.conn f.up f.down past now now → f.mru ≡ s.mru → (f.mac ≡ None → ⊥) → Follows s (closed f now) past now
rest_follows s f past now time_waits mru known = subst (λ (st : Stage). FollowsAt (place_after st now) true s (closed f now) past now) (sym time_waits.at) (record { time_waits = time_waits; mru = mru; known = known })

-- a reset is owed to a guest that is known
reset_awake : (c : Connection) (st : Stage) → over_by st c ≡ stage.TimeWait → is_live st ≡ true → ⊥
reset_awake c stage.Connecting is live = cc
reset_awake c stage.SynSent is live = by (has_gone c.sendings) is
  where
    by : (b : Bool) → (if b then resets (numbers_sent c) 0 else stage.Closed) ≡ stage.TimeWait → ⊥
    by true is = cc
    by false is = cc
reset_awake c stage.SynReceived is live = cc
reset_awake c stage.Synchronized is live = cc
reset_awake c stage.TimeWait is live = cc
reset_awake c (stage.Resets seq ack) is live = cc
reset_awake c stage.Closed is live = cc

unsent_none : (c : Connection) (st : Stage) → is_calls st ≡ true → has_gone c.sendings ≡ false → is_resets (over_by st c) ≡ false
unsent_none c stage.Connecting calls unsent = absurd cc
unsent_none c stage.SynSent calls unsent = ap (λ (b : Bool). is_resets (if b then resets (numbers_sent c) 0 else stage.Closed)) unsent
unsent_none c stage.SynReceived calls unsent = absurd cc
unsent_none c stage.Synchronized calls unsent = absurd cc
unsent_none c stage.TimeWait calls unsent = absurd cc
unsent_none c (stage.Resets seq ack) calls unsent = absurd cc
unsent_none c stage.Closed calls unsent = absurd cc

-- our SYN isn't acknowledged where no reset is owed then
unanswered_by : (c : Connection) (st : Stage) → is_live st ≡ true → is_resets (over_by st c) ≡ false → is_synchronized st ≡ false
unanswered_by c stage.Connecting live none = refl
unanswered_by c stage.SynSent live none = refl
unanswered_by c stage.SynReceived live none = refl
unanswered_by c stage.Synchronized live none = absurd cc
unanswered_by c stage.TimeWait live none = absurd cc
unanswered_by c (stage.Resets seq ack) live none = absurd cc
unanswered_by c stage.Closed live none = absurd cc

-- the connection is reset, after a story in which our SYN is acknowledged as before
pub reset_follows : (s : Settings) (f : Splice) (past last : Story) (before now : ℕ) (directly ended known : Bool) → IsOpen s f past before → answered (host last) ≡ answered (host past)
    → IsOver s (reset f.conn) (At now (Closes directly ended known) ∷ last) now → Follows s (closed (record f { conn = reset f.conn }) now) (At now (Closes directly ended known) ∷ last) now
reset_follows s f past last before now directly ended known h same over =
    over_follows s (record f { conn = reset f.conn }) (At now (Closes directly ended known) ∷ last) now over (λ is. reset_awake f.conn f.conn.stage is h.holds.opened.live) h.mru
    (λ resets_is unknown. let two = h.unsent unknown in let not_it = sym resets_is ∙ unsent_none f.conn f.conn.stage two.0 two.1 in cc)
    (λ none. undone_none last now directly ended known (unanswered_not_done last (same ∙ h.holds.opened.answered ∙ unanswered_by f.conn f.conn.stage h.holds.opened.live none)))

-- ---- both ends passed

synchronized_reached : (st : Stage) → is_synchronized st ≡ true → is_calls st ≡ false
synchronized_reached stage.Connecting is = refl
synchronized_reached stage.SynSent is = absurd cc
synchronized_reached stage.SynReceived is = refl
synchronized_reached stage.Synchronized is = refl
synchronized_reached stage.TimeWait is = refl
synchronized_reached (stage.Resets seq ack) is = refl
synchronized_reached stage.Closed is = refl

first_of_four : (a b c d : Bool) → (a && b && c && d) ≡ true → a ≡ true
first_of_four true b c d is = refl
first_of_four false b c d is = absurd cc

last_of_four : (a b c d : Bool) → (a && b && c && d) ≡ true → d ≡ true
last_of_four true true true d is = is
last_of_four true true false d is = absurd cc
last_of_four true false c d is = absurd cc
last_of_four false b c d is = absurd cc

-- with this connection, which makes of itself that it is finished
pub done_follows : (s : Settings) (f : Splice) (x : Connection) (past : Story) (now : ℕ) (directly ended known : Bool) → Holds s x f.up f.down past now → is_done x ≡ true →
    newest_rst past ≡ None → f.mru ≡ s.mru
    → (f.mac ≡ None → is_calls x.stage ≡ true) → Follows s (closed (record f { conn = settled x }) now) (At now (Closes directly ended known) ∷ past) now
done_follows s f x past now directly ended known h done no_rst mru unknown =
    subst (λ (c : Connection). Follows s (closed (record f { conn = c }) now) (At now (Closes directly ended known) ∷ past) now)
    (sym (settled_is s x f.up f.down past now now (omega arith) h known done reached no_rst directly ended))
    (by (closes_first x) refl)
  where
    reached : is_calls x.stage ≡ false
    reached = synchronized_reached x.stage (first_of_four (is_synchronized x.stage) x.host_ended x.fin_acked x.end_acknowledged done)

    equal : (a b : ℕ) → b ≡ a → nat_eq a b ≡ true
    equal a b is = grind (arith, nat_tests)

    -- the host ended last
    last_none : (b : Bool) → is_done_by past ≡ b → closes_first x ≡ false → in_time_wait_since (At now (Closes directly ended known) ∷ past) ≡ None
    last_none false undone last = undone_none past now directly ended known undone
    last_none true both last =
        let r = h.receives reached in
        let taken = (r.sure (last_of_four (is_synchronized x.stage) x.host_ended x.fin_acked x.end_acknowledged done)).1 in
        let order : closes_first x ≡ x.ours_first = ap (λ (b : Bool). if b then x.ours_first else is_sent x.transmission.end) (equal (next_number x.received) x.acknowledged taken) in
        closes_to_time_wait past (part_of x f.up) x.end_acknowledged x.ours_first x.acknowledged now directly ended known r.ends both (no_reset past directly no_rst)
        ∙ ap (λ (b : Bool). if b then Some now else None) (sym order ∙ last)

    by : (b : Bool) → closes_first x ≡ b → Follows s (closed (record f { conn = if b then record x { stage = stage.TimeWait } else record x { stage = stage.Closed } }) now)
        (At now (Closes directly ended known) ∷ past) now
    by true first = record {
      time_waits = done_rests s x f.up f.down past now now (omega arith) h known done reached no_rst directly ended first;
      mru = mru;
      known = λ none. let not_it = sym (unknown none) ∙ reached in absurd cc;
    }
    by false last = record {
      over = done_goes s x f.up f.down past now now (omega arith) h known done reached no_rst directly ended;
      owes_none = refl;
      rests_none = last_none (is_done_by past) refl last;
    }

-- and then both ends passed, which is a cause whether the run is over or not
pub finished_cause : (s : Settings) (f : Splice) (x : Connection) (past : Story) (now : ℕ) (directly known : Bool) → Holds s x f.up f.down past now → is_done x ≡ true →
    newest_rst past ≡ None → HasOwnCause directly false known now past
finished_cause s f x past now directly known h done no_rst =
    done_cause s x f.up f.down past now now (omega arith) h known done
    (synchronized_reached x.stage (first_of_four (is_synchronized x.stage) x.host_ended x.fin_acked x.end_acknowledged done)) no_rst directly false

-- what a connection makes of itself is over where it says so
pub settled_over : (x : Connection) → ends (settling x) ≡ true → is_live (settled x).stage ≡ false
settled_over x is = by (is_done x) (closes_first x) is
  where
    by : (b d : Bool) → ends (if b then Finished else Nothing) ≡ true → is_live (if b then (if d then record x { stage = stage.TimeWait } else record x { stage = stage.Closed }) else x).stage ≡ false
    by true true is = refl
    by true false is = refl
    by false d is = absurd cc

-- and else it stays as it is
pub settled_same : (x : Connection) → is_done x ≡ false → settled x ≡ x
settled_same x is = ap (λ (b : Bool). if b then (if closes_first x then record x { stage = stage.TimeWait } else record x { stage = stage.Closed }) else x) is

-- a connection that was reset is over
pub reset_dead : (c : Connection) → is_live (reset c).stage ≡ false
reset_dead c = by c.stage
  where
    by : (st : Stage) → is_live (over_by st c) ≡ false
    by stage.Connecting = refl
    by stage.SynSent = if_gone (has_gone c.sendings)
      where
        if_gone : (b : Bool) → is_live (if b then resets (numbers_sent c) 0 else stage.Closed) ≡ false
        if_gone true = refl
        if_gone false = refl
    by stage.SynReceived = refl
    by stage.Synchronized = refl
    by stage.TimeWait = refl
    by (stage.Resets seq ack) = refl
    by stage.Closed = refl

-- what is closed isn't open
pub shut_is : (f : Splice) (now : ℕ) → is_open (closed f now) ≡ true → ⊥
shut_is f now is = by (is_in_use (place_after f.conn.stage now)) is
  where
    by : (b : Bool) → (b && not true) ≡ true → ⊥
    by true is = cc
    by false is = cc

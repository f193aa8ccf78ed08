-- A flow in TIME-WAIT: its connection stays in TIME-WAIT, and it only acknowledges.
use Rattle.std.proofs.Common.{refl, ◌≡◌, ℕ, List, Bool, true, false, not, ◌&&◌, ◌||◌, nat_eq, nat_lt, Option, None, Some, unwrap_or, if◌then◌else◌, ap, subst, sym, ◌∙◌, inl, inr}
use Rattle.sock_buffers.specs.Downward.{Downward}
use Rattle.sock_buffers.specs.Upward.{Upward}
use Rattle.tcp_segment.specs.Tcp.{Tcp}
use Rattle.tcp_receive.specs.Received.{next_number}
use Rattle.tcp_transmit.specs.Timing.{watched}
use Rattle.tcp_transmit.specs.declared.End.TheVariants as our_end
use Rattle.tcp_connection.specs.Checks.{is_ack, is_in_window, is_next, is_rst, is_syn, verdict_by}
use Rattle.tcp_connection.specs.Connection.{Connection, closes_first, is_syn_received, is_synchronized}
use Rattle.tcp_connection.specs.Hosts.{after_news, connected_by, host_ended, is_open as is_open_end, over_by, write_ended}
use Rattle.tcp_connection.specs.Owing.{ack_if, after_gone, change_gone, owed_by, owed_of, told}
use Rattle.tcp_connection.specs.Segments.{after_segment, arrived, conn_by, established, heard, heeded, is_done, is_past, opened, settled}
use Rattle.tcp_connection.specs.Timing.{after_tick, due_by, expired, is_due}
use Rattle.tcp_connection.specs.Windows.{our_shift}
use Rattle.tcp_connection.specs.declared.Change.{Change}
use Rattle.tcp_connection.specs.declared.Change.TheVariants.{Nothing, Finished}
use Rattle.tcp_connection.specs.declared.HostNews.{HostNews}
use Rattle.tcp_connection.specs.declared.HostNews.TheVariants.{Connected, Refused, Ended, WriteEnded, Failed as HostFailed}
use Rattle.tcp_connection.specs.declared.Owed.{Owed}
use Rattle.tcp_connection.specs.declared.Owed.TheVariants.{Ack}
use Rattle.tcp_connection.specs.declared.Stage.{Stage}
use Rattle.tcp_connection.specs.declared.Stage.TheVariants as stage
use Rattle.tcp_connection.specs.declared.Verdict.TheVariants.{Ignored, Resets, Challenged, Heeded}
use Rattle.world_face.specs.Journal.{Entry}
use Rattle.stream_netdev.specs.declared.Offered.{Offered}
use Rattle.stream_netdev.specs.declared.Offered.TheVariants.{Taken, Blocked, Failed}
use Rattle.flow_splice.specs.Guests.{ends_time_wait}
use Rattle.flow_splice.specs.Hosts.{IsRead, Sees, ends}
use Rattle.flow_splice.specs.Sends.{Acknowledges, Marks, asks_now, takes_part, takes_part_at, went_out}
use Rattle.flow_splice.specs.Splice.{Splice, is_in_time_wait, is_in_use, is_open, is_time_wait, place_after, is_time_wait_by}
use Rattle.flow_splice.specs.declared.Place.{Place}
use Rattle.flow_splice.specs.declared.Place.TheVariants.{Empty, InUse, InTimeWait}
use Rattle.flow_splice.proofs.Shutting.{settled_same}

time_wait_is : (st : Stage) → is_time_wait st ≡ true → st ≡ stage.TimeWait
time_wait_is stage.Connecting is = absurd cc
time_wait_is stage.SynSent is = absurd cc
time_wait_is stage.SynReceived is = absurd cc
time_wait_is stage.Synchronized is = absurd cc
time_wait_is stage.TimeWait is = refl
time_wait_is (stage.Resets seq ack) is = absurd cc
time_wait_is stage.Closed is = absurd cc

-- where a flow is in TIME-WAIT its connection is in TIME-WAIT
pub rests_stage : (p : Place) (st : Stage) → is_time_wait_by p st ≡ true → is_in_time_wait p ≡ true → st ≡ stage.TimeWait
rests_stage Empty st time_waits in_time_wait = absurd cc
rests_stage InUse st time_waits in_time_wait = absurd cc
rests_stage (InTimeWait since) st time_waits in_time_wait = time_wait_is st time_waits

-- and it is so after a change that keeps that stage
pub rests_on : (p : Place) (old new : Stage) → is_time_wait_by p old ≡ true → (is_in_time_wait p ≡ true → old ≡ stage.TimeWait → new ≡ stage.TimeWait) → is_time_wait_by p new ≡ true
rests_on Empty old new time_waits on = refl
rests_on InUse old new time_waits on = refl
rests_on (InTimeWait since) old new time_waits on = ap is_time_wait (on refl (time_wait_is old time_waits))

-- a flow that is closed stands where its connection says
pub closed_rests : (st : Stage) (now : ℕ) → is_time_wait_by (place_after st now) st ≡ true
closed_rests stage.Connecting now = refl
closed_rests stage.SynSent now = refl
closed_rests stage.SynReceived now = refl
closed_rests stage.Synchronized now = refl
closed_rests stage.TimeWait now = refl
closed_rests (stage.Resets seq ack) now = refl
closed_rests stage.Closed now = refl

-- ---- what keeps the stage

not_done : (c : Connection) → c.stage ≡ stage.TimeWait → is_done c ≡ false
not_done c at = ap (λ (st : Stage). is_synchronized st && c.host_ended && c.fin_acked && c.end_acknowledged) at

settled_rests : (c : Connection) → c.stage ≡ stage.TimeWait → (settled c).stage ≡ stage.TimeWait
settled_rests c at = ap (λ (x : Connection). x.stage) (settled_same c (not_done c at)) ∙ at

ended_stage : (c : Connection) (now : ℕ) → (host_ended c now).stage ≡ c.stage
ended_stage c now = by (is_open_end c.transmission.end)
  where
    by : (b : Bool) → (if b then record c { transmission = watched (record c.transmission { end = our_end.Unsent }) true now } else c).stage ≡ c.stage
    by true = refl
    by false = refl

-- news of the host
pub news_rests : (news : HostNews) (c : Connection) (now : ℕ) → c.stage ≡ stage.TimeWait → (after_news news c now).stage ≡ stage.TimeWait
news_rests Connected c now at = ap (λ (st : Stage). (connected_by st c).stage) at ∙ at
news_rests Refused c now at = ap (λ (st : Stage). over_by st c) at
news_rests Ended c now at = ended_stage c now ∙ at
news_rests WriteEnded c now at = settled_rests (write_ended c) at
news_rests HostFailed c now at = ap (λ (st : Stage). over_by st c) at

-- its time
pub tick_rests : (c : Connection) (now : ℕ) → c.stage ≡ stage.TimeWait → (after_tick c now).stage ≡ stage.TimeWait
tick_rests c now at = ap (λ (st : Stage). (if is_due (due_by st c) now then expired c else c).stage) at ∙ at

-- octets of the host
pub read_rests : (b : Bool) (c : Connection) (down : Downward) (octets : List ℕ) (now : ℕ) (new : Connection) (new_down : Downward) → IsRead b c down octets now new new_down → new.stage ≡ c.stage
read_rests true c down octets now new new_down is = ap (λ (x : Connection). x.stage) is.0
read_rests false c down octets now new new_down is = ap (λ (x : Connection). x.stage) is.0

-- a segment that doesn't end the rest
module _ (c : Connection) (up : Upward) (down : Downward) (tcp : Tcp) (now : ℕ) (at : c.stage ≡ stage.TimeWait) where
  heard_rests : (heard c down tcp now).stage ≡ stage.TimeWait
  heard_rests = ap (λ (st : Stage). (if is_syn_received st then established c else c).stage) at ∙ at

  heeded_rests : (heeded c up down tcp now).stage ≡ stage.TimeWait
  heeded_rests = by (is_past (opened c) down tcp)
    where
      by : (b : Bool) → (if b then heard c down tcp now else settled (arrived (heard c down tcp now) up tcp)).stage ≡ stage.TimeWait
      by true = heard_rests
      by false = settled_rests (arrived (heard c down tcp now) up tcp) heard_rests

  pub segment_rests : ends_time_wait c tcp ≡ false → (after_segment c up down tcp now).stage ≡ stage.TimeWait
  segment_rests goes_on =
      ap (λ (st : Stage). (conn_by (verdict_by st c up tcp) c up down tcp now).stage) at
      ∙ by (is_rst tcp) (is_next c tcp) (is_in_window c up tcp) (is_syn tcp) (is_ack tcp) (no_reset (is_rst tcp && nat_eq tcp.seq (next_number c.received)) _ goes_on)
    where
      no_reset : (a b : Bool) → (a || b) ≡ false → a ≡ false
      no_reset true b is = absurd cc
      no_reset false b is = refl

      by : (r n w s a : Bool) → (r && n) ≡ false → (conn_by (if r then (if n then Resets else (if w then Challenged else Ignored)) else
          (if s then Challenged else (if a then Heeded else Ignored))) c up down tcp now).stage ≡ stage.TimeWait
      by true true w s a none = absurd cc
      by true false true s a none = at
      by true false false s a none = at
      by false n w true a none = at
      by false n w false true none = heeded_rests
      by false n w false false none = at

-- ---- what is owed and goes out

-- nothing but an acknowledgement
only_acknowledges : (c : Connection) (up : Upward) (down : Downward) (what : Owed) → c.stage ≡ stage.TimeWait → owed_of c up down ≡ Some what → what ≡ Ack
only_acknowledges c up down what at owed = by c.ack_owed (sym (ap (λ (st : Stage). owed_by st c up down) at) ∙ owed)
  where
    by : (b : Bool) → ack_if b ≡ Some what → what ≡ Ack
    by true is = sym (ap (λ (o : Option Owed). unwrap_or o Ack) is)
    by false is = absurd cc

pub gone_rests : (c : Connection) (up : Upward) (down : Downward) (what : Owed) (now : ℕ) → owed_of c up down ≡ Some what → c.stage ≡ stage.TimeWait → (after_gone what c up now).stage ≡ stage.TimeWait
gone_rests c up down what now owed at =
    subst (λ (o : Owed). (after_gone o c up now).stage ≡ stage.TimeWait) (sym (only_acknowledges c up down what at owed)) (settled_rests (told c up (our_shift c)) at)

-- that ends nothing
ends_none : (c : Connection) (up : Upward) (now : ℕ) → c.stage ≡ stage.TimeWait → change_gone Ack c up now ≡ Nothing
ends_none c up now at = ap (λ (b : Bool). if b then Finished else Nothing) (not_done (told c up (our_shift c)) at)

-- and is paid with it
settled_owes : (c : Connection) → (settled c).ack_owed ≡ c.ack_owed
settled_owes c = by (is_done c) (closes_first c)
  where
    by : (b d : Bool) → (if b then (if d then record c { stage = stage.TimeWait } else record c { stage = stage.Closed }) else c).ack_owed ≡ c.ack_owed
    by true true = refl
    by true false = refl
    by false d = refl

paid : (c : Connection) (up : Upward) (now : ℕ) → (after_gone Ack c up now).ack_owed ≡ false
paid c up now = settled_owes (told c up (our_shift c))

owed_is : (p : Place) (o : Option Owed) (what : Owed) → takes_part_at p o ≡ Some what → o ≡ Some what
owed_is Empty o what is = absurd cc
owed_is InUse o what is = is
owed_is (InTimeWait since) o what is = is

-- one segment
pub marks_acknowledge : (o : Offered) (what : Owed) (f new : Splice) (now : ℕ) (made : List Entry) → is_time_wait_by f.place f.conn.stage ≡ true → takes_part f
    (owed_of f.conn f.up f.down) ≡ Some what → Marks o what f new now made
    → is_in_time_wait f.place ≡ true → Acknowledges f new now
marks_acknowledge o what f new now made time_waits owed marks in_time_wait =
    by o (subst (λ (w : Owed). Marks o w f new now made) (only_acknowledges f.conn f.up f.down what at (owed_is f.place (owed_of f.conn f.up f.down) what owed)) marks)
  where
    at : f.conn.stage ≡ stage.TimeWait
    at = rests_stage f.place f.conn.stage time_waits in_time_wait

    by : (o : Offered) → Marks o Ack f new now made → Acknowledges f new now
    by Taken goes = inr ((subst (λ (change : Change). Sees (ends change) (went_out f Ack now) new now made) (ends_none f.conn f.up now at) goes).1)
    by Blocked stays = inl stays.1
    by Failed stays = inl stays.1

-- and no second one
pub acknowledges_once : (old mid new : Splice) (now : ℕ) (what : Owed) → is_time_wait_by mid.place mid.conn.stage ≡ true → takes_part mid (owed_of mid.conn mid.up mid.down) ≡ Some what →
    (is_in_time_wait old.place ≡ true → Acknowledges old mid now)
    → (is_in_time_wait mid.place ≡ true → Acknowledges mid new now) → is_in_time_wait old.place ≡ true → Acknowledges old new now
acknowledges_once old mid new now what time_waits owed before next in_time_wait = elim (before in_time_wait) [
  | inl same ↦ subst (λ (x : Splice). Acknowledges x new now) same (next (ap (λ (x : Splice). is_in_time_wait x.place) same ∙ in_time_wait))
  | inr gone ↦ absurd (none_more gone)
]
  where
    none_more : mid ≡ went_out old Ack now → ⊥
    none_more gone =
        let at : mid.conn.stage ≡ stage.TimeWait = rests_stage mid.place mid.conn.stage time_waits (ap (λ (x : Splice). is_in_time_wait x.place) gone ∙ in_time_wait) in
        let paid_then : mid.conn.ack_owed ≡ false = ap (λ (x : Splice). x.conn.ack_owed) gone ∙ paid old.conn old.up now in
        let none : owed_of mid.conn mid.up mid.down ≡ None = ap (λ (st : Stage). owed_by st mid.conn mid.up mid.down) at ∙ ap ack_if paid_then in
        let never : None ≡ Some what = sym none ∙ owed_is mid.place (owed_of mid.conn mid.up mid.down) what owed in cc

-- one that is open isn't in TIME-WAIT
pub open_awake : (f : Splice) → is_open f ≡ true → is_in_time_wait f.place ≡ true → ⊥
open_awake f is_open_yet in_time_wait = by f.place is_open_yet in_time_wait
  where
    by : (p : Place) → (is_in_use p && not f.shut) ≡ true → is_in_time_wait p ≡ true → ⊥
    by Empty open_yet in_time_wait = cc
    by InUse open_yet in_time_wait = cc
    by (InTimeWait since) open_yet in_time_wait = cc

-- nothing is asked for in TIME-WAIT
pub asks_none : (f : Splice) → is_in_time_wait f.place ≡ true → asks_now f ≡ true → ⊥
asks_none f in_time_wait asks = by f.place in_time_wait asks
  where
    by : (p : Place) → is_in_time_wait p ≡ true → ((is_in_use p && not f.shut) && nat_lt f.asked 9 && f.asks) ≡ true → ⊥
    by Empty in_time_wait asks = cc
    by InUse in_time_wait asks = cc
    by (InTimeWait since) in_time_wait asks = cc

-- A flow whose socket is open goes on to follow its story.
use Rattle.std.proofs.Common.{refl, ◌≡◌, ℕ, ◌≤◌, ◌∷◌, Bool, true, false, not, ◌&&◌, None, List, if◌then◌else◌, arith, ap, ◌∙◌}
use Rattle.sock_buffers.specs.Downward.{Downward}
use Rattle.sock_buffers.specs.Upward.{Upward}
use Rattle.tcp_connection.specs.Connection.{Connection, has_gone}
use Rattle.tcp_connection.specs.Segments.{is_done}
use Rattle.spec_flow.specs.Settings.{Settings}
use Rattle.spec_flow.specs.Event.{Accepts, At, Connects, Departs, Event, Opens, Story}
use Rattle.spec_flow.specs.Flow.{add_if, is_accepted, newest_of, opened_at, syn_sendings}
use Rattle.spec_flow.specs.Close.{follows_reset, host_was_ended, is_alive}
use Rattle.sim_connection.specs.Holding.{Holds, is_calls}
use Rattle.sim_connection.specs.Over.{IsOver, IsInTimeWait, Runs}
use Rattle.sim_connection.proofs.Quiet.{holds_later}
use Rattle.sim_connection.proofs.Resolving.{asked_before, resolves_on}
use Rattle.flow_splice.specs.Follows.{Follows, FollowsAt, IsAsking, IsOpen}
use Rattle.flow_splice.specs.Splice.{Splice, is_in_use, is_open}
use Rattle.flow_splice.specs.declared.Place.{Place}
use Rattle.flow_splice.specs.declared.Place.TheVariants.{Empty, InUse, InTimeWait}

-- ---- where it stands

pub open_is : (s : Settings) (f : Splice) (past : Story) (now : ℕ) → is_open f ≡ true → Follows s f past now → IsOpen s f past now
open_is s f past now is h = by f.place f.shut is h
  where
    by : (p : Place) (b : Bool) → (is_in_use p && not b) ≡ true → FollowsAt p b s f past now → IsOpen s f past now
    by Empty b is h = absurd cc
    by InUse true is h = absurd cc
    by InUse false is h = h
    by (InTimeWait since) b is h = absurd cc

pub open_follows : (s : Settings) (f : Splice) (past : Story) (now : ℕ) → is_open f ≡ true → IsOpen s f past now → Follows s f past now
open_follows s f past now is h = by f.place f.shut is
  where
    by : (p : Place) (b : Bool) → (is_in_use p && not b) ≡ true → FollowsAt p b s f past now
    by Empty b is = absurd cc
    by InUse true is = absurd cc
    by InUse false is = h
    by (InTimeWait since) b is = absurd cc

-- ---- time passes

pub runs_later : (s : Settings) (past : Story) (now m : ℕ) → now ≤ m → Runs s past now → Runs s past m
runs_later s past now m on r = record { story = r.story; moment = let low = r.moment in omega (arith, low, on); lawful = r.lawful; dutiful = r.dutiful }

-- a request that is owed stays so
pub asks_later : (asks : Bool) (asked at now m : ℕ) → now ≤ m → IsAsking asks asked at now → IsAsking asks asked at m
asks_later true asked at now m on is = (is.0, λ some. let low = is.1 some in omega (arith, low, on))
asks_later false asked at now m on is = is

pub over_later : (s : Settings) (c : Connection) (past : Story) (now m : ℕ) → now ≤ m → IsOver s c past now → IsOver s c past m
over_later s c past now m on h = record { runs = runs_later s past now m on h.runs; closed = h.closed; well = h.well; over = h.over; owes = h.owes; pays = h.pays; came = h.came }

pub resting_later : (s : Settings) (c : Connection) (up : Upward) (down : Downward) (past : Story) (now m since : ℕ) → now ≤ m → IsInTimeWait s c up down past now since →
    IsInTimeWait s c up down past m since
resting_later s c up down past now m since on h = record {
  over = over_later s c past now m on h.over;
  at = h.at;
  begun = h.begun;
  theirs = h.theirs;
  out = h.out;
  shift = h.shift;
  follows = h.follows;
  ends = h.ends;
  next = h.next;
  ended = h.ended;
  fin_out = h.fin_out;
  first = h.first;
  sent = h.sent;
  granted = h.granted;
  prompted = h.prompted;
  answered = h.answered;
}

pub open_later : (s : Settings) (f : Splice) (past : Story) (now m : ℕ) → now ≤ m → IsOpen s f past now → IsOpen s f past m
open_later s f past now m on h = record {
  holds = holds_later s f.conn f.up f.down past now m on h.holds;
  mru = h.mru;
  since = h.since;
  accepted = h.accepted;
  last = h.last;
  called = h.called;
  told = h.told;
  unfinished = h.unfinished;
  unsent = h.unsent;
  resolves = h.resolves;
  asks = λ unknown. asks_later f.asks f.asked f.ask_at now m on (h.asks unknown);
  calm = h.calm;
}

pub follows_later : (s : Settings) (f : Splice) (past : Story) (now m : ℕ) → now ≤ m → Follows s f past now → Follows s f past m
follows_later s f past now m on h = by f.place f.shut h
  where
    by : (p : Place) (b : Bool) → FollowsAt p b s f past now → FollowsAt p b s f past m
    by Empty b h = record { over = over_later s f.conn past now m on h.over; owes_none = h.owes_none; rests_none = h.rests_none }
    by InUse true h = record { over = over_later s f.conn past now m on h.over; owes = h.owes; mru = h.mru; known = h.known }
    by InUse false h = open_later s f past now m on h
    by (InTimeWait since) b h = record { time_waits = resting_later s f.conn f.up f.down past now m since on h.time_waits; mru = h.mru; known = h.known }

-- ---- an event

pub opened_still : (past : Story) (m : ℕ) (e : Event) → (Opens e → ⊥) → opened_at (At m e ∷ past) ≡ opened_at past
opened_still past m (Connects ours syn) none = absurd (none tt)
opened_still past m (Accepts ours) none = absurd (none tt)
opened_still past m _ none = refl

accepted_still : (past : Story) (m : ℕ) (e : Event) → (Opens e → ⊥) → is_accepted (At m e ∷ past) ≡ is_accepted past
accepted_still past m (Connects ours syn) none = absurd (none tt)
accepted_still past m (Accepts ours) none = absurd (none tt)
accepted_still past m _ none = refl

-- when our SYN went out last
abbrev pub called_after : Event → (now called : ℕ) → ℕ
called_after (Departs seg) now called = if seg.syn && not seg.rst then now else called
called_after _ now called = called

called_is : (past : Story) (m : ℕ) (e : Event) → newest_of (syn_sendings (At m e ∷ past)) ≡ called_after e m (newest_of (syn_sendings past))
called_is past m (Departs seg) = by (seg.syn && not seg.rst) (syn_sendings past)
  where
    by : (b : Bool) (ms : List ℕ) → newest_of (add_if b m ms) ≡ (if b then m else newest_of ms)
    by true ms = refl
    by false ms = refl
called_is past m _ = refl

-- one after which the connection holds, and whether our SYN is to go out is as before
pub goes_on : (s : Settings) (f : Splice) (c : Connection) (up : Upward) (down : Downward) (told : Bool) (past : Story)
    (before now : ℕ) (e : Event) → before ≤ now → (Opens e → ⊥) → IsOpen s f past before
    → Holds s c up down (At now e ∷ past) now → host_was_ended (At now e ∷ past) ≡ told → is_done c ≡ false
    → (f.mac ≡ None → (is_calls c.stage ≡ true) × (has_gone c.sendings ≡ false)) → (c.ack_owed ≡ false → follows_reset true (At now e ∷ past) ≡ false)
    → IsOpen s (record f {
      conn = c;
      up = up;
      down = down;
      told_end = told;
      last = if is_alive e then now else f.last;
      called = called_after e now f.called;
    }) (At now e ∷ past) now
goes_on s f c up down told past before now e on none h holds told_is unfinished unsent calm = record {
  holds = holds;
  mru = h.mru;
  since = opened_still past now e none ∙ h.since;
  accepted = accepted_still past now e none ∙ h.accepted;
  last = ap (λ (n : ℕ). if is_alive e then now else n) h.last;
  called = called_is past now e ∙ ap (λ (n : ℕ). called_after e now n) h.called;
  told = told_is;
  unfinished = unfinished;
  unsent = unsent;
  resolves = λ unknown some. resolves_on now e past f.asked f.ask_at none (asked_before now e past holds.goes.story) (h.resolves unknown some);
  asks = λ unknown. asks_later f.asks f.asked f.ask_at before now on (h.asks unknown);
  calm = calm;
}

-- A flow that is spliced, against its story.
use Rattle.std.specs.Prelude.{◌≡◌, ℕ, ◌<◌, ◌≤◌, Bool, true, false, None}
use Rattle.tcp_connection.specs.Connection.{has_gone}
use Rattle.tcp_connection.specs.Segments.{is_done}
use Rattle.spec_flow.specs.Settings.{Settings}
use Rattle.spec_flow.specs.Event.{Story}
use Rattle.spec_flow.specs.Flow.{is_accepted, newest_of, opened_at, syn_sendings}
use Rattle.spec_flow.specs.Close.{follows_reset, host_was_ended, last_at, in_time_wait_since}
use Rattle.sim_halves.specs.Resends.{Resolves}
use Rattle.sim_connection.specs.Holding.{Holds, is_calls}
use Rattle.sim_connection.specs.Over.{IsOver, IsInTimeWait, is_resets}
use Rattle.flow_splice.specs.Splice.{Splice}
use Rattle.flow_splice.specs.declared.Place.{Place}
use Rattle.flow_splice.specs.declared.Place.TheVariants.{Empty, InUse, InTimeWait}

-- A request for the guest's hardware address is owed: fewer than nine went out, and the wait for an answer to the last is over. Else one went out.
abbrev pub IsAsking : (asks : Bool) → (asked at now : ℕ) → Type 0
IsAsking true asked at now = (asked < 9) × (0 < asked → at ≤ now)
IsAsking false asked at now = 0 < asked

-- Its socket is open: the connection and its buffers follow the story. As long as the guest's hardware address isn't known our SYN isn't out, and
-- the address was asked for so often, and is to be asked for again. Not both ends passed. Where no acknowledgement is owed, a close that came next wouldn't follow a reset of the
-- guest that was fatal.
pub record IsOpen (s : Settings) (f : Splice) (past : Story) (now : ℕ) : Type 0 where
  pub holds : Holds s f.conn f.up f.down past now
  pub mru : f.mru ≡ s.mru
  pub since : opened_at past ≡ f.since
  pub accepted : is_accepted past ≡ f.accepted
  pub last : last_at past ≡ f.last
  pub called : newest_of (syn_sendings past) ≡ f.called
  pub told : host_was_ended past ≡ f.told_end
  pub unfinished : is_done f.conn ≡ false
  pub unsent : f.mac ≡ None → (is_calls f.conn.stage ≡ true) × (has_gone f.conn.sendings ≡ false)
  pub resolves : f.mac ≡ None → 0 < f.asked → Resolves past f.asked f.ask_at
  pub asks : f.mac ≡ None → IsAsking f.asks f.asked f.ask_at now
  pub calm : f.conn.ack_owed ≡ false → follows_reset true past ≡ false

-- Its socket was closed, and it owes a guest that it knows a reset.
pub record IsOwing (s : Settings) (f : Splice) (past : Story) (now : ℕ) : Type 0 where
  pub over : IsOver s f.conn past now
  pub owes : is_resets f.conn.stage ≡ true
  pub mru : f.mru ≡ s.mru
  pub known : f.mac ≡ None → ⊥

-- Its socket was closed, it owes none, and it isn't in TIME-WAIT: it never was, or a segment ended its TIME-WAIT.
pub record IsFree (s : Settings) (f : Splice) (past : Story) (now : ℕ) : Type 0 where
  pub over : IsOver s f.conn past now
  pub owes_none : is_resets f.conn.stage ≡ false
  pub rests_none : in_time_wait_since past ≡ None

-- It is in TIME-WAIT, since a moment.
pub record FollowsInTimeWait (s : Settings) (f : Splice) (past : Story) (now since : ℕ) : Type 0 where
  pub time_waits : IsInTimeWait s f.conn f.up f.down past now since
  pub mru : f.mru ≡ s.mru
  pub known : f.mac ≡ None → ⊥

-- in use: its socket is open; or it is closed, and a reset is owed
abbrev pub FollowsInUse : Bool → Settings → Splice → Story → ℕ → Type 0
FollowsInUse false s f past now = IsOpen s f past now
FollowsInUse true s f past now = IsOwing s f past now

-- by where the flow stands: free, in use, or in TIME-WAIT since a moment
abbrev pub FollowsAt : Place → Bool → Settings → Splice → Story → ℕ → Type 0
FollowsAt Empty shut s f past now = IsFree s f past now
FollowsAt InUse shut s f past now = FollowsInUse shut s f past now
FollowsAt (InTimeWait since) shut s f past now = FollowsInTimeWait s f past now since

-- The flow follows its story at a moment.
abbrev pub Follows : Settings → Splice → Story → ℕ → Type 0
Follows s f past now = FollowsAt f.place f.shut s f past now

-- A connection that is over, against the story of its flow.
use Rattle.std.specs.Prelude.{◌||◌, ◌≡◌, ℕ, ◌≤◌, Bool, true, false, Some}
use Rattle.seq_space.specs.declared.Seq.{Seq}
use Rattle.sock_buffers.specs.Downward.{Downward}
use Rattle.sock_buffers.specs.Upward.{Upward}
use Rattle.tcp_receive.specs.Received.{next_number}
use Rattle.tcp_transmit.specs.Transmission.{is_sent}
use Rattle.spec_flow.specs.Host.{our_first, sent}
use Rattle.tcp_connection.specs.Connection.{Connection}
use Rattle.tcp_connection.specs.Windows.{our_shift}
use Rattle.tcp_connection.specs.declared.Stage.{Stage}
use Rattle.tcp_connection.specs.declared.Stage.TheVariants as stage
use Rattle.spec_flow.specs.Settings.{Settings}
use Rattle.spec_flow.specs.Event.{IsStory, Segment, Story, newest_moment}
use Rattle.spec_flow.specs.Flow.{guest, has_connected, host, is_accepted, is_closed, syn_is_out, their_number}
use Rattle.spec_flow.specs.Windows.{our_shift as shift_told}
use Rattle.spec_flow.specs.Close.{fin_is_out, host_failed, is_owed_reset, owes_reset, in_time_wait_since}
use Rattle.spec_flow.specs.Lawful.{HasNumberThatCame, IsLawful, is_prompted}
use Rattle.spec_flow.specs.Dutiful.{IsDutiful, fin_is_answered}
use Rattle.sim_halves.specs.Ends.{Ends}
use Rattle.sim_halves.specs.Follows.{Follows}
use Rattle.sim_connection.specs.Holding.{is_live}
use Rattle.sim_connection.specs.Seen.{part_of}

-- whatever was done was lawful, and as it must be
pub record Runs (s : Settings) (past : Story) (now : ℕ) : Type 0 where
  pub story : IsStory past
  pub moment : newest_moment past ≤ now
  pub lawful : IsLawful s past
  pub dutiful : IsDutiful s past

-- a reset is owed
abbrev pub is_resets : Stage → Bool
is_resets stage.Connecting = false
is_resets stage.SynSent = false
is_resets stage.SynReceived = false
is_resets stage.Synchronized = false
is_resets stage.TimeWait = false
is_resets (stage.Resets seq ack) = true
is_resets stage.Closed = false

-- a reset with these numbers is the one that is owed
abbrev pub Pays : Story → (seq ack : ℕ) → Type 0
Pays past seq ack = (seg : Segment) → seg.rst ≡ true → seg.ack ≡ true → seg.syn ≡ false → seg.fin ≡ false → seg.number ≡ seq → seg.acknowledgement ≡ ack → is_owed_reset past seg ≡ true

-- The socket was closed, and the flow owes a reset exactly where the connection does, one that acknowledges what came.
pub record IsOver (s : Settings) (c : Connection) (past : Story) (now : ℕ) : Type 0 where
  pub runs : Runs s past now
  pub closed : is_closed past ≡ true
  pub well : host_failed past ≡ false
  pub over : is_live c.stage ≡ false
  pub owes : owes_reset past ≡ is_resets c.stage
  pub pays : (seq ack : Seq) → c.stage ≡ stage.Resets seq ack → Pays past seq.0 ack.0
  pub came : (seq ack : Seq) → c.stage ≡ stage.Resets seq ack → HasNumberThatCame past ack.0

-- It is in TIME-WAIT, since a moment: all that came of the guest was acknowledged, and the host's stream is out with its end.
pub record IsInTimeWait (s : Settings) (c : Connection) (up : Upward) (down : Downward) (past : Story) (now since : ℕ) : Type 0 where
  pub over : IsOver s c past now
  pub at : c.stage ≡ stage.TimeWait
  pub begun : in_time_wait_since past ≡ Some since
  pub theirs : their_number past ≡ Some c.received.first
  pub out : syn_is_out past ≡ true
  pub shift : shift_told s past false ≡ our_shift c
  pub follows : Follows s.ring (part_of c up) (guest past)
  pub ends : Ends past (part_of c up) c.end_acknowledged c.ours_first c.acknowledged
  pub next : c.acknowledged ≡ next_number c.received
  pub ended : c.received.ended ≡ true
  pub fin_out : fin_is_out past ≡ is_sent c.transmission.end
  pub first : our_first (host past) ≡ c.transmission.first
  pub sent : sent (host past) ≡ c.transmission.sent
  pub granted : (has_connected past || is_accepted past) ≡ true
  pub prompted : c.ack_owed ≡ true → is_prompted past ≡ true
  pub answered : c.ack_owed ≡ false → fin_is_answered past ≡ true

-- A connection and its buffers, against the story of its flow.
use Rattle.std.specs.Prelude.{◌≡◌, ℕ, ◌+◌, ◌-◌, ◌<◌, ◌≤◌, ◌^◌, [], length, drop, Bool, true, false, None, Some, if◌then◌else◌, IsTrue, nat_eq}
use Rattle.retransmit.specs.Resending.{IsSteady, is_expired, is_off}
use Rattle.retransmit.specs.declared.Timer.{Timer}
use Rattle.retransmit.specs.declared.Timer.TheVariants.{Since}
use Rattle.sock_buffers.specs.Downward.{Downward}
use Rattle.sock_buffers.specs.Upward.{Upward}
use Rattle.tcp_receive.specs.Received.{next_number, received}
use Rattle.tcp_transmit.specs.Transmission.{is_owed_again, is_sent, octets_read}
use Rattle.tcp_connection.specs.Connection.{Connection, HasBuffers, has_gone, is_opening, is_synchronized, shift_of}
use Rattle.tcp_connection.specs.Windows.{our_shift, told_edge}
use Rattle.tcp_connection.specs.declared.Stage.{Stage}
use Rattle.tcp_connection.specs.declared.Stage.TheVariants as stage
use Rattle.spec_flow.specs.Settings.{Settings}
use Rattle.spec_flow.specs.Event.{IsStory, Story, newest_moment}
use Rattle.spec_flow.specs.Guest.{AckIsDue, Conforming, was_acked}
use Rattle.spec_flow.specs.Host.{answered}
use Rattle.spec_flow.specs.Flow.{acknowledged_at, guest, has_connected, host, is_accepted, is_closed, is_connecting, is_under_way, opened_at, our_number, syn_is_out, their_number, their_syn}
use Rattle.spec_flow.specs.Windows.{mss, right_edge, their_scale, window}
use Rattle.spec_flow.specs.Close.{fin_is_out, host_failed, host_was_ended}
use Rattle.spec_flow.specs.Lawful.{IsLawful, is_prompted}
use Rattle.spec_flow.specs.Dutiful.{IsDutiful, MustClose, fin_is_answered, oldest_unheard}
use Rattle.sim_halves.specs.Ends.{Ends, IsCurrent}
use Rattle.sim_halves.specs.Follows.{Follows}
use Rattle.sim_halves.specs.Received.{received as taken_of}
use Rattle.sim_halves.specs.Resends.{HasReason, Resends}
use Rattle.sim_halves.specs.Sends.{Keeps}
use Rattle.sim_connection.specs.Seen.{count_of, outward_of, part_of, resending_of, timer_of, window_by}

-- the connection is open: neither over nor in TIME-WAIT
abbrev pub is_live : Stage → Bool
is_live stage.Connecting = true
is_live stage.SynSent = true
is_live stage.SynReceived = true
is_live stage.Synchronized = true
is_live stage.TimeWait = false
is_live (stage.Resets seq ack) = false
is_live stage.Closed = false

-- the host is asked to connect
abbrev pub is_at_connecting : Stage → Bool
is_at_connecting stage.Connecting = true
is_at_connecting stage.SynSent = false
is_at_connecting stage.SynReceived = false
is_at_connecting stage.Synchronized = false
is_at_connecting stage.TimeWait = false
is_at_connecting (stage.Resets seq ack) = false
is_at_connecting stage.Closed = false

-- we opened it, and the guest's SYN isn't known
abbrev pub is_calls : Stage → Bool
is_calls stage.Connecting = false
is_calls stage.SynSent = true
is_calls stage.SynReceived = false
is_calls stage.Synchronized = false
is_calls stage.TimeWait = false
is_calls (stage.Resets seq ack) = false
is_calls stage.Closed = false

-- octets that the host took are no longer held
abbrev pub without : Upward → ℕ → Upward
without up n = record up { held = drop n up.held; written = up.written + n }

-- the settings are those of the flow
pub record Suits (s : Settings) (c : Connection) : Type 0 where
  pub ring : c.ring ≡ s.ring
  pub congestion : c.congestion ≡ s.congestion
  pub scales : s.scales ≡ true
  pub few : s.ring ≤ 2 ^ 20

-- what was done for the flow was lawful, and as it must be; it is open, and nothing asks that the close comes next
pub record Goes (s : Settings) (past : Story) (now : ℕ) : Type 0 where
  pub story : IsStory past
  pub moment : newest_moment past ≤ now
  pub lawful : IsLawful s past
  pub dutiful : IsDutiful s past
  pub open_yet : is_closed past ≡ false
  pub well : host_failed past ≡ false
  pub free : MustClose past → ⊥

-- how far the connection is opened
pub record IsOpened (s : Settings) (c : Connection) (past : Story) : Type 0 where
  pub live : is_live c.stage ≡ true
  pub ours : our_number past ≡ c.ours
  pub connects : is_connecting past ≡ is_at_connecting c.stage
  pub out : syn_is_out past ≡ has_gone c.sendings
  pub unsent : is_at_connecting c.stage ≡ true → has_gone c.sendings ≡ false
  pub sent : is_synchronized c.stage ≡ true → has_gone c.sendings ≡ true
  pub answered : answered (host past) ≡ is_synchronized c.stage
  pub owes : is_at_connecting c.stage ≡ false → is_opening c.stage ≡ true → has_gone c.sendings ≡ false → c.syn_owed ≡ true
  pub calls : is_calls c.stage ≡ true → is_accepted past ≡ true
  pub quiet : is_at_connecting c.stage ≡ true → c.ack_owed ≡ false
  pub called : is_accepted past ≡ true → is_calls c.stage ≡ false → has_gone c.sendings ≡ true
  pub theirs : their_number past ≡ (if is_calls c.stage then None else Some c.received.first)
  pub scale : c.scale ≡ shift_of (their_scale past)
  pub mss : is_calls c.stage ≡ false → c.transmission.mss ≡ mss s past
  pub calling : is_calls c.stage ≡ true → c.transmission.mss ≡ s.mtu - 40

-- nothing of the guest's stream is known yet
pub record Awaits (s : Settings) (c : Connection) (up : Upward) (past : Story) : Type 0 where
  pub theirs : their_syn past ≡ None
  pub guest : guest past ≡ []
  pub received : c.received ≡ received 0 0 false
  pub held : up.held ≡ []
  pub kept : up.kept ≡ []
  pub ack_owed : c.ack_owed ≡ false
  pub told : c.told ≡ None
  pub edge : right_edge s past ≡ None
  pub host_ended : c.host_ended ≡ false
  pub untold : host_was_ended past ≡ false
  pub end_acknowledged : c.end_acknowledged ≡ false
  pub ours_first : c.ours_first ≡ false
  pub unasked : has_connected past ≡ false

-- the guest's stream, once its SYN is known
pub record Receives (s : Settings) (c : Connection) (up : Upward) (past : Story) : Type 0 where
  pub follows : Follows s.ring (part_of c up) (guest past)
  pub due : c.ack_owed ≡ false → AckIsDue (guest past) → ⊥
  pub once : is_accepted past ≡ true → c.ack_owed ≡ false → IsTrue (was_acked (guest past))
  pub ends : Ends past (part_of c up) c.end_acknowledged c.ours_first c.acknowledged
  pub current : IsCurrent (guest past) (taken_of c.received.first c.received.taken c.received.ended) c.acknowledged
  pub sure : c.end_acknowledged ≡ true → (c.received.ended ≡ true) × (c.acknowledged ≡ next_number c.received)
  pub host_ended : host_was_ended past ≡ c.host_ended
  pub told : Conforming (guest past) → right_edge s past ≡ c.told
  pub answered : c.end_acknowledged ≡ true → c.ack_owed ≡ false → fin_is_answered past ≡ true
  pub prompted : c.ack_owed ≡ true → is_prompted past ≡ true
  pub updated : is_prompted past ≡ false → is_synchronized c.stage ≡ true → c.told ≡ Some (told_edge c up (our_shift c))

-- A timer that runs counts since a moment at which the flow was open, after which nothing of ours was acknowledged, and which isn't to come.
pub record IsSince (past : Story) (base : ℕ) : Type 0 where
  pub opened : opened_at past ≤ base
  pub acknowledged : acknowledged_at past ≤ base
  pub newest : base ≤ newest_moment past

-- so counts the timer of pieces, if it runs; it is that of a closed window too
abbrev pub CountsSince : Story → Timer → Type 0
CountsSince past timer = (base : ℕ) → timer ≡ Since base → IsSince past base

-- Since a segment of the guest came, the oldest number that isn't acknowledged went out at most once more than the timer made it; and what is owed again
-- before the timer expired is owed since one came.
pub record Calls (c : Connection) (past : Story) : Type 0 where
  pub counted : oldest_unheard past ≤ (resending_of c).resent + 1
  pub early : is_opening c.stage ≡ false → c.transmission.early ≡ true → oldest_unheard past ≡ 0
  pub syn_early : is_opening c.stage ≡ true → c.syn_owed ≡ true → is_expired c.syn.timer ≡ false → oldest_unheard past ≡ 0

-- the host's stream, and when what is under way goes again
pub record Gives (s : Settings) (c : Connection) (down : Downward) (past : Story) (now : ℕ) : Type 0 where
  pub keeps : Keeps (outward_of c.transmission down) (host past)
  pub fin_acked : c.fin_acked ≡ nat_eq c.transmission.acked (octets_read down + 1)
  pub fin_out : fin_is_out past ≡ is_sent c.transmission.end
  pub window : window s past ≡ window_by c.transmission.window
  pub alone : s.congestion ≡ false → c.transmission.cwnd ≡ None
  pub resends : Resends past now (timer_of (resending_of c)) (count_of (is_under_way past) (resending_of c)) (resending_of c).estimate.wait
  pub counts : CountsSince past c.transmission.resend.timer
  pub calls : Calls c past
  pub steady : IsSteady c.syn
  pub unset : has_gone c.sendings ≡ false → is_off c.syn.timer ≡ true
  pub set : is_opening c.stage ≡ true → has_gone c.sendings ≡ true → is_off c.syn.timer ≡ false
  pub owes_syn : is_opening c.stage ≡ true → is_expired c.syn.timer ≡ true → c.syn_owed ≡ true
  pub syn_again : is_opening c.stage ≡ true → c.syn_owed ≡ true → has_gone c.sendings ≡ true → HasReason past now
  pub again : is_owed_again c.transmission ≡ true → c.transmission.acked < c.transmission.sent → HasReason past now

-- The connection, its buffers and the story of an open flow, at a moment.
pub record Holds (s : Settings) (c : Connection) (up : Upward) (down : Downward) (past : Story) (now : ℕ) : Type 0 where
  pub suits : Suits s c
  pub buffers : HasBuffers c up down
  pub within : length down.octets ≤ s.ring
  pub goes : Goes s past now
  pub opened : IsOpened s c past
  pub awaits : is_calls c.stage ≡ true → Awaits s c up past
  pub receives : is_calls c.stage ≡ false → Receives s c up past
  pub gives : Gives s c down past now

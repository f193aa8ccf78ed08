-- What a contract sees of a connection with a guest (RFC 9293, 3.3).
use Rattle.std.specs.Prelude.{◌≡◌, ℕ, ◌<◌, ◌^◌, min, Bool, true, false, nat_eq, Option, None, Some, if◌then◌else◌}
use Rattle.retransmit.specs.Resending.{Resending, at_rest}
use Rattle.seq_space.specs.Places.{number_of}
use Rattle.sock_buffers.specs.Downward.{Downward}
use Rattle.sock_buffers.specs.Upward.{Upward}
use Rattle.tcp_receive.specs.Received.{Fills, Received, next_number, received}
use Rattle.tcp_transmit.specs.Transmission.{Feeds, Transmission, is_sent, unanswered}
use Rattle.tcp_connection.specs.declared.Sendings.{Sendings}
use Rattle.tcp_connection.specs.declared.Sendings.TheVariants.{Never, Once, Again}
use Rattle.tcp_connection.specs.declared.Stage.{Stage}
use Rattle.tcp_connection.specs.declared.Stage.TheVariants as stage
use Rattle.tcp_connection.specs.declared.State.{State}
use Rattle.tcp_connection.specs.declared.State.TheVariants as state

-- The number of our SYN, and how far the connection is opened; the guest's stream as far as it was taken (of a stream with
-- number 0 before its SYN is known), and the host's as far as it was sent; the timer of our SYN, and how often that went
-- out; whether our SYN or SYN-ACK is owed, and whether an acknowledgement is.
-- Further: the number that was acknowledged last, and up to which place the guest was told last that there is room; whether
-- its end was acknowledged, and whether our FIN was out before the number that was acknowledged last changed; whether our
-- FIN was acknowledged, and whether the host was told the guest's end; the guest's window scale, where its SYN has one; the
-- size of the buffer of the guest's octets; and whether there is to be a congestion window.
pub record Connection : Type 0 where
  pub ours : ℕ
  pub stage : Stage
  pub received : Received
  pub transmission : Transmission
  pub syn : Resending
  pub sendings : Sendings
  pub syn_owed : Bool
  pub ack_owed : Bool
  pub acknowledged : ℕ
  pub told : Option ℕ
  pub end_acknowledged : Bool
  pub ours_first : Bool
  pub fin_acked : Bool
  pub host_ended : Bool
  pub scale : Option ℕ
  pub ring : ℕ
  pub congestion : Bool

-- RFC 7323, 2.3: a shift of over 14 counts as 14
abbrev pub shift_of : Option ℕ → Option ℕ
shift_of None = None
shift_of (Some shift) = Some (min shift 14)

-- the guest's SYN came, and the host's socket is to connect
abbrev pub from_guest : (theirs ours mss : ℕ) → Option ℕ → (ring : ℕ) → Bool → Connection
from_guest theirs ours mss scale ring congestion = record {
  ours = ours;
  stage = stage.Connecting;
  received = received theirs 0 false;
  transmission = unanswered ours mss;
  syn = at_rest;
  sendings = Never;
  syn_owed = false;
  ack_owed = false;
  acknowledged = number_of theirs 0;
  told = None;
  end_acknowledged = false;
  ours_first = false;
  fin_acked = false;
  host_ended = false;
  scale = shift_of scale;
  ring = ring;
  congestion = congestion;
}

-- a socket was accepted, and our SYN is owed
abbrev pub to_guest : (ours mss ring : ℕ) → Bool → Connection
to_guest ours mss ring congestion = record {
  ours = ours;
  stage = stage.SynSent;
  received = received 0 0 false;
  transmission = unanswered ours mss;
  syn = at_rest;
  sendings = Never;
  syn_owed = true;
  ack_owed = false;
  acknowledged = 0;
  told = None;
  end_acknowledged = false;
  ours_first = false;
  fin_acked = false;
  host_ended = false;
  scale = None;
  ring = ring;
  congestion = congestion;
}

-- our SYN isn't acknowledged yet, and the connection isn't over
abbrev pub is_opening : Stage → Bool
is_opening stage.Connecting = true
is_opening stage.SynSent = true
is_opening stage.SynReceived = true
is_opening stage.Synchronized = false
is_opening stage.TimeWait = false
is_opening (stage.Resets seq ack) = false
is_opening stage.Closed = false

-- both SYNs are known, and ours isn't acknowledged
abbrev pub is_syn_received : Stage → Bool
is_syn_received stage.Connecting = false
is_syn_received stage.SynSent = false
is_syn_received stage.SynReceived = true
is_syn_received stage.Synchronized = false
is_syn_received stage.TimeWait = false
is_syn_received (stage.Resets seq ack) = false
is_syn_received stage.Closed = false

-- both SYNs were acknowledged, and the connection isn't finished
abbrev pub is_synchronized : Stage → Bool
is_synchronized stage.Connecting = false
is_synchronized stage.SynSent = false
is_synchronized stage.SynReceived = false
is_synchronized stage.Synchronized = true
is_synchronized stage.TimeWait = false
is_synchronized (stage.Resets seq ack) = false
is_synchronized stage.Closed = false

-- our SYN went out
abbrev pub has_gone : Sendings → Bool
has_gone Never = false
has_gone Once = true
has_gone Again = true

-- and more than once
abbrev pub has_gone_again : Sendings → Bool
has_gone_again Never = false
has_gone_again Once = false
has_gone_again Again = true

abbrev pub once_more : Sendings → Sendings
once_more Never = Once
once_more Once = Again
once_more Again = Again

-- Our end came first, or both at once: our FIN is out before the number that is acknowledged next, or was before the last
-- one, where the next is the same.
abbrev pub closes_first : Connection → Bool
closes_first c = if nat_eq (next_number c.received) c.acknowledged then c.ours_first else is_sent c.transmission.end

-- Where both SYNs were acknowledged, the state is told by the two ends (3.6): whether the guest's was taken, whether our FIN
-- was sent and acknowledged, and whether ours came first.
abbrev pub state_between : (ended sent acked first : Bool) → State
state_between false false acked first = state.Established
state_between false true false first = state.FinWait1
state_between false true true first = state.FinWait2
state_between true false acked first = state.CloseWait
state_between true true false first = if first then state.Closing else state.LastAck
state_between true true true first = if first then state.TimeWait else state.LastAck

abbrev pub state_by : Stage → Connection → State
state_by stage.Connecting c = state.Connecting
state_by stage.SynSent c = state.SynSent
state_by stage.SynReceived c = state.SynReceived
state_by stage.Synchronized c = state_between c.received.ended (is_sent c.transmission.end) c.fin_acked (closes_first c)
state_by stage.TimeWait c = state.TimeWait
state_by (stage.Resets seq ack) c = state.Closed
state_by stage.Closed c = state.Closed

-- the state of RFC 9293, 3.3.2, or Connecting before them
abbrev pub state_of : Connection → State
state_of c = state_by c.stage c

-- What holds of every connection. Before our SYN is acknowledged nothing was sent but it, nothing was taken, no window is
-- known, and there is no congestion window yet; and no number of octets passes 2^62.
pub record IsSound (c : Connection) : Type 0 where
  pub first : c.transmission.first ≡ c.ours
  pub few : c.received.taken < 2 ^ 62
  pub untaken : is_opening c.stage ≡ true → c.received.taken ≡ 0
  pub unended : is_opening c.stage ≡ true → c.received.ended ≡ false
  pub unsent : is_opening c.stage ≡ true → c.transmission.sent ≡ 0
  pub unanswered : is_opening c.stage ≡ true → c.transmission.window ≡ None
  pub alone : is_opening c.stage ≡ true → c.transmission.cwnd ≡ None

-- The buffers are those of this connection: what was taken of the guest's stream was written or is held, and what was sent
-- of the host's is of what was read.
pub record HasBuffers (c : Connection) (up : Upward) (down : Downward) : Type 0 where
  pub sound : IsSound c
  pub fills : Fills c.received up
  pub feeds : Feeds c.transmission down
  pub size : up.size ≡ c.ring

-- What a connection owes its guest, one thing at a time, and what goes out changes.
use Rattle.std.specs.Prelude.{ℕ, Bool, false, ◌||◌, Option, None, Some, is_some, if◌then◌else◌}
use Rattle.retransmit.specs.Resending.{after_sent as resend_sent}
use Rattle.seq_space.specs.Places.{number_of}
use Rattle.sock_buffers.specs.Downward.{Downward}
use Rattle.sock_buffers.specs.Upward.{Upward, room_of}
use Rattle.tcp_receive.specs.Received.{next_number}
use Rattle.tcp_transmit.specs.Pieces.{piece_owed}
use Rattle.tcp_transmit.specs.Timing.{after_sent as piece_sent}
use Rattle.tcp_transmit.specs.declared.Piece.{Piece}
use Rattle.tcp_connection.specs.declared.Change.{Change}
use Rattle.tcp_connection.specs.declared.Head.{Head}
use Rattle.tcp_connection.specs.declared.Owed.{Owed}
use Rattle.tcp_connection.specs.declared.Owed.TheVariants.{Syn, SynAck, Data, Ack, Reset}
use Rattle.tcp_connection.specs.declared.Stage.{Stage}
use Rattle.tcp_connection.specs.declared.Stage.TheVariants as stage
use Rattle.tcp_connection.specs.Connection.{Connection, closes_first, has_gone, once_more}
use Rattle.tcp_connection.specs.Hosts.{numbers_sent}
use Rattle.tcp_connection.specs.Segments.{settled, settling}
use Rattle.tcp_connection.specs.Windows.{field, is_update_owed, least_shift, our_shift, told_edge}

-- ---- what is owed

-- an acknowledgement alone
abbrev pub ack_if : Bool → Option Owed
ack_if owed = if owed then Some Ack else None

-- a piece of the host's stream goes before it, since it carries one
abbrev pub piece_or_ack : Option Piece → Bool → Option Owed
piece_or_ack None owed = ack_if owed
piece_or_ack (Some p) owed = Some (Data p)

abbrev pub owed_by : Stage → Connection → Upward → Downward → Option Owed
owed_by stage.Connecting c up down = None
owed_by stage.SynSent c up down = if c.syn_owed then Some Syn else None
owed_by stage.SynReceived c up down = if c.syn_owed then Some SynAck else ack_if c.ack_owed
owed_by stage.Synchronized c up down = piece_or_ack (piece_owed c.transmission down) (c.ack_owed || is_update_owed c up)
owed_by stage.TimeWait c up down = ack_if c.ack_owed
owed_by (stage.Resets seq ack) c up down = Some (Reset seq ack)
owed_by stage.Closed c up down = None

abbrev pub owed_of : Connection → Upward → Downward → Option Owed
owed_of c up down = owed_by c.stage c up down

-- ---- its numbers, window field and window scale

abbrev pub head : (seq ack window : ℕ) → Option ℕ → Head
head seq ack window scale = record { seq = record { 0 = seq }; ack = record { 0 = ack }; window = window; scale = scale }

-- a SYN-ACK has the option where the guest's SYN has it (RFC 7323, 2.2)
abbrev pub scale_if : Bool → ℕ → Option ℕ
scale_if scaled shift = if scaled then Some shift else None

-- A window in a segment with SYN isn't scaled. A SYN acknowledges nothing, and a reset has no window.
abbrev pub head_of : Connection → Upward → Owed → Head
head_of c up Syn = head c.ours 0 (field 0 (room_of up)) (Some (least_shift c.ring))
head_of c up SynAck = head c.ours (next_number c.received) (field 0 (room_of up)) (scale_if (is_some c.scale) (least_shift c.ring))
head_of c up (Data p) = head (number_of c.transmission.first p.place) (next_number c.received) (field (our_shift c) (room_of up)) None
head_of c up Ack = head (numbers_sent c) (next_number c.received) (field (our_shift c) (room_of up)) None
head_of c up (Reset seq ack) = record { seq = seq; ack = ack; window = 0; scale = None }

-- ---- what went out

-- our SYN or SYN-ACK went out, perhaps again, and its timer is set (RFC 6298, 5.1)
abbrev pub syn_gone : Connection → ℕ → Connection
syn_gone c now = record c {
  syn = resend_sent c.syn (has_gone c.sendings) now;
  sendings = once_more c.sendings;
  syn_owed = false;
}

-- a segment with an acknowledgement went out, and told the room
abbrev pub told : Connection → Upward → (shift : ℕ) → Connection
told c up shift = record c {
  ack_owed = false;
  acknowledged = next_number c.received;
  told = Some (told_edge c up shift);
  end_acknowledged = c.end_acknowledged || c.received.ended;
  ours_first = closes_first c;
}

-- a piece of the host's stream went out
abbrev pub data_gone : Connection → Piece → ℕ → Connection
data_gone c p now = record c { transmission = piece_sent c.transmission p now }

abbrev pub gone : Owed → Connection → Upward → ℕ → Connection
gone Syn c up now = syn_gone c now
gone SynAck c up now = told (syn_gone c now) up 0
gone (Data p) c up now = data_gone (told c up (our_shift c)) p now
gone Ack c up now = told c up (our_shift c)
gone (Reset seq ack) c up now = record c { stage = stage.Closed }

abbrev pub after_gone : Owed → Connection → Upward → ℕ → Connection
after_gone what c up now = settled (gone what c up now)

abbrev pub change_gone : Owed → Connection → Upward → ℕ → Change
change_gone what c up now = settling (gone what c up now)

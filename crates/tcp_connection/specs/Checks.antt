-- What a segment is to a connection, by the order of checks (RFC 9293, 3.10.7).
use Rattle.std.specs.Prelude.{Bool, not, ◌&&◌, nat_lt, nat_eq, if◌then◌else◌}
use Rattle.seq_space.specs.Places.{number_of, steps_up}
use Rattle.sock_buffers.specs.Upward.{Upward, room_of}
use Rattle.tcp_receive.specs.Received.{next_number}
use Rattle.tcp_segment.specs.Tcp.{Tcp, has}
use Rattle.tcp_segment.specs.declared.TheConstants.{SYN, FIN, RST, ACK}
use Rattle.tcp_connection.specs.declared.Stage.{Stage}
use Rattle.tcp_connection.specs.declared.Stage.TheVariants as stage
use Rattle.tcp_connection.specs.declared.Verdict.{Verdict}
use Rattle.tcp_connection.specs.declared.Verdict.TheVariants.{Ignored, Resets, Unacceptable, Repeats, Challenged, Greets, Heeded}
use Rattle.tcp_connection.specs.Connection.{Connection, has_gone}

abbrev pub is_syn : Tcp → Bool
is_syn seg = has SYN seg.flags

abbrev pub is_fin : Tcp → Bool
is_fin seg = has FIN seg.flags

abbrev pub is_rst : Tcp → Bool
is_rst seg = has RST seg.flags

abbrev pub is_ack : Tcp → Bool
is_ack seg = has ACK seg.flags

-- the acknowledgement is the number after our SYN
abbrev pub acknowledges_syn : Connection → Tcp → Bool
acknowledges_syn c seg = is_ack seg && nat_eq seg.ack (number_of c.ours 0)

-- the number is the next expected one
abbrev pub is_next : Connection → Tcp → Bool
is_next c seg = nat_eq seg.seq (next_number c.received)

-- the number lies within the room of the buffer, from the next expected one on
abbrev pub is_in_window : Connection → Upward → Tcp → Bool
is_in_window c up seg = nat_lt (steps_up seg.seq (next_number c.received)) (room_of up)

-- the guest's SYN again: the next expected number is the one after it
abbrev pub is_same_syn : Connection → Tcp → Bool
is_same_syn c seg = is_syn seg && not (is_ack seg) && not (is_rst seg) && nat_eq (number_of seg.seq 0) (next_number c.received)

-- While the host's socket connects, and until our SYN-ACK went out, a reset at the next expected number is heard.
abbrev pub verdict_early : Connection → Tcp → Verdict
verdict_early c seg = if is_rst seg && is_next c seg then Resets else Ignored

-- 3.10.7.3, SYN-SENT. Before our SYN went out nothing but a reset is heard, and that acknowledges our SYN.
abbrev pub verdict_calling : Connection → Tcp → Verdict
verdict_calling c seg =
    if is_rst seg then (if acknowledges_syn c seg then Resets else Ignored)
    else (if not (has_gone c.sendings) then Ignored
    else (if is_ack seg && not (acknowledges_syn c seg) then Unacceptable
    else (if is_syn seg then Greets else Ignored)))

-- 3.10.7.4: a reset is taken at exactly the next expected number, and a challenge acknowledgement answers one elsewhere in
-- the window, and a SYN; what has no ACK is ignored.
abbrev pub verdict_synchronized : Connection → Upward → Tcp → Verdict
verdict_synchronized c up seg =
    if is_rst seg then (if is_next c seg then Resets else (if is_in_window c up seg then Challenged else Ignored))
    else (if is_syn seg then Challenged else (if is_ack seg then Heeded else Ignored))

-- SYN-RECEIVED: before these checks the guest's SYN makes our SYN-ACK owed again, and an acknowledgement must be of our SYN.
abbrev pub verdict_answering : Connection → Upward → Tcp → Verdict
verdict_answering c up seg =
    if not (has_gone c.sendings) then verdict_early c seg
    else (if is_same_syn c seg then Repeats
    else (if is_ack seg && not (is_rst seg) && not (acknowledges_syn c seg) then Unacceptable
    else verdict_synchronized c up seg))

abbrev pub verdict_by : Stage → Connection → Upward → Tcp → Verdict
verdict_by stage.Connecting c up seg = verdict_early c seg
verdict_by stage.SynSent c up seg = verdict_calling c seg
verdict_by stage.SynReceived c up seg = verdict_answering c up seg
verdict_by stage.Synchronized c up seg = verdict_synchronized c up seg
verdict_by stage.TimeWait c up seg = verdict_synchronized c up seg
verdict_by (stage.Resets seq ack) c up seg = Ignored
verdict_by stage.Closed c up seg = Ignored

abbrev pub verdict_of : Connection → Upward → Tcp → Verdict
verdict_of c up seg = verdict_by c.stage c up seg

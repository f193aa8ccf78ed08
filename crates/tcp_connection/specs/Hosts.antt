-- What news of the host's socket change.
use Rattle.std.specs.Prelude.{ℕ, Bool, true, false, if◌then◌else◌}
use Rattle.seq_space.specs.Places.{number_of}
use Rattle.tcp_receive.specs.Received.{next_number}
use Rattle.tcp_transmit.specs.Timing.{watched}
use Rattle.tcp_transmit.specs.declared.End.{End}
use Rattle.tcp_transmit.specs.declared.End.TheVariants as our_end
use Rattle.tcp_connection.specs.declared.Change.{Change}
use Rattle.tcp_connection.specs.declared.Change.TheVariants as change
use Rattle.tcp_connection.specs.declared.HostNews.{HostNews}
use Rattle.tcp_connection.specs.declared.HostNews.TheVariants.{Connected, Refused, Ended, WriteEnded, Failed}
use Rattle.tcp_connection.specs.declared.Stage.{Stage}
use Rattle.tcp_connection.specs.declared.Stage.TheVariants as stage
use Rattle.tcp_connection.specs.Connection.{Connection, has_gone}
use Rattle.tcp_connection.specs.Segments.{settled, settling}

-- The connection is over, and owes its guest a reset (RFC 9293, 3.10.7): with the number after all that was sent and the
-- next expected number, or 0 where the guest's SYN isn't known. A guest that got no SYN-ACK is answered by number 0; one
-- that got no SYN knows of no connection.
abbrev pub numbers_sent : Connection → ℕ
numbers_sent c = number_of c.transmission.first c.transmission.sent

abbrev pub resets : ℕ → ℕ → Stage
resets seq ack = stage.Resets (record { 0 = seq }) (record { 0 = ack })

abbrev pub over_by : Stage → Connection → Stage
over_by stage.Connecting c = resets 0 (next_number c.received)
over_by stage.SynSent c = if has_gone c.sendings then resets (numbers_sent c) 0 else stage.Closed
over_by stage.SynReceived c = resets (if has_gone c.sendings then numbers_sent c else 0) (next_number c.received)
over_by stage.Synchronized c = resets (numbers_sent c) (next_number c.received)
over_by stage.TimeWait c = stage.TimeWait
over_by (stage.Resets seq ack) c = stage.Resets seq ack
over_by stage.Closed c = stage.Closed

abbrev pub reset : Connection → Connection
reset c = record c { stage = over_by c.stage c }

-- the socket has connected: our SYN-ACK is owed
abbrev pub connected_by : Stage → Connection → Connection
connected_by stage.Connecting c = record c { stage = stage.SynReceived; syn_owed = true }
connected_by stage.SynSent c = c
connected_by stage.SynReceived c = c
connected_by stage.Synchronized c = c
connected_by stage.TimeWait c = c
connected_by (stage.Resets seq ack) c = c
connected_by stage.Closed c = c

-- the host ended its stream: FIN is to go after it (3.6)
abbrev pub is_open : End → Bool
is_open our_end.Open = true
is_open our_end.Unsent = false
is_open our_end.Sent = false

abbrev pub host_ended : Connection → ℕ → Connection
host_ended c now = if is_open c.transmission.end
    then record c { transmission = watched (record c.transmission { end = our_end.Unsent }) true now }
    else c

-- the host was told the guest's end
abbrev pub write_ended : Connection → Connection
write_ended c = record c { host_ended = true }

abbrev pub after_news : HostNews → Connection → (now : ℕ) → Connection
after_news Connected c now = connected_by c.stage c
after_news Refused c now = reset c
after_news Ended c now = host_ended c now
after_news WriteEnded c now = settled (write_ended c)
after_news Failed c now = reset c

abbrev pub change_on : HostNews → Connection → Change
change_on Connected c = change.Nothing
change_on Refused c = change.Nothing
change_on Ended c = change.Nothing
change_on WriteEnded c = settling (write_ended c)
change_on Failed c = change.Nothing

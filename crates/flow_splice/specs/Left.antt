-- How much is left to be sent: a number that falls with each segment that goes out.
use Rattle.std.specs.Prelude.{ℕ, ◌+◌, ◌-◌, ◌*◌, ◌||◌, Bool, if◌then◌else◌}
use Rattle.sock_buffers.specs.Downward.{Downward}
use Rattle.sock_buffers.specs.Upward.{Upward}
use Rattle.tcp_transmit.specs.Transmission.{is_owed_again, octets_read}
use Rattle.tcp_connection.specs.Connection.{Connection}
use Rattle.tcp_connection.specs.Windows.{is_update_owed}
use Rattle.tcp_connection.specs.declared.Stage.{Stage}
use Rattle.tcp_connection.specs.declared.Stage.TheVariants as stage
use Rattle.flow_splice.specs.Splice.{Splice}

abbrev pub count_if : Bool → ℕ → ℕ
count_if b n = if b then n else 0

abbrev pub left_by : Stage → Connection → Upward → Downward → ℕ
left_by stage.Connecting c up down = 0
left_by stage.SynSent c up down = count_if c.syn_owed 1
left_by stage.SynReceived c up down = count_if c.syn_owed 2 + count_if c.ack_owed 1
left_by stage.Synchronized c up down = 4 * (octets_read down + 2 - c.transmission.sent) + count_if (is_owed_again c.transmission) 2 + count_if (c.ack_owed || is_update_owed c up) 1
left_by stage.TimeWait c up down = count_if c.ack_owed 1
left_by (stage.Resets seq ack) c up down = 1
left_by stage.Closed c up down = 0

abbrev pub left : Splice → ℕ
left f = left_by f.conn.stage f.conn f.up f.down

-- The timers of a connection (RFC 6298, 5): that of our SYN, and that of pieces and probes.
use Rattle.std.specs.Prelude.{ℕ, Bool, true, false, nat_le, Option, None, Some, if◌then◌else◌}
use Rattle.retransmit.specs.Resending.{after_expired as resend_expired, due_of as resend_due, is_given_up}
use Rattle.tcp_transmit.specs.Timing.{after_expired as transmission_expired}
use Rattle.tcp_connection.specs.declared.Change.{Change}
use Rattle.tcp_connection.specs.declared.Change.TheVariants.{Nothing, Finished}
use Rattle.tcp_connection.specs.declared.Stage.{Stage}
use Rattle.tcp_connection.specs.declared.Stage.TheVariants as stage
use Rattle.tcp_connection.specs.Connection.{Connection, is_opening}
use Rattle.tcp_connection.specs.Hosts.{reset}

-- until our SYN is acknowledged its timer counts, and then that of pieces and probes
abbrev pub due_by : Stage → Connection → Option ℕ
due_by stage.Connecting c = None
due_by stage.SynSent c = resend_due c.syn
due_by stage.SynReceived c = resend_due c.syn
due_by stage.Synchronized c = resend_due c.transmission.resend
due_by stage.TimeWait c = None
due_by (stage.Resets seq ack) c = None
due_by stage.Closed c = None

abbrev pub due_of : Connection → Option ℕ
due_of c = due_by c.stage c

abbrev pub is_due : Option ℕ → ℕ → Bool
is_due None now = false
is_due (Some at) now = nat_le at now

-- what went again eight times is given up
abbrev pub is_spent : Connection → Bool
is_spent c = is_given_up (if is_opening c.stage then c.syn else c.transmission.resend)

-- 5.4 to 5.6: what it waits for is owed again
abbrev pub again : Connection → Connection
again c = if is_opening c.stage
    then record c { syn = resend_expired c.syn; syn_owed = true }
    else record c { transmission = transmission_expired c.transmission }

-- the connection is given up, but not while an acknowledgement is owed
abbrev pub expired : Connection → Connection
expired c = if is_spent c then (if c.ack_owed then c else reset c) else again c

abbrev pub change_expiring : Connection → Change
change_expiring c = if is_spent c then (if c.ack_owed then Nothing else Finished) else Nothing

abbrev pub after_tick : Connection → ℕ → Connection
after_tick c now = if is_due (due_of c) now then expired c else c

abbrev pub change_at_tick : Connection → ℕ → Change
change_at_tick c now = if is_due (due_of c) now then change_expiring c else Nothing

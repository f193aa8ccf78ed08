-- What the relations on one flow see of a connection and its buffers.
use Rattle.std.specs.Prelude.{ℕ, ◌+◌, ◌-◌, Bool, not, Option, None, Some, if◌then◌else◌}
use Rattle.retransmit.specs.Resending.{Resending, doublings}
use Rattle.retransmit.specs.declared.Timer.{Timer}
use Rattle.retransmit.specs.declared.Timer.TheVariants.{Off as StandsStill, Since, Expired as WentOff}
use Rattle.sock_buffers.specs.Downward.{Downward}
use Rattle.sock_buffers.specs.Kept.{Octets, octet_at}
use Rattle.sock_buffers.specs.Upward.{Upward}
use Rattle.tcp_transmit.specs.Transmission.{Transmission}
use Rattle.tcp_transmit.specs.declared.Window.{Window}
use Rattle.tcp_connection.specs.Connection.{Connection, is_opening}
use Rattle.tcp_connection.specs.Hosts.{is_open}
pub use Rattle.spec_flow.specs.Segments.{segment_of}
use Rattle.spec_flow.specs.Windows.{Window as ToldWindow}
use Rattle.sim_halves.specs.Part.{Part, part}
use Rattle.sim_halves.specs.Resends.{Timer as FlowTimer, Off, Until, Expired}
use Rattle.sim_halves.specs.Sends.{Outward}

-- the octets that are kept past a gap, by their places in the guest's stream
abbrev pub kept_at : ℕ → Octets → ℕ → Option ℕ
kept_at taken kept i = octet_at kept (i - taken)

-- what was taken of the guest's stream, and what of it is on its way to the host
abbrev pub part_of : Connection → Upward → Part
part_of c up = part 0 0 c.received.first c.received.taken c.received.ended up.held up.written up.size c.host_ended c.ack_owed (kept_at c.received.taken up.kept)

-- what was read of the host's stream, sent and acknowledged
abbrev pub outward_of : Transmission → Downward → Outward
outward_of t down = record { first = t.first; before = down.first; held = down.octets; ended = not (is_open t.end); sent = t.sent; acked = t.acked }

-- the guest's window
abbrev pub window_by : Option Window → Option ToldWindow
window_by None = None
window_by (Some w) = Some (record { edge = w.edge; number = w.seq.0; place = w.ack })

-- the timer that runs: that of our SYN until it is acknowledged, and then that of pieces and probes
abbrev pub resending_of : Connection → Resending
resending_of c = if is_opening c.stage then c.syn else c.transmission.resend

abbrev pub timer_by : Timer → ℕ → FlowTimer
timer_by StandsStill wait = Off
timer_by (Since base) wait = Until (base + wait)
timer_by (WentOff at) wait = Expired

abbrev pub timer_of : Resending → FlowTimer
timer_of r = timer_by r.timer r.estimate.wait

-- how often it made something go again, what is owed again counted; a probe of a closed window isn't counted
abbrev pub count_of : Bool → Resending → ℕ
count_of under_way r = if under_way then doublings r.timer r.resent else 0

-- What a flow waits for.
use Rattle.std.specs.Prelude.{◌≡◌, ℕ, ◌+◌, ◌-◌, ◌^◌, ◌<◌, Bool, true, ◌&&◌, ◌||◌, not, nat_eq, nat_le, nat_lt, length, max, min, Option, None, Some, is_some, if◌then◌else◌}
use Rattle.sock_buffers.specs.Downward.{Downward}
use Rattle.tcp_connection.specs.Connection.{is_opening}
use Rattle.tcp_connection.specs.Hosts.{is_open as host_is_open}
use Rattle.tcp_connection.specs.Timing.{due_of as conn_due}
use Rattle.sim_connection.specs.Holding.{is_at_connecting}
use Rattle.flow_splice.specs.Splice.{Splice, is_open}

-- a socket may connect for 75,000 ms; ours
abbrev pub connect_end : Splice → ℕ
connect_end f = f.since + 75000

-- a request for the guest's hardware address waits for its answer
abbrev pub resolves : Splice → Bool
resolves f = not (is_some f.mac) && nat_lt 0 f.asked

-- the host may give octets, and there is room for some
abbrev pub may_read : Splice → Bool
may_read f = not (is_at_connecting f.conn.stage) && host_is_open f.conn.transmission.end && nat_lt 0 (f.down.size - length f.down.octets)

-- octets of the guest are held that the host is to take, and its end was taken that the host wasn't told
abbrev pub owes_octets : Splice → Bool
owes_octets f = nat_lt 0 (length f.up.held) && not f.told_end

abbrev pub may_end : Splice → Bool
may_end f = f.conn.received.ended && not f.told_end

-- there is something for the host to do
abbrev pub may_write : Splice → Bool
may_write f = is_at_connecting f.conn.stage || owes_octets f || may_end f

-- what is waited for
abbrev pub reads : Splice → Bool
reads f = is_open f && may_read f

abbrev pub writes : Splice → Bool
writes f = is_open f && may_write f

-- the moment at which the wait for the guest's answer is over; where it is, a request is owed, and has no moment
abbrev pub ask_due : Splice → Option ℕ
ask_due f = if not f.asks then Some f.ask_at else None

-- the flow once that moment came
abbrev pub asks_after : Splice → ℕ → Splice
asks_after f now = record f { asks = f.asks || nat_le f.ask_at now }

-- no octet of the host was read, of how many the guest acknowledged
abbrev pub reads_none : Downward → Bool
reads_none down = nat_eq down.first 0 && nat_eq (length down.octets) 0

-- its peer ended without an octet before its guest answered, and no acknowledgement is owed
abbrev pub is_deserted : Splice → Bool
is_deserted f =
    f.accepted && not (is_at_connecting f.conn.stage) && is_opening f.conn.stage && not (host_is_open f.conn.transmission.end) && reads_none f.down
    && not f.conn.ack_owed

-- until then its guest may answer: 1,000 ms; ours
abbrev pub patience_end : Splice → ℕ
patience_end f = max f.since f.called + 1000

-- the host's end was read, or it was told the guest's, or no octet passed
abbrev pub is_short : Splice → Bool
is_short f = not (host_is_open f.conn.transmission.end) || f.told_end || (reads_none f.down && nat_eq f.up.written 0)

-- how many milliseconds it keeps its place without a sign of life (RFC 5382, REQ-5; while it connects ours)
abbrev pub quiet_time : Splice → ℕ
quiet_time f = if is_at_connecting f.conn.stage then 10000 else (if is_short f then 240000 else 7440000)

-- From this moment on it may give way to a guest's SYN; one of which both ends passed doesn't.
abbrev pub gives_way_at : Splice → ℕ
gives_way_at f = if f.told_end && f.conn.fin_acked then 2 ^ 64 - 1 else f.last + quiet_time f

-- the moment at which an open flow is to be looked at, but for the end of patience
abbrev pub due_else : Splice → Option ℕ
due_else f = if is_at_connecting f.conn.stage then Some (connect_end f) else (if resolves f then ask_due f else conn_due f.conn)

-- the moment by which a deserted flow is closed: its patience is over, and its last sign of life past
abbrev pub left_at : Splice → ℕ
left_at f = max (patience_end f) (f.last + 1)

abbrev pub sooner : ℕ → Option ℕ → ℕ
sooner at None = at
sooner at (Some moment) = min at moment

-- the moment at which it is to be looked at
abbrev pub due_of : Splice → Option ℕ
due_of f = if is_open f then (if is_deserted f then Some (sooner (left_at f) (due_else f)) else due_else f) else None

-- Time doesn't close it at this moment: the socket may connect yet, and a guest whose peer is gone answer, or the last sign of life is of this moment.
pub record HasTime (f : Splice) (now : ℕ) : Type 0 where
  pub connects : is_open f ≡ true → is_at_connecting f.conn.stage ≡ true → now < connect_end f
  pub deserted : is_open f ≡ true → is_deserted f ≡ true → now < left_at f

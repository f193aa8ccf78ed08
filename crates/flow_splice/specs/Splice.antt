-- What a contract sees of a flow that is spliced.
use Rattle.std.specs.Prelude.{◌≡◌, ℕ, ◌≤◌, ◌^◌, [], Bool, true, false, ◌&&◌, not, Option}
use Rattle.net_octets.specs.declared.Endpoint.{Endpoint}
use Rattle.net_octets.specs.declared.Ip4.{Ip4}
use Rattle.net_octets.specs.declared.Mac.{Mac}
use Rattle.sock_buffers.specs.Downward.{Downward, downward}
use Rattle.sock_buffers.specs.Upward.{Upward, empty}
use Rattle.tcp_connection.specs.Connection.{Connection, HasBuffers}
use Rattle.tcp_connection.specs.declared.Stage.{Stage}
use Rattle.tcp_connection.specs.declared.Stage.TheVariants as stage
use Rattle.sim_connection.specs.Holding.{is_at_connecting}
use Rattle.flow_splice.specs.declared.Place.{Place}
use Rattle.flow_splice.specs.declared.Place.TheVariants.{Empty, InUse, InTimeWait}

-- the number of its socket, and between whom it goes: its guest, the other side, and the virtual host, whose hardware address is ours
pub record Face : Type 0 where
  pub guest : Endpoint
  pub other : Endpoint
  pub number : ℕ
  pub vhost : Ip4

-- Where it stands, and whether its socket was closed; its guest's hardware address, where it is known; since when it is open; whether it was accepted, for a
-- peer of the host; whether the host was told the guest's end; how often the guest's hardware address was asked for, until when that waits for an answer, and whether it
-- is to be asked for again. Further: the
-- connection and its two buffers, and the most octets of a datagram that comes from the guest. And the moment of its last sign of life, and that at
-- which our SYN went out last, 0 where it didn't.
pub record Splice : Type 0 where
  pub place : Place
  pub shut : Bool
  pub face : Face
  pub mac : Option Mac
  pub since : ℕ
  pub accepted : Bool
  pub told_end : Bool
  pub asked : ℕ
  pub ask_at : ℕ
  pub asks : Bool
  pub conn : Connection
  pub up : Upward
  pub down : Downward
  pub mru : ℕ
  pub last : ℕ
  pub called : ℕ

-- its moments are at most 2^62
pub record AreMoments (opened heard sent : ℕ) : Type 0 where
  pub since : opened ≤ 2 ^ 62
  pub last : heard ≤ 2 ^ 62
  pub called : sent ≤ 2 ^ 62

-- what holds of every flow: the buffers are those of its connection, both have one size, up to a mebibyte, and the guest's address is asked for nine times at most; and what
-- comes may have the two headers
pub record IsSound (c : Connection) (up : Upward) (down : Downward) (asked mru : ℕ) : Type 0 where
  pub buffers : HasBuffers c up down
  pub size : down.size ≡ up.size
  pub room : up.size ≤ 2 ^ 20
  pub few : asked ≤ 9
  pub segments : 40 ≤ mru

-- a place is taken by a flow whose socket is open, or that owes its guest a reset
abbrev pub is_in_use : Place → Bool
is_in_use Empty = false
is_in_use InUse = true
is_in_use (InTimeWait since) = false

-- a place at which a flow is in TIME-WAIT
abbrev pub is_in_time_wait : Place → Bool
is_in_time_wait Empty = false
is_in_time_wait InUse = false
is_in_time_wait (InTimeWait since) = true

-- a connection of which both ends passed, in TIME-WAIT (RFC 9293, 3.6)
abbrev pub is_time_wait : Stage → Bool
is_time_wait stage.Connecting = false
is_time_wait stage.SynSent = false
is_time_wait stage.SynReceived = false
is_time_wait stage.Synchronized = false
is_time_wait stage.TimeWait = true
is_time_wait (stage.Resets seq ack) = false
is_time_wait stage.Closed = false

-- a flow is in TIME-WAIT only where its connection is in TIME-WAIT
abbrev pub is_time_wait_by : Place → Stage → Bool
is_time_wait_by Empty st = true
is_time_wait_by InUse st = true
is_time_wait_by (InTimeWait since) st = is_time_wait st

-- its socket is open
abbrev pub is_open : Splice → Bool
is_open f = is_in_use f.place && not f.shut

-- where a flow stands that was closed at a moment, by its connection
abbrev pub place_after : Stage → ℕ → Place
place_after stage.Connecting now = Empty
place_after stage.SynSent now = Empty
place_after stage.SynReceived now = Empty
place_after stage.Synchronized now = Empty
place_after stage.TimeWait now = InTimeWait now
place_after (stage.Resets seq ack) now = InUse
place_after stage.Closed now = Empty

-- the flow, closed at a moment
abbrev pub closed : Splice → ℕ → Splice
closed f now = record f { place = place_after f.conn.stage now; shut = true }

-- a flow that begins: with a socket that is to connect, or accepted
abbrev pub begun : (now : ℕ) → (guest other : Endpoint) → (number : ℕ) → Ip4 → Option Mac → Connection → Splice → Splice
begun now guest other number vhost mac c f = record f {
  place = InUse;
  shut = false;
  face = record { guest = guest; other = other; number = number; vhost = vhost };
  mac = mac;
  since = now;
  accepted = not (is_at_connecting c.stage);
  told_end = false;
  asked = 0;
  ask_at = 0;
  asks = true;
  conn = c;
  up = empty f.up.size;
  down = downward [] 0 f.down.size;
  last = now;
  called = 0;
}

-- What calls on the host's socket change of a flow.
use Rattle.std.specs.Prelude.{◌≡◌, ℕ, List, [], ◌∷◌, ◌++◌, Bool, true, false, ◌||◌, not, if◌then◌else◌}
use Rattle.sock_buffers.specs.Downward.{Downward}
use Rattle.tcp_connection.specs.Connection.{Connection}
use Rattle.tcp_connection.specs.declared.Change.{Change}
use Rattle.tcp_connection.specs.declared.Change.TheVariants.{Nothing, GuestReset, Finished, Unfit}
use Rattle.tcp_transmit.specs.Timing.{watched_over}
use Rattle.world_face.specs.Journal.{Entry, Close, Connected, TcpRead, TcpWrite, TcpEnd}
use Rattle.world_face.specs.declared.Io.{Io}
use Rattle.world_face.specs.declared.Io.TheVariants.{Done, End, NotYet, Failed}
use Rattle.spec_flow.specs.Guest.{is_empty}
use Rattle.sim_connection.specs.Holding.{is_at_connecting}
use Rattle.flow_splice.specs.Splice.{Splice, closed, is_open}
use Rattle.flow_splice.specs.Wants.{reads, writes}

-- between whom it goes, its guest's hardware address, how it began and the sizes stay
pub record IsAsOld (old new : Splice) : Type 0 where
  pub face : new.face ≡ old.face
  pub mac : new.mac ≡ old.mac
  pub since : new.since ≡ old.since
  pub accepted : new.accepted ≡ old.accepted
  pub asked : new.asked ≡ old.asked
  pub ask_at : new.ask_at ≡ old.ask_at
  pub up_size : new.up.size ≡ old.up.size
  pub down_size : new.down.size ≡ old.down.size
  pub mru : new.mru ≡ old.mru

-- after octets of the host came
abbrev pub down_given : Downward → List ℕ → Downward
down_given down octets = record down { octets = down.octets ++ octets }

abbrev pub conn_given : Connection → Downward → ℕ → Connection
conn_given c down now = record c { transmission = watched_over c.transmission down now }

abbrev pub given : Splice → List ℕ → ℕ → Splice
given f octets now = record f {
  conn = conn_given f.conn (down_given f.down octets) now;
  down = down_given f.down octets;
  last = if not (is_empty octets) then now else f.last;
}

-- octets came, or none yet
abbrev pub gives_octets : Io → Bool
gives_octets (Done n) = true
gives_octets End = false
gives_octets NotYet = true
gives_octets Failed = false

-- the connection and its buffer after a read
abbrev pub IsRead : Bool → Connection → Downward → List ℕ → ℕ → Connection → Downward → Type 0
IsRead true c down octets now new new_down = (new ≡ conn_given c (down_given down octets) now) × (new_down ≡ down_given down octets)
IsRead false c down octets now new new_down = (new ≡ c) × (new_down ≡ down)

-- the flow
abbrev pub read_by : Bool → Splice → List ℕ → ℕ → Splice
read_by true f octets now = given f octets now
read_by false f octets now = f

-- a change of the connection by which it is over
abbrev pub ends : Change → Bool
ends Nothing = false
ends GuestReset = true
ends Finished = true
ends Unfit = false

-- the socket is closed where a change ended the connection
abbrev pub Sees : Bool → Splice → Splice → ℕ → List Entry → Type 0
Sees true old new now made = (made ≡ Close old.face.number ∷ []) × (new ≡ closed old now)
Sees false old new now made = (made ≡ []) × (new ≡ old)

-- a call for a socket that was reported ready for writing: whether it connected, octets, or the end; and for one that was for reading
abbrev pub is_for_writing : Entry → Bool
is_for_writing (Connected socket answer) = true
is_for_writing (TcpWrite socket octets answer) = true
is_for_writing (TcpEnd socket answer) = true
is_for_writing _ = false

-- what a report for writing asks for: whether a host that is asked to connect has connected, and octets or the end for one that has
abbrev pub serves_write : (connects : Bool) → Entry → Bool
serves_write true (Connected socket answer) = true
serves_write true _ = false
serves_write false (TcpWrite socket octets answer) = true
serves_write false (TcpEnd socket answer) = true
serves_write false _ = false

abbrev pub is_for_reading : Entry → Bool
is_for_reading (TcpRead socket asked answer octets) = true
is_for_reading _ = false

abbrev pub shuts : Entry → Bool
shuts (Close socket) = true
shuts _ = false

-- a socket is read, or one is closed
abbrev pub reads_or_shuts : Entry → Bool
reads_or_shuts e = is_for_reading e || shuts e

-- one of these entries is such a call
abbrev pub some_is : (Entry → Bool) → List Entry → Bool
some_is is [] = false
some_is is (e ∷ made) = is e || some_is is made

-- what was waited for to read is so yet, or was read, or a socket was closed
abbrev pub ReadsOn : (old new : Splice) → List Entry → Type 0
ReadsOn old new made = reads old ≡ true → (reads new || some_is reads_or_shuts made) ≡ true

-- Each direction that was reported and waited for has its call; for reading, unless a call for writing closed the socket before it.
pub record ServesReport (read write : Bool) (f : Splice) (made : List Entry) : Type 0 where
  pub writing : write ≡ true → writes f ≡ true → some_is (serves_write (is_at_connecting f.conn.stage)) made ≡ true
  pub reading : read ≡ true → reads f ≡ true → some_is reads_or_shuts made ≡ true

-- The guest's end isn't held back: where the socket is open, the end was taken and none of the guest's octets is held, the host was told it.
abbrev pub PassesEnd : Splice → Type 0
PassesEnd f = is_open f ≡ true → f.conn.received.ended ≡ true → f.up.held ≡ [] → f.told_end ≡ true
